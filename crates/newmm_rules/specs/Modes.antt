-- What a mode makes of a text.
use Rattle.std.specs.Prelude.{ℕ, ◌+◌, Bool, cond, List, [], ◌∷◌, ◌++◌, map, length, ltb}
use Rattle.newmm_rules.specs.Limits.{text_scan_begin, text_scan_end}
use Rattle.newmm_rules.specs.Cutting.{Cut}
use Rattle.newmm_rules.specs.declared.Mode.{Mode}
use Rattle.newmm_rules.specs.declared.Mode.TheVariants.{Plain, Safe, Sheet}
use Rattle.newmm_rules.specs.Parts.{Cutter, Runs, runs_of}

abbrev pub shifted : ℕ → List ℕ → List ℕ
shifted by ends = map (λ (e : ℕ). by + e) ends

-- Every part is then cut plainly by itself. Each part's ends are written straight behind those of
-- the part before, shifted to the whole text.
unfoldable pub part_ends : Cutter → ℕ → List (List ℕ) → List ℕ
part_ends plain start [] = []
part_ends plain start (part ∷ parts) = shifted start (plain part).ends ++ part_ends plain (start + length part) parts

-- The edge count sums all plain runs, samples included.
unfoldable pub edges_of : Cutter → List (List ℕ) → ℕ
edges_of plain [] = 0
edges_of plain (t ∷ ts) = (plain t).edges + edges_of plain ts

abbrev pub joined : Cutter → Runs → Cut
joined plain r = record { ends = part_ends plain 0 r.parts; edges = edges_of plain (r.samples ++ r.parts) }

-- Below 140 characters: plain.
unfoldable pub in_parts : (ℕ → ℕ) → Cutter → List ℕ → Cut
in_parts space_cut plain text =
    cond (ltb (length text) text_scan_end) (plain text) (joined plain (runs_of (length text) space_cut plain text))

-- Safe mode cuts at (index of the last space in the sample) + 1. The index isn't shifted by 100.
abbrev pub unshifted : ℕ → ℕ
unshifted i = i + 1

-- The profile "sheet" (02, ticket 10): the cut is 101 plus the index of the last space in the
-- sample, so it is right behind that space.
abbrev pub behind_space : ℕ → ℕ
behind_space i = i + (text_scan_begin + 1)

abbrev pub segmented : Mode → Cutter → List ℕ → Cut
segmented Plain plain text = plain text
segmented Safe plain text = in_parts unshifted plain text
segmented Sheet plain text = in_parts behind_space plain text
