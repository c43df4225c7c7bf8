-- What is told of a text in a mode, by its parts. Assumes nothing.
use Prim.Native.Nat.{ℕ, ◌+◌, ◌≤◌, ◌<◌}
use native.Mathlib.Omega.{arith}
use mathlib.Core.Path.{◌≡◌, refl, sym, ◌∙◌, ap, subst}
use mathlib.Core.Bool.{Bool, true, false, cond}
use mathlib.Core.List.{List, [], ◌∷◌, ◌++◌}
use lib.ListN.{length}
use lib.Dec.{ltb}
use borrow.Author.Tests.{lt-ltb, le-ltb}
use Rattle.trie_pool.specs.Meaning.{Words}
use Rattle.newmm_rules.specs.Cutting.{Cut}
use Rattle.newmm_rules.specs.declared.Mode.{Mode}
use Rattle.newmm_rules.specs.declared.Mode.TheVariants.{Plain, Safe, Sheet}
use Rattle.newmm_rules.specs.Parts.{last_part, runs_of}
use Rattle.newmm_rules.specs.Modes.{joined, in_parts, unshifted, behind_space}
use Rattle.newmm_answers.specs.Answers.{plain_cut, cut_of}
use Rattle.newmm_reasons_answers.specs.Told.{parts_by, told_part, told_parts, told_of}
use Rattle.newmm_reasons_answers.specs.inner.Cells.{cell_of, cells_of, cells_part, part_cells, cells_by, text_cells}
use Rattle.newmm_reasons_answers.proofs.Told.{map_two}
use Rattle.newmm_reasons_answers.proofs.Cells.{cells_many}
use Rattle.std.specs.Prelude.{Option, Some, None}
use Rattle.newmm_segment.specs.inner.Written.{parts_told, all_told, space_cut_of}
use Rattle.newmm_segment.proofs.Rounds.{Told, plainly, last_told}
use Rattle.newmm_segment.proofs.Modes.{short_is}

-- what is written of a part is its cells
told : (by : ℕ) → 1 ≤ by → by ≤ 101 → (words : Words) → Told (λ (i : ℕ). i + by) (plain_cut words) (cells_part words)
told by some most words = plainly by some most words (cells_part words) (cells_many words)

module _ (words : Words) where
  cells_told : (start : ℕ) (parts : List (List ℕ)) → parts_told (cells_part words) start parts ≡ cells_of (told_parts words start parts)
  unfolding parts_told told_parts
  cells_told start [] = refl
  cells_told start (part ∷ parts) =
      ap (λ (l : List ℕ). cells_part words start part ++ l) (cells_told (start + length part) parts)
      ∙ sym (map_two cell_of (told_part words start part) (told_parts words (start + length part) parts))

  module _ (text : List ℕ) where
    -- a text in parts
    pub text_in_parts : (space : ℕ → ℕ) → 140 ≤ length text → all_told space (plain_cut words) (cells_part words) text ≡ cells_by space words text
    unfolding in_parts
    text_in_parts space long =
        let r = runs_of (length text) space (plain_cut words) text in
        rw (le-ltb (length text) 140 long) (λ i. record { ends = cells_told 0 r.parts i; edges = (joined (plain_cut words) r).edges })

    -- a text that is one part
    one_part : cells_of (told_parts words 0 (last_part text)) ≡ cells_part words 0 text
    one_part = sym (cells_told 0 (last_part text)) ∙ last_told unshifted (plain_cut words) (cells_part words) (told 1 (omega arith) (omega arith) words) text 0

    short_parts : (space : ℕ → ℕ) → length text < 140 → last_part text ≡ parts_by space (plain_cut words) text
    short_parts space h = sym (ap (λ (b : Bool). cond b (last_part text) (runs_of (length text) space (plain_cut words) text).parts) (lt-ltb (length text) 140 h))

    abbrev plainly_is : List (List ℕ) → ℕ → Cut
    plainly_is parts edges = record { ends = cells_of (told_parts words 0 parts); edges = edges }

    from_one : {parts : List (List ℕ)} {edges : ℕ} → last_part text ≡ parts → (plain_cut words text).edges ≡ edges → part_cells words 0 text ≡ plainly_is parts edges
    from_one e q = λ i. record { ends = (sym one_part ∙ ap (λ (ps : List (List ℕ)). cells_of (told_parts words 0 ps)) e) i; edges = q i }

    plain_cells : part_cells words 0 text ≡ text_cells Plain words text
    unfolding told_of cut_of
    plain_cells = from_one refl refl

    pub plain_is : (mode : Mode) → mode ≡ Plain → part_cells words 0 text ≡ text_cells mode words text
    plain_is mode e = plain_cells ∙ ap (λ (m : Mode). text_cells m words text) (sym e)

    -- Below 140 characters every mode is plain.
    pub short_cells : (mode : Mode) → length text < 140 → part_cells words 0 text ≡ text_cells mode words text
    unfolding told_of
    short_cells Plain h = from_one refl (ap (λ (c : Cut). c.edges) (short_is words text Plain h))
    short_cells Safe h = from_one (short_parts unshifted h) (ap (λ (c : Cut). c.edges) (short_is words text Safe h))
    short_cells Sheet h = from_one (short_parts behind_space h) (ap (λ (c : Cut). c.edges) (short_is words text Sheet h))

    -- where a space cuts, for a mode with parts
    pub record Chosen (mode : Mode) (by : ℕ) : Type 0 where
      pub some : 1 ≤ by
      pub most : by ≤ 101
      pub is : cells_by (λ (i : ℕ). i + by) words text ≡ text_cells mode words text

    pub chosen : (mode : Mode) (by : ℕ) → space_cut_of mode ≡ Some by → Chosen mode by
    unfolding told_of cut_of
    chosen Plain by h = cc
    chosen Safe by h =
        let e : 1 ≡ by = cc in
        subst (λ (k : ℕ). Chosen Safe k) e (record { some = omega arith; most = omega arith; is = refl })
    chosen Sheet by h =
        let e : 101 ≡ by = cc in
        subst (λ (k : ℕ). Chosen Sheet k) e (record { some = omega arith; most = omega arith; is = refl })
