-- What cutting in parts asks of the row that it is lent, and what it gives.
use Rattle.std.specs.Prelude.{ℕ, ◌+◌, ◌*◌, ◌≤◌, ◌≡◌, List, [], ◌∷◌, ◌++◌, Option, Some, None, length, get_or, take, drop}
use Rattle.cells.proofs.Filling.{map_long}
use Rattle.trie_pool.specs.Meaning.{Words}
use Rattle.newmm_answers.specs.Answers.{plain_cut}
use Rattle.newmm_rules.specs.declared.Mode.{Mode}
use Rattle.newmm_rules.specs.declared.Mode.TheVariants.{Plain, Safe, Sheet}
use Rattle.char_string_last_space.specs.Spaces.{last_space}
use Rattle.trie_pool.specs.inner.Sound.{Readable}
use Rattle.newmm_rules.specs.Cutting.{Cut}
use Rattle.newmm_rules.specs.declared.Ends.{Ends}
use Rattle.newmm_rules.specs.inner.Climbing.{Climbs}
use Rattle.newmm_rules.specs.Limits.{text_scan_begin}
use Rattle.newmm_rules.specs.Parts.{Cutter, sample_of, cut_at, sampled, runs_of}
use Rattle.newmm_rules.specs.Modes.{shifted, edges_of}
use Rattle.newmm_segment.specs.declared.Part.{Part}
use Rattle.newmm_segment.specs.declared.PartEnd.{PartEnd}

-- the ends of some tokens
pub record Rising (ends : List ℕ) : Type 0 where
  pub last : ℕ
  pub climbs : Climbs 0 ends last

-- a text, the cells of a dictionary, and 9n+128 cells or more, all 0
pub record Ready (text pool row : List ℕ) : Type 0 where
  pub short : length text ≤ 65535
  pub root_is : Readable pool 0
  pub room : 9 * length text + 128 ≤ length row
  pub blank : (k : ℕ) → get_or row k 0 ≡ 0

-- the ends stand at the front, and the rest is as it was
pub record Written (c : Cut) (row row' : List ℕ) (r : Ends) : Type 0 where
  pub ends : r.ends ≡ length c.ends
  pub edges : r.edges ≡ c.edges
  pub is : row' ≡ c.ends ++ drop (length c.ends) row

-- how far behind the index of the last space in a sample a mode cuts; none for a text as a whole
abbrev pub space_cut_of : Mode → Option ℕ
space_cut_of Plain = None
space_cut_of Safe = Some 1
space_cut_of Sheet = Some (text_scan_begin + 1)

-- what is written of a part has as many cells as the part has ends
abbrev pub AsManyAsEnds : (Words → ℕ → List ℕ → List ℕ) → Type 0
AsManyAsEnds told = (words : Words) (start : ℕ) (part : List ℕ) → length (told words start part) ≡ length (plain_cut words part).ends

-- a part that starts at `start`, as it is told, with the edges of its plain cut
abbrev pub told_cut : (ℕ → List ℕ → List ℕ) → Cutter → ℕ → List ℕ → Cut
told_cut told plain start part = record { ends = told start part; edges = (plain part).edges }

-- parts one behind the other, as `told` writes each
unfoldable pub parts_told : (ℕ → List ℕ → List ℕ) → ℕ → List (List ℕ) → List ℕ
parts_told told start [] = []
parts_told told start (part ∷ parts) = told start part ++ parts_told told (start + length part) parts

-- a text in parts: what is told of them, and the edges of all plain runs
abbrev pub all_told : (ℕ → ℕ) → Cutter → (ℕ → List ℕ → List ℕ) → List ℕ → Cut
all_told space plain told text =
    record {
      ends = parts_told told 0 (runs_of (length text) space plain text).parts;
      edges = edges_of plain ((runs_of (length text) space plain text).samples ++ (runs_of (length text) space plain text).parts);
    }

-- where the remaining text is cut, and the edges recorded in its sample
pub record Sampled (space_cut : ℕ → ℕ) (plain : Cutter) (rest : List ℕ) (r : PartEnd) : Type 0 where
  pub at : r.at + r.from ≡ cut_at space_cut plain rest
  pub edges : r.edges ≡ edges_of plain (sampled (sample_of rest) (last_space (sample_of rest)))

-- the first part of the remaining text
abbrev pub first_of : (ℕ → ℕ) → Cutter → List ℕ → List ℕ
first_of space_cut plain rest = take (cut_at space_cut plain rest) rest

-- It stands at the front of the row, as `told` writes a part that starts there: as many cells as it
-- has ends.
pub record FirstTold
    (space_cut : ℕ → ℕ) (plain : Cutter) (told : ℕ → List ℕ → List ℕ)
    (rest : List ℕ) (start : ℕ) (row row' : List ℕ) (r : Part) : Type 0 where
  pub size : r.size ≡ cut_at space_cut plain rest
  pub ends : r.ends ≡ length (plain (first_of space_cut plain rest)).ends
  pub edges : r.edges
      ≡ edges_of plain (sampled (sample_of rest) (last_space (sample_of rest))) + (plain (first_of space_cut plain rest)).edges
  pub is : row' ≡ told start (first_of space_cut plain rest) ++ drop r.ends row

-- a part as its ends, shifted by where it starts
abbrev pub ends_told : Words → ℕ → List ℕ → List ℕ
ends_told words start part = shifted start (plain_cut words part).ends

pub ends_as_many : AsManyAsEnds ends_told
ends_as_many words start part = map_long (λ (e : ℕ). start + e) (plain_cut words part).ends
