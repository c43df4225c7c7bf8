-- The row of a part: its ends and the flags of its clusters, then the told cells, then these alone.
-- Assumes nothing.
use Prim.Native.Nat.{ℕ, ◌+◌, ◌*◌, ◌-◌, ◌≤◌}
use native.Mathlib.Omega.{arith}
use mathlib.Core.Path.{◌≡◌, sym, ◌∙◌, ap}
use mathlib.Core.List.{List, ◌++◌}
use lib.ListN.{length, take, drop, replicate, length-append, length-drop}
use lib.Seq.{take_at}
use Rattle.trie_pool.specs.Words.{holds}
use Rattle.newmm_rules.proofs.Climbing.{few}
use Rattle.newmm_answers.specs.Answers.{plain_cut}
use Rattle.newmm_answers.proofs.Plain.{plain_right}
use Rattle.newmm_bfs.specs.inner.Strips.{cells_for}
use Rattle.newmm_word_step.specs.inner.Walks.{given_by}
use Rattle.newmm_rules.specs.declared.Ends.{Ends}
use Rattle.newmm_one_cut.specs.inner.Strips.{Fresh, Lent, Marked}
use Rattle.newmm_one_cut.proofs.Bounds.{cleared_behind}
use Rattle.newmm_one_cut.proofs.Whole.{in_front}
use Rattle.newmm_reasons_answers.specs.inner.Cells.{cells_part, part_cells}
use Rattle.newmm_reasons_answers.proofs.Cells.{cells_many}
use Rattle.newmm_segment.specs.inner.Written.{Written}
use Rattle.newmm_tell.specs.inner.Telling.{CutPart}

module _ {part pool row row₁ : List ℕ} {r : Ends} (f : Fresh part pool row) (d : Marked (given_by part pool) part row₁ r) where
  pub cut_part : CutPart part pool row₁ r.ends
  unfolding plain_cut
  cut_part = record { root_is = f.root_is; room = omega (arith, d.size); count = d.ends; ends_are = d.front; flags_are = d.flags_are }

  -- the tokens are told, and all but what is told is cleared
  module _ (start : ℕ) {row₂ : List ℕ} (told : row₂ ≡ cells_part (holds pool) start part ++ drop r.ends row₁) where
    abbrev cells : List ℕ
    cells = cells_part (holds pool) start part

    many : r.ends ≡ length cells
    unfolding plain_cut
    many = d.ends ∙ sym (cells_many (holds pool) start part)

    pub same_size : length row₂ ≡ length row
    same_size = ap length told ∙ length-append cells (drop r.ends row₁) ∙ omega (arith, many, length-drop r.ends row₁, d.few, d.size, f.size)

    pub told_fit : r.ends ≤ length row₂
    told_fit = omega (arith, same_size, d.few, f.size)

    pub all_told : {row₃ : List ℕ} → row₃ ≡ take r.ends row₂ ++ replicate {A = ℕ} (length row₂ - r.ends) 0 → Written (part_cells (holds pool) start part) row row₃ r
    unfolding plain_cut
    all_told e =
        record {
          ends = many;
          edges = d.edges;
          is = cleared_behind row₂ cells r.ends f same_size many (ap (take r.ends) told ∙ take_at cells (drop r.ends row₁) r.ends (sym many)) e;
        }

-- a row that may be longer
pub part_told : {part pool row row' : List ℕ} {r : Ends} (start : ℕ) (l : Lent part pool row) → Written (part_cells (holds pool) start part) (take (cells_for (length part + 1)) row) row' r
    → Written (part_cells (holds pool) start part) row (row' ++ drop (cells_for (length part + 1)) row) r
part_told {part} {pool} start l w =
    record {
      ends = w.ends;
      edges = w.edges;
      is = in_front l (cells_part (holds pool) start part) (omega (arith, cells_many (holds pool) start part, few (plain_right (holds pool) part))) w.is;
    }
