-- The cells that a cut takes, as a part of a longer row. Assumes nothing.
use Prim.Native.Nat.{ℕ, ◌+◌, ◌*◌, ◌≤◌}
use native.Mathlib.Omega.{arith}
use native.Mathlib.Decide.{dec_lt}
use mathlib.Core.Path.{◌≡◌, sym, ◌∙◌, ap}
use mathlib.Core.List.{List, ◌++◌, append_assoc}
use lib.ListN.{length, take, drop, take-append-drop, get_or-eq_default}
use lib.Seq.{get_or-take, length-take-le, drop-append-le}
use Rattle.newmm_rules.specs.Words.{size}
use Rattle.newmm_rules.specs.Cutting.{cut}
use Rattle.newmm_rules.proofs.Result.{ends_most}
use Rattle.newmm_bfs.specs.inner.Strips.{cells_for}
use Rattle.newmm_word_step.specs.inner.Walks.{given_by}
use Rattle.newmm_rules.specs.declared.Ends.{Ends}
use Rattle.newmm_one_cut.specs.inner.Strips.{Fresh, Lent, Done}

-- 9n + 128 CELLS ARE ALWAYS ENOUGH.
pub enough : (n cells : ℕ) → 9 * n + 128 ≤ cells → cells_for (n + 1) ≤ cells
enough n cells h = omega arith

module _ {text pool row : List ℕ} (l : Lent text pool row) where
  abbrev e : ℕ
  e = cells_for (length text + 1)

  part_size : length (take e row) ≡ e
  part_size = length-take-le e row l.room

  pub fresh : Fresh text pool (take e row)
  fresh =
      record {
        short = l.short;
        root_is = l.root_is;
        size = part_size;
        blank = λ k. elim (dec_lt k e) [ yes h ↦ get_or-take e row k 0 h ∙ l.blank k h | no n ↦ get_or-eq_default (take e row) 0 {n = k} (omega (arith, part_size)) ];
      }

  -- what stands in front of the part as it was stands in front of the row as it was
  pub in_front : {row' : List ℕ} (front : List ℕ) → length front ≤ length text → row' ≡ front ++ drop (length front) (take e row) → row' ++ drop e row ≡ front ++ drop (length front) row
  in_front front m is =
      ap (λ (x : List ℕ). x ++ drop e row) is ∙ append_assoc front (drop (length front) (take e row)) (drop e row)
      ∙ ap (λ (x : List ℕ). front ++ x)
      (sym (drop-append-le (length front) (take e row) (drop e row) (omega (arith, part_size))) ∙ ap (drop (length front)) (take-append-drop e row))

  pub whole : {row' : List ℕ} {r : Ends} → Done (given_by text pool) (take e row) row' r → Done (given_by text pool) row (row' ++ drop e row) r
  whole d = record { ends = d.ends; edges = d.edges; is = in_front (cut (given_by text pool)).ends (ends_most (given_by text pool)) d.is }
