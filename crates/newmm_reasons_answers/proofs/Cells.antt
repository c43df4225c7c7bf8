-- What is told, in cells. Assumes nothing.
use Prim.Native.Nat.{ℕ, zero, suc, ◌+◌, ◌*◌, ◌/◌, ◌%◌, ◌≤◌, ◌<◌}
use native.Mathlib.Omega.{arith}
use mathlib.Core.Path.{◌≡◌, refl, sym, ◌∙◌, ap}
use mathlib.Core.List.{List, [], ◌∷◌, ◌++◌, map}
use lib.ListN.{length, get_or, length-map}
use Rattle.newmm_rules.specs.Words.{Given}
use Rattle.newmm_reason_rules.specs.Reasons.{reason_at, Told, told_from}
use Rattle.trie_pool.specs.Meaning.{Words}
use Rattle.newmm_answers.specs.Answers.{given, plain_cut}
use Rattle.newmm_reasons_answers.specs.Told.{moved, told_part, told_parts}
use Rattle.newmm_reasons_answers.specs.Answers.{pairs}
use Rattle.newmm_reasons_answers.specs.inner.Cells.{cell_of, cells_of, unpacked, cells_part}
use Rattle.newmm_reasons_answers.proofs.Told.{map_two, part_many, Small}

-- ---- a cell is its token's

pub end_back : (t : Told) → t.reason ≤ 5 → cell_of t / 8 ≡ t.end
end_back t h = omega arith

pub reason_back : (t : Told) → t.reason ≤ 5 → cell_of t % 8 ≡ t.reason
reason_back t h = omega arith

pub unpack : (ts : List Told) → Small ts → unpacked (cells_of ts) ≡ pairs ts
unfolding pairs
unpack [] s = refl
unpack (t ∷ ts) s = (λ i. end_back t s.0 i ∷ reason_back t s.0 i ∷ unpack ts s.1 i)

pub pairs_long : (ts : List Told) → length (pairs ts) ≡ 2 * length ts
unfolding pairs
pairs_long [] = refl
pairs_long (t ∷ ts) = omega (arith, pairs_long ts)

-- ---- the cells of a part

module _ (words : Words) where
  pub cells_many : (start : ℕ) (part : List ℕ) → length (cells_part words start part) ≡ length (plain_cut words part).ends
  cells_many start part = length-map (told_part words start part) cell_of ∙ part_many words start part

  -- cell i tells the reason of the token that starts where the one before it ends
  pub cell_at : (start : ℕ) (part : List ℕ) (i : ℕ) → i < length (plain_cut words part).ends
      → get_or (cells_part words start part) i 0 ≡ 8 * (start + get_or (plain_cut words part).ends i 0) + reason_at (given words part) (get_or (0 ∷ (plain_cut words part).ends) i 0)
  unfolding told_part told_from
  cell_at start part i h = go (given words part) 0 (plain_cut words part).ends i h
    where
      go : (g : Given) (b : ℕ) (es : List ℕ) (i : ℕ) → i < length es → get_or (cells_of (map (moved start) (told_from g b es))) i 0 ≡ 8 * (start + get_or es i 0) + reason_at g (get_or (b ∷ es) i 0)
      go g b [] i h = absurd (omega arith)
      go g b (e ∷ es) zero h = refl
      go g b (e ∷ es) (suc i) h = go g e es i (omega arith)
