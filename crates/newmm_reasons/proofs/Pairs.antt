-- The pairs that are written. Assumes nothing.
use Rattle.std.specs.Prelude.{Result}
use Rattle.refusal.specs.declared.Refusal.{Refusal}
use Prim.Native.Nat.{ℕ, zero, suc, ◌+◌, ◌*◌, ◌/◌, ◌%◌, ◌≤◌, ◌<◌}
use native.Mathlib.Omega.{arith}
use mathlib.Core.Path.{◌≡◌, refl, sym, ◌∙◌, ap}
use mathlib.Core.List.{List, [], ◌∷◌, ◌++◌}
use mathlib.Core.Option.{Option}
use lib.ListN.{length, get_or, set, take, drop, length-map, length-set}
use lib.Seq.{length-take-le, take-length, take_at, get_or-take}
use Rattle.cells.proofs.Filling.{Filled, filled_none, filled_more, filled_all, long}
use Rattle.refusal.specs.Answers.{output}
use Rattle.trie_pool.specs.Meaning.{Words}
use Rattle.trie_check.specs.Refusals.{held}
use Rattle.newmm_rules.specs.declared.Mode.{Mode}
use Rattle.newmm_answers.specs.Answers.{accepts}
use Rattle.newmm_reasons_answers.specs.Told.{told_of}
use Rattle.newmm_reasons_answers.specs.Answers.{pairs, pair_room, pairs_after}
use Rattle.newmm_reasons_answers.specs.inner.Cells.{cell_of, cells_of, unpacked}
use Rattle.newmm_reasons_answers.proofs.Told.{told_small}
use Rattle.newmm_reasons_answers.proofs.Cells.{unpack, pairs_long}
use Rattle.newmm_told.proofs.Told.{Came, accepted, refused}

-- ---- the loop

unpacked_long : (l : List ℕ) → length (unpacked l) ≡ 2 * length l
unpacked_long [] = refl
unpacked_long (c ∷ l) = omega (arith, unpacked_long l)

two_more : (i : ℕ) → 2 * suc i ≡ suc (suc (2 * i))
two_more i = omega arith

end_at : (l : List ℕ) (i : ℕ) → i < length l → get_or (unpacked l) (2 * i) 0 ≡ get_or l i 0 / 8
end_at [] i h = absurd (omega arith)
end_at (c ∷ l) zero h = refl
end_at (c ∷ l) (suc i) h = ap (λ (j : ℕ). get_or (unpacked (c ∷ l)) j 0) (two_more i) ∙ end_at l i (omega arith)

reason_at : (l : List ℕ) (i : ℕ) → i < length l → get_or (unpacked l) (2 * i + 1) 0 ≡ get_or l i 0 % 8
reason_at [] i h = absurd (omega arith)
reason_at (c ∷ l) zero h = refl
reason_at (c ∷ l) (suc i) h =
    let z : 2 * suc i + 1 ≡ suc (suc (2 * i + 1)) = omega arith in
    ap (λ (j : ℕ). get_or (unpacked (c ∷ l)) j 0) z ∙ reason_at l i (omega arith)

-- i pairs stand in the row
pub record Putting (cells old row : List ℕ) (i : ℕ) : Type 0 where
  pub filled : Filled (unpacked cells) old row (2 * length cells) (2 * i)

module _ (cells old : List ℕ) (fits : 2 * length cells ≤ length old) where
  pub putting_none : Putting cells old old 0
  putting_none = record { filled = filled_none (unpacked cells) old (2 * length cells) (omega (arith, unpacked_long cells)) fits }

module _ {cells old row : List ℕ} {i : ℕ} (p : Putting cells old row i) where
  pub row_long : length row ≡ length old
  row_long = long p.filled

  pub pair_inside : i < length cells → 2 * i + 1 < length row
  pair_inside h = omega (arith, row_long, p.filled.fits)

  pub next_inside : (x : ℕ) → i < length cells → 2 * i + 1 < length (set row (2 * i) x)
  next_inside x h = omega (arith, pair_inside h, length-set row (2 * i) x)

  pub putting_more : {c x y : ℕ} → i < length cells → c ≡ get_or cells i 0 → x ≡ c / 8 → y ≡ c % 8 → Putting cells old (set (set row (2 * i) x) (2 * i + 1) y) (i + 1)
  putting_more {c} {x} {y} h e a b =
      let one = filled_more p.filled x (omega arith) (a ∙ ap (λ (v : ℕ). v / 8) e ∙ sym (end_at cells i h)) in
      let two = filled_more one y (omega arith) (b ∙ ap (λ (v : ℕ). v % 8) e ∙ sym (reason_at cells i h)) in
      record { filled = record { upto = omega arith; enough = two.enough; fits = two.fits; is = two.is ∙ ap (λ (j : ℕ). take j (unpacked cells) ++ drop j old) (let z : 2 * i + 1 + 1 ≡ 2 * (i + 1) = omega arith in z) } }

  pub putting_all : length cells ≤ i → row ≡ unpacked cells ++ drop (2 * length cells) old
  putting_all h =
      let l : 2 * length cells ≡ length (unpacked cells) = omega (arith, unpacked_long cells) in
      filled_all p.filled (omega arith)
      ∙ ap (λ (x : List ℕ). x ++ drop (2 * length cells) old) (ap (λ (j : ℕ). take j (unpacked cells)) l ∙ take-length (unpacked cells))

-- ---- the cells that are lent

pub put_first : (scratch out : List ℕ) (k : ℕ) → k ≤ length scratch → {row : List ℕ} → row ≡ unpacked (take k scratch) ++ drop (2 * length (take k scratch)) out
    → row ≡ unpacked (take k scratch) ++ drop (2 * k) out
put_first scratch out k h is = is ∙ ap (λ (j : ℕ). unpacked (take k scratch) ++ drop (2 * j) out) (length-take-le k scratch h)

-- ---- the output

module _ {mode : Mode} {text : List ℕ} {m : Option Words} {scratch after : List ℕ} {k : ℕ} (out : List ℕ) where
  pub wrote : Came mode text m scratch after (pair_room out) k → {row : List ℕ} → row ≡ unpacked (take k after) ++ drop (2 * k) out → row ≡ pairs_after mode text m (length scratch) out
  wrote (accepted h c l z w) e =
      let ts = told_of mode (held m) text in
      let n : 2 * k ≡ length (pairs ts) = omega (arith, c, length-map ts cell_of, pairs_long ts) in
      e ∙ ap (λ (x : List ℕ). unpacked x ++ drop (2 * k) out) (ap (take k) w ∙ take_at (cells_of ts) _ k (sym c))
      ∙ (λ i. unpack ts (told_small (held m) mode text) i ++ drop (n i) out)
      ∙ sym (ap (λ (a : Result ℕ Refusal). output a (pairs ts) out) h)
  wrote (refused h c w) e =
      e ∙ ap (λ (j : ℕ). unpacked (take j after) ++ drop (2 * j) out) c
      ∙ sym (ap (λ (a : Result ℕ Refusal). output a (pairs (told_of mode (held m) text)) out) h)
