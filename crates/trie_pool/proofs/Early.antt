-- Stopping at a larger scalar finds the child that the walk over all children finds. Assumes
-- nothing.
use Prim.Native.Nat.{ℕ, zero, suc, ◌+◌, ◌≤◌, ◌<◌}
use native.Mathlib.Omega.{arith}
use native.Mathlib.Decide.{dec_lt}
use mathlib.Core.Path.{◌≡◌, refl, sym, ◌∙◌, ap}
use mathlib.Core.Bool.{Bool, true, false, cond}
use mathlib.Core.List.{List}
use lib.Dec.{ltb, eqb}
use borrow.Author.Tests.{lt-ltb, le-ltb, ne_eqb}
use Rattle.trie_pool.specs.Cells.{scalar_at, first_at, count_at, used}
use Rattle.trie_pool.specs.Words.{Place, none, at, scan, walk_all, child}
use Rattle.trie_pool.specs.Rules.{cells_of}
use Rattle.trie_pool.specs.Early.{EarlyStop, ChildAll}
use Rattle.trie_pool.specs.inner.Sound.{Rising, Sound}
use Rattle.trie_pool.proofs.Rules.{sound}

-- behind a larger one there are only larger ones
none_behind : (p : List ℕ) (x s e : ℕ) → Rising p s e → (n : ℕ) → s + n ≡ e → (0 < n → x < scalar_at p s) → walk_all p x s n ≡ none
none_behind p x s e r zero is l = refl
none_behind p x s e r (suc n) is l =
    ap (λ (b : Bool). cond b (at s) (walk_all p x (suc s) n)) (ne_eqb (scalar_at p s) x (let h = l (omega arith) in λ q. absurd (omega arith)))
    ∙ none_behind p x (suc s) e (λ i a c. r i (omega arith) c) n (omega arith) (λ h. let m = l (omega arith) in let u = r s (omega arith) (omega arith) in omega arith)

pub early_stop : EarlyStop
early_stop p x s zero r = refl
early_stop p x s (suc n) r = go (dec_lt (scalar_at p s) x) (early_stop p x (suc s) n (λ i a c. r i (omega arith) (omega arith)))
  where
    go : Dec (scalar_at p s < x) → scan p x (suc s) n ≡ walk_all p x (suc s) n
        → cond (ltb (scalar_at p s) x) (scan p x (suc s) n) (cond (eqb (scalar_at p s) x) (at s) none) ≡ cond (eqb (scalar_at p s) x) (at s) (walk_all p x (suc s) n)
    go (yes l) ih =
        ap (λ (b : Bool). cond b (scan p x (suc s) n) (cond (eqb (scalar_at p s) x) (at s) none)) (lt-ltb (scalar_at p s) x l)
        ∙ ih ∙ sym (ap (λ (b : Bool). cond b (at s) (walk_all p x (suc s) n)) (ne_eqb (scalar_at p s) x (λ q. absurd (omega arith))))
    go (no l) ih =
        ap (λ (b : Bool). cond b (scan p x (suc s) n) (cond (eqb (scalar_at p s) x) (at s) none)) (le-ltb (scalar_at p s) x (omega arith)) ∙ stops (eqb (scalar_at p s) x) refl
      where
        stops : (t : Bool) → eqb (scalar_at p s) x ≡ t → cond t (at s) none ≡ cond t (at s) (walk_all p x (suc s) n)
        stops true e = refl
        stops false e = sym (none_behind p x (suc s) (s + suc n) (λ i a c. r i (omega arith) c) n (omega arith) (λ h. let u = r s (omega arith) (omega arith) in omega arith))

-- the same of a dictionary's facts, one leaf being excepted
pub child_sound : (p : List ℕ) (n c i x : ℕ) → Sound p n c → i < n → child p i x ≡ walk_all p x (first_at p i) (count_at p i)
unfolding child
child_sound p n c i x h l = early_stop p x (first_at p i) (count_at p i) (h.rising i l)

pub child_all : ChildAll
child_all pool h i x l = child_sound (cells_of pool) (used (cells_of pool)) 0 i x (sound (cells_of pool) h) l
