-- Falls, from the cells. Assumes nothing.
use mathlib.Core.Path.{◌≡◌, refl, sym, ap, ap₂, ◌∙◌}
use mathlib.Core.Bool.{Bool, true, false, cond}
use mathlib.Core.List.{List}
use Prim.Native.Nat.{ℕ, zero, suc, ◌+◌, ◌-◌, ◌*◌, ◌≤◌, ◌<◌}
use native.Mathlib.Omega.{arith}
use borrow.Author.Tests.{le-leb, lt-leb}
use lib.Dec.{leb}
use lib.ListN.{get_or}
use Rattle.trie_pool.specs.Cells.{scalar_at, count_at}
use Rattle.trie_nodes.specs.inner.Falls.{none, fall_to, or_none, fall, first}

pub falls_yes : (y x : ℕ) → x ≤ y → 1 ≡ fall_to y x
unfolding fall_to
falls_yes y x l = sym (ap (λ (b : Bool). cond b 1 0) (le-leb x y l))

pub falls_no : (y x : ℕ) → y < x → 0 ≡ fall_to y x
unfolding fall_to
falls_no y x l = sym (ap (λ (b : Bool). cond b 1 0) (lt-leb x y l))

pub falls_few : (y x : ℕ) → fall_to y x ≤ 1
unfolding fall_to
falls_few y x = go (leb x y)
  where
    go : (b : Bool) → cond b 1 0 ≤ 1
    go true = omega arith
    go false = omega arith

pub few : {r : ℕ} (y x : ℕ) → r ≡ fall_to y x → r ≤ 1
few y x e = omega (arith, e, falls_few y x)

pub none_is : (x k : ℕ) → k ≡ 0 → none ≡ or_none x k
unfolding or_none
none_is x zero e = refl
none_is x (suc k) e = absurd (omega arith)

pub some_is : (x k : ℕ) → (k ≡ 0 → ⊥) → x ≡ or_none x k
unfolding or_none
some_is x zero e = absurd (e refl)
some_is x (suc k) e = refl

-- the node at i, as the code counts its cells
pub fall_is : (p : List ℕ) (i : ℕ) → 0 < i → fall_to (get_or p (8 * i - 8) 0) (get_or p (8 * i) 0) ≡ fall (scalar_at p) (i - 1)
unfolding scalar_at
fall_is p zero l = absurd (omega arith)
fall_is p (suc i) l =
    let e : 8 * suc i - 8 ≡ 8 * (suc i - 1) = omega arith in
    let f : 8 * suc i ≡ 8 * suc (suc i - 1) = omega arith in
    ap₂ (λ (a b : ℕ). fall_to (get_or p a 0) (get_or p b 0)) e f

-- the first of k children, which start at s
pub first_is : (p : List ℕ) (s k r z : ℕ) → 0 < s → r ≡ fall_to (get_or p (8 * s - 8) 0) z → z ≡ or_none (get_or p (8 * s) 0) k → scalar_at p (s - 1) < none → r ≡ first (scalar_at p) s k
unfolding or_none first scalar_at
first_is p s zero r z l e f h =
    let a : 8 * s - 8 ≡ 8 * (s - 1) = omega arith in
    let g : get_or p (8 * s - 8) 0 ≡ get_or p (8 * (s - 1)) 0 = ap (λ (t : ℕ). get_or p t 0) a in
    e ∙ sym (falls_no (get_or p (8 * s - 8) 0) z (omega arith))
first_is p s (suc k) r z l e f h = e ∙ ap (fall_to (get_or p (8 * s - 8) 0)) f ∙ fall_is p s l

pub first_none : (c : ℕ → ℕ) (s k : ℕ) → k ≡ 0 → 0 ≡ first c s k
unfolding first
first_none c s zero e = refl
first_none c s (suc k) e = absurd (omega arith)
