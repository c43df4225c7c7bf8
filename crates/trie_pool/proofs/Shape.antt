-- Laws of level order: blocks of children do not overlap, and a word leads to one node. Assumes
-- nothing.
use mathlib.Core.Path.{◌≡◌, refl, sym, ap, ◌∙◌, subst}
use mathlib.Core.Bool.{Bool, true, false, cond, not}
use mathlib.Core.List.{List, [], ◌∷◌, ◌++◌}
use mathlib.Core.Logic.{⊎_elim}
use Prim.Native.Nat.{ℕ, zero, suc, ◌+◌, ◌-◌, ◌*◌, ◌≤◌, ◌<◌}
use native.Mathlib.Omega.{arith}
use native.Mathlib.Nat.{eq-or-lt_of_le}
use native.Mathlib.Decide.{dec_lt}
use borrow.Author.Tests.{lt-ltb, le-ltb, eq-eqb, eqb-true}
use lib.Dec.{ltb, eqb}
use lib.Seq.{take-suc, take-add}
use lib.ListN.{take, drop, get_or, length}
use Rattle.trie_pool.specs.Cells.{scalar_at, first_at, count_at, mark_at}
use Rattle.trie_pool.specs.inner.Paths.{reach}
use Rattle.trie_pool.specs.inner.Sound.{Shaped, Rising, Fit}
use Rattle.trie_pool.specs.Words.{Place, none, at, on_place, scan, child, walk, rev}

-- ---- a node's cells

pub first_is : (p : List ℕ) (i : ℕ) → first_at p i ≡ get_or p (8 * i + 1) 0
unfolding first_at
first_is p i = refl

pub count_is : (p : List ℕ) (i : ℕ) → count_at p i ≡ get_or p (8 * i + 2) 0
unfolding count_at
count_is p i = refl

-- the root has no mark
pub mark_is : (p : List ℕ) (i : ℕ) → 0 < i → mark_at p i ≡ get_or p (8 * i + 3) 0
unfolding mark_at
mark_is p zero l = absurd (omega arith)
mark_is p (suc i) l = refl

pub refit : {c c' m m' : ℕ} → c' ≡ c → m' ≡ m → Fit c m → Fit c' m'
refit {c} {c'} {m} {m'} e f h = subst (λ (z : ℕ). Fit c' z) (sym f) (subst (λ (z : ℕ). Fit z m) (sym e) h)

-- ---- blocks

module _ (p : List ℕ) (n : ℕ) (s : Shaped p n) where
  -- the block of i lies before that of each later node
  pub apart : (i k : ℕ) → i < k → k < n → first_at p i + count_at p i ≤ first_at p k
  apart i zero h l = absurd (omega arith)
  apart i (suc k) h l = go (dec_lt i k) (apart i k)
    where
      go : Dec (i < k) → (i < k → k < n → first_at p i + count_at p i ≤ first_at p k) → first_at p i + count_at p i ≤ first_at p (suc k)
      go (yes q) ih = omega (arith, ih q (omega arith), s.next k l)
      go (no q) ih = let e : i ≡ k = omega arith in rw e (omega (arith, s.next k l))

  pub within : (i : ℕ) → i < n → first_at p i + count_at p i ≤ n
  within i h = ⊎_elim (λ e. omega (arith, s.last i e)) (λ l. omega (arith, apart i (n - 1) (omega arith) (omega arith), s.last (n - 1) (omega arith))) (eq-or-lt_of_le h)

  -- a node is in one block only
  pub one_parent : (i k r : ℕ) → i < n → k < n → first_at p i ≤ r → r < first_at p i + count_at p i → first_at p k ≤ r → r < first_at p k + count_at p k → i ≡ k
  one_parent i k r hi hk a b c d = go (dec_lt i k) (dec_lt k i)
    where
      go : Dec (i < k) → Dec (k < i) → i ≡ k
      go (yes l) e = absurd (omega (arith, apart i k l hk))
      go (no l) (yes l') = absurd (omega (arith, apart k i l' hi))
      go (no l) (no l') = omega arith

-- ---- scanning

-- what a scan finds stands where it looked, and has the scalar
pub record Found (p : List ℕ) (x s n r : ℕ) : Type 0 where
  pub low : s ≤ r
  pub high : r < s + n
  pub is : scalar_at p r ≡ x

pub scan_found : (p : List ℕ) (x s n r : ℕ) → scan p x s n ≡ at r → Found p x s n r
scan_found p x s zero r e = let z : ◌≡◌ {A = ℕ} 0 1 = cc in absurd (omega arith)
scan_found p x s (suc n) r e = go (scan_found p x (suc s) n r) (ltb (scalar_at p s) x) (eqb (scalar_at p s) x) refl e
  where
    go : (scan p x (suc s) n ≡ at r → Found p x (suc s) n r) → (b b' : Bool) → eqb (scalar_at p s) x ≡ b' → cond b (scan p x (suc s) n) (cond b' (at s) none) ≡ at r → Found p x s (suc n) r
    go ih true b' t' e = let f = ih e in record { low = omega (arith, f.low); high = omega (arith, f.high); is = f.is }
    go ih false true t' e =
        let same : s ≡ r = cc in
        record { low = omega arith; high = omega arith; is = ap (scalar_at p) (sym same) ∙ eqb-true (scalar_at p s) x t' }
    go ih false false t' e = let z : ◌≡◌ {A = ℕ} 0 1 = cc in absurd (omega arith)

pub child_found : (p : List ℕ) (i x r : ℕ) → child p i x ≡ at r → Found p x (first_at p i) (count_at p i) r
unfolding child
child_found p i x r e = scan_found p x (first_at p i) (count_at p i) r e

-- the new node is found, where nodes of smaller scalars stand before it
pub scan_new : (p' : List ℕ) (j x n s : ℕ) → s ≤ j → j < s + n → ((k : ℕ) → s ≤ k → k < j → scalar_at p' k < x) → scalar_at p' j ≡ x → scan p' x s n ≡ at j
scan_new p' j x zero s a b low new = absurd (omega arith)
scan_new p' j x (suc n) s a b low new = go (dec_lt s j) (scan_new p' j x n (suc s))
  where
    go : Dec (s < j) → (suc s ≤ j → j < suc s + n → ((k : ℕ) → suc s ≤ k → k < j → scalar_at p' k < x) → scalar_at p' j ≡ x → scan p' x (suc s) n ≡ at j) → scan p' x s (suc n) ≡ at j
    go (yes l) ih =
        ap (λ (t : Bool). cond t (scan p' x (suc s) n) (cond (eqb (scalar_at p' s) x) (at s) none)) (lt-ltb (scalar_at p' s) x (low s (omega arith) l))
        ∙ ih (omega arith) (omega arith) (λ k u v. low k (omega arith) v) new
    go (no l) ih =
        let same : s ≡ j = omega arith in
        let top : scalar_at p' s ≡ x = ap (scalar_at p') same ∙ new in
        ap (λ (t : Bool). cond t (scan p' x (suc s) n) (cond (eqb (scalar_at p' s) x) (at s) none)) (le-ltb (scalar_at p' s) x (omega arith))
        ∙ ap (λ (t : Bool). cond t (at s) none) (eq-eqb (scalar_at p' s) x top) ∙ ap at same

pub climb : (p : List ℕ) (s e : ℕ) → Rising p s e → (r k : ℕ) → s ≤ r → r ≤ k → k < e → scalar_at p r ≤ scalar_at p k
climb p s e f r zero a b c = let z : r ≡ 0 = omega arith in rw z (omega arith)
climb p s e f r (suc k) a b c = go (dec_lt k r) (climb p s e f r k)
  where
    go : Dec (k < r) → (s ≤ r → r ≤ k → k < e → scalar_at p r ≤ scalar_at p k) → scalar_at p r ≤ scalar_at p (suc k)
    go (yes q) ih = let z : r ≡ suc k = omega arith in rw z (omega arith)
    go (no q) ih = omega (arith, ih a (omega arith) (omega arith), f k (omega arith) c)

-- ---- one path only

pub on_on : (g h : ℕ → Place) (q : Place) → on_place none (λ i. on_place none g (h i)) q ≡ on_place none g (on_place none h q)
on_on g h none = refl
on_on g h (at i) = refl

pub walk_reach : (p u w : List ℕ) → walk p (rev u w) 0 ≡ on_place none (λ i. walk p w i) (reach p u)
walk_reach p [] w = refl
walk_reach p (x ∷ u) w = walk_reach p u (x ∷ w) ∙ on_on (λ i. walk p w i) (λ i. child p i x) (reach p u)

pub rev_rev : (v a : List ℕ) → rev (rev v a) [] ≡ rev a v
rev_rev [] a = refl
rev_rev (x ∷ v) a = rev_rev v (x ∷ a)

pub on_at : (q : Place) → on_place none (λ i. at i) q ≡ q
on_at none = refl
on_at (at i) = refl

-- a walk from the root, from its end
pub walk_is : (p v : List ℕ) → walk p v 0 ≡ reach p (rev v [])
walk_is p v = ap (λ (z : List ℕ). walk p z 0) (sym (rev_rev v [])) ∙ walk_reach p (rev v []) [] ∙ on_at (reach p (rev v []))

-- a walk over two parts
pub walk_two : (p u v : List ℕ) (i : ℕ) → walk p (u ++ v) i ≡ on_place none (λ r. walk p v r) (walk p u i)
walk_two p [] v i = refl
walk_two p (x ∷ u) v i = go (child p i x) (λ r. walk_two p u v r)
  where
    go : (q : Place) → ((r : ℕ) → walk p (u ++ v) r ≡ on_place none (λ z. walk p v z) (walk p u r))
        → on_place none (λ r. walk p (u ++ v) r) q ≡ on_place none (λ z. walk p v z) (on_place none (λ r. walk p u r) q)
    go none ih = refl
    go (at r) ih = ih r

-- one character more is one step more
pub walk_more : (p text : List ℕ) (i b : ℕ) → i < length text → walk p (take i text) 0 ≡ at b → walk p (take (suc i) text) 0 ≡ child p b (get_or text i 0)
walk_more p text i b h e =
    ap (λ (l : List ℕ). walk p l 0) (take-suc text i 0 h) ∙ walk_two p (take i text) (get_or text i 0 ∷ []) 0 ∙ ap (on_place none (λ r. walk p (get_or text i 0 ∷ []) r)) e
    ∙ on_at (child p b (get_or text i 0))

-- a walk that has ended stays ended
pub walk_append : (p text : List ℕ) (i k : ℕ) → i ≤ k → walk p (take i text) 0 ≡ none → walk p (take k text) 0 ≡ none
walk_append p text i k l e =
    let s : k ≡ i + (k - i) = omega arith in
    ap (λ (j : ℕ). walk p (take j text) 0) s ∙ ap (λ (z : List ℕ). walk p z 0) (take-add i (k - i) text) ∙ walk_two p (take i text) (take (k - i) (drop i text)) 0
    ∙ ap (on_place none (λ r. walk p (take (k - i) (drop i text)) r)) e

-- a step of `reach`
pub record Step (p u : List ℕ) (x r : ℕ) : Type 0 where
  pub mid : ℕ
  pub there : reach p u ≡ at mid
  pub then : child p mid x ≡ at r

pub step : (p u : List ℕ) (x r : ℕ) → reach p (x ∷ u) ≡ at r → Step p u x r
step p u x r e = go (reach p u) refl e
  where
    go : (q : Place) → reach p u ≡ q → on_place none (λ i. child p i x) q ≡ at r → Step p u x r
    go none h e = let z : ◌≡◌ {A = ℕ} 0 1 = cc in absurd (omega arith)
    go (at i) h e = record { mid = i; there = h; then = e }

module _ (p : List ℕ) (n : ℕ) (s : Shaped p n) where
  pub reach_within : (u : List ℕ) (r : ℕ) → reach p u ≡ at r → r < n
  reach_within [] r e = let z : 0 ≡ r = cc in omega (arith, s.some)
  reach_within (x ∷ u) r e =
      let q = step p u x r e in
      let f = child_found p q.mid x r q.then in
      omega (arith, within p n s q.mid (reach_within u q.mid q.there), f.high)

  pub child_after : (i x r : ℕ) → i < n → child p i x ≡ at r → i < r
  child_after i x r h e = omega (arith, s.ahead i h, (child_found p i x r e).low)

  pub one_path : (u v : List ℕ) (r : ℕ) → reach p u ≡ at r → reach p v ≡ at r → u ≡ v
  one_path [] [] r e f = refl
  one_path [] (y ∷ v) r e f =
      let q = step p v y r f in
      let z : 0 ≡ r = cc in
      absurd (omega (arith, child_after q.mid y r (reach_within v q.mid q.there) q.then))
  one_path (x ∷ u) [] r e f =
      let q = step p u x r e in
      let z : 0 ≡ r = cc in
      absurd (omega (arith, child_after q.mid x r (reach_within u q.mid q.there) q.then))
  one_path (x ∷ u) (y ∷ v) r e f =
      let q = step p u x r e in
      let q' = step p v y r f in
      let g = child_found p q.mid x r q.then in
      let g' = child_found p q'.mid y r q'.then in
      let same : q.mid ≡ q'.mid = one_parent p n s q.mid q'.mid r (reach_within u q.mid q.there) (reach_within v q'.mid q'.there) g.low g.high g'.low g'.high in
      let tails : u ≡ v = one_path u v q.mid q.there (q'.there ∙ ap at (sym same)) in
      let heads : x ≡ y = sym g.is ∙ g'.is in
      cc
