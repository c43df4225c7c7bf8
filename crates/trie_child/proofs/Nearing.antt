-- Where a child stands, or would stand, by going down from where it stands at most. Assumes
-- nothing.
use Prim.Native.Nat.{ℕ, zero, suc, ◌+◌, ◌-◌, ◌*◌, ◌≤◌, ◌<◌, min}
use native.Mathlib.Omega.{arith}
use native.Mathlib.Decide.{dec_lt}
use mathlib.Core.Path.{◌≡◌, sym, subst}
use mathlib.Core.List.{List}
use lib.ListN.{length, get_or}
use Rattle.trie_pool.specs.Cells.{first_at, count_at, scalar_at}
use Rattle.trie_pool.specs.inner.Sound.{Readable, Rising}
use Rattle.trie_pool.proofs.Shape.{within, climb, first_is, count_is}
use Rattle.trie_child.specs.inner.Search.{Between, Sought}

-- children rise by one at least
steep : (p : List ℕ) (s e : ℕ) → Rising p s e → (d : ℕ) → s + d < e → scalar_at p s + d ≤ scalar_at p (s + d)
steep p s e r zero h = let z : s + 0 ≡ s = omega arith in rw z (omega arith)
steep p s e r (suc d) h =
    let z : s + suc d ≡ suc (s + d) = omega arith in
    let u = steep p s e r d (omega arith) in
    let v = r (s + d) (omega arith) (omega arith) in
    rw z (omega arith)

-- of n children from f on, none behind k is x or lower
pub record Nearing (p : List ℕ) (x f n k : ℕ) : Type 0 where
  pub from : f ≤ k
  pub upto : k < f + n
  pub above : (i : ℕ) → k < i → i < f + n → x < scalar_at p i

-- the children of b, f the first of n
module _ (p : List ℕ) (b x f n : ℕ) (g : Readable p b) (u : f ≡ get_or p (8 * b + 1) 0) (v : n ≡ get_or p (8 * b + 2) 0) where
  first_here : f ≡ first_at p b
  first_here = omega (arith, first_is p b)

  count_here : n ≡ count_at p b
  count_here = omega (arith, count_is p b)

  pub children_fit : 8 * (f + n) ≤ length p + 4
  children_fit = omega (arith, first_here, count_here, within p g.nodes g.shaped b g.inside, g.fits)

  pub ends_at : f + n ≡ first_at p b + count_at p b
  ends_at = omega (arith, first_here, count_here)

  rises : Rising p f (f + n)
  rises i a c = g.rising b g.inside i (omega (arith, first_here)) (omega (arith, ends_at))

  -- x stands at r, if all before it are lower and none from it on
  sought : (r : ℕ) → f ≤ r → r ≤ f + n → ((i : ℕ) → f ≤ i → i < r → scalar_at p i < x) → (r < f + n → x ≤ scalar_at p r) → Sought p b x r
  sought r a c below stop =
      record {
        from = omega (arith, first_here);
        upto = omega (arith, ends_at);
        below = λ i y z. below i (omega (arith, first_here)) z;
        stop = λ y. stop (omega (arith, ends_at));
      }

  pub no_child : n ≡ 0 → Sought p b x f
  no_child z = sought f (omega arith) (omega arith) (λ i a c. absurd (omega arith)) (λ a. absurd (omega arith))

  pub at_first : x ≤ get_or p (8 * f) 0 → Sought p b x f
  unfolding scalar_at
  at_first l = sought f (omega arith) (omega arith) (λ i a c. absurd (omega arith)) (λ a. l)

  -- all up to k are lower, and none behind it
  behind : (k : ℕ) → f ≤ k → k < f + n → scalar_at p k < x → (k + 1 < f + n → x ≤ scalar_at p (k + 1)) → Sought p b x (k + 1)
  behind k a c l stop = sought (k + 1) (omega arith) (omega arith) (λ i y z. omega (arith, climb p f (f + n) rises i k y (omega arith) c)) stop

  pub past_last : (some : n ≡ 0 → ⊥) → get_or p (8 * (f + n - 1)) 0 < x → Sought p b x (f + n - 1 + 1)
  unfolding scalar_at
  past_last some l = behind (f + n - 1) (omega arith) (omega arith) l (λ a. absurd (omega arith))

  module _ (low : get_or p (8 * f) 0 < x) where
    pub nearest : (n ≡ 0 → ⊥) → (far m : ℕ) → far ≡ x - get_or p (8 * f) 0 → m ≡ min far (n - 1) → Nearing p x f n (f + m)
    unfolding scalar_at
    nearest some far m e is =
        record {
          from = omega arith;
          upto = omega arith;
          above = λ i a c. let d = steep p f (f + n) rises (i - f) (omega arith) in let z : f + (i - f) ≡ i = omega arith in let w : scalar_at p f + (i - f) ≤ scalar_at p i = subst (λ (j : ℕ). scalar_at p f + (i - f) ≤ scalar_at p j) z d in omega (arith, w);
        }

    pub not_first : (k : ℕ) → Nearing p x f n k → x < get_or p (8 * k) 0 → f < k
    not_first k h l = go (dec_lt f k)
      where
        go : Dec (f < k) → f < k
        go (yes q) = q
        go (no q) = let z : k ≡ f = omega (arith, h.from) in let w : x < get_or p (8 * f) 0 = subst (λ (j : ℕ). x < get_or p (8 * j) 0) z l in absurd (omega (arith, w))

    -- the child stands behind the first one, and at k at most
    pub between_here : (k : ℕ) → f < k → k < f + n → x < get_or p (8 * k) 0 → Between p b x f k
    unfolding scalar_at
    between_here k order upto l =
        record {
          readable = g;
          from = omega (arith, first_here);
          order = order;
          upto = omega (arith, ends_at);
          lower = low;
          higher = omega arith;
        }

    pub down : (k : ℕ) → Nearing p x f n k → x < get_or p (8 * k) 0 → Nearing p x f n (k - 1)
    unfolding scalar_at
    down k h l =
        let q = not_first k h l in
        record { from = omega arith; upto = omega (arith, h.upto); above = λ i a c. pick i a c (dec_lt k i) }
      where
        pick : (i : ℕ) → k - 1 < i → i < f + n → Dec (k < i) → x < scalar_at p i
        pick i a c (yes r) = h.above i r c
        pick i a c (no r) = let z : i ≡ k = omega (arith, not_first k h l) in subst (λ (j : ℕ). x < scalar_at p j) (sym z) l

  pub right_behind : (k : ℕ) → Nearing p x f n k → get_or p (8 * k) 0 < x → Sought p b x (k + 1)
  unfolding scalar_at
  right_behind k h l = behind k h.from h.upto l (λ a. omega (arith, h.above (k + 1) (omega arith) a))

  pub right_here : (k : ℕ) → Nearing p x f n k → get_or p (8 * k) 0 ≤ x → x ≤ get_or p (8 * k) 0 → Sought p b x k
  unfolding scalar_at
  right_here k h a l = sought k h.from (omega (arith, h.upto)) (λ i y z. omega (arith, climb p f (f + n) rises (suc i) k (omega arith) (omega arith) h.upto, rises i y (omega (arith, h.upto)))) (λ y. l)
