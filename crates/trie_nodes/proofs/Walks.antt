-- The walk over the nodes: where it stands, and what it decides. Assumes nothing.
use mathlib.Core.Path.{◌≡◌, refl, sym, ap, subst, ◌∙◌}
use mathlib.Core.Bool.{Bool, true, false}
use mathlib.Core.List.{List}
use Prim.Native.Nat.{ℕ, zero, suc, ◌+◌, ◌-◌, ◌*◌, ◌≤◌, ◌<◌}
use native.Mathlib.Omega.{arith}
use native.Mathlib.Decide.{dec_lt}
use borrow.Author.Tests.{le-ltb, le-leb, lt-leb, eqb-true, eqb-false}
use lib.Dec.{eqb}
use lib.ListN.{get_or}
use Rattle.char_string_scalars.specs.Scalars.{is_scalar}
use Rattle.trie_pool.specs.Cells.{scalar_at, first_at, count_at}
use Rattle.trie_pool.specs.inner.Sound.{Shaped, Rising}
use Rattle.trie_node.specs.inner.Checks.{Decides, Stands}
use Rattle.trie_node.proofs.Decide.{clash}
use Rattle.trie_nodes.specs.inner.Falls.{none, fall, falls, place, first, starts}
use Rattle.trie_nodes.specs.inner.Walking.{Each, Nodes, Low, Walking, Next}
use Rattle.trie_nodes.proofs.Falls.{all_rise, as_many}
use Rattle.trie_nodes.proofs.Cells.{falls_few}

-- ---- places

place_on : (k : ℕ → ℕ) (i n : ℕ) → i ≤ n → place k i ≤ place k n
unfolding place
place_on k i zero l = let e : i ≡ 0 = omega arith in omega (arith, ap (place k) e)
place_on k i (suc n) l = pick (dec_lt n i) (place_on k i n)
  where
    pick : Dec (n < i) → (i ≤ n → place k i ≤ place k n) → place k i ≤ place k n + k n
    pick (yes q) f = let e : i ≡ suc n = omega arith in omega (arith, ap (place k) e)
    pick (no q) f = omega (arith, f (omega arith))

place_next : (k : ℕ → ℕ) (i : ℕ) → place k (i + 1) ≡ place k i + k i
unfolding place
place_next k i = let e : i + 1 ≡ suc i = omega arith in ap (place k) e

-- ---- the walk

pub walking_none : (p : List ℕ) (n b : ℕ) → 0 < n → b ≤ 1 → (count_at p 0 < n → scalar_at p 0 < none → b ≡ first (scalar_at p) 1 (count_at p 0)) → Walking p n 1 (1 + count_at p 0) 0 b
unfolding place falls starts
walking_none p n b some few h = record {
  low = omega arith;
  upto = some;
  here = refl;
  each = λ j a l. absurd (omega arith);
  ahead = λ j a l. absurd (omega arith);
  falls = refl;
  starts = λ l low. let e : b ≡ first (scalar_at p) 1 (count_at p 0) = h (omega arith) (low 0 some) in let z : 0 + first (scalar_at p) 1 (count_at p 0) ≡ first (scalar_at p) 1 (count_at p 0) = omega arith in e ∙ sym z;
  few_falls = omega arith;
  few_starts = few;
}

falls_next : (c : ℕ → ℕ) (i : ℕ) → 1 ≤ i → falls c 0 (i - 1) + fall c (i - 1) ≡ falls c 0 (i + 1 - 1)
unfolding falls
falls_next c zero l = absurd (omega arith)
falls_next c (suc i) l =
    let e : suc i - 1 ≡ i = omega arith in
    let z : 0 + i ≡ i = omega arith in
    let g : suc i + 1 - 1 ≡ suc i = omega arith in
    ap (λ (t : ℕ). falls c 0 t + fall c t) e ∙ sym (ap (λ (t : ℕ). falls c 0 i + fall c t) z) ∙ sym (ap (falls c 0) g)

pub walking_more : (p : List ℕ) (n i s f b k e : ℕ) → Walking p n i s f b → Next p n i s k e → Walking p n (i + 1) (s + k) (f + fall (scalar_at p) (i - 1)) (b + e)
unfolding starts
walking_more p n i s f b k e v x = record {
  low = omega arith;
  upto = omega (arith, x.inside);
  here = next;
  each = λ j a l. stands j a l (dec_lt j i);
  ahead = λ j a l. aheads j a l (dec_lt j i);
  falls = ap (λ (t : ℕ). t + fall (scalar_at p) (i - 1)) v.falls ∙ falls_next (scalar_at p) i v.low;
  starts = λ l low.
      let q : b ≡ starts (scalar_at p) (count_at p) i = v.starts (omega arith) low in
      let r : e ≡ first (scalar_at p) s k = x.start low in
      let t : first (scalar_at p) s k ≡ first (scalar_at p) (place (count_at p) i) (count_at p i) = ap (λ (y : ℕ). first (scalar_at p) y k) v.here ∙ ap (first (scalar_at p) (place (count_at p) i)) x.count in
      let z : i + 1 ≡ suc i = omega arith in
      let u : b + e ≡ starts (scalar_at p) (count_at p) i + first (scalar_at p) (place (count_at p) i) (count_at p i) = omega (arith, q, r, t) in
      u ∙ sym (ap (starts (scalar_at p) (count_at p)) z);
  few_falls = omega (arith, v.few_falls, falls_few (scalar_at p (i - 1)) (scalar_at p (suc (i - 1))));
  few_starts = omega (arith, v.few_starts, x.few);
}
  where
    next : s + k ≡ place (count_at p) (i + 1)
    next = omega (arith, v.here, x.count, place_next (count_at p) i)

    stands : (j : ℕ) → 0 < j → j < i + 1 → Dec (j < i) → Stands p j (place (count_at p) j)
    stands j a l (yes q) = v.each j a q
    stands j a l (no q) = let z : j ≡ i = omega arith in subst (λ (t : ℕ). Stands p t (place (count_at p) t)) (sym z) (subst (Stands p i) v.here x.stands)

    aheads : (j : ℕ) → 0 < j → j < i + 1 → Dec (j < i) → j < place (count_at p) j
    aheads j a l (yes q) = v.ahead j a q
    aheads j a l (no q) = let z : j ≡ i = omega arith in omega (arith, ap (place (count_at p)) z, v.here, x.ahead)

-- ---- a wrong node

module _ (p : List ℕ) (n : ℕ) (h : Nodes p n) where
  placed : (j : ℕ) → j < n → first_at p j ≡ place (count_at p) j
  unfolding place
  placed zero l = h.shaped.start
  placed (suc j) l = h.shaped.next j l ∙ ap (λ (z : ℕ). z + count_at p j) (placed j (omega arith))

  within : (i : ℕ) → i < n → place (count_at p) i + count_at p i ≤ n
  within i l = omega (arith, (h.each i l).fits, placed i l)

  far : (i : ℕ) → 1 ≤ i → i ≤ n → place (count_at p) i ≤ n
  unfolding place
  far zero a l = absurd (omega arith)
  far (suc i) a l = within i l

  ends : place (count_at p) n ≡ n
  unfolding place
  ends = go n refl
    where
      go : (m : ℕ) → m ≡ n → place (count_at p) m ≡ n
      go zero e = absurd (omega (arith, h.shaped.some))
      go (suc m) e = ap (λ (z : ℕ). z + count_at p m) (sym (placed m (omega arith))) ∙ h.shaped.last m e

module _ {p : List ℕ} {n i s f b : ℕ} (v : Walking p n i s f b) where
  pub wrong_ahead : s < n → s ≤ i → Nodes p n → ⊥
  wrong_ahead l q h = pick (dec_lt i n)
    where
      pick : Dec (i < n) → ⊥
      pick (yes d) = omega (arith, v.here, placed p n h i d, (h.each i d).ahead)
      pick (no d) = let e : i ≡ n = omega (arith, v.upto) in omega (arith, v.here, ap (place (count_at p)) e, ends p n h)

  pub wrong_node : i < n → (Stands p i s → ⊥) → Nodes p n → ⊥
  wrong_node l no' h = no' (record { first = placed p n h i l ∙ sym v.here; inner = (h.each i l).inner v.low })

  pub wrong_far : n ≤ s → (s ≡ n → ⊥) → Nodes p n → ⊥
  wrong_far l no' h = no' (omega (arith, v.here, far p n h i v.low v.upto))

  pub wrong_leaf : s ≡ n → i < n → (count_at p i ≡ 0 → ⊥) → Nodes p n → ⊥
  wrong_leaf e l no' h = no' (omega (arith, v.here, within p n h i l))

-- ---- the end

scalar_low : (c : ℕ) → is_scalar c ≡ true → c < none
unfolding is_scalar
scalar_low c e = pick (dec_lt c 0x110000)
  where
    pick : Dec (c < 0x110000) → c < none
    pick (yes q) = omega arith
    pick (no q) = clash (sym (simp (le-ltb c 0xD800 (omega arith), le-leb 0xE000 c (omega arith), lt-leb c 0x10FFFF (omega arith))) ∙ e)

module _ (p : List ℕ) (n : ℕ) {s f b : ℕ} (v : Walking p n n s f b) (e : s ≡ n) (some : 0 < n) (small : n ≤ 1048576) (used : get_or p 0 0 ≡ n) (root : get_or p 1 0 ≡ 1) where
  low : Low p n
  unfolding scalar_at
  low zero l = omega arith
  low (suc j) l = scalar_low _ (v.each (suc j) (omega arith) l).inner.fit.legal

  first_at_place : (j : ℕ) → j < n → first_at p j ≡ place (count_at p) j
  unfolding first_at place
  first_at_place zero l = root
  first_at_place (suc j) l = (v.each (suc j) (omega arith) l).first

  ahead_at : (j : ℕ) → j < n → j < first_at p j
  unfolding first_at
  ahead_at zero l = omega arith
  ahead_at (suc j) l = omega (arith, v.ahead (suc j) (omega arith) l, first_at_place (suc j) l)

  after : (j : ℕ) → first_at p j ≡ place (count_at p) j → first_at p j + count_at p j ≡ place (count_at p) (suc j)
  unfolding place
  after j q = ap (λ (z : ℕ). z + count_at p j) q

  counted : falls (scalar_at p) 0 (place (count_at p) n - 1) ≡ f
  counted = let z : place (count_at p) n - 1 ≡ n - 1 = omega (arith, v.here) in ap (falls (scalar_at p) 0) z ∙ sym v.falls

  is : b ≡ starts (scalar_at p) (count_at p) n
  is = v.starts (omega arith) low

  right : f ≡ b → Nodes p n
  unfolding place
  right q = record {
    shaped = record {
      some = some;
      start = first_at_place 0 some ∙ one;
      next = λ j l. first_at_place (suc j) l ∙ sym (after j (first_at_place j (omega arith)));
      last = λ j l. after j (first_at_place j (omega arith)) ∙ ap (place (count_at p)) l ∙ sym v.here ∙ e;
      ahead = ahead_at;
    };
    each = λ j l. record {
      first = refl;
      ahead = ahead_at j l;
      fits = omega (arith, after j (first_at_place j l), place_on (count_at p) (suc j) n l, v.here);
      rising = rises j l;
      inner = λ a. (v.each j a l).inner;
    };
  }
    where
      one : place (count_at p) 0 ≡ 1
      one = refl

      rises : (j : ℕ) → j < n → Rising p (first_at p j) (first_at p j + count_at p j)
      rises j l t a c =
          let m = t - place (count_at p) j in
          let x : place (count_at p) j + (t - place (count_at p) j) ≡ t = omega (arith, first_at_place j l) in
          let y = all_rise (scalar_at p) (count_at p) n (counted ∙ q ∙ is) j l (t - place (count_at p) j) (omega (arith, first_at_place j l)) in
          omega (arith, y, ap (scalar_at p) x, ap (λ (z : ℕ). scalar_at p (suc z)) x)

  equal : Nodes p n → f ≡ b
  equal h = sym counted ∙ as_many (scalar_at p) (count_at p) n (λ j l t q. climbs j l t q) ∙ sym is
    where
      climbs : (j : ℕ) → j < n → (t : ℕ) → t < count_at p j - 1 → scalar_at p (place (count_at p) j + t) < scalar_at p (suc (place (count_at p) j + t))
      climbs j l t q = (h.each j l).rising (place (count_at p) j + t) (omega (arith, first_at_place j l)) (omega (arith, first_at_place j l))

  pub done : Decides (eqb f b) (Nodes p n)
  done = record {
    yes' = λ y. right (eqb-true f b y);
    no' = λ y h. eqb-false f b y (equal h);
  }
