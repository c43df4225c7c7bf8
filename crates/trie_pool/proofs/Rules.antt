-- The rules as facts, and back. Assumes nothing.
use Prim.Native.Nat.{ℕ, zero, suc, ◌+◌, ◌-◌, ◌*◌, ◌/◌, ◌%◌, ◌≤◌, ◌<◌}
use native.Mathlib.Omega.{arith}
use native.Mathlib.Decide.{dec_lt}
use mathlib.Core.Path.{◌≡◌, refl, sym, ap, ◌∙◌}
use mathlib.Core.Bool.{Bool, true, false, not, ◌&&◌, ◌||◌}
use mathlib.Core.List.{List, [], ◌∷◌}
use borrow.Author.Tests.{ltb-true, leb-true, eqb-true, lt-ltb, le-leb, eq-eqb, not-true}
use lib.Dec.{ltb, leb, eqb}
use lib.ListN.{length, get_or, get_or-eq_default}
use Rattle.char_string_scalars.specs.Scalars.{is_scalar}
use Rattle.char_string_white_space.specs.Trimmed.{is_trimmed}
use Rattle.trie_pool.specs.Cells.{scalar_at, first_at, count_at, mark_at, class_at, used}
use Rattle.trie_pool.specs.Words.{marked}
use Rattle.trie_pool.specs.inner.Sound.{Shaped, Rising, Fit, Spare, Plain, Sound}
use Rattle.trie_pool.specs.Levels.{level_end}
use Rattle.trie_pool.specs.Rules.{capacity, every, nodes_in, rules, all, in_half, plain, well_formed}

-- ---- truth values

pub clash : {P : Type 0} → false ≡ true → P
clash e = absurd (let z : ◌≡◌ {A = ℕ} 0 1 = cc in omega arith)

both : (a b : Bool) → a && b ≡ true → (a ≡ true) × (b ≡ true)
both true b e = (refl, e)
both false b e = clash e

pub join : (a b : Bool) → a ≡ true → b ≡ true → a && b ≡ true
join true b e f = f
join false b e f = clash e

-- ---- below a number

every_at : (n : ℕ) (f : ℕ → Bool) → every n f ≡ true → (i : ℕ) → i < n → f i ≡ true
unfolding every
every_at zero f h i l = absurd (omega arith)
every_at (suc n) f h i l = go (dec_lt i n) (both (every n f) (f n) h) (λ e. every_at n f e)
  where
    go : Dec (i < n) → (every n f ≡ true) × (f n ≡ true) → (every n f ≡ true → (i : ℕ) → i < n → f i ≡ true) → f i ≡ true
    go (yes q) b ih = ih b.0 i q
    go (no q) b ih = let e : i ≡ n = omega arith in ap f e ∙ b.1

every_of : (n : ℕ) (f : ℕ → Bool) → ((i : ℕ) → i < n → f i ≡ true) → every n f ≡ true
unfolding every
every_of zero f h = refl
every_of (suc n) f h = join (every n f) (f n) (every_of n f (λ i l. h i (omega arith))) (h n (omega arith))

-- ---- past the root

inner_at : (n : ℕ) (f : ℕ → Bool) → every (n - 1) (λ i. f (suc i)) ≡ true → (i : ℕ) → 0 < i → i < n → f i ≡ true
inner_at n f h zero a l = absurd (omega arith)
inner_at n f h (suc i) a l = every_at (n - 1) (λ i. f (suc i)) h i (omega arith)

inner_of : (n : ℕ) (f : ℕ → Bool) → ((i : ℕ) → 0 < i → i < n → f i ≡ true) → every (n - 1) (λ i. f (suc i)) ≡ true
inner_of n f h = every_of (n - 1) (λ i. f (suc i)) (λ i l. h (suc i) (omega arith) (omega arith))

-- ---- all rules

abbrev Each : List Bool → Type 0
Each [] = Unit {0}
Each (b ∷ bs) = (b ≡ true) × Each bs

each_of : (bs : List Bool) → all bs ≡ true → Each bs
each_of [] h = tt
each_of (b ∷ bs) h = ((both b (all bs) h).0, each_of bs (both b (all bs) h).1)

of_each : (bs : List Bool) → Each bs → all bs ≡ true
of_each [] h = refl
of_each (b ∷ bs) h = join b (all bs) h.0 (of_each bs h.1)

-- ---- single nodes

leaf_of : (k m : ℕ) → leb 1 k || marked m ≡ true → 1 ≤ k + m
leaf_of k zero h = go (leb 1 k) refl h
  where
    go : (b : Bool) → leb 1 k ≡ b → b || false ≡ true → 1 ≤ k + 0
    go true e q = omega (arith, leb-true 1 k e)
    go false e q = clash q
leaf_of k (suc m) h = omega arith

of_leaf : (k m : ℕ) → 1 ≤ k + m → leb 1 k || marked m ≡ true
of_leaf k (suc m) h = go (leb 1 k)
  where
    go : (b : Bool) → b || true ≡ true
    go true = refl
    go false = refl
of_leaf k zero h = ap (λ (b : Bool). b || false) (le-leb 1 k (omega arith))

stop_of : (m : ℕ) (t : Bool) → not (marked m && t) ≡ true → 1 ≤ m → t ≡ false
stop_of zero t h l = absurd (omega arith)
stop_of (suc m) t h l = not-true t h

of_stop : (m : ℕ) (t : Bool) → (1 ≤ m → t ≡ false) → not (marked m && t) ≡ true
of_stop zero t h = refl
of_stop (suc m) t h = ap not (h (omega arith))

-- a node that ends no word has class 0
unmarked : (m : ℕ) → marked m || eqb (m - 1) 0 ≡ true
unmarked zero = refl
unmarked (suc m) = refl

-- ---- from the rules

module _ (most : ℕ) (p : List ℕ) (h : Each (rules most p)) where
  use_is : (1 ≤ used p) × (used p ≤ most)
  use_is = let b = both (leb 1 (used p)) (leb (used p) most) h.0 in (leb-true 1 (used p) b.0, leb-true (used p) most b.1)

  shaped_is : Shaped p (used p)
  shaped_is =
      let a = both _ _ h.1.0 in
      let b = both _ _ a.0 in
      record {
        some = use_is.0;
        start = eqb-true (first_at p 0) 1 b.0;
        next = λ i l. eqb-true (first_at p (suc i)) (first_at p i + count_at p i) (every_at (used p - 1) (λ k. eqb (first_at p (suc k)) (first_at p k + count_at p k)) b.1 i (omega arith));
        last = λ i e. let z : i ≡ used p - 1 = omega arith in rw z (eqb-true (first_at p (used p - 1) + count_at p (used p - 1)) (used p) a.1);
        ahead = λ i l. ltb-true i (first_at p i) (every_at (used p) (λ k. ltb k (first_at p k)) h.1.1.0 i l);
      }

  rising_is : (i : ℕ) → i < used p → Rising p (first_at p i) (first_at p i + count_at p i)
  rising_is i l k a b =
      let x : first_at p i + (k - first_at p i) ≡ k = omega arith in
      let y : first_at p i + suc (k - first_at p i) ≡ suc k = omega arith in
      let r = every_at (used p) (λ i. every (count_at p i - 1) (λ k. ltb (scalar_at p (first_at p i + k)) (scalar_at p (first_at p i + suc k)))) h.1.1.1.0 i l in
      let q = every_at (count_at p i - 1) (λ k. ltb (scalar_at p (first_at p i + k)) (scalar_at p (first_at p i + suc k))) r (k - first_at p i) (omega arith) in
      let c = ltb-true (scalar_at p (first_at p i + (k - first_at p i))) (scalar_at p (first_at p i + suc (k - first_at p i))) q in
      omega (arith, c, ap (scalar_at p) x, ap (scalar_at p) y)

  fit_is : (i : ℕ) → 0 < i → i < used p → Fit (scalar_at p i) (mark_at p i)
  fit_is i a l = record {
    legal = inner_at (used p) (λ k. is_scalar (scalar_at p k)) h.1.1.1.1.0 i a l;
    mark = omega (arith, leb-true (class_at p i) 65535 (both _ _ (inner_at (used p) (λ k. leb (class_at p k) 65535 && (marked (mark_at p k) || eqb (class_at p k) 0)) h.1.1.1.1.1.0 i a l)).0);
    stop = stop_of (mark_at p i) (is_trimmed (scalar_at p i)) (inner_at (used p) (λ k. not (marked (mark_at p k) && is_trimmed (scalar_at p k))) h.1.1.1.1.1.1.1.1.0 i a l);
  }

  leaf_is : (i : ℕ) → 0 < i → i < used p → 1 ≤ count_at p i + mark_at p i
  leaf_is i a l = leaf_of (count_at p i) (mark_at p i) (inner_at (used p) (λ k. leb 1 (count_at p k) || marked (mark_at p k)) h.1.1.1.1.1.1.0 i a l)

  start_is : (i : ℕ) → 0 < i → i ≤ count_at p 0 → is_trimmed (scalar_at p i) ≡ false
  start_is zero a l = absurd (omega arith)
  start_is (suc i) a l = not-true _ (every_at (count_at p 0) (λ k. not (is_trimmed (scalar_at p (suc k)))) h.1.1.1.1.1.1.1.0 i (omega arith))

  module _ (fit : 8 * most ≤ length p + 4) where
    spare_is : Spare p (used p)
    spare_is = record { used = refl; blank = λ i r l q. blank i r l q (dec_lt i (nodes_in p)) }
      where
        blank : (i r : ℕ) → used p ≤ i → r < 4 → Dec (i < nodes_in p) → get_or p (8 * i + r) 0 ≡ 0
        blank i r l q (yes d) =
            let e : used p + (i - used p) ≡ i = omega arith in
            let a = every_at (nodes_in p - used p) (λ i. every 4 (λ r. eqb (get_or p (8 * (used p + i) + r) 0) 0)) h.1.1.1.1.1.1.1.1.1.1.0 (i - used p) (omega arith) in
            sym (ap (λ (z : ℕ). get_or p (8 * z + r) 0) e) ∙ eqb-true (get_or p (8 * (used p + (i - used p)) + r) 0) 0 (every_at 4 (λ r. eqb (get_or p (8 * (used p + (i - used p)) + r) 0) 0) a r q)
        blank i r l q (no d) = get_or-eq_default p 0 {n = 8 * i + r} (omega arith)

    sound_is : most ≤ 1048576 → Sound p (used p) 0
    sound_is small = record {
      shaped = shaped_is;
      fits = omega (arith, use_is.1);
      small = omega (arith, use_is.1);
      rising = rising_is;
      fit = fit_is;
      leaf = λ i a l ne. leaf_is i a l;
      start = start_is;
      shallow = eqb-true (level_end p (used p) 255) (used p) h.1.1.1.1.1.1.1.1.1.0;
      spare = spare_is;
    }

pub sound_half : (most : ℕ) (p : List ℕ) → in_half most p ≡ true → 8 * most ≤ length p + 4 → most ≤ 1048576 → Sound p (used p) 0
unfolding in_half
sound_half most p h fit small = sound_is most p (each_of (rules most p) h) fit small

-- a plain pool
module _ (p : List ℕ) (h : well_formed p ≡ true) where
  parts : (in_half (capacity p) p ≡ true) × (plain p ≡ true)
  unfolding well_formed
  parts = both (in_half (capacity p) p) (plain p) h

  pub sound : Sound p (used p) 0
  sound = sound_half (capacity p) p parts.0 (omega arith) (omega arith)

  pub in_capacity : used p ≤ capacity p
  unfolding in_half
  in_capacity = (use_is (capacity p) p (each_of (rules (capacity p) p) parts.0)).1

  pub plain_is : Plain p
  unfolding plain
  plain_is =
      let b = both (eqb (get_or p 3 0) 0) (every (nodes_in p) (λ i. every 4 (λ r. eqb (get_or p (8 * i + (4 + r)) 0) 0))) parts.1 in
      record { root = eqb-true (get_or p 3 0) 0 b.0; aside = λ i r a c. aside i r a c (dec_lt i (nodes_in p)) b.1 }
    where
      aside : (i r : ℕ) → 4 ≤ r → r < 8 → Dec (i < nodes_in p) → every (nodes_in p) (λ i. every 4 (λ r. eqb (get_or p (8 * i + (4 + r)) 0) 0)) ≡ true → get_or p (8 * i + r) 0 ≡ 0
      aside i r a c (yes d) q =
          let e : 4 + (r - 4) ≡ r = omega arith in
          sym (ap (λ (z : ℕ). get_or p (8 * i + z) 0) e)
          ∙ eqb-true (get_or p (8 * i + (4 + (r - 4))) 0) 0 (every_at 4 (λ r. eqb (get_or p (8 * i + (4 + r)) 0) 0) (every_at (nodes_in p) (λ i. every 4 (λ r. eqb (get_or p (8 * i + (4 + r)) 0) 0)) q i d) (r - 4) (omega arith))
      aside i r a c (no d) q = get_or-eq_default p 0 {n = 8 * i + r} (omega arith)

-- ---- back to the rules

pub passes_half : (most : ℕ) (p : List ℕ) → Sound p (used p) 0 → used p ≤ most → in_half most p ≡ true
unfolding in_half
passes_half most p g room = of_each (rules most p) (
  join _ _ (le-leb 1 (used p) g.shaped.some) (le-leb (used p) most room),
  (
    join _ _ (join _ _ (eq-eqb (first_at p 0) 1 g.shaped.start) nexts) (eq-eqb _ (used p) (g.shaped.last (used p - 1) (omega (arith, g.shaped.some)))),
    (
      every_of (used p) (λ i. ltb i (first_at p i)) (λ i l. lt-ltb i (first_at p i) (g.shaped.ahead i l)),
      (
        every_of (used p) _ (λ i l. every_of (count_at p i - 1) _ (λ k q. lt-ltb _ _ (climbs i k l q))),
        (
          inner_of (used p) (λ i. is_scalar (scalar_at p i)) (λ i a l. (g.fit i a l).legal),
          (
            inner_of (used p) (λ i. leb (class_at p i) 65535 && (marked (mark_at p i) || eqb (class_at p i) 0)) (λ i a l. join _ _ (le-leb (class_at p i) 65535 (omega (arith, (g.fit i a l).mark))) (unmarked (mark_at p i))),
            (
              inner_of (used p) (λ i. leb 1 (count_at p i) || marked (mark_at p i)) (λ i a l. of_leaf (count_at p i) (mark_at p i) (g.leaf i a l (omega arith))),
              (
                every_of (count_at p 0) _ (λ i l. ap not (g.start (suc i) (omega arith) (omega arith))),
                (
                  inner_of (used p) (λ i. not (marked (mark_at p i) && is_trimmed (scalar_at p i))) (λ i a l. of_stop (mark_at p i) (is_trimmed (scalar_at p i)) (g.fit i a l).stop),
                  (
                    eq-eqb (level_end p (used p) 255) (used p) g.shallow,
                    (every_of (nodes_in p - used p) _ (λ i l. every_of 4 _ (λ r q. eq-eqb (get_or p (8 * (used p + i) + r) 0) 0 (g.spare.blank (used p + i) r (omega arith) q))), tt),
                  ),
                ),
              ),
            ),
          ),
        ),
      ),
    ),
  ),
)
  where
    nexts : every (used p - 1) (λ i. eqb (first_at p (suc i)) (first_at p i + count_at p i)) ≡ true
    nexts = every_of (used p - 1) (λ i. eqb (first_at p (suc i)) (first_at p i + count_at p i)) (λ i l. eq-eqb (first_at p (suc i)) (first_at p i + count_at p i) (g.shaped.next i (omega arith)))

    climbs : (i k : ℕ) → i < used p → k < count_at p i - 1 → scalar_at p (first_at p i + k) < scalar_at p (first_at p i + suc k)
    climbs i k l q =
        let e : suc (first_at p i + k) ≡ first_at p i + suc k = omega arith in
        omega (arith, g.rising i l (first_at p i + k) (omega arith) (omega arith), ap (scalar_at p) e)

pub passes : (p : List ℕ) → Sound p (used p) 0 → Plain p → used p ≤ capacity p → well_formed p ≡ true
unfolding well_formed plain
passes p g f room = join (in_half (capacity p) p) (plain p) (passes_half (capacity p) p g room)
    (join (eqb (get_or p 3 0) 0) (every (nodes_in p) (λ i. every 4 (λ r. eqb (get_or p (8 * i + (4 + r)) 0) 0))) (eq-eqb (get_or p 3 0) 0 f.root)
    (every_of (nodes_in p) (λ i. every 4 (λ r. eqb (get_or p (8 * i + (4 + r)) 0) 0))
    (λ i l. every_of 4 (λ r. eqb (get_or p (8 * i + (4 + r)) 0) 0) (λ r q. eq-eqb (get_or p (8 * i + (4 + r)) 0) 0 (f.aside i (4 + r) (omega arith) (omega arith))))))
