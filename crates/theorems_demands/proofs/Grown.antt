-- A pool of whole nodes that is lent with nodes of zeros behind it is a dictionary of the same
-- words with the same classes. Assumes nothing.
use Prim.Native.Nat.{ℕ, zero, suc, ◌+◌, ◌*◌, ◌-◌, ◌/◌, ◌≤◌, ◌<◌, min}
use native.Mathlib.Omega.{arith}
use native.Mathlib.Decide.{dec_lt}
use mathlib.Core.Path.{◌≡◌, refl, sym, ap, ◌∙◌, subst}
use mathlib.Core.Bool.{true, cond}
use mathlib.Core.List.{List, [], ◌∷◌, ◌++◌}
use mathlib.Core.Option.{some}
use lib.Dec.{ltb, eqb}
use lib.ListN.{length, get_or, take, drop, replicate, length-append, length-replicate, get_or-replicate, get_or-append}
use lib.Seq.{take_all, get_or-append-add}
use Rattle.char_string_scalars.specs.Scalars.{is_scalar}
use Rattle.char_string_white_space.specs.Trimmed.{is_trimmed}
use Rattle.trie_pool.specs.Cells.{scalar_at, first_at, count_at, mark_at, used}
use Rattle.trie_pool.specs.Words.{Place, none, at, on_place, scan, child, walk, term, term_at}
use mathlib.Core.Option as option
use Rattle.trie_pool.specs.inner.Sound.{Plain, Sound}
use Rattle.trie_pool.specs.Levels.{hop, level_end}
use Rattle.trie_pool.specs.Rules.{capacity, cells_of, well_formed, is_dictionary}
use Rattle.trie_pool.proofs.Rules.{sound, plain_is, in_capacity, passes}
use Rattle.trie_check.proofs.Parts.{terms_yes}
use Rattle.theorems_demands.specs.Pools.{Grown}

-- two rows of cells that agree everywhere, wherever they end
module _ (p q : List ℕ) (agree : (k : ℕ) → get_or q k 0 ≡ get_or p k 0) where
  scalar_same : (i : ℕ) → scalar_at q i ≡ scalar_at p i
  unfolding scalar_at
  scalar_same i = agree (8 * i)

  first_same : (i : ℕ) → first_at q i ≡ first_at p i
  unfolding first_at
  first_same i = agree (8 * i + 1)

  count_same : (i : ℕ) → count_at q i ≡ count_at p i
  unfolding count_at
  count_same i = agree (8 * i + 2)

  mark_same : (i : ℕ) → mark_at q i ≡ mark_at p i
  unfolding mark_at
  mark_same zero = refl
  mark_same (suc i) = agree (8 * suc i + 3)

  scan_same : (x s n : ℕ) → scan q x s n ≡ scan p x s n
  scan_same x s zero = refl
  scan_same x s (suc n) = λ k. cond (ltb (scalar_same s k) x) (scan_same x (suc s) n k) (cond (eqb (scalar_same s k) x) (at s) none)

  child_same : (i x : ℕ) → child q i x ≡ child p i x
  unfolding child
  child_same i x = scan_same x (first_at q i) (count_at q i) ∙ (λ k. scan p x (first_same i k) (count_same i k))

  walk_same : (w : List ℕ) (i : ℕ) → walk q w i ≡ walk p w i
  walk_same [] i = refl
  walk_same (x ∷ w) i = λ k. on_place none (λ (r : ℕ). walk_same w r k) (child_same i x k)

  terms_same : (w : List ℕ) → term_at q w ≡ term_at p w
  terms_same w = λ k. on_place option.none (λ (r : ℕ). term (mark_same r k)) (walk_same w 0 k)

  level_end_same : (n d : ℕ) → level_end q n d ≡ level_end p n d
  unfolding level_end
  level_end_same n zero = refl
  level_end_same n (suc d) = ap (hop q n) (level_end_same n d) ∙ (λ k. cond (ltb (level_end p n d) n) (first_same (level_end p n d) k) (level_end p n d))

  sound_same : (n : ℕ) → 8 * n ≤ length q + 4 → Sound p n 0 → Sound q n 0
  sound_same n fits g = record {
    shaped = record {
      some = g.shaped.some;
      start = first_same 0 ∙ g.shaped.start;
      next = λ i l. first_same (suc i) ∙ g.shaped.next i l ∙ sym (λ k. first_same i k + count_same i k);
      last = λ i e. (λ k. first_same i k + count_same i k) ∙ g.shaped.last i e;
      ahead = λ i l. omega (arith, first_same i, g.shaped.ahead i l);
    };
    fits = fits;
    small = g.small;
    rising = λ i l k a b. let f = first_same i in let c = count_same i in let r = g.rising i l k (omega arith) (omega arith) in omega (arith, scalar_same k, scalar_same (suc k), r);
    fit = λ i a l. let f = g.fit i a l in record { legal = ap is_scalar (scalar_same i) ∙ f.legal; mark = omega (arith, mark_same i, f.mark); stop = λ m. ap is_trimmed (scalar_same i) ∙ f.stop (omega (arith, mark_same i)) };
    leaf = λ i a l ne. omega (arith, count_same i, mark_same i, g.leaf i a l ne);
    start = λ i a l. ap is_trimmed (scalar_same i) ∙ g.start i a (omega (arith, count_same 0));
    shallow = level_end_same n 255 ∙ g.shallow;
    spare = record { used = agree 0 ∙ g.spare.used; blank = λ i r l q. agree (8 * i + r) ∙ g.spare.blank i r l q };
  }

  plain_same : Plain p → Plain q
  plain_same f = record { root = agree 3 ∙ f.root; aside = λ i r a b. agree (8 * i + r) ∙ f.aside i r a b }

beyond : (l : List ℕ) (k : ℕ) → length l ≤ k → get_or l k 0 ≡ 0
beyond [] k h = refl
beyond (x ∷ l) zero h = absurd (omega arith)
beyond (x ∷ l) (suc k) h = beyond l k (omega arith)

zeros : (j i : ℕ) → get_or (replicate {A = ℕ} j 0) i 0 ≡ 0
zeros j i = go (dec_lt i j)
  where
    go : Dec (i < j) → get_or (replicate {A = ℕ} j 0) i 0 ≡ 0
    go (yes l) = get_or-replicate {A = ℕ} j i 0 0 l
    go (no l) = beyond (replicate {A = ℕ} j 0) i (omega (arith, length-replicate {A = ℕ} j 0))

agree_on : (p : List ℕ) (j k : ℕ) → get_or (p ++ replicate j 0) k 0 ≡ get_or p k 0
agree_on p j k = go (dec_lt k (length p))
  where
    go : Dec (k < length p) → get_or (p ++ replicate j 0) k 0 ≡ get_or p k 0
    go (yes l) = get_or-append p (replicate j 0) 0 k l
    go (no l) =
        let e : k ≡ length p + (k - length p) = omega arith in
        ap (λ (i : ℕ). get_or (p ++ replicate j 0) i 0) e ∙ get_or-append-add p (replicate j 0) (k - length p) 0 ∙ zeros j (k - length p) ∙ sym (beyond p k (omega arith))

pub grown : Grown
grown pool m j long small h =
    let size : length (pool ++ replicate (8 * j) 0) ≡ 8 * m + 8 * j = omega (arith, length-append pool (replicate (8 * j) 0), length-replicate {A = ℕ} (8 * j) 0) in
    let cp : cells_of pool ≡ pool = take_all (8 * capacity pool) pool (omega arith) in
    let cq : cells_of (pool ++ replicate (8 * j) 0) ≡ pool ++ replicate (8 * j) 0 = take_all (8 * capacity (pool ++ replicate (8 * j) 0)) (pool ++ replicate (8 * j) 0) (omega arith) in
    let good : well_formed pool ≡ true = ap well_formed (sym cp) ∙ h in
    let g : Sound pool (used pool) 0 = sound pool good in
    let s : Sound (pool ++ replicate (8 * j) 0) (used pool) 0 = sound_same pool (pool ++ replicate (8 * j) 0) (agree_on pool (8 * j)) (used pool) (omega (arith, g.fits)) g in
    let u : used pool ≡ used (pool ++ replicate (8 * j) 0) = sym (agree_on pool (8 * j) 0) in
    let f : Plain (pool ++ replicate (8 * j) 0) = plain_same pool (pool ++ replicate (8 * j) 0) (agree_on pool (8 * j)) (plain_is pool good) in
    let w : is_dictionary (pool ++ replicate (8 * j) 0) ≡ true =
    ap well_formed cq ∙ passes (pool ++ replicate (8 * j) 0) (subst (λ (n : ℕ). Sound (pool ++ replicate (8 * j) 0) n 0) u s) f (omega (arith, in_capacity pool good)) in
    terms_yes (pool ++ replicate (8 * j) 0) w ∙ ap some (ap term_at cq ∙ (λ i v. terms_same pool (pool ++ replicate (8 * j) 0) (agree_on pool (8 * j)) v i) ∙ ap term_at (sym cp)) ∙ sym (terms_yes pool h)
