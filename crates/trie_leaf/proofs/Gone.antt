-- One leaf less keeps a dictionary sound, and its words. Assumes nothing.
use mathlib.Core.Path.{◌≡◌, refl, sym, ap, ◌∙◌}
use mathlib.Core.Bool.{Bool, true, false, not}
use mathlib.Core.List.{List, [], ◌∷◌}
use Prim.Native.Nat.{ℕ, suc, ◌+◌, ◌-◌, ◌≤◌, ◌<◌}
use native.Mathlib.Omega.{arith}
use native.Mathlib.Decide.{dec_lt}
use lib.Dec.{eqb}
use borrow.Author.Tests.{eqb-true, eqb-false}
use lib.ListN.{length}
use Rattle.trie_pool.specs.Cells.{scalar_at, first_at, count_at, mark_at}
use Rattle.trie_pool.specs.inner.Paths.{reach}
use Rattle.trie_pool.specs.inner.Sound.{Fit, Shaped, Spare, Rising, Sound}
use Rattle.trie_pool.specs.Levels.{level_end}
use Rattle.trie_pool.specs.Words.{Place, none, at, on_place, child, term_at}
use Rattle.trie_leaf.specs.inner.Planting.{Room, Planted}
use Rattle.trie_pool.proofs.Shape.{refit, apart, within, Step, step, child_found, reach_within, climb}
use Rattle.trie_pool.proofs.Level.{ends_mono, level_high, level_low}
use Rattle.trie_leaf.proofs.Leaf.{sh, sh_low, sh_high, moved, child_new, child_moved, same_terms}
use Rattle.trie_leaf.proofs.Keep.{ends_high, level_above, reach_new}
use Rattle.char_string_white_space.specs.Trimmed.{is_trimmed}

-- q is p without the leaf j
module _ (p q : List ℕ) (m b j : ℕ) (s : Shaped p (suc m)) (parent : b < suc m) (from : first_at p b ≤ j) (upto : j < first_at p b + count_at p b) (h : Planted q p m b j (scalar_at p j)) where
  after : b < j
  after = omega (arith, s.ahead b parent)

  inside : j ≤ m
  inside = omega (arith, within p (suc m) s b parent)

  -- the new block of i ends where that of the old node after it starts
  next_at : (i : ℕ) → suc i ≡ j → j < m → first_at q j ≡ first_at q i + count_at q i
  next_at i e l = omega (arith, h.first_high j (omega arith) l, s.next j (omega arith), h.count_new, h.first_new i e)

  next' : (i : ℕ) → suc i < m → first_at q (suc i) ≡ first_at q i + count_at q i
  next' i l = go (dec_lt i b) (dec_lt b i) (dec_lt (suc i) j) (dec_lt j (suc i))
    where
      go : Dec (i < b) → Dec (b < i) → Dec (suc i < j) → Dec (j < suc i) → first_at q (suc i) ≡ first_at q i + count_at q i
      go (yes a) d e f = omega (arith, h.first_low (suc i) a, h.first_low i (omega arith), h.count_low i (omega (arith, after)) (omega arith), s.next i (omega arith))
      go (no a) (yes d) (yes e) f = omega (arith, h.first_mid (suc i) (omega arith) e, h.first_mid i d (omega arith), h.count_low i (omega arith) (omega arith), s.next i (omega arith))
      go (no a) (no d) (yes e) f =
          let z : i ≡ b = omega arith in
          rw z (omega (arith, ap (first_at p) (ap suc z), h.first_mid (suc b) (omega arith) (omega arith), h.first_low b (omega arith), h.count_parent, s.next b (omega arith)))
      go (no a) d (no e) (yes f) = omega (arith, h.first_high (suc i) (omega arith) l, h.first_high i (omega arith) (omega arith), h.count_high i (omega arith) (omega arith), s.next (suc i) (omega arith))
      go (no a) d (no e) (no f) = let z : suc i ≡ j = omega arith in ap (first_at q) z ∙ next_at i z (omega arith)

  last' : (i : ℕ) → suc i ≡ m → first_at q i + count_at q i ≡ m
  last' i e = go (dec_lt i j)
    where
      go : Dec (i < j) → first_at q i + count_at q i ≡ m
      go (yes l) =
          let z : suc i ≡ j = omega (arith, inside) in
          omega (arith, h.first_new i z, h.count_new, s.last j (omega arith))
      go (no l) = omega (arith, h.first_high i (omega arith) (omega arith), h.count_high i (omega arith) (omega arith), s.last (suc i) (omega arith))

  ahead' : (i : ℕ) → i < m → i < first_at q i
  ahead' i l = go (dec_lt b i) (dec_lt i j)
    where
      go : Dec (b < i) → Dec (i < j) → i < first_at q i
      go (no a) d = omega (arith, h.first_low i (omega arith), s.ahead i (omega arith))
      go (yes a) (yes d) = omega (arith, h.first_mid i a d, apart p (suc m) s b i a (omega arith))
      go (yes a) (no d) = omega (arith, h.first_high i (omega arith) l, s.ahead (suc i) (omega arith))

  pub shaped' : Shaped q m
  shaped' = record { some = omega (arith, after, inside); start = sym (h.first_low 0 (omega arith)) ∙ s.start; next = next'; last = last'; ahead = ahead' }

  module _ (r : (i : ℕ) → i < suc m → Rising p (first_at p i) (first_at p i + count_at p i)) where
    here : Rising p (first_at p b) (first_at p b + count_at p b)
    here = r b parent

    pub room : Room q m b j (scalar_at p j)
    room = record {
      parent = omega (arith, after, inside);
      from = omega (arith, h.first_low b (omega arith));
      upto = omega (arith, h.first_low b (omega arith), h.count_parent);
      below = λ k a c.
          let f = h.first_low b (omega arith) in
          omega (arith, h.scalar_low k (omega (arith, s.ahead b parent)) c, here k (omega arith) (omega arith), climb p (first_at p b) (first_at p b + count_at p b) here (suc k) j (omega arith) (omega arith) upto);
      above = λ k a c.
          let f = h.first_low b (omega arith) in
          let g = h.count_parent in
          let w = within p (suc m) s b parent in
          omega (arith, h.scalar_high k a (omega arith), here j from (omega arith), climb p (first_at p b) (first_at p b + count_at p b) here (suc j) (suc k) (omega arith) (omega arith) (omega arith));
    }

    far : (i k : ℕ) → j ≤ k → first_at p i ≤ suc k → suc (suc k) < first_at p i + count_at p i → i < suc m → scalar_at q k < scalar_at q (suc k)
    far i k a c d l =
        let w = within p (suc m) s i l in
        omega (arith, h.scalar_high k a (omega arith), h.scalar_high (suc k) (omega arith) (omega arith), r i l (suc k) c d)

    rising' : (i : ℕ) → i < m → Rising q (first_at q i) (first_at q i + count_at q i)
    rising' i l k a c = go (dec_lt i b) (dec_lt b i) (dec_lt i j)
      where
        mid : i ≡ b → Dec (suc k < j) → Dec (k < j) → scalar_at q k < scalar_at q (suc k)
        mid e (yes x) d =
            let f : first_at q i ≡ first_at p b = ap (first_at q) e ∙ sym (h.first_low b (omega arith)) in
            omega (arith, h.scalar_low k (omega (arith, s.ahead b parent)) (omega arith), h.scalar_low (suc k) (omega arith) x, here k (omega arith) (omega arith))
        mid e (no x) (yes d) =
            let f : first_at q i ≡ first_at p b = ap (first_at q) e ∙ sym (h.first_low b (omega arith)) in
            let g : count_at p b ≡ suc (count_at q i) = h.count_parent ∙ ap (λ (z : ℕ). suc (count_at q z)) (sym e) in
            let w = within p (suc m) s b parent in
            let z : suc k ≡ j = omega arith in
            let t : scalar_at p (suc k) ≡ scalar_at p j = ap (scalar_at p) z in
            let t' : scalar_at q (suc k) ≡ scalar_at q j = ap (scalar_at q) z in
            omega (arith, h.scalar_low k (omega (arith, s.ahead b parent)) d, h.scalar_high j (omega arith) (omega arith), here k (omega arith) (omega arith), here j from (omega arith))
        mid e (no x) (no d) =
            let f : first_at q i ≡ first_at p b = ap (first_at q) e ∙ sym (h.first_low b (omega arith)) in
            let g : count_at p b ≡ suc (count_at q i) = h.count_parent ∙ ap (λ (z : ℕ). suc (count_at q z)) (sym e) in
            far b k (omega arith) (omega arith) (omega arith) parent

        go : Dec (i < b) → Dec (b < i) → Dec (i < j) → scalar_at q k < scalar_at q (suc k)
        go (yes x) d e =
            let f = h.first_low i (omega arith) in
            let g = h.count_low i (omega (arith, after)) (omega arith) in
            let w = apart p (suc m) s i b x parent in
            omega (arith, h.scalar_low k (omega (arith, s.ahead i (omega arith))) (omega arith), h.scalar_low (suc k) (omega arith) (omega arith), r i (omega arith) k (omega arith) (omega arith))
        go (no x) (yes d) (yes e) =
            let f = h.first_mid i d e in
            let g = h.count_low i e (omega arith) in
            far i k (omega (arith, apart p (suc m) s b i d (omega arith))) (omega arith) (omega arith) (omega arith)
        go (no x) (yes d) (no e) =
            let f = h.first_high i (omega arith) l in
            let g = h.count_high i (omega arith) l in
            far (suc i) k (omega (arith, apart p (suc m) s b (suc i) (omega arith) (omega arith))) (omega arith) (omega arith) (omega arith)
        go (no x) (no d) e = mid (omega arith) (dec_lt (suc k) j) (dec_lt k j)

    -- ---- paths

    -- what is reached and is not the leaf is reached without it
    pub record Back (u : List ℕ) (z : ℕ) : Type 0 where
      pub old : ℕ
      pub is : sh j old ≡ z
      pub leads : reach q u ≡ at old

    pub back : (u : List ℕ) (z : ℕ) → reach p u ≡ at z → (z ≡ j → ⊥) → Back u z
    back [] z e ne = let i : 0 ≡ z = cc in record { old = 0; is = sh_low j 0 (omega (arith, after)) ∙ i; leads = refl }
    back (y ∷ u) z e ne = go (step p u y z e) (back u)
      where
        clash : at z ≡ none → ⊥
        clash e = let z : ◌≡◌ {A = ℕ} 0 1 = cc in omega arith

        use' : (k : ℕ) → Back u k → child p k y ≡ at z → Back (y ∷ u) z
        use' k f t = way (eqb f.old b) refl (eqb y (scalar_at p j)) refl
          where
            w : f.old < m
            w = reach_within q m shaped' u f.old f.leads

            from_old : child p (sh j f.old) y ≡ at z
            from_old = ap (λ (i : ℕ). child p i y) f.is ∙ t

            other : (f.old ≡ b → y ≡ scalar_at p j → ⊥) → Back (y ∷ u) z
            other nb = put (child q f.old y) refl
              where
                put : (c : Place) → child q f.old y ≡ c → Back (y ∷ u) z
                put none a = absurd (clash (sym from_old ∙ child_moved q p m b j (scalar_at p j) shaped' room h f.old y w nb ∙ ap (moved j) a))
                put (at c) a =
                    let same : at (sh j c) ≡ at z = sym (child_moved q p m b j (scalar_at p j) shaped' room h f.old y w nb ∙ ap (moved j) a) ∙ from_old in
                    record { old = c; is = cc; leads = ap (on_place none (λ i. child q i y)) f.leads ∙ a }

            way : (c : Bool) → eqb f.old b ≡ c → (c' : Bool) → eqb y (scalar_at p j) ≡ c' → Back (y ∷ u) z
            way false a c' a' = other (λ x. absurd (eqb-false f.old b a x))
            way true a false a' = other (λ x. eqb-false y (scalar_at p j) a')
            way true a true a' =
                let i : f.old ≡ b = eqb-true f.old b a in
                let x : y ≡ scalar_at p j = eqb-true y (scalar_at p j) a' in
                let stay : sh j f.old ≡ b = ap (sh j) i ∙ sh_low j b after in
                let hit : at z ≡ at j = sym from_old ∙ ap (λ (k : ℕ). child p k y) stay ∙ ap (child p b) x ∙ child_new q p m b j (scalar_at p j) shaped' room h in
                absurd (ne (cc))

        go : Step p u y z → ((k : ℕ) → reach p u ≡ at k → (k ≡ j → ⊥) → Back u k) → Back (y ∷ u) z
        go t ih = use' t.mid (ih t.mid t.there (λ e.
            let f = child_found p t.mid y z t.then in
            let c : count_at p t.mid ≡ 0 = ap (count_at p) e ∙ h.count_new in
            omega (arith, f.low, f.high))) t.then

    pub back_parent : (u : List ℕ) → reach p u ≡ at b → reach q u ≡ at b
    back_parent u e =
        let f = back u b e (omega (arith, after)) in
        f.leads ∙ ap at (pick (dec_lt f.old j) f.is)
      where
        pick : {o : ℕ} → Dec (o < j) → sh j o ≡ b → o ≡ b
        pick {o} (yes l) e = sym (sh_low j o l) ∙ e
        pick {o} (no l) e = let z : suc o ≡ b = sym (sh_high j o (omega arith)) ∙ e in absurd (omega (arith, after))

    -- ---- soundness

    pub sound' : (u : List ℕ) → reach p u ≡ at b → Sound p (suc m) j → Spare q m → length q ≡ length p → Sound q m b
    sound' u e g spare long = record {
      shaped = shaped';
      fits = omega (arith, g.fits);
      small = omega (arith, g.small);
      spare = spare;
      fit = λ i a l. fits i a l (dec_lt i j);
      start = λ i a l. starts i a l (dec_lt i j) (dec_lt 0 b);
      leaf = λ i a l ne. leaves i a l ne (dec_lt i j);
      rising = rising';
      shallow = omega (arith, ends_high q p m b j (scalar_at p j) shaped' room h (length u) (level_high q m shaped' u b path) (level_above q p m b j (scalar_at p j) shaped' room h u b path) 255 deep, g.shallow);
    }
      where
        path : reach q u ≡ at b
        path = back_parent u e

        new_path : reach p (scalar_at p j ∷ u) ≡ at j
        new_path = reach_new q p m b j (scalar_at p j) shaped' room h u path

        deep : length u < 255
        deep = go (dec_lt (length u) 255)
          where
            go : Dec (length u < 255) → length u < 255
            go (yes l) = l
            go (no l) = absurd (omega (arith, level_low p (suc m) s (scalar_at p j) u j new_path, ends_mono p (suc m) s 255 (length u) (omega arith), g.shallow, inside))

        fits : (i : ℕ) → 0 < i → i < m → Dec (i < j) → Fit (scalar_at q i) (mark_at q i)
        fits i a l (yes t) = refit (sym (h.scalar_low i a t)) (sym (h.mark_low i t)) (g.fit i a (omega arith))
        fits i a l (no t) = refit (sym (h.scalar_high i (omega arith) l)) (sym (h.mark_high i (omega arith) l)) (g.fit (suc i) (omega arith) (omega arith))

        count_q : Dec (0 < b) → count_at q 0 ≤ count_at p 0
        count_q (yes t) = omega (arith, h.count_low 0 (omega (arith, after)) (omega arith))
        count_q (no t) =
            let z : b ≡ 0 = omega arith in
            omega (arith, ap (count_at p) (sym z) ∙ h.count_parent ∙ ap (λ (y : ℕ). suc (count_at q y)) z)

        starts : (i : ℕ) → 0 < i → i ≤ count_at q 0 → Dec (i < j) → Dec (0 < b) → is_trimmed (scalar_at q i) ≡ false
        starts i a l (yes t) d = ap is_trimmed (sym (h.scalar_low i a t)) ∙ g.start i a (omega (arith, count_q d))
        starts i a l (no t) (yes d) = absurd (omega (arith, count_q (yes d), apart p (suc m) s 0 b d parent, s.start))
        starts i a l (no t) (no d) =
            let z : b ≡ 0 = omega arith in
            let c : count_at p 0 ≡ suc (count_at q 0) = ap (count_at p) (sym z) ∙ h.count_parent ∙ ap (λ (y : ℕ). suc (count_at q y)) z in
            let w = within p (suc m) s 0 s.some in
            ap is_trimmed (sym (h.scalar_high i (omega arith) (omega (arith, s.start)))) ∙ g.start (suc i) (omega arith) (omega arith)

        leaves : (i : ℕ) → 0 < i → i < m → (i ≡ b → ⊥) → Dec (i < j) → 1 ≤ count_at q i + mark_at q i
        leaves i a l ne (yes t) = omega (arith, h.count_low i t ne, h.mark_low i t, g.leaf i a (omega arith) (omega arith))
        leaves i a l ne (no t) = omega (arith, h.count_high i (omega arith) l, h.mark_high i (omega arith) l, g.leaf (suc i) (omega arith) (omega arith) (omega arith))

    pub terms' : (v : List ℕ) → term_at q v ≡ term_at p v
    terms' v = sym (same_terms q p m b j (scalar_at p j) shaped' room h v)
