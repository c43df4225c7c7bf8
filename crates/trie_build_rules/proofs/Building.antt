-- Words put in at final numbers, in rising order: one leaf more stands behind all of its level.
-- Assumes nothing.
use mathlib.Core.Path.{◌≡◌, refl, sym, ap, subst, ◌∙◌}
use mathlib.Core.List.{List, [], ◌∷◌}
use Prim.Native.Nat.{ℕ, zero, suc, ◌+◌, ◌-◌, ◌*◌, ◌≤◌, ◌<◌}
use native.Mathlib.Omega.{arith}
use native.Mathlib.Decide.{dec_lt}
use lib.ListN.{length}
use Rattle.trie_pool.specs.Cells.{scalar_at, first_at, count_at, mark_at}
use Rattle.trie_pool.specs.inner.Paths.{reach}
use Rattle.trie_pool.specs.inner.Sound.{Shaped, Rising}
use Rattle.trie_pool.specs.Levels.{hop, level_end}
use Rattle.trie_pool.specs.Words.{none, at, on_place, child}
use Rattle.trie_build_rules.specs.inner.Laid.{Laid, Appended}
use Rattle.trie_pool.proofs.Shape.{child_found, scan_new, climb, step}
use Rattle.trie_pool.proofs.Level.{hop_first, hop_stay, ends_zero, ends_suc}

module _ (p : List ℕ) (s next : ℕ → ℕ) (v : Laid p s next) where
  -- levels stand behind each other
  pub levels_apart : (d e : ℕ) → d < e → e ≤ 256 → next d ≤ s e
  levels_apart d zero h l = absurd (omega arith)
  levels_apart d (suc e) h l = go (dec_lt d e) (levels_apart d e)
    where
      go : Dec (d < e) → (d < e → e ≤ 256 → next d ≤ s e) → next d ≤ s (suc e)
      go (yes q) ih = omega (arith, ih q (omega arith), v.low e (omega arith), v.high e (omega arith))
      go (no q) ih = let z : d ≡ e = omega arith in subst (λ (k : ℕ). next k ≤ s (suc e)) (sym z) (v.high e (omega arith))

  pub reach_level : (u : List ℕ) (i : ℕ) → length u ≤ 256 → reach p u ≡ at i → (s (length u) ≤ i) × (i < next (length u))
  reach_level [] i l e = let z : 0 ≡ i = cc in (omega (arith, v.zero'), omega (arith, v.root))
  reach_level (x ∷ u) i l e =
      let q = step p u x i e in
      let h = reach_level u q.mid (omega arith) q.there in
      let f = child_found p q.mid x i q.then in
      (omega (arith, f.low, v.from (length u) q.mid (omega arith) h.0 h.1), omega (arith, f.high, v.upto (length u) q.mid (omega arith) h.0 h.1))

  -- the leaf r, first free of the level behind that of b, the last of its own level
  module _ (p' : List ℕ) (d b r x : ℕ) (deep : d < 255) (parent : suc b ≡ next d) (own : s d ≤ b) (place : r ≡ next (suc d)) (room : r < s (suc (suc d))) (h : Appended p p' b r x (next (suc (suc d)))) where
    pub ends_here : first_at p b + count_at p b ≡ r
    ends_here = v.tip d b (omega arith) own parent ∙ sym place

    -- deeper levels start behind r
    starts : (e : ℕ) → suc d < e → e ≤ 256 → r < s e
    starts e w l = go (dec_lt (suc (suc d)) e)
      where
        go : Dec (suc (suc d) < e) → r < s e
        go (yes q) = omega (arith, levels_apart (suc (suc d)) e q l, v.low (suc (suc d)) (omega arith))
        go (no q) = let z : e ≡ suc (suc d) = omega arith in subst (λ (k : ℕ). r < s k) (sym z) room

    -- no node so far is r
    pub not_new : (e i : ℕ) → e ≤ 256 → s e ≤ i → i < next e → i ≡ r → ⊥
    not_new e i l a c z = go (dec_lt e (suc d)) (dec_lt (suc d) e)
      where
        go : Dec (e < suc d) → Dec (suc d < e) → ⊥
        go (yes q) w = omega (arith, levels_apart e (suc d) q (omega arith), v.low (suc d) (omega arith))
        go (no q) (yes w) = omega (arith, starts e w l)
        go (no q) (no w) = let y : e ≡ suc d = omega arith in omega (arith, subst (λ (k : ℕ). i < next k) y c)

    -- what is below r in a block stays
    kept_child : (e i y c : ℕ) → e < 256 → s e ≤ i → i < next e → child p i y ≡ at c → child p' i y ≡ at c
    unfolding child
    kept_child e i y c l a z q =
        let f = child_found p i y c q in
        let up = v.upto e i l a z in
        let lo = v.from e i l a z in
        let same : (k : ℕ) → first_at p i ≤ k → k ≤ c → scalar_at p' k ≡ scalar_at p k = λ k m n. h.scalar_other k (not_new (suc e) k (omega arith) (omega arith) (omega (arith, f.high))) in
        let first_same : first_at p' i ≡ first_at p i = h.first_other i (not_new e i (omega arith) a z) in
        scan_new p' c y (count_at p' i) (first_at p' i) (omega (arith, f.low)) (omega (arith, f.high, more e i l a z))
        (λ k m n. omega (arith, same k (omega arith) (omega arith), f.is, v.rising e i l a z k (omega arith) (omega (arith, f.high)), climb p (first_at p i) (first_at p i + count_at p i) (v.rising e i l a z) (suc k) c (omega arith) n f.high))
        (same c f.low (omega arith) ∙ f.is)
      where
        more : (e i : ℕ) → e < 256 → s e ≤ i → i < next e → count_at p i ≤ count_at p' i
        more e i l a z = go (dec_lt i b) (dec_lt b i)
          where
            go : Dec (i < b) → Dec (b < i) → count_at p i ≤ count_at p' i
            go (yes w) w' = omega (arith, h.count_other i (not_new e i (omega arith) a z) (omega arith))
            go (no w) (yes w') = omega (arith, h.count_other i (not_new e i (omega arith) a z) (omega arith))
            go (no w) (no w') = let t : i ≡ b = omega arith in subst (λ (k : ℕ). count_at p k ≤ count_at p' k) (sym t) (omega (arith, h.count_parent))

    -- every path so far stays
    pub kept : (u : List ℕ) (i : ℕ) → length u ≤ 256 → reach p u ≡ at i → reach p' u ≡ at i
    kept [] i l e = e
    kept (y ∷ u) i l e =
        let q = step p u y i e in
        let g = reach_level u q.mid (omega arith) q.there in
        ap (on_place none (λ k. child p' k y)) (kept u q.mid (omega arith) q.there) ∙ kept_child (length u) q.mid y i (omega arith) g.0 g.1 q.then

    pub new_path : (u : List ℕ) → reach p u ≡ at b → length u ≡ d → child p' b x ≡ at r → reach p' (x ∷ u) ≡ at r
    new_path u e l c = ap (on_place none (λ k. child p' k x)) (kept u b (omega arith) e) ∙ c

    data Which (e : ℕ) : Type 0 where
      new : e ≡ suc d → Which e
      par : e ≡ d → Which e
      oth : (e ≡ suc d → ⊥) → (e ≡ d → ⊥) → Which e

    which : (e : ℕ) → Which e
    which e = go (dec_lt e d) (dec_lt d e) (dec_lt (suc d) e)
      where
        go : Dec (e < d) → Dec (d < e) → Dec (suc d < e) → Which e
        go (yes a) y z = oth (omega arith) (omega arith)
        go (no a) (no y) z = par (omega arith)
        go (no a) (yes y) (yes z) = oth (omega arith) (omega arith)
        go (no a) (yes y) (no z) = new (omega arith)

    -- b is on its own level only
    not_parent : (e i : ℕ) → e ≤ 256 → s e ≤ i → i < next e → (e ≡ d → ⊥) → i ≡ b → ⊥
    not_parent e i l a c ne z = go (dec_lt e d) (dec_lt d e)
      where
        go : Dec (e < d) → Dec (d < e) → ⊥
        go (yes q) w = omega (arith, levels_apart e d q (omega arith))
        go (no q) (yes w) = omega (arith, levels_apart d e w l)
        go (no q) (no w) = ne (omega arith)

    module _ (next' : ℕ → ℕ) (up : next' (suc d) ≡ suc r) (other : (e : ℕ) → (e ≡ suc d → ⊥) → next' e ≡ next e)
        (sibling : (k : ℕ) → suc k ≡ r → first_at p b ≤ k → scalar_at p k < x) where
      low_r : s (suc d) ≤ r
      low_r = omega (arith, v.low (suc d) (omega arith))

      -- the next free one grew, or is the same
      pub grown : (e : ℕ) → next e ≤ next' e
      grown e = go (which e)
        where
          go : Which e → next e ≤ next' e
          go (new z) = subst (λ (k : ℕ). next k ≤ next' k) (sym z) (omega (arith, up))
          go (par z) = omega (arith, other e (omega arith))
          go (oth y z) = omega (arith, other e y)

      -- a node of the new levels is r, or was there
      pub was : (e i : ℕ) → e ≤ 256 → s e ≤ i → i < next' e → (i ≡ r → ⊥) → i < next e
      was e i l a c ne = go (which e)
        where
          go : Which e → i < next e
          go (new z) = subst (λ (k : ℕ). i < next k) (sym z) (omega (arith, up, subst (λ (k : ℕ). i < next' k) z c))
          go (par z) = omega (arith, other e (omega arith))
          go (oth y z) = omega (arith, other e y)

      -- r is on the new level alone
      pub at_new : (e : ℕ) → e ≤ 256 → s e ≤ r → r < next' e → e ≡ suc d
      at_new e l a c = go (which e)
        where
          go : Which e → e ≡ suc d
          go (new z) = z
          go (par z) = absurd (not_new e r l a (omega (arith, other e (omega arith))) refl)
          go (oth y z) = absurd (not_new e r l a (omega (arith, other e y)) refl)

      same_end : (e i : ℕ) → e ≤ 256 → s e ≤ i → i < next e → (i ≡ b → ⊥) → first_at p' i + count_at p' i ≡ first_at p i + count_at p i
      same_end e i l a c nb = omega (arith, h.first_other i (not_new e i l a c), h.count_other i (not_new e i l a c) nb)

      parent_end : first_at p' b + count_at p' b ≡ suc r
      parent_end = omega (arith, h.first_other b (not_new d b (omega arith) own (omega arith)), h.count_parent, ends_here)

      new_end : first_at p' r + count_at p' r ≡ next (suc (suc d))
      new_end = omega (arith, h.first_new, h.count_new)

      first' : (e i : ℕ) → e < 256 → s e ≡ i → i < next' e → first_at p' i ≡ s (suc e)
      first' e i l a c = go (dec_lt i r) (dec_lt r i)
        where
          old : (i ≡ r → ⊥) → first_at p' i ≡ s (suc e)
          old ne = h.first_other i ne ∙ v.first e i l a (was e i (omega arith) (omega arith) c ne)

          go : Dec (i < r) → Dec (r < i) → first_at p' i ≡ s (suc e)
          go (yes q) w = old (omega arith)
          go (no q) (yes w) = old (omega arith)
          go (no q) (no w) =
              let z : i ≡ r = omega arith in
              let y : e ≡ suc d = at_new e (omega arith) (omega arith) (omega arith) in
              let t : next (suc d) ≡ s (suc d) = sym place ∙ sym z ∙ sym a ∙ ap s y in
              ap (first_at p') z ∙ h.first_new ∙ v.none' (suc d) (omega arith) t ∙ ap (λ (k : ℕ). s (suc k)) (sym y)

      follow' : (e i : ℕ) → e < 256 → s e ≤ i → suc i < next' e → first_at p' (suc i) ≡ first_at p' i + count_at p' i
      follow' e i l a c = go (dec_lt (suc i) r) (dec_lt r (suc i))
        where
          old : (suc i ≡ r → ⊥) → first_at p' (suc i) ≡ first_at p' i + count_at p' i
          old ne =
              let m = was e (suc i) (omega arith) (omega arith) c ne in
              h.first_other (suc i) ne ∙ v.follow e i l a m ∙ sym (same_end e i (omega arith) a (omega arith) (notb m (which e)))
            where
              notb : suc i < next e → Which e → i ≡ b → ⊥
              notb m (new z) = not_parent e i (omega arith) a (omega arith) (omega arith)
              notb m (par z) = λ t. let k : suc b ≡ next e = parent ∙ ap next (sym z) in omega arith
              notb m (oth y z) = not_parent e i (omega arith) a (omega arith) z

          go : Dec (suc i < r) → Dec (r < suc i) → first_at p' (suc i) ≡ first_at p' i + count_at p' i
          go (yes q) w = old (omega arith)
          go (no q) (yes w) = old (omega arith)
          go (no q) (no w) =
              let z : suc i ≡ r = omega arith in
              let y : e ≡ suc d = at_new e (omega arith) (omega arith) (omega arith) in
              let a' : s (suc d) ≤ i = subst (λ (k : ℕ). s k ≤ i) y a in
              ap (first_at p') z ∙ h.first_new ∙ sym (v.tip (suc d) i (omega arith) a' (z ∙ place)) ∙ sym (same_end (suc d) i (omega arith) a' (omega arith) (not_parent (suc d) i (omega arith) a' (omega arith) (omega arith)))

      tip' : (e i : ℕ) → e < 256 → s e ≤ i → suc i ≡ next' e → first_at p' i + count_at p' i ≡ next' (suc e)
      tip' e i l a c = go (which e)
        where
          go : Which e → first_at p' i + count_at p' i ≡ next' (suc e)
          go (new z) =
              let t : i ≡ r = omega (arith, up, ap next' z) in
              ap (λ (k : ℕ). first_at p' k + count_at p' k) t ∙ new_end ∙ sym (other (suc (suc d)) (omega arith)) ∙ ap (λ (k : ℕ). next' (suc k)) (sym z)
          go (par z) =
              let t : i ≡ b = omega (arith, other e (omega arith), ap next z) in
              ap (λ (k : ℕ). first_at p' k + count_at p' k) t ∙ parent_end ∙ sym up ∙ ap (λ (k : ℕ). next' (suc k)) (sym z)
          go (oth y z) =
              let m : suc i ≡ next e = c ∙ other e y in
              same_end e i (omega arith) a (omega arith) (not_parent e i (omega arith) a (omega arith) z) ∙ v.tip e i l a m ∙ sym (other (suc e) (omega arith))

      none'' : (e : ℕ) → e < 256 → next' e ≡ s e → next' (suc e) ≡ s (suc e)
      none'' e l c = go (which e)
        where
          go : Which e → next' (suc e) ≡ s (suc e)
          go (new z) = absurd (omega (arith, up, ap next' z, ap s z, low_r))
          go (par z) = absurd (omega (arith, other e (omega arith), ap next z, ap s z))
          go (oth y z) = other (suc e) (omega arith) ∙ v.none' e l (sym (other e y) ∙ c)

      from' : (e i : ℕ) → e < 256 → s e ≤ i → i < next' e → s (suc e) ≤ first_at p' i
      from' e i l a c = go (dec_lt i r) (dec_lt r i)
        where
          old : (i ≡ r → ⊥) → s (suc e) ≤ first_at p' i
          old ne = omega (arith, h.first_other i ne, v.from e i l a (was e i (omega arith) a c ne))

          go : Dec (i < r) → Dec (r < i) → s (suc e) ≤ first_at p' i
          go (yes q) w = old (omega arith)
          go (no q) (yes w) = old (omega arith)
          go (no q) (no w) =
              let z : i ≡ r = omega arith in
              let y : e ≡ suc d = at_new e (omega arith) (omega arith) (omega arith) in
              omega (arith, ap (first_at p') z, h.first_new, ap (λ (k : ℕ). s (suc k)) y, v.low (suc (suc d)) (omega arith))

      upto' : (e i : ℕ) → e < 256 → s e ≤ i → i < next' e → first_at p' i + count_at p' i ≤ next' (suc e)
      upto' e i l a c = go (dec_lt i r) (dec_lt r i) (dec_lt i b) (dec_lt b i)
        where
          old : (i ≡ r → ⊥) → (i ≡ b → ⊥) → first_at p' i + count_at p' i ≤ next' (suc e)
          old ne nb = let m = was e i (omega arith) a c ne in omega (arith, same_end e i (omega arith) a m nb, v.upto e i l a m, grown (suc e))

          here : (i ≡ r → ⊥) → i ≡ b → Which e → first_at p' i + count_at p' i ≤ next' (suc e)
          here ne t (par z) = omega (arith, ap (λ (k : ℕ). first_at p' k + count_at p' k) t, parent_end, up, ap (λ (k : ℕ). next' (suc k)) z)
          here ne t (new z) = absurd (not_parent e i (omega arith) a (was e i (omega arith) a c ne) (omega arith) t)
          here ne t (oth y z) = absurd (not_parent e i (omega arith) a (was e i (omega arith) a c ne) z t)

          go : Dec (i < r) → Dec (r < i) → Dec (i < b) → Dec (b < i) → first_at p' i + count_at p' i ≤ next' (suc e)
          go (no q) (no w) x y =
              let z : i ≡ r = omega arith in
              let t : e ≡ suc d = at_new e (omega arith) (omega arith) (omega arith) in
              omega (arith, ap (λ (k : ℕ). first_at p' k + count_at p' k) z, new_end, other (suc (suc d)) (omega arith), ap (λ (k : ℕ). next' (suc k)) t)
          go (yes q) w (yes x) y = old (omega arith) (omega arith)
          go (yes q) w (no x) (yes y) = old (omega arith) (omega arith)
          go (yes q) w (no x) (no y) = here (omega arith) (omega arith) (which e)
          go (no q) (yes w) (yes x) y = old (omega arith) (omega arith)
          go (no q) (yes w) (no x) (yes y) = old (omega arith) (omega arith)
          go (no q) (yes w) (no x) (no y) = here (omega arith) (omega arith) (which e)

      rising' : (e i : ℕ) → e < 256 → s e ≤ i → i < next' e → Rising p' (first_at p' i) (first_at p' i + count_at p' i)
      rising' e i l a c k m n = go (dec_lt i r) (dec_lt r i) (dec_lt i b) (dec_lt b i)
        where
          same : (j : ℕ) → (i ≡ r → ⊥) → first_at p i ≤ j → j < first_at p i + count_at p i → scalar_at p' j ≡ scalar_at p j
          same j ne y z = let t = was e i (omega arith) a c ne in h.scalar_other j (not_new (suc e) j (omega arith) (omega (arith, v.from e i l a t)) (omega (arith, v.upto e i l a t)))

          old : (i ≡ r → ⊥) → (i ≡ b → ⊥) → scalar_at p' k < scalar_at p' (suc k)
          old ne nb =
              let t = was e i (omega arith) a c ne in
              let f = h.first_other i ne in
              let g = same_end e i (omega arith) a t nb in
              omega (arith, same k ne (omega arith) (omega arith), same (suc k) ne (omega arith) (omega arith), v.rising e i l a t k (omega arith) (omega arith))

          here : (i ≡ r → ⊥) → i ≡ b → scalar_at p' k < scalar_at p' (suc k)
          here ne t = last (dec_lt (suc k) r)
            where
              f : first_at p i ≡ first_at p' i
              f = sym (h.first_other i ne)

              g : first_at p i + count_at p i ≡ r
              g = ap (λ (j : ℕ). first_at p j + count_at p j) t ∙ ends_here

              g' : first_at p' i + count_at p' i ≡ suc r
              g' = ap (λ (j : ℕ). first_at p' j + count_at p' j) t ∙ parent_end

              last : Dec (suc k < r) → scalar_at p' k < scalar_at p' (suc k)
              last (yes q) = omega (arith, same k ne (omega (arith, f)) (omega (arith, g)), same (suc k) ne (omega (arith, f)) (omega (arith, g)), v.rising e i l a (was e i (omega arith) a c ne) k (omega (arith, f)) (omega (arith, g)))
              last (no q) =
                  let z : suc k ≡ r = omega (arith, g') in
                  let fb : first_at p b ≤ k = omega (arith, f, ap (first_at p) t) in
                  omega (arith, same k ne (omega (arith, f)) (omega (arith, g)), ap (scalar_at p') z, h.scalar_new, sibling k z fb)

          go : Dec (i < r) → Dec (r < i) → Dec (i < b) → Dec (b < i) → scalar_at p' k < scalar_at p' (suc k)
          go (no q) (no w) x y = let z : i ≡ r = omega arith in absurd (omega (arith, ap (count_at p') z, h.count_new))
          go (yes q) w (yes x) y = old (omega arith) (omega arith)
          go (yes q) w (no x) (yes y) = old (omega arith) (omega arith)
          go (yes q) w (no x) (no y) = here (omega arith) (omega arith)
          go (no q) (yes w) (yes x) y = old (omega arith) (omega arith)
          go (no q) (yes w) (no x) (yes y) = old (omega arith) (omega arith)
          go (no q) (yes w) (no x) (no y) = here (omega arith) (omega arith)

      low' : (e : ℕ) → e ≤ 256 → s e ≤ next' e
      low' e l = omega (arith, v.low e l, grown e)

      high' : (e : ℕ) → e < 256 → next' e ≤ s (suc e)
      high' e l = go (which e)
        where
          go : Which e → next' e ≤ s (suc e)
          go (new z) = subst (λ (k : ℕ). next' k ≤ s (suc k)) (sym z) (omega (arith, up))
          go (par z) = omega (arith, other e (omega arith), v.high e l)
          go (oth y z) = omega (arith, other e y, v.high e l)

      pub laid' : Laid p' s next'
      laid' = record {
        root = other 0 (omega arith) ∙ v.root;
        zero' = v.zero';
        low = low';
        high = high';
        first = first';
        follow = follow';
        tip = tip';
        none' = none'';
        from = from';
        upto = upto';
        rising = rising';
      }

-- ---- all levels full

module _ (p : List ℕ) (s next : ℕ → ℕ) (v : Laid p s next) (full : (d : ℕ) → d < 256 → next d ≡ s (suc d)) (last' : next 256 ≡ s 256) where
  pub record Level (i : ℕ) : Type 0 where
    pub d : ℕ
    pub few : d < 256
    pub low : s d ≤ i
    pub high : i < next d

  pub level : (e : ℕ) → e ≤ 256 → (i : ℕ) → i < s e → Level i
  level zero l i h = absurd (omega (arith, v.zero'))
  level (suc e) l i h = go (dec_lt i (s e)) (level e)
    where
      go : Dec (i < s e) → (e ≤ 256 → (i : ℕ) → i < s e → Level i) → Level i
      go (yes q) ih = ih (omega arith) i q
      go (no q) ih = record { d = e; few = omega arith; low = omega arith; high = omega (arith, full e (omega arith)) }

  rise : (e : ℕ) → e < 256 → s e ≤ s (suc e)
  rise e l = omega (arith, v.low e (omega arith), v.high e l)

  mono : (d e : ℕ) → d ≤ e → e ≤ 256 → s d ≤ s e
  mono d zero h l = let z : d ≡ 0 = omega arith in rw z (omega arith)
  mono d (suc e) h l = go (dec_lt e d) (mono d e)
    where
      go : Dec (e < d) → (d ≤ e → e ≤ 256 → s d ≤ s e) → s d ≤ s (suc e)
      go (yes q) ih = let z : d ≡ suc e = omega arith in rw z (omega arith)
      go (no q) ih = omega (arith, ih (omega arith) (omega arith), rise e (omega arith))

  -- behind an empty level all are empty
  empty_rest : (k e : ℕ) → e + k ≡ 256 → next e ≡ s e → s 256 ≡ s e
  empty_rest zero e h z = let y : e ≡ 256 = omega arith in ap s (sym y)
  empty_rest (suc k) e h z =
      let a : s (suc e) ≡ s e = sym (full e (omega arith)) ∙ z in
      empty_rest k (suc e) (omega arith) (v.none' e (omega arith) z) ∙ a

  -- a level starts with a node unless all nodes stand before it
  starts_at : (e : ℕ) → e ≤ 256 → s e < s 256 → s e < next e
  starts_at e l h = go (dec_lt (s e) (next e))
    where
      go : Dec (s e < next e) → s e < next e
      go (yes q) = q
      go (no q) = absurd (omega (arith, empty_rest (256 - e) e (omega arith) (omega (arith, v.low e l))))

  pub one : s 1 ≡ 1
  one = sym (full 0 (omega arith)) ∙ v.root

  pub some : 0 < s 256
  some = omega (arith, one, mono 1 256 (omega arith) (omega arith))

  pub all_shaped : Shaped p (s 256)
  all_shaped = record {
    some = some;
    start = v.first 0 0 (omega arith) v.zero' (omega (arith, v.root)) ∙ one;
    next = λ i l. nexts i l (level 256 (omega arith) i (omega arith));
    last = λ i e. lasts i e (level 256 (omega arith) i (omega arith));
    ahead = λ i l. let y = level 256 (omega arith) i l in omega (arith, v.from y.d i y.few y.low y.high, y.high, full y.d y.few);
  }
    where
      nexts : (i : ℕ) → suc i < s 256 → Level i → first_at p (suc i) ≡ first_at p i + count_at p i
      nexts i l y = go (dec_lt (suc i) (next y.d))
        where
          go : Dec (suc i < next y.d) → first_at p (suc i) ≡ first_at p i + count_at p i
          go (yes q) = v.follow y.d i y.few y.low q
          go (no q) =
              let z : suc i ≡ next y.d = omega (arith, y.high) in
              let t : suc i ≡ s (suc y.d) = z ∙ full y.d y.few in
              let f : suc y.d < 256 = deep t (dec_lt (suc y.d) 256) in
              v.first (suc y.d) (suc i) f (sym t) (omega (arith, starts_at (suc y.d) (omega arith) (omega arith)))
              ∙ sym (full (suc y.d) f) ∙ sym (v.tip y.d i y.few y.low z)
            where
              deep : suc i ≡ s (suc y.d) → Dec (suc y.d < 256) → suc y.d < 256
              deep t (yes a) = a
              deep t (no a) = let z : suc y.d ≡ 256 = omega (arith, y.few) in absurd (omega (arith, ap s z))

      lasts : (i : ℕ) → suc i ≡ s 256 → Level i → first_at p i + count_at p i ≡ s 256
      lasts i e y =
          let z : suc i ≡ next y.d = omega (arith, y.high, full y.d y.few, mono (suc y.d) 256 (omega (arith, y.few)) (omega arith)) in
          v.tip y.d i y.few y.low z ∙ go z (dec_lt (suc y.d) 256)
        where
          go : suc i ≡ next y.d → Dec (suc y.d < 256) → next (suc y.d) ≡ s 256
          go z (yes a) = omega (arith, full (suc y.d) a, full y.d y.few, mono (suc (suc y.d)) 256 (omega arith) (omega arith), mono (suc y.d) (suc (suc y.d)) (omega arith) (omega arith))
          go z (no a) = let t : suc y.d ≡ 256 = omega (arith, y.few) in ap next t ∙ last'

  pub all_rising : (i : ℕ) → i < s 256 → Rising p (first_at p i) (first_at p i + count_at p i)
  all_rising i l = let y = level 256 (omega arith) i l in v.rising y.d i y.few y.low y.high

  -- levels end where the next ones start
  ends_are : (d : ℕ) → d ≤ 255 → level_end p (s 256) d ≡ s (suc d)
  ends_are zero l = ends_zero p (s 256) ∙ sym one
  ends_are (suc d) l = ends_suc p (s 256) d ∙ ap (hop p (s 256)) (ends_are d (omega arith)) ∙ go (dec_lt (s (suc d)) (s 256))
    where
      go : Dec (s (suc d) < s 256) → hop p (s 256) (s (suc d)) ≡ s (suc (suc d))
      go (yes q) = hop_first p (s 256) (s (suc d)) q ∙ v.first (suc d) (s (suc d)) (omega arith) refl (starts_at (suc d) (omega arith) q)
      go (no q) = hop_stay p (s 256) (s (suc d)) (omega arith) ∙ omega (arith, mono (suc d) (suc (suc d)) (omega arith) (omega arith), mono (suc (suc d)) 256 (omega arith) (omega arith))

  pub all_shallow : level_end p (s 256) 255 ≡ s 256
  all_shallow = ends_are 255 (omega arith)
