-- One leaf more keeps a dictionary sound. Assumes nothing.
use mathlib.Core.Path.{◌≡◌, refl, sym, ap, subst, ◌∙◌}
use mathlib.Core.Bool.{true, not, false}
use mathlib.Core.List.{List, [], ◌∷◌}
use Prim.Native.Nat.{ℕ, zero, suc, ◌+◌, ◌-◌, ◌*◌, ◌≤◌, ◌<◌}
use native.Mathlib.Omega.{arith}
use native.Mathlib.Decide.{dec_lt}
use lib.ListN.{length}
use Rattle.trie_pool.specs.Cells.{scalar_at, first_at, count_at, mark_at}
use Rattle.trie_pool.specs.inner.Paths.{reach}
use Rattle.trie_pool.specs.inner.Sound.{Fit, Shaped, Rising, Sound}
use Rattle.trie_pool.specs.Levels.{hop, level_end}
use Rattle.trie_pool.specs.Words.{none, at, on_place, child}
use Rattle.trie_leaf.specs.inner.Planting.{Room, Planted}
use Rattle.trie_pool.proofs.Shape.{refit, apart, within, step, reach_within}
use Rattle.trie_pool.proofs.Level.{hop_first, hop_stay, ends_zero, ends_suc, ends_upto, ends_mono, first_mono, block_before, level_high, level_low}
use Rattle.trie_leaf.proofs.Leaf.{behind, sh, sh_low, moved, child_new, child_lack, child_moved}
use Rattle.char_string_white_space.specs.Trimmed.{is_trimmed}
use Rattle.char_string_scalars.specs.Scalars.{is_scalar}

-- a number is below j, or j, or one more than one that is not below j
pub data Spot (j : ℕ) : ℕ → Type 0 where
  low : {i : ℕ} → i < j → Spot j i
  new : Spot j j
  high : {i : ℕ} → j ≤ i → Spot j (suc i)

pub spot : (j i : ℕ) → Spot j i
spot j i = go (dec_lt i j) (dec_lt j i)
  where
    up : (k : ℕ) → j < k → Spot j k
    up zero h = absurd (omega arith)
    up (suc k) h = let l : j ≤ k = omega arith in high l

    go : Dec (i < j) → Dec (j < i) → Spot j i
    go (yes l) d = low l
    go (no l) (yes m) = up i m
    go (no l) (no m) = let e : j ≡ i = omega arith in subst (Spot j) e new

module _ (p p' : List ℕ) (n b j x : ℕ) (s : Shaped p n) (o : Room p n b j x) (h : Planted p p' n b j x) where
  after : b < j
  after = behind p p' n b j x s o h

  upto : j ≤ n
  upto = omega (arith, within p n s b o.parent, o.upto)

  -- where blocks end
  end_low : (i : ℕ) → i < b → first_at p' i + count_at p' i ≡ first_at p i + count_at p i
  end_low i l = omega (arith, h.first_low i (omega arith), h.count_low i (omega (arith, after)) (omega arith))

  first_on : (i : ℕ) → b < i → i < j → first_at p' i ≡ suc (first_at p i)
  first_on = h.first_mid

  end_mid : (i : ℕ) → b ≤ i → i < j → first_at p' i + count_at p' i ≡ suc (first_at p i + count_at p i)
  end_mid i l u = go (dec_lt b i)
    where
      go : Dec (b < i) → first_at p' i + count_at p' i ≡ suc (first_at p i + count_at p i)
      go (yes q) = omega (arith, h.first_mid i q u, h.count_low i u (omega arith))
      go (no q) = let e : i ≡ b = omega arith in rw e (omega (arith, h.first_low b (omega arith), h.count_parent))

  end_new : (i : ℕ) → suc i ≡ j → first_at p' j + count_at p' j ≡ suc (first_at p i + count_at p i)
  end_new i e = omega (arith, h.first_new i e, h.count_new)

  end_high : (i : ℕ) → j ≤ i → i < n → first_at p' (suc i) + count_at p' (suc i) ≡ suc (first_at p i + count_at p i)
  end_high i l u = omega (arith, h.first_high i l u, h.count_high i l u)

  -- the first child of i + 1 is where the block of i ends
  next' : (i : ℕ) → suc i < suc n → Spot j i → first_at p' (suc i) ≡ first_at p' i + count_at p' i
  next' i l (low u) = go (dec_lt i b) (dec_lt (suc i) j)
    where
      go : Dec (i < b) → Dec (suc i < j) → first_at p' (suc i) ≡ first_at p' i + count_at p' i
      go (yes q) d = omega (arith, h.first_low (suc i) q, s.next i (omega (arith, o.parent)), end_low i q)
      go (no q) (yes m) = omega (arith, h.first_mid (suc i) (omega arith) m, s.next i (omega (arith, upto)), end_mid i (omega arith) u)
      go (no q) (no m) = let e : suc i ≡ j = omega arith in ap (first_at p') e ∙ omega (arith, h.first_new i e, end_mid i (omega arith) u)
  next' i l new = prior i refl
    where
      prior : (k : ℕ) → k ≡ j → first_at p' (suc j) ≡ first_at p' j + count_at p' j
      prior zero e = absurd (omega (arith, after))
      prior (suc k) e = omega (arith, h.first_high j (omega arith) (omega arith), end_new k e, s.next k (omega arith), ap (first_at p) e)
  next' i l (high {i = k} u) = omega (arith, h.first_high (suc k) (omega arith) (omega arith), s.next k (omega arith), end_high k u (omega arith))

  last' : (i : ℕ) → suc i ≡ suc n → Spot j i → first_at p' i + count_at p' i ≡ suc n
  last' i l (low u) = absurd (omega (arith, upto))
  last' i l new = prior i refl
    where
      prior : (k : ℕ) → k ≡ j → first_at p' j + count_at p' j ≡ suc n
      prior zero e = absurd (omega (arith, after))
      prior (suc k) e = omega (arith, end_new k e, s.last k (omega arith))
  last' i l (high {i = k} u) = omega (arith, end_high k u (omega arith), s.last k (omega arith))

  ahead' : (i : ℕ) → i < suc n → Spot j i → i < first_at p' i
  ahead' i l (low u) = go (dec_lt b i)
    where
      go : Dec (b < i) → i < first_at p' i
      go (yes q) = omega (arith, h.first_mid i q u, s.ahead i (omega (arith, upto)))
      go (no q) = omega (arith, h.first_low i (omega arith), s.ahead i (omega (arith, upto)))
  ahead' i l new = prior i refl
    where
      prior : (k : ℕ) → k ≡ j → j < first_at p' j
      prior zero e = absurd (omega (arith, after))
      prior (suc k) e = omega (arith, h.first_new k e, s.ahead k (omega (arith, upto)))
  ahead' i l (high {i = k} u) = omega (arith, h.first_high k u (omega arith), s.ahead k (omega arith))

  pub shaped' : Shaped p' (suc n)
  shaped' = record {
    some = omega arith;
    start = h.first_low 0 (omega arith) ∙ s.start;
    next = λ i l. next' i l (spot j i);
    last = λ i l. last' i l (spot j i);
    ahead = λ i l. ahead' i l (spot j i);
  }

  -- ---- rising

  -- a block that lies behind the new leaf
  far : (i f c : ℕ) → j ≤ first_at p i → i < n → f ≡ suc (first_at p i) → c ≡ count_at p i → Rising p (first_at p i) (first_at p i + count_at p i) → Rising p' f (f + c)
  far i f c a l e e' r k u v = go k u v
    where
      go : (k : ℕ) → f ≤ k → suc k < f + c → scalar_at p' k < scalar_at p' (suc k)
      go zero u v = absurd (omega arith)
      go (suc k) u v =
          let w = within p n s i l in
          omega (arith, h.scalar_high k (omega arith) (omega arith), h.scalar_high (suc k) (omega arith) (omega arith), r k (omega arith) (omega arith))

  here' : Rising p (first_at p b) (first_at p b + count_at p b) → Rising p' (first_at p b) (first_at p b + suc (count_at p b))
  here' r k u v = go k u v (spot j k) (dec_lt (suc k) j)
    where
      w : first_at p b + count_at p b ≤ n
      w = within p n s b o.parent

      past : (k : ℕ) → first_at p b ≤ k → 0 < k
      past k u = omega (arith, s.ahead b o.parent)

      go : (k : ℕ) → first_at p b ≤ k → suc k < first_at p b + suc (count_at p b) → Spot j k → Dec (suc k < j) → scalar_at p' k < scalar_at p' (suc k)
      go k u v (low l) (yes m) = omega (arith, h.scalar_low k (past k u) l, h.scalar_low (suc k) (omega arith) m, r k u (omega (arith, o.upto)))
      go k u v (low l) (no m) =
          let e : suc k ≡ j = omega arith in
          let top : scalar_at p' (suc k) ≡ x = ap (scalar_at p') e ∙ h.scalar_new in
          omega (arith, h.scalar_low k (past k u) l, o.below k u l)
      go k u v new d = omega (arith, h.scalar_new, h.scalar_high j (omega arith) (omega (arith, w)), o.above j (omega arith) (omega arith))
      go k u v (high {i = i} l) d = omega (arith, h.scalar_high i l (omega (arith, w)), h.scalar_high (suc i) (omega arith) (omega (arith, w)), r i (omega (arith, o.from)) (omega arith))

  rising' : ((i : ℕ) → i < n → Rising p (first_at p i) (first_at p i + count_at p i)) → (i : ℕ) → i < suc n → Rising p' (first_at p' i) (first_at p' i + count_at p' i)
  rising' r i l = go i l (spot j i) (dec_lt i b) (dec_lt b i)
    where
      go : (i : ℕ) → i < suc n → Spot j i → Dec (i < b) → Dec (b < i) → Rising p' (first_at p' i) (first_at p' i + count_at p' i)
      go i l (low u) (yes q) d = λ k a c.
          let e = apart p n s i b q o.parent in
          omega (
            arith,
            h.scalar_low k (omega (arith, h.first_low i (omega arith), s.ahead i (omega (arith, o.parent)))) (omega (arith, o.from, end_low i q)),
            h.scalar_low (suc k) (omega arith) (omega (arith, o.from, end_low i q)),
            r i (omega (arith, o.parent)) k (omega (arith, h.first_low i (omega arith))) (omega (arith, end_low i q)),
          )
      go i l (low u) (no q) (yes m) = far i (first_at p' i) (count_at p' i) (omega (arith, apart p n s b i m (omega (arith, upto)), o.upto)) (omega (arith, upto)) (h.first_mid i m u) (h.count_low i u (omega arith)) (r i (omega (arith, upto)))
      go i l (low u) (no q) (no m) = λ k a c.
          let e : i ≡ b = omega arith in
          let f : first_at p' i ≡ first_at p b = ap (first_at p') e ∙ h.first_low b (omega arith) in
          let g : count_at p' i ≡ suc (count_at p b) = ap (count_at p') e ∙ h.count_parent in
          here' (r b o.parent) k (omega arith) (omega arith)
      go i l new q m = λ k a c. absurd (omega (arith, h.count_new))
      go i l (high {i = i₀} u) q m =
          far i₀ (first_at p' (suc i₀)) (count_at p' (suc i₀)) (omega (arith, apart p n s b i₀ (omega (arith, after)) (omega arith), o.upto)) (omega arith) (h.first_high i₀ u (omega arith)) (h.count_high i₀ u (omega arith)) (r i₀ (omega arith))

  -- ---- levels

  -- D is the level of b
  module _ (D : ℕ) (inside : b < level_end p n D) (above : (d : ℕ) → suc d ≡ D → level_end p n d ≤ b) where
    ends_low : (d : ℕ) → d ≤ D → level_end p' (suc n) d ≡ level_end p n d
    ends_low zero l = ends_zero p' (suc n) ∙ sym (ends_zero p n)
    ends_low (suc d) l =
        let ih : level_end p' (suc n) d ≡ level_end p n d = ends_low d (omega arith) in
        let m : level_end p n d ≤ b = omega (arith, ends_mono p n s d (D - 1) (omega arith), above (D - 1) (omega arith)) in
        let f : level_end p n d < n = omega (arith, o.parent) in
        ends_suc p' (suc n) d ∙ ap (hop p' (suc n)) ih ∙ hop_first p' (suc n) (level_end p n d) (omega arith) ∙ h.first_low (level_end p n d) m
        ∙ sym (ends_suc p n d ∙ hop_first p n (level_end p n d) f)

    -- the level of b ends before the place of its children
    near : level_end p n D ≤ j
    near = go D refl
      where
        go : (k : ℕ) → k ≡ D → level_end p n D ≤ j
        go zero e = let z : level_end p n D ≡ 1 = ap (level_end p n) (sym e) ∙ ends_zero p n in omega (arith, after)
        go (suc k) e =
            let z : level_end p n D ≡ hop p n (level_end p n k) = ap (level_end p n) (sym e) ∙ ends_suc p n k in
            let m = above k e in
            let f : level_end p n k < n = omega (arith, o.parent) in
            omega (arith, hop_first p n (level_end p n k) f, first_mono p n s (level_end p n k) b m o.parent, o.from)

    -- one more, for what lies behind b and not behind j
    hop_mid : (e : ℕ) → b < e → e ≤ j → hop p' (suc n) e ≡ suc (hop p n e)
    hop_mid e l u = hop_first p' (suc n) e (omega (arith, upto)) ∙ go (dec_lt e j) (dec_lt e n)
      where
        go : Dec (e < j) → Dec (e < n) → first_at p' e ≡ suc (hop p n e)
        go (yes q) d = h.first_mid e l q ∙ ap suc (sym (hop_first p n e (omega (arith, upto))))
        go (no q) (yes m) = prior e refl
          where
            prior : (k : ℕ) → k ≡ e → first_at p' e ≡ suc (hop p n e)
            prior zero z = absurd (omega arith)
            prior (suc k) z =
                let is : e ≡ j = omega arith in
                ap (first_at p') is ∙ h.first_new k (z ∙ is) ∙ ap suc (sym (s.next k (omega arith)) ∙ ap (first_at p) z ∙ sym (hop_first p n e m))
        go (no q) (no m) = prior e refl
          where
            prior : (k : ℕ) → k ≡ e → first_at p' e ≡ suc (hop p n e)
            prior zero z = absurd (omega arith)
            prior (suc k) z =
                let is : e ≡ j = omega arith in
                let end : e ≡ n = omega (arith, upto) in
                ap (first_at p') is ∙ h.first_new k (z ∙ is) ∙ ap suc (s.last k (z ∙ end) ∙ sym end ∙ sym (hop_stay p n e (omega arith)))

    hop_far : (e : ℕ) → j ≤ e → e ≤ n → hop p' (suc n) (suc e) ≡ suc (hop p n e)
    hop_far e l u = go (dec_lt e n)
      where
        go : Dec (e < n) → hop p' (suc n) (suc e) ≡ suc (hop p n e)
        go (yes q) = hop_first p' (suc n) (suc e) (omega arith) ∙ h.first_high e l q ∙ ap suc (sym (hop_first p n e q))
        go (no q) = hop_stay p' (suc n) (suc e) (omega arith) ∙ ap suc (sym (hop_stay p n e (omega arith)))

    pub ends_high : (d : ℕ) → D < d → level_end p' (suc n) d ≡ suc (level_end p n d)
    ends_high zero l = absurd (omega arith)
    ends_high (suc d) l = go (dec_lt D d) (ends_high d)
      where
        go : Dec (D < d) → (D < d → level_end p' (suc n) d ≡ suc (level_end p n d)) → level_end p' (suc n) (suc d) ≡ suc (level_end p n (suc d))
        go (yes q) ih =
            let far' : j ≤ level_end p n d =
            omega (arith, ends_mono p n s (suc D) d q, ends_suc p n D, block_before p n s (level_end p n D) b inside (ends_upto p n s D), o.upto) in
            ends_suc p' (suc n) d ∙ ap (hop p' (suc n)) (ih q) ∙ hop_far (level_end p n d) far' (ends_upto p n s d) ∙ ap suc (sym (ends_suc p n d))
        go (no q) ih =
            let e : d ≡ D = omega arith in
            let in' : b < level_end p n d = subst (λ (z : ℕ). b < level_end p n z) (sym e) inside in
            let near' : level_end p n d ≤ j = subst (λ (z : ℕ). level_end p n z ≤ j) (sym e) near in
            ends_suc p' (suc n) d ∙ ap (hop p' (suc n)) (ends_low d (omega arith)) ∙ hop_mid (level_end p n d) in' near' ∙ ap suc (sym (ends_suc p n d))

  -- ---- words

  pub reach_kept : (u : List ℕ) (r : ℕ) → reach p u ≡ at r → reach p' u ≡ at (sh j r)
  reach_kept [] r e = let z : 0 ≡ r = cc in ap at (sym (sh_low j 0 (omega (arith, after))) ∙ ap (sh j) z)
  reach_kept (y ∷ u) r e =
      let q = step p u y r e in
      let ih = reach_kept u q.mid q.there in
      let w = reach_within p n s u q.mid q.there in
      ap (on_place none (λ i. child p' i y)) ih
      ∙ child_moved p p' n b j x s o h q.mid y w (λ a c. clash (sym q.then ∙ ap (λ (z : ℕ). child p z y) a ∙ ap (child p b) c ∙ child_lack p p' n b j x s o h))
      ∙ ap (moved j) q.then
    where
      clash : {r : ℕ} → at r ≡ none → ⊥
      clash e = let z : ◌≡◌ {A = ℕ} 0 1 = cc in omega arith

  pub reach_new : (u : List ℕ) → reach p u ≡ at b → reach p' (x ∷ u) ≡ at j
  reach_new u e = ap (on_place none (λ i. child p' i x)) (reach_kept u b e) ∙ ap (λ (z : ℕ). child p' z x) (sh_low j b after) ∙ child_new p p' n b j x s o h

  pub level_above : (u : List ℕ) (r : ℕ) → reach p u ≡ at r → (d : ℕ) → suc d ≡ length u → level_end p n d ≤ r
  level_above [] r e d q = absurd (omega arith)
  level_above (y ∷ u) r e d q = let z : d ≡ length u = omega arith in rw z (level_low p n s y u r e)

  pub sound' : (u : List ℕ) → reach p u ≡ at b → length u < 255 → Sound p n b → 8 * suc n ≤ length p' + 4 → suc n ≤ 1048576 → is_scalar x ≡ true → (b ≡ 0 → is_trimmed x ≡ false) → Sound p' (suc n) j
  sound' u e deep g fit small legal start = record {
    shaped = shaped';
    fits = fit;
    small = small;
    spare = h.spare;
    fit = λ i a l. fits i a l (spot j i);
    start = λ i a l. starts i a l (spot j i) (dec_lt 0 b);
    leaf = λ i a l ne. leaves i a l ne (spot j i);
    rising = rising' g.rising;
    shallow = ends_high (length u) (level_high p n s u b e) (level_above u b e) 255 deep ∙ ap suc g.shallow;
  }
    where
      fits : (i : ℕ) → 0 < i → i < suc n → Spot j i → Fit (scalar_at p' i) (mark_at p' i)
      fits i a l (low q) = refit (h.scalar_low i a q) (h.mark_low i q) (g.fit i a (omega (arith, upto)))
      fits i a l new = refit h.scalar_new h.mark_new (record { legal = legal; mark = omega arith; stop = λ m. absurd (omega arith) })
      fits i a l (high {i = k} q) = refit (h.scalar_high k q (omega arith)) (h.mark_high k q (omega arith)) (g.fit k (omega (arith, after)) (omega arith))

      -- where b isn't the root, the root's block is as it was
      starts : (i : ℕ) → 0 < i → i ≤ count_at p' 0 → Spot j i → Dec (0 < b) → is_trimmed (scalar_at p' i) ≡ false
      starts i a l (low q) (yes t) = ap is_trimmed (h.scalar_low i a q) ∙ g.start i a (omega (arith, h.count_low 0 (omega (arith, after)) (omega arith)))
      starts i a l (low q) (no t) = ap is_trimmed (h.scalar_low i a q) ∙ g.start i a (omega (arith, o.upto, s.start, ap (first_at p) z, ap (count_at p) z))
        where
          z : b ≡ 0
          z = omega arith
      starts i a l new (yes t) = absurd (omega (arith, h.count_low 0 (omega (arith, after)) (omega arith), apart p n s 0 b t o.parent, o.from, s.start))
      starts i a l new (no t) = ap is_trimmed h.scalar_new ∙ start (omega arith)
      starts i a l (high {i = k} q) (yes t) = absurd (omega (arith, h.count_low 0 (omega (arith, after)) (omega arith), apart p n s 0 b t o.parent, o.from, s.start))
      starts i a l (high {i = k} q) (no t) =
          let z : b ≡ 0 = omega arith in
          let c : count_at p' 0 ≡ suc (count_at p 0) = ap (count_at p') (sym z) ∙ h.count_parent ∙ ap (λ (y : ℕ). suc (count_at p y)) z in
          let w = within p n s 0 s.some in
          ap is_trimmed (h.scalar_high k q (omega (arith, s.start))) ∙ g.start k (omega (arith, after)) (omega arith)

      leaves : (i : ℕ) → 0 < i → i < suc n → (i ≡ j → ⊥) → Spot j i → 1 ≤ count_at p' i + mark_at p' i
      leaves i a l ne (low q) = pick (dec_lt i b) (dec_lt b i)
        where
          pick : Dec (i < b) → Dec (b < i) → 1 ≤ count_at p' i + mark_at p' i
          pick (yes t) d = omega (arith, h.count_low i q (omega arith), h.mark_low i q, g.leaf i a (omega (arith, upto)) (omega arith))
          pick (no t) (yes t') = omega (arith, h.count_low i q (omega arith), h.mark_low i q, g.leaf i a (omega (arith, upto)) (omega arith))
          pick (no t) (no t') = let z : i ≡ b = omega arith in rw z (omega (arith, h.count_parent))
      leaves i a l ne new = absurd (ne refl)
      leaves i a l ne (high {i = k} q) = omega (arith, h.count_high k q (omega arith), h.mark_high k q (omega arith), g.leaf k (omega (arith, after)) (omega arith) (omega (arith, after)))
