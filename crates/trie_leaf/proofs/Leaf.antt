-- What one leaf more changes: every node keeps its children, under new numbers, and the words that
-- are held and their classes are the same. Assumes nothing.
use mathlib.Core.Path.{◌≡◌, refl, sym, ap, ◌∙◌}
use mathlib.Core.Bool.{Bool, true, false, cond}
use mathlib.Core.List.{List, [], ◌∷◌}
use Prim.Native.Nat.{ℕ, zero, suc, ◌+◌, ◌-◌, ◌≤◌, ◌<◌}
use native.Mathlib.Omega.{arith}
use native.Mathlib.Decide.{dec_lt}
use borrow.Author.Tests.{lt-ltb, le-ltb, ne_eqb, eqb-true, eqb-false}
use lib.Dec.{ltb, eqb}
use Rattle.trie_pool.specs.Cells.{scalar_at, first_at, count_at, mark_at}
use Rattle.trie_pool.specs.inner.Sound.{Shaped}
use Rattle.trie_pool.specs.Words.{Place, none, at, on_place, scan, child, walk, term, term_at}
use mathlib.Core.Option.{Option}
use mathlib.Core.Option as option
use Rattle.trie_leaf.specs.inner.Planting.{Room, Planted}
use Rattle.trie_pool.proofs.Shape.{apart, within, child_found, scan_new}

-- the new number of node i, where one is put in at j
abbrev pub sh : ℕ → ℕ → ℕ
sh j i = cond (ltb i j) i (suc i)

pub sh_low : (j i : ℕ) → i < j → sh j i ≡ i
sh_low j i h = simp (lt-ltb i j h)

pub sh_high : (j i : ℕ) → j ≤ i → sh j i ≡ suc i
sh_high j i h = simp (le-ltb i j h)

abbrev pub moved : ℕ → Place → Place
moved j none = none
moved j (at r) = at (sh j r)

moved_cond : (j : ℕ) (b b' : Bool) (q : Place) (r : ℕ) → moved j (cond b q (cond b' (at r) none)) ≡ cond b (moved j q) (cond b' (at (sh j r)) none)
moved_cond j true b' q r = refl
moved_cond j false true q r = refl
moved_cond j false false q r = refl

-- ---- scans

module _ (p p' : List ℕ) (j y : ℕ) where
  scan_low : (s n : ℕ) → 0 < s → s + n ≤ j → ((k : ℕ) → 0 < k → k < j → scalar_at p' k ≡ scalar_at p k) → scan p' y s n ≡ moved j (scan p y s n)
  scan_low s zero a h f = refl
  scan_low s (suc n) a h f =
      let same : scalar_at p' s ≡ scalar_at p s = f s a (omega arith) in
      let stay : sh j s ≡ s = sh_low j s (omega arith) in
      let ih = scan_low (suc s) n (omega arith) (omega arith) f in
      ap (λ (c : ℕ). cond (ltb c y) (scan p' y (suc s) n) (cond (eqb c y) (at s) none)) same
      ∙ ap (λ (q : Place). cond (ltb (scalar_at p s) y) q (cond (eqb (scalar_at p s) y) (at s) none)) ih
      ∙ ap (λ (r : ℕ). cond (ltb (scalar_at p s) y) (moved j (scan p y (suc s) n)) (cond (eqb (scalar_at p s) y) (at r) none)) (sym stay)
      ∙ sym (moved_cond j (ltb (scalar_at p s) y) (eqb (scalar_at p s) y) (scan p y (suc s) n) s)

  scan_high : (s n : ℕ) → j ≤ s → ((k : ℕ) → s ≤ k → k < s + n → scalar_at p' (suc k) ≡ scalar_at p k) → scan p' y (suc s) n ≡ moved j (scan p y s n)
  scan_high s zero h f = refl
  scan_high s (suc n) h f =
      let same : scalar_at p' (suc s) ≡ scalar_at p s = f s (omega arith) (omega arith) in
      let go : sh j s ≡ suc s = sh_high j s h in
      let ih = scan_high (suc s) n (omega arith) (λ k a b. f k (omega arith) (omega arith)) in
      ap (λ (c : ℕ). cond (ltb c y) (scan p' y (suc (suc s)) n) (cond (eqb c y) (at (suc s)) none)) same
      ∙ ap (λ (q : Place). cond (ltb (scalar_at p s) y) q (cond (eqb (scalar_at p s) y) (at (suc s)) none)) ih
      ∙ ap (λ (r : ℕ). cond (ltb (scalar_at p s) y) (moved j (scan p y (suc s) n)) (cond (eqb (scalar_at p s) y) (at r) none)) (sym go)
      ∙ sym (moved_cond j (ltb (scalar_at p s) y) (eqb (scalar_at p s) y) (scan p y (suc s) n) s)

  -- one node more, whose scalar is another
  scan_here : (x n : ℕ) → (y ≡ x → ⊥) → scalar_at p' j ≡ x → ((k : ℕ) → j ≤ k → k < j + n → scalar_at p' (suc k) ≡ scalar_at p k) → ((k : ℕ) → j ≤ k → k < j + n → x < scalar_at p k)
      → scan p' y j (suc n) ≡ moved j (scan p y j n)
  scan_here x n ne new high above = side (dec_lt x y)
    where
      empty : y < x → (m : ℕ) → m ≡ n → scan p y j m ≡ none
      empty l zero q = refl
      empty l (suc m) q =
          let big : x < scalar_at p j = above j (omega arith) (omega arith) in
          ap (λ (t : Bool). cond t (scan p y (suc j) m) (cond (eqb (scalar_at p j) y) (at j) none)) (le-ltb (scalar_at p j) y (omega arith))
          ∙ ap (λ (t : Bool). cond t (at j) none) (ne_eqb (scalar_at p j) y (λ z. omega arith))

      side : Dec (x < y) → scan p' y j (suc n) ≡ moved j (scan p y j n)
      side (yes l) = ap (λ (c : ℕ). cond (ltb c y) (scan p' y (suc j) n) (cond (eqb c y) (at j) none)) new
          ∙ ap (λ (t : Bool). cond t (scan p' y (suc j) n) (cond (eqb x y) (at j) none)) (lt-ltb x y l)
          ∙ scan_high j n (omega arith) high
      side (no l) = ap (λ (c : ℕ). cond (ltb c y) (scan p' y (suc j) n) (cond (eqb c y) (at j) none)) new
          ∙ ap (λ (t : Bool). cond t (scan p' y (suc j) n) (cond (eqb x y) (at j) none)) (le-ltb x y (omega arith))
          ∙ ap (λ (t : Bool). cond t (at j) none) (ne_eqb x y (λ z. ne (sym z)))
          ∙ sym (ap (moved j) (empty (omega arith) n refl))

  scan_mid : (x d n : ℕ) (s : ℕ) → 0 < s → d + s ≡ j → d ≤ n → (y ≡ x → ⊥)
      → ((k : ℕ) → 0 < k → k < j → scalar_at p' k ≡ scalar_at p k) → scalar_at p' j ≡ x → ((k : ℕ) → j ≤ k → k < s + n → scalar_at p' (suc k) ≡ scalar_at p k)
      → ((k : ℕ) → j ≤ k → k < s + n → x < scalar_at p k)
      → scan p' y s (suc n) ≡ moved j (scan p y s n)
  scan_mid x zero n s z a b ne low new high above =
      let same : s ≡ j = omega arith in
      ap (λ (i : ℕ). scan p' y i (suc n)) same ∙ scan_here x n ne new (λ k u v. high k u (omega arith)) (λ k u v. above k u (omega arith)) ∙ ap (λ (i : ℕ). moved j (scan p y i n)) (sym same)
  scan_mid x (suc d) zero s z a b ne low new high above = absurd (omega arith)
  scan_mid x (suc d) (suc n) s z a b ne low new high above =
      let same : scalar_at p' s ≡ scalar_at p s = low s z (omega arith) in
      let stay : sh j s ≡ s = sh_low j s (omega arith) in
      let ih = scan_mid x d n (suc s) (omega arith) (omega arith) (omega arith) ne low new (λ k u v. high k u (omega arith)) (λ k u v. above k u (omega arith)) in
      ap (λ (c : ℕ). cond (ltb c y) (scan p' y (suc s) (suc n)) (cond (eqb c y) (at s) none)) same
      ∙ ap (λ (q : Place). cond (ltb (scalar_at p s) y) q (cond (eqb (scalar_at p s) y) (at s) none)) ih
      ∙ ap (λ (r : ℕ). cond (ltb (scalar_at p s) y) (moved j (scan p y (suc s) n)) (cond (eqb (scalar_at p s) y) (at r) none)) (sym stay)
      ∙ sym (moved_cond j (ltb (scalar_at p s) y) (eqb (scalar_at p s) y) (scan p y (suc s) n) s)

-- and nothing is found where it is put in
pub scan_lack : (p : List ℕ) (j x n s : ℕ) → ((k : ℕ) → s ≤ k → k < j → scalar_at p k < x) → ((k : ℕ) → j ≤ k → k < s + n → x < scalar_at p k) → scan p x s n ≡ none
scan_lack p j x zero s low high = refl
scan_lack p j x (suc n) s low high = go (dec_lt s j) (scan_lack p j x n (suc s))
  where
    go : Dec (s < j) → (((k : ℕ) → suc s ≤ k → k < j → scalar_at p k < x) → ((k : ℕ) → j ≤ k → k < suc s + n → x < scalar_at p k) → scan p x (suc s) n ≡ none) → scan p x s (suc n) ≡ none
    go (yes l) ih =
        ap (λ (t : Bool). cond t (scan p x (suc s) n) (cond (eqb (scalar_at p s) x) (at s) none)) (lt-ltb (scalar_at p s) x (low s (omega arith) l))
        ∙ ih (λ k u v. low k (omega arith) v) (λ k u v. high k u (omega arith))
    go (no l) ih =
        let big : x < scalar_at p s = high s (omega arith) (omega arith) in
        ap (λ (t : Bool). cond t (scan p x (suc s) n) (cond (eqb (scalar_at p s) x) (at s) none)) (le-ltb (scalar_at p s) x (omega arith))
        ∙ ap (λ (t : Bool). cond t (at s) none) (ne_eqb (scalar_at p s) x (λ z. omega arith))

-- ---- children

module _ (p p' : List ℕ) (n b j x : ℕ) (s : Shaped p n) (o : Room p n b j x) (h : Planted p p' n b j x) where
  pub behind : b < j
  behind = omega (arith, s.ahead b o.parent, o.from)

  pub child_new : child p' b x ≡ at j
  unfolding child
  child_new =
      scan_new p' j x (count_at p' b) (first_at p' b) (omega (arith, o.from, h.first_low b (omega arith))) (omega (arith, o.upto, h.count_parent, h.first_low b (omega arith)))
      (λ k u v. omega (arith, o.below k (omega (arith, h.first_low b (omega arith))) v, h.scalar_low k (omega (arith, h.first_low b (omega arith), s.ahead b o.parent)) v)) h.scalar_new

  pub child_lack : child p b x ≡ none
  unfolding child
  child_lack = scan_lack p j x (count_at p b) (first_at p b) o.below o.above

  -- every other child is where it was, under its new number
  pub child_moved : (i y : ℕ) → i < n → (i ≡ b → y ≡ x → ⊥) → child p' (sh j i) y ≡ moved j (child p i y)
  unfolding child
  child_moved i y l ne = pick (dec_lt i b) (dec_lt b i)
    where
      below : i < b → child p' (sh j i) y ≡ moved j (child p i y)
      below q =
          ap (λ (z : ℕ). child p' z y) (sh_low j i (omega (arith, behind)))
          ∙ ap (λ (z : ℕ). scan p' y z (count_at p' i)) (h.first_low i (omega arith))
          ∙ ap (λ (z : ℕ). scan p' y (first_at p i) z) (h.count_low i (omega (arith, behind)) (omega arith))
          ∙ scan_low p p' j y (first_at p i) (count_at p i) (omega (arith, s.ahead i l)) (omega (arith, apart p n s i b q o.parent, o.from)) h.scalar_low

      above : b < i → child p' (sh j i) y ≡ moved j (child p i y)
      above q = side (dec_lt i j)
        where
          far : j ≤ first_at p i
          far = omega (arith, apart p n s b i q l, o.upto)

          rest : first_at p' (sh j i) ≡ suc (first_at p i) → count_at p' (sh j i) ≡ count_at p i → child p' (sh j i) y ≡ moved j (child p i y)
          rest f c =
              ap (λ (z : ℕ). scan p' y z (count_at p' (sh j i))) f
              ∙ ap (λ (z : ℕ). scan p' y (suc (first_at p i)) z) c
              ∙ scan_high p p' j y (first_at p i) (count_at p i) far (λ k u v. h.scalar_high k (omega (arith, far)) (omega (arith, within p n s i l)))

          side : Dec (i < j) → child p' (sh j i) y ≡ moved j (child p i y)
          side (yes m) =
              let e : sh j i ≡ i = sh_low j i m in
              rest (ap (first_at p') e ∙ h.first_mid i q m) (ap (count_at p') e ∙ h.count_low i m (omega arith))
          side (no m) =
              let e : sh j i ≡ suc i = sh_high j i (omega arith) in
              rest (ap (first_at p') e ∙ h.first_high i (omega arith) l) (ap (count_at p') e ∙ h.count_high i (omega arith) l)

      here : i ≡ b → child p' (sh j i) y ≡ moved j (child p i y)
      here e =
          ap (λ (z : ℕ). child p' (sh j z) y) e
          ∙ ap (λ (z : ℕ). child p' z y) (sh_low j b behind)
          ∙ ap (λ (z : ℕ). scan p' y z (count_at p' b)) (h.first_low b (omega arith))
          ∙ ap (λ (z : ℕ). scan p' y (first_at p b) z) h.count_parent
          ∙ scan_mid p p' j y x (j - first_at p b) (count_at p b) (first_at p b) (omega (arith, s.ahead b o.parent)) (omega (arith, o.from)) (omega (arith, o.from, o.upto)) (ne e) h.scalar_low h.scalar_new
          (λ k u v. h.scalar_high k u (omega (arith, within p n s b o.parent))) o.above
          ∙ ap (λ (z : ℕ). moved j (child p z y)) (sym e)

      pick : Dec (i < b) → Dec (b < i) → child p' (sh j i) y ≡ moved j (child p i y)
      pick (yes q) d = below q
      pick (no q) (yes q') = above q'
      pick (no q) (no q') = here (omega arith)

  -- ---- words

  shifted : (r : ℕ) → r < n → mark_at p' (sh j r) ≡ mark_at p r
  shifted r l = go (dec_lt r j)
    where
      go : Dec (r < j) → mark_at p' (sh j r) ≡ mark_at p r
      go (yes q) = ap (mark_at p') (sh_low j r q) ∙ h.mark_low r q
      go (no q) = ap (mark_at p') (sh_high j r (omega arith)) ∙ h.mark_high r (omega arith) l

  abbrev ends_at : List ℕ → Place → Option ℕ
  ends_at q r = on_place option.none (λ i. term (mark_at q i)) r

  -- nothing stands behind a leaf that ends no word
  barren : (w : List ℕ) → ends_at p' (walk p' w j) ≡ option.none
  unfolding child
  barren [] = ap term h.mark_new
  barren (y ∷ w) = ap (λ (z : ℕ). ends_at p' (on_place none (λ r. walk p' w r) (scan p' y (first_at p' j) z))) h.count_new

  pub same_ends : (w : List ℕ) (i : ℕ) → i < n → ends_at p' (walk p' w (sh j i)) ≡ ends_at p (walk p w i)
  same_ends [] i l = ap term (shifted i l)
  same_ends (y ∷ w) i l = go (eqb i b) refl (eqb y x) refl (same_ends w)
    where
      other : ((r : ℕ) → r < n → ends_at p' (walk p' w (sh j r)) ≡ ends_at p (walk p w r)) → (i ≡ b → y ≡ x → ⊥)
          → ends_at p' (walk p' (y ∷ w) (sh j i)) ≡ ends_at p (walk p (y ∷ w) i)
      other ih ne = ap (λ (q : Place). ends_at p' (on_place none (λ r. walk p' w r) q)) (child_moved i y l ne) ∙ by (child p i y) refl
        where
          by : (q : Place) → child p i y ≡ q → ends_at p' (on_place none (λ r. walk p' w r) (moved j q)) ≡ ends_at p (on_place none (λ r. walk p w r) q)
          by none e = refl
          by (at r) e = ih r (omega (arith, (child_found p i y r e).high, within p n s i l))

      go : (t : Bool) → eqb i b ≡ t → (t' : Bool) → eqb y x ≡ t' → ((r : ℕ) → r < n → ends_at p' (walk p' w (sh j r)) ≡ ends_at p (walk p w r))
          → ends_at p' (walk p' (y ∷ w) (sh j i)) ≡ ends_at p (walk p (y ∷ w) i)
      go false e t' e' ih = other ih (λ z. absurd (eqb-false i b e z))
      go true e false e' ih = other ih (λ z. eqb-false y x e')
      go true e true e' ih =
          let i_is : i ≡ b = eqb-true i b e in
          let y_is : y ≡ x = eqb-true y x e' in
          let stay : sh j i ≡ b = sh_low j i (omega (arith, behind)) ∙ i_is in
          let found : child p' (sh j i) y ≡ at j = ap (λ (z : ℕ). child p' z y) stay ∙ ap (child p' b) y_is ∙ child_new in
          let lack : child p i y ≡ none = ap (λ (z : ℕ). child p z y) i_is ∙ ap (child p b) y_is ∙ child_lack in
          ap (λ (q : Place). ends_at p' (on_place none (λ r. walk p' w r) q)) found ∙ barren w
          ∙ sym (ap (λ (q : Place). ends_at p (on_place none (λ r. walk p w r) q)) lack)

  -- a leaf that ends no word changes no word and no class
  pub same_terms : (w : List ℕ) → term_at p' w ≡ term_at p w
  same_terms w = ap (λ (z : ℕ). ends_at p' (walk p' w z)) (sym (sh_low j 0 (omega (arith, behind)))) ∙ same_ends w 0 s.some
