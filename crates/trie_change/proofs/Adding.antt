-- The steps of adding a word. Assumes nothing.
use mathlib.Core.Path.{◌≡◌, refl, sym, ap, subst, ◌∙◌}
use mathlib.Core.List.{List, [], ◌∷◌}
use Prim.Native.Nat.{ℕ, suc, ◌+◌, ◌-◌, ◌*◌, ◌≤◌, ◌<◌}
use native.Mathlib.Omega.{arith}
use native.Mathlib.Decide.{dec_lt}
use lib.ListN.{length, get_or, drop, set, drop_of_length-le}
use Rattle.char_string_white_space.specs.Trimmed.{is_trimmed}
use Rattle.trie_pool.specs.Cells.{scalar_at, first_at, count_at, mark_at, used}
use Rattle.trie_pool.specs.inner.Paths.{reach}
use Rattle.trie_pool.specs.inner.Sound.{Shaped, Sound}
use Rattle.trie_pool.specs.Words.{lacking, none, at, on_place, scan, child, term_at, rev}
use Rattle.trie_child.specs.inner.Search.{Sought}
use Rattle.trie_leaf.specs.inner.Planting.{Room, Plants, Planted, Beside}
use Rattle.trie_change.specs.inner.Adding.{Enters, Entered, stayed, grew, Puts, PutIn}
use Rattle.trie_pool.proofs.Lists.{drop_next}
use Rattle.trie_pool.proofs.Shape.{within, reach_within, child_found, step, child_after, first_is, count_is, climb}
use Rattle.trie_child.proofs.Finding.{past, other, found}
use Rattle.trie_leaf.proofs.Leaf.{same_terms, child_lack}
use Rattle.trie_leaf.proofs.Keep.{reach_new, sound'}
use Rattle.trie_change.proofs.Mark.{held, others, beside, sound_marked}
use Rattle.trie_change.proofs.Sides.{no_change, both_change}
use mathlib.Core.Bool.{false}

-- ---- where a new child belongs

module _ (p : List ℕ) (b x r : ℕ) (g : Enters p b x) (h : Sought p b x r) where
  pub room_past : first_at p b + count_at p b ≤ r → Room p (used p) b r x
  room_past l = record { parent = g.inside; from = h.from; upto = h.upto; below = h.below; above = λ k a c. absurd (omega arith) }

  pub room_other : r < first_at p b + count_at p b → (scalar_at p r ≡ x → ⊥) → Room p (used p) b r x
  room_other l ne = record {
    parent = g.inside;
    from = h.from;
    upto = h.upto;
    below = h.below;
    above = λ k a c. omega (arith, h.stop l, climb p (first_at p b) (first_at p b + count_at p b) (g.sound.rising b g.inside) r k h.from a c);
  }

  pub plants : (n : ℕ) → n ≡ used p → Room p (used p) b r x → child p b x ≡ none → Plants p n b r x
  plants n e o q = subst (λ (z : ℕ). Plants p z b r x) (sym e) (record { shaped = g.sound.shaped; room = o; spare = g.sound.spare; fits = g.room q; small = g.small q })

  pub block_end : (f c : ℕ) → f ≡ get_or p (8 * b + 1) 0 → c ≡ get_or p (8 * b + 2) 0 → (f + c ≡ first_at p b + count_at p b) × (8 * (f + c) ≤ length p + 4)
  block_end f c u v =
      let a = first_is p b in
      let d = count_is p b in
      (omega arith, omega (arith, within p (used p) g.sound.shaped b g.inside, g.sound.fits))

  -- the three ways
  pub grew_past : (f c n : ℕ) (p' : List ℕ) → f ≡ get_or p (8 * b + 1) 0 → c ≡ get_or p (8 * b + 2) 0 → n ≡ used p → f + c ≤ r → Planted p p' n b r x → Entered p p' b x r
  grew_past f c n p' u v q l z = grew (room_past (omega (arith, (block_end f c u v).0))) (subst (λ (k : ℕ). Planted p p' k b r x) q z)

  pub plants_past : (f c n : ℕ) → f ≡ get_or p (8 * b + 1) 0 → c ≡ get_or p (8 * b + 2) 0 → n ≡ used p → f + c ≤ r → Plants p n b r x
  plants_past f c n u v q l =
      let e : first_at p b + count_at p b ≤ r = omega (arith, (block_end f c u v).0) in
      plants n q (room_past e) (past p b x r h e)

  pub grew_other : (f c n : ℕ) (p' : List ℕ) → f ≡ get_or p (8 * b + 1) 0 → c ≡ get_or p (8 * b + 2) 0 → n ≡ used p → r < f + c → (get_or p (8 * r) 0 ≡ x → ⊥) → Planted p p' n b r x → Entered p p' b x r
  unfolding scalar_at
  grew_other f c n p' u v q l ne z = grew (room_other (omega (arith, (block_end f c u v).0)) ne) (subst (λ (k : ℕ). Planted p p' k b r x) q z)

  pub plants_other : (f c n : ℕ) → f ≡ get_or p (8 * b + 1) 0 → c ≡ get_or p (8 * b + 2) 0 → n ≡ used p → r < f + c → (get_or p (8 * r) 0 ≡ x → ⊥) → Plants p n b r x
  unfolding scalar_at
  plants_other f c n u v q l ne =
      let e : r < first_at p b + count_at p b = omega (arith, (block_end f c u v).0) in
      plants n q (room_other e ne) (other p b x r h e ne)

  pub stayed_here : (f c : ℕ) → f ≡ get_or p (8 * b + 1) 0 → c ≡ get_or p (8 * b + 2) 0 → r < f + c → get_or p (8 * r) 0 ≡ x → Entered p p b x r
  unfolding scalar_at
  stayed_here f c u v l e = stayed refl (found p b x r h (omega (arith, (block_end f c u v).0)) e)

-- ---- the loop

pub positive : (p u : List ℕ) (n i : ℕ) → Shaped p n → reach p u ≡ at i → 1 ≤ length u → 0 < i
positive p [] n i s e l = absurd (omega arith)
positive p (y ∷ u) n i s e l = let q = step p u y i e in omega (arith, child_after p n s q.mid y i (reach_within p n s u q.mid q.there) q.then)

pub record Inv (p₀ w p : List ℕ) (i t : ℕ) : Type 0 where
  pub u : List ℕ
  pub n : ℕ
  pub upto : t ≤ length w
  pub long_u : length u ≡ t
  pub split : rev u (drop t w) ≡ w
  pub path : reach p u ≡ at i
  pub scalar : 0 < t → scalar_at p i ≡ get_or w (t - 1) 0
  pub sound : Sound p n i
  pub terms : (v : List ℕ) → term_at p v ≡ term_at p₀ v
  pub beside' : Beside p₀ p
  pub count : n + lacking p (drop t w) i ≡ used p₀ + lacking p₀ w 0
  pub long : length p ≡ length p₀

pub begin : (p w : List ℕ) (mark : ℕ) → Puts p w mark → Inv p w p 0 0
begin p w mark h = record { u = []; n = used p; upto = omega arith; long_u = refl; split = refl; path = refl; scalar = λ l. absurd (omega arith); sound = h.sound; terms = λ v. refl; beside' = no_change p; count = refl; long = refl }

lacking_leaf : (p w : List ℕ) (i : ℕ) → count_at p i ≡ 0 → lacking p w i ≡ length w
unfolding child
lacking_leaf p [] i e = refl
lacking_leaf p (x ∷ w) i e = ap (λ (c : ℕ). on_place (suc (length w)) (λ r. lacking p w r) (scan p x (first_at p i) c)) e

-- the exception moves on
pub sound_moved : (p : List ℕ) (n i r x : ℕ) → child p i x ≡ at r → Sound p n i → Sound p n r
sound_moved p n i r x e g =
    let f = child_found p i x r e in
    record {
      shaped = g.shaped;
      fits = g.fits;
      small = g.small;
      spare = g.spare;
      fit = g.fit;
      start = g.start;
      leaf = λ k a l ne. go k a l (omega (arith, f.low, f.high)) (dec_lt k i) (dec_lt i k);
      rising = g.rising;
      shallow = g.shallow;
    }
  where
    go : (k : ℕ) → 0 < k → k < n → 1 ≤ count_at p i → Dec (k < i) → Dec (i < k) → 1 ≤ count_at p k + mark_at p k
    go k a l c (yes q) d = g.leaf k a l (omega arith)
    go k a l c (no q) (yes q') = g.leaf k a l (omega arith)
    go k a l c (no q) (no q') = let z : k ≡ i = omega arith in rw z (omega arith)

module _ (p₀ w p : List ℕ) (i t mark : ℕ) (pre : Puts p₀ w mark) (v : Inv p₀ w p i t) (l : t < length w) where
  x : ℕ
  x = get_or w t 0

  abbrev rest : List ℕ
  rest = drop (t + 1) w

  inside : i < v.n
  inside = reach_within p v.n v.sound.shaped v.u i v.path

  lacking_is : lacking p (drop t w) i ≡ on_place (suc (length rest)) (λ r. lacking p rest r) (child p i (get_or w t 0))
  lacking_is = ap (λ (z : List ℕ). lacking p z i) (drop_next w t l)

  lacks : child p i (get_or w t 0) ≡ none → v.n + suc (length rest) ≡ used p₀ + lacking p₀ w 0
  lacks e =
      let f : lacking p (drop t w) i ≡ suc (length rest) = lacking_is ∙ ap (on_place (suc (length rest)) (λ r. lacking p rest r)) e in
      omega (arith, v.count)

  pub enters : Enters p i (get_or w t 0)
  enters = record {
    sound = subst (λ (z : ℕ). Sound p z i) (sym is) v.sound;
    inside = omega (arith, inside, is);
    room = λ e. omega (arith, lacks e, is, pre.room, v.long);
    small = λ e. omega (arith, lacks e, is, pre.small);
  }
    where
      is : used p ≡ v.n
      is = v.sound.spare.used

  here : get_or w t 0 ≡ get_or w (t + 1 - 1) 0
  here = let e : t ≡ t + 1 - 1 = omega arith in ap (λ (k : ℕ). get_or w k 0) e

  -- only the word's first character stands below the root
  first : i ≡ 0 → t ≡ 0
  first e = go (dec_lt 0 t)
    where
      go : Dec (0 < t) → t ≡ 0
      go (yes q) = absurd (omega (arith, positive p v.u v.n i v.sound.shaped v.path (omega (arith, v.long_u))))
      go (no q) = omega arith

  pub turn : (p' : List ℕ) (r : ℕ) → length p' ≡ length p → Entered p p' i (get_or w t 0) r → Inv p₀ w p' r (t + 1)
  turn p' r kept (stayed same e) = subst (λ (z : List ℕ). Inv p₀ w z r (t + 1)) (sym same) (record {
    u = get_or w t 0 ∷ v.u;
    n = v.n;
    upto = omega arith;
    long_u = omega (arith, v.long_u);
    split = ap (rev v.u) (sym (drop_next w t l)) ∙ v.split;
    path = ap (on_place none (λ k. child p k (get_or w t 0))) v.path ∙ e;
    scalar = λ q. (child_found p i (get_or w t 0) r e).is ∙ here;
    sound = sound_moved p v.n i r (get_or w t 0) e v.sound;
    terms = v.terms;
    beside' = v.beside';
    count = ap (λ (z : ℕ). v.n + z) (sym (lacking_is ∙ ap (on_place (suc (length rest)) (λ k. lacking p rest k)) e)) ∙ v.count;
    long = v.long;
  })
  turn p' r kept (grew o' h') = record {
    u = get_or w t 0 ∷ v.u;
    n = suc v.n;
    upto = omega arith;
    long_u = omega (arith, v.long_u);
    split = ap (rev v.u) (sym (drop_next w t l)) ∙ v.split;
    path = reach_new p p' v.n i r (get_or w t 0) v.sound.shaped o h v.u v.path;
    scalar = λ q. h.scalar_new ∙ here;
    sound = sound' p p' v.n i r (get_or w t 0) v.sound.shaped o h v.u v.path (omega (arith, v.long_u, pre.short)) v.sound
        (omega (arith, enters.room lack, is, kept)) (omega (arith, enters.small lack, is)) (pre.legal t l)
        (λ z. ap (λ (k : ℕ). is_trimmed (get_or w k 0)) (first z) ∙ pre.start);
    terms = λ z. same_terms p p' v.n i r (get_or w t 0) v.sound.shaped o h z ∙ v.terms z;
    beside' = both_change v.beside' h.beside;
    count = omega (arith, lacking_leaf p' rest r h.count_new, lacks lack);
    long = kept ∙ v.long;
  }
    where
      is : used p ≡ v.n
      is = v.sound.spare.used

      o : Room p v.n i r (get_or w t 0)
      o = subst (λ (z : ℕ). Room p z i r (get_or w t 0)) is o'

      h : Planted p p' v.n i r (get_or w t 0)
      h = subst (λ (z : ℕ). Planted p p' z i r (get_or w t 0)) is h'

      lack : child p i (get_or w t 0) ≡ none
      lack = child_lack p p' v.n i r (get_or w t 0) v.sound.shaped o h

-- ---- the end

pub inside_end : (p₀ w p : List ℕ) (i t : ℕ) → Inv p₀ w p i t → 8 * i + 3 < length p
inside_end p₀ w p i t v = omega (arith, reach_within p v.n v.sound.shaped v.u i v.path, v.sound.fits)

pub done : (p₀ w p : List ℕ) (i t mark : ℕ) → Puts p₀ w mark → Inv p₀ w p i t → length w ≤ t → PutIn p₀ (set p (8 * i + 3) mark) w mark
done p₀ w p i t mark pre v l =
    let left : drop t w ≡ [] = drop_of_length-le w l in
    let word : rev v.u [] ≡ w = ap (rev v.u) (sym left) ∙ v.split in
    let count : v.n ≡ used p₀ + lacking p₀ w 0 = omega (arith, v.count, ap (λ (z : List ℕ). lacking p z i) left) in
    let in' = inside_end p₀ w p i t v in
    let within' : i < v.n = reach_within p v.n v.sound.shaped v.u i v.path in
    let some : 0 < i = positive p v.u v.n i v.sound.shaped v.path (omega (arith, v.long_u, pre.some)) in
    let whole : t ≡ length w = omega (arith, v.upto) in
    let stop : is_trimmed (scalar_at p i) ≡ false = ap is_trimmed (v.scalar (omega (arith, pre.some)) ∙ ap (λ (k : ℕ). get_or w (k - 1) 0) whole) ∙ pre.stop in
    record {
      sound = subst (λ (z : ℕ). Sound (set p (8 * i + 3) mark) z 0) count (sound_marked p i mark in' some v.n pre.marks pre.upto within' stop v.sound);
      held = ap (term_at (set p (8 * i + 3) mark)) (sym word) ∙ held p i mark in' some v.u v.path;
      others = λ z ne. others p i mark in' some v.n v.sound.shaped v.u z v.path (λ e. ne (e ∙ word)) ∙ v.terms z;
      beside = both_change v.beside' (beside p i mark in' some);
    }
