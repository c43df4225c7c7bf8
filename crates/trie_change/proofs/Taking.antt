-- The steps of removing a word. Assumes nothing.
use mathlib.Core.Path.{◌≡◌, refl, sym, ap, subst, ◌∙◌}
use mathlib.Core.List.{List, [], ◌∷◌}
use Prim.Native.Nat.{ℕ, suc, ◌+◌, ◌-◌, ◌*◌, ◌≤◌, ◌<◌}
use native.Mathlib.Omega.{arith}
use native.Mathlib.Decide.{dec_lt}
use lib.ListN.{length, get_or, drop, take, set, length-drop}
use lib.Seq.{take_all}
use Rattle.trie_pool.specs.Cells.{first_at, count_at, mark_at, used}
use Rattle.trie_pool.specs.inner.Paths.{reach}
use Rattle.trie_pool.specs.inner.Sound.{Shaped, Readable, Spare, Rising, Sound}
use Rattle.trie_pool.specs.Words.{none, at, on_place, child, walk, term, term_at, rev}
use mathlib.Core.Option as option
use Rattle.trie_child.specs.inner.Search.{to_place}
use Rattle.trie_leaf.specs.inner.Planting.{Beside}
use Rattle.trie_leaf.specs.inner.Plucking.{Plucks, Plucked}
use Rattle.trie_change.specs.inner.Taking.{Prunes, Pruned, Removes, Removed}
use Rattle.std.specs.Prelude.{Option, Some, None}
use Rattle.trie_pool.proofs.Shape.{within, reach_within, child_found, child_after, walk_reach, count_is, mark_is}
use Rattle.trie_leaf.proofs.Leaf.{sh, sh_low, sh_high}
use Rattle.trie_leaf.proofs.Gone.{back, sound', terms'}
use Rattle.trie_change.proofs.Mark.{cell, reach_same, held, others, beside, sound_cleared}
use Rattle.trie_change.proofs.Sides.{no_change, both_change}

-- ---- pruning

pub inside_prune : (p : List ℕ) (b j : ℕ) → Prunes p b j → (j < used p) × (8 * used p ≤ length p + 4) × (b < used p)
inside_prune p b j h =
    let w = reach_within p (used p) h.sound.shaped h.path b h.leads in
    (omega (arith, within p (used p) h.sound.shaped b w, h.upto), h.sound.fits, w)

-- a node that is no leaf without mark needs no exception, and then any will do
pub sound_any : (p : List ℕ) (n j b : ℕ) → 1 ≤ count_at p j + mark_at p j → Sound p n j → Sound p n b
sound_any p n j b c g = record {
  shaped = g.shaped;
  fits = g.fits;
  small = g.small;
  spare = g.spare;
  fit = g.fit;
  start = g.start;
  leaf = λ k a l ne. go k a l (dec_lt k j) (dec_lt j k);
  rising = g.rising;
  shallow = g.shallow;
}
  where
    go : (k : ℕ) → 0 < k → k < n → Dec (k < j) → Dec (j < k) → 1 ≤ count_at p k + mark_at p k
    go k a l (yes q) d = g.leaf k a l (omega arith)
    go k a l (no q) (yes q') = g.leaf k a l (omega arith)
    go k a l (no q) (no q') = let z : k ≡ j = omega arith in rw z c

-- a child is never the root
past : (p : List ℕ) (b j : ℕ) → Prunes p b j → 0 < j
past p b j h = omega (arith, h.sound.shaped.ahead b (inside_prune p b j h).2, h.from)

pub stays_count : (p : List ℕ) (b j : ℕ) → Prunes p b j → (get_or p (8 * j + 2) 0 ≡ 0 → ⊥) → Pruned p p b
stays_count p b j h ne = record { sound = sound_any p (used p) j b (omega (arith, count_is p j)) h.sound; keeps = λ v z e l. e; same = λ v. refl; fewer = omega arith; beside = no_change p }

pub stays_mark : (p : List ℕ) (b j : ℕ) → Prunes p b j → (get_or p (8 * j + 3) 0 ≡ 0 → ⊥) → Pruned p p b
stays_mark p b j h ne = record { sound = sound_any p (used p) j b (omega (arith, mark_is p j (past p b j h))) h.sound; keeps = λ v z e l. e; same = λ v. refl; fewer = omega arith; beside = no_change p }

suc_of : (p : List ℕ) (b j n : ℕ) → Prunes p b j → n ≡ used p → used p ≡ suc (n - 1)
suc_of p b j n h e = omega (arith, h.sound.shaped.some)

pub plucks : (p : List ℕ) (b j n : ℕ) → Prunes p b j → n ≡ used p → get_or p (8 * j + 2) 0 ≡ 0 → get_or p (8 * j + 3) 0 ≡ 0 → Plucks p (n - 1) b j
unfolding count_at
plucks p b j n h e c d =
    let z = suc_of p b j n h e in
    let i = inside_prune p b j h in
    record {
      shaped = subst (Shaped p) z h.sound.shaped;
      spare = subst (λ (k : ℕ). Spare p k) z h.sound.spare;
      parent = omega (arith, i.2);
      from = h.from;
      upto = h.upto;
      leaf = c;
      unmarked = mark_is p j (past p b j h) ∙ d;
      fits = omega (arith, i.1);
      small = omega (arith, h.sound.small);
    }

pub pruned : (p q : List ℕ) (b j n : ℕ) → Prunes p b j → n ≡ used p → length q ≡ length p → Plucked p q (n - 1) b j → Pruned p q b
pruned p q b j n h e long k = record {
  sound = subst (λ (x : ℕ). Sound q x b) (sym k.spare.used) (sound' p q (n - 1) b j s par h.from h.upto k.planted r h.path h.leads g k.spare long);
  keeps = λ v x t l.
      let f = back p q (n - 1) b j s par h.from h.upto k.planted r v x t (omega (arith, after)) in
      f.leads ∙ ap at (pick (dec_lt f.old j) f.is (omega (arith, after)));
  same = terms' p q (n - 1) b j s par h.from h.upto k.planted r;
  fewer = omega (arith, k.spare.used, e);
  beside = turned k.planted.beside;
}
  where
    turned : Beside q p → Beside p q
    turned f = record { root = sym f.root; aside = λ i r a c. sym (f.aside i r a c) }

    z : used p ≡ suc (n - 1)
    z = suc_of p b j n h e

    g : Sound p (suc (n - 1)) j
    g = subst (λ (x : ℕ). Sound p x j) z h.sound

    s : Shaped p (suc (n - 1))
    s = g.shaped

    r : (i : ℕ) → i < suc (n - 1) → Rising p (first_at p i) (first_at p i + count_at p i)
    r = g.rising

    par : b < suc (n - 1)
    par = omega (arith, (inside_prune p b j h).2, z)

    after : b < j
    after = omega (arith, s.ahead b par, h.from)

    pick : {o x : ℕ} → Dec (o < j) → sh j o ≡ x → x < j → o ≡ x
    pick {o} (yes l) t u = sym (sh_low j o l) ∙ t
    pick {o} {x} (no l) t u = let y : suc o ≡ x = sym (sh_high j o (omega arith)) ∙ t in absurd (omega arith)

-- ---- the recursion

pub readable : (p w : List ℕ) (b : ℕ) → Removes p b w → Readable p b
readable p w b h = record { nodes = used p; inside = reach_within p (used p) h.sound.shaped h.path b h.leads; shaped = h.sound.shaped; fits = h.sound.fits; rising = h.sound.rising }

-- the word's end: the mark goes
pub cleared : (p w : List ℕ) (b : ℕ) → Removes p b w → length w ≡ 0 → (u : List ℕ) → reach p u ≡ at b → Removed p (set p (8 * b + 3) 0) u b w
cleared p [] b h z u e =
    let i : b < used p = reach_within p (used p) h.sound.shaped h.path b h.leads in
    let l : 8 * b + 3 < length p = omega (arith, h.sound.fits) in
    let some : 0 < b = omega (arith, h.past_root) in
    let same : used (set p (8 * b + 3) 0) ≡ used p = cell p b 0 l some 0 (omega arith) in
    record {
      sound = subst (λ (n : ℕ). Sound (set p (8 * b + 3) 0) n b) (sym same) (sound_cleared p b 0 l some (used p) refl i h.sound);
      keeps = λ v x t c. reach_same p b 0 l some v ∙ t;
      gone = held p b 0 l some u e;
      others = λ v ne. others p b 0 l some (used p) h.sound.shaped u v e ne;
      fewer = omega (arith, same);
      beside = beside p b 0 l some;
    }
cleared p (x ∷ w) b h z u e = absurd (omega arith)

abbrev pub tail : List ℕ → ℕ → List ℕ
tail s a = take (length s - a) (drop a s)

pub tail_drop : (s : List ℕ) (a : ℕ) → tail s a ≡ drop a s
tail_drop s a = take_all (length s - a) (drop a s) (omega (arith, length-drop a s))

-- nothing to take out
pub lost : (p w : List ℕ) (b : ℕ) (k : Option ℕ) → Removes p b w → (length w ≡ 0 → ⊥) → to_place k ≡ child p b (get_or w 0 0) → k ≡ None → (u : List ℕ) → reach p u ≡ at b → Removed p p u b w
lost p [] b k h ne e q u t = absurd (ne refl)
lost p (x ∷ w) b k h ne e q u t = record {
  sound = sound_from p (used p) b h.sound;
  keeps = λ v z f l. f;
  gone = ap (on_place option.none (λ r. term (mark_at p r))) (walk_reach p u (x ∷ w) ∙ ap (on_place none (λ i. walk p (x ∷ w) i)) t ∙ ap (on_place none (λ r. walk p w r)) (sym e ∙ ap to_place q));
  others = λ v n. refl;
  fewer = omega arith;
  beside = no_change p;
}
  where
    sound_from : (p : List ℕ) (n b : ℕ) → Sound p n 0 → Sound p n b
    sound_from p n b g = record {
      shaped = g.shaped;
      fits = g.fits;
      small = g.small;
      spare = g.spare;
      fit = g.fit;
      start = g.start;
      leaf = λ k a l ne. g.leaf k a l (omega arith);
      rising = g.rising;
      shallow = g.shallow;
    }

pub deeper : (p w : List ℕ) (b r : ℕ) (k : Option ℕ) → Removes p b w → to_place k ≡ child p b (get_or w 0 0) → k ≡ Some r → Removes p r (tail w 1)
deeper p w b r k h e q =
    let l : b < r = child_after p (used p) h.sound.shaped b (get_or w 0 0) r (reach_within p (used p) h.sound.shaped h.path b h.leads) (sym e ∙ ap to_place q) in
    record { past_root = omega arith; sound = h.sound; path = get_or w 0 0 ∷ h.path; leads = ap (on_place none (λ i. child p i (get_or w 0 0))) h.leads ∙ sym e ∙ ap to_place q }

module _ (p w p₁ : List ℕ) (b r : ℕ) (k : Option ℕ) (h : Removes p b w) (ne : length w ≡ 0 → ⊥) (e : to_place k ≡ child p b (get_or w 0 0)) (q : k ≡ Some r)
    (ih : (u : List ℕ) → reach p u ≡ at r → Removed p p₁ u r (tail w 1)) where
  down : (u : List ℕ) → reach p u ≡ at b → reach p (get_or w 0 0 ∷ u) ≡ at r
  down u t = ap (on_place none (λ i. child p i (get_or w 0 0))) t ∙ sym e ∙ ap to_place q

  later : b < r
  later = child_after p (used p) h.sound.shaped b (get_or w 0 0) r (reach_within p (used p) h.sound.shaped h.path b h.leads) (sym e ∙ ap to_place q)

  still : (u : List ℕ) → reach p u ≡ at b → reach p₁ u ≡ at b
  still u t = (ih (get_or w 0 0 ∷ u) (down u t)).keeps u b t (omega (arith, later))

  kid_still : (u : List ℕ) → reach p u ≡ at b → child p₁ b (get_or w 0 0) ≡ at r
  kid_still u t =
      sym (ap (on_place none (λ i. child p₁ i (get_or w 0 0))) (still u t)) ∙ (ih (get_or w 0 0 ∷ u) (down u t)).keeps (get_or w 0 0 ∷ u) r (down u t) (omega arith)

  pub prunes : Prunes p₁ b r
  prunes =
      let f = child_found p₁ b (get_or w 0 0) r (kid_still h.path h.leads) in
      record { sound = (ih (get_or w 0 0 ∷ h.path) (down h.path h.leads)).sound; path = h.path; leads = still h.path h.leads; from = f.low; upto = f.high }

  word : (u : List ℕ) → rev (get_or w 0 0 ∷ u) (tail w 1) ≡ rev u w
  word u = go w ne
    where
      go : (w : List ℕ) → (length w ≡ 0 → ⊥) → rev u (get_or w 0 0 ∷ tail w 1) ≡ rev u w
      go [] n = absurd (n refl)
      go (x ∷ w) n = ap (λ (z : List ℕ). rev u (x ∷ z)) (tail_drop (x ∷ w) 1)

  pub removed : (p₂ : List ℕ) → Pruned p₁ p₂ b → (u : List ℕ) → reach p u ≡ at b → Removed p p₂ u b w
  removed p₂ t u f =
      let d = ih (get_or w 0 0 ∷ u) (down u f) in
      record {
        sound = t.sound;
        keeps = λ v z g l. t.keeps v z (d.keeps v z g (omega (arith, later))) l;
        gone = t.same (rev u w) ∙ ap (term_at p₁) (sym (word u)) ∙ d.gone;
        others = λ v n. t.same v ∙ d.others v (λ z. n (z ∙ word u));
        fewer = omega (arith, t.fewer, d.fewer);
        beside = both_change d.beside t.beside;
      }

pub length_tail : (s : List ℕ) (a : ℕ) → length (tail s a) ≡ length s - a
length_tail s a = ap length (tail_drop s a) ∙ length-drop a s

pub inside_remove : (p w : List ℕ) (b : ℕ) → Removes p b w → (b < used p) × (8 * used p ≤ length p + 4)
inside_remove p w b h = (reach_within p (used p) h.sound.shaped h.path b h.leads, h.sound.fits)
