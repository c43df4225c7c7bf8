-- Two lists with the same cells in one half are the same dictionary. Assumes nothing.
use Prim.Native.Nat.{ℕ, zero, suc, ◌+◌, ◌-◌, ◌*◌, ◌/◌, ◌%◌, ◌≤◌, ◌<◌}
use native.Mathlib.Omega.{arith}
use native.Mathlib.Decide.{dec_lt}
use mathlib.Core.Path.{◌≡◌, refl, sym, ap, subst, ◌∙◌}
use mathlib.Core.Bool.{true, false, cond}
use mathlib.Core.List.{List, [], ◌∷◌, ◌++◌}
use mathlib.Core.Option as option
use lib.Dec.{ltb, eqb}
use lib.ListN.{length, get_or, take, drop, take-append-drop, get_or-eq_default}
use lib.Seq.{get_or-take, get_or-drop, ext_get_or}
use Rattle.char_string_white_space.specs.Trimmed.{is_trimmed}
use Rattle.trie_pool.specs.Cells.{scalar_at, first_at, count_at, mark_at, used}
use Rattle.trie_pool.specs.Words.{Place, none, at, on_place, scan, child, walk, marked, holds, term, term_at, lacking}
use Rattle.trie_pool.specs.Levels.{hop, level_end}
use Rattle.trie_pool.specs.Rules.{capacity, cells_of, in_half}
use Rattle.trie_pool.specs.Meaning.{tally, amount}
use Rattle.trie_pool.specs.inner.Sound.{Shaped, Sound}
use Rattle.trie_pool.proofs.Rules.{sound_half, passes_half}
use Rattle.trie_pool.proofs.Shape.{refit, mark_is}
use Rattle.trie_pool.proofs.Held.{root_mark}
use Rattle.trie_check.proofs.Parts as whole
use Rattle.trie_plants.specs.declared.Plant.{Plant}
use Rattle.trie_plants.specs.declared.Plant.TheVariants.{A, B}
use Rattle.trie_plants.specs.Halves.{half_at, half_of, room_of}
use Rattle.trie_plants.specs.Rules.{in_own_half, is_plants}
use Rattle.trie_plants.proofs.Parts.{used_in_half, half_low, half_long, own_half, room_fits}

-- The root's fourth cell may differ: no rule of a half speaks of it.
module _ (p q : List ℕ) (same : (i r : ℕ) → r < 4 → (8 * i + r ≡ 3 → ⊥) → get_or q (8 * i + r) 0 ≡ get_or p (8 * i + r) 0) where
  pub used_same : used q ≡ used p
  used_same = same 0 0 (omega arith) (omega arith)

  scalar_same : (k : ℕ) → scalar_at q k ≡ scalar_at p k
  unfolding scalar_at
  scalar_same k =
      let z : 8 * k ≡ 8 * k + 0 = omega arith in
      ap (λ (j : ℕ). get_or q j 0) z ∙ same k 0 (omega arith) (omega arith) ∙ sym (ap (λ (j : ℕ). get_or p j 0) z)

  first_same : (k : ℕ) → first_at q k ≡ first_at p k
  unfolding first_at
  first_same k = same k 1 (omega arith) (omega arith)

  count_same : (k : ℕ) → count_at q k ≡ count_at p k
  unfolding count_at
  count_same k = same k 2 (omega arith) (omega arith)

  mark_same : (k : ℕ) → mark_at q k ≡ mark_at p k
  mark_same k = go (dec_lt 0 k)
    where
      go : Dec (0 < k) → mark_at q k ≡ mark_at p k
      go (yes a) = mark_is q k a ∙ same k 3 (omega arith) (omega arith) ∙ sym (mark_is p k a)
      go (no a) = let z : k ≡ 0 = omega arith in ap (mark_at q) z ∙ root_mark q ∙ sym (ap (mark_at p) z ∙ root_mark p)

  -- ---- the words

  scan_same : (x s n : ℕ) → scan q x s n ≡ scan p x s n
  scan_same x s zero = refl
  scan_same x s (suc n) =
      ap (λ (c : ℕ). cond (ltb c x) (scan q x (suc s) n) (cond (eqb c x) (at s) none)) (scalar_same s)
      ∙ ap (λ (z : Place). cond (ltb (scalar_at p s) x) z (cond (eqb (scalar_at p s) x) (at s) none)) (scan_same x (suc s) n)

  child_same : (k x : ℕ) → child q k x ≡ child p k x
  unfolding child
  child_same k x = ap (λ (f : ℕ). scan q x f (count_at q k)) (first_same k) ∙ ap (λ (c : ℕ). scan q x (first_at p k) c) (count_same k) ∙ scan_same x (first_at p k) (count_at p k)

  walk_same : (w : List ℕ) (k : ℕ) → walk q w k ≡ walk p w k
  walk_same [] k = refl
  walk_same (x ∷ w) k = ap (on_place none (λ r. walk q w r)) (child_same k x) ∙ ap (λ (f : ℕ → Place). on_place none f (child p k x)) (λ j r. walk_same w r j)

  pub term_same : (w : List ℕ) → term_at q w ≡ term_at p w
  term_same w = ap (on_place option.none (λ r. term (mark_at q r))) (walk_same w 0) ∙ ap (λ (f : ℕ → ℕ). on_place option.none (λ r. term (f r)) (walk p w 0)) (λ j r. mark_same r j)

  pub holds_same : (w : List ℕ) → holds q w ≡ holds p w
  holds_same w = ap (on_place false (λ r. marked (mark_at q r))) (walk_same w 0) ∙ ap (λ (f : ℕ → ℕ). on_place false (λ r. marked (f r)) (walk p w 0)) (λ j r. mark_same r j)

  pub lacking_same : (w : List ℕ) (k : ℕ) → lacking q w k ≡ lacking p w k
  lacking_same [] k = refl
  lacking_same (x ∷ w) k = ap (on_place (suc (length w)) (λ r. lacking q w r)) (child_same k x) ∙ ap (λ (f : ℕ → ℕ). on_place (suc (length w)) f (child p k x)) (λ j r. lacking_same w r j)

  pub amount_same : amount q ≡ amount p
  amount_same = ap (λ (f : ℕ → ℕ). tally (λ i. marked (f i)) (used q)) (λ j r. mark_same r j) ∙ ap (λ (n : ℕ). tally (λ i. marked (mark_at p i)) n) used_same

  -- ---- the rules

  ends_same : (n d : ℕ) → level_end q n d ≡ level_end p n d
  unfolding level_end
  ends_same n zero = refl
  ends_same n (suc d) = ap (hop q n) (ends_same n d) ∙ ap (λ (f : ℕ). cond (ltb (level_end p n d) n) f (level_end p n d)) (first_same (level_end p n d))

  shaped_same : (n : ℕ) → Shaped p n → Shaped q n
  shaped_same n s = record {
    some = s.some;
    start = first_same 0 ∙ s.start;
    next = λ k h. omega (arith, first_same (suc k), first_same k, count_same k, s.next k h);
    last = λ k h. omega (arith, first_same k, count_same k, s.last k h);
    ahead = λ k h. omega (arith, first_same k, s.ahead k h);
  }

  pub sound_same : (n : ℕ) → 8 * n ≤ length q + 4 → Sound p n 0 → Sound q n 0
  sound_same n fits g = record {
    shaped = shaped_same n g.shaped;
    fits = fits;
    small = g.small;
    spare = record { used = used_same ∙ g.spare.used; blank = λ k r h a. same k r a (omega (arith, g.shaped.some)) ∙ g.spare.blank k r h a };
    fit = λ k a h. refit (scalar_same k) (mark_same k) (g.fit k a h);
    start = λ k a h. ap is_trimmed (scalar_same k) ∙ g.start k a (omega (arith, count_same 0));
    leaf = λ k a h ne. omega (arith, mark_same k, count_same k, g.leaf k a h ne);
    rising = λ k h z a b. omega (arith, scalar_same z, scalar_same (suc z), first_same k, count_same k, g.rising k h z (omega (arith, first_same k)) (omega (arith, first_same k, count_same k)));
    shallow = ends_same n 255 ∙ g.shallow;
  }

  pub sound_used : 8 * used p ≤ length q + 4 → Sound p (used p) 0 → Sound q (used q) 0
  sound_used fits g = subst (λ (k : ℕ). Sound q k 0) (sym used_same) (sound_same (used p) fits g)

  pub half_same : (most : ℕ) → 8 * most ≤ length p + 4 → 8 * most ≤ length q + 4 → most ≤ 1048576 → in_half most p ≡ true → in_half most q ≡ true
  half_same most fp fq small h =
      let u = (used_in_half most p h).1 in
      passes_half most q (sound_used (omega (arith, u)) (sound_half most p h fp small)) (omega (arith, u, used_same))

-- ---- the cells of a half in the pool

pub cell_of : (plant : Plant) (pool : List ℕ) (k : ℕ) → half_at plant + k < 8 * capacity pool → get_or (half_of plant pool) k 0 ≡ get_or pool (half_at plant + k) 0
cell_of plant pool k l = get_or-drop (half_at plant) (cells_of pool) k 0 ∙ get_or-take (8 * capacity pool) pool (half_at plant + k) 0 l

pub cell_past : (plant : Plant) (pool : List ℕ) (k : ℕ) → 8 * capacity pool ≤ half_at plant + k → get_or (half_of plant pool) k 0 ≡ 0
cell_past plant pool k l = get_or-eq_default (half_of plant pool) 0 {n = k} (omega (arith, half_long plant pool))

-- ---- a half that stays in a plants' pool

module _ (plant : Plant) (old new : List ℕ) (long : length new ≡ length old) (known : is_plants old ≡ true)
    (stays : (i r : ℕ) → r < 4 → get_or (half_of plant new) (8 * i + r) 0 ≡ get_or (half_of plant old) (8 * i + r) 0) where
  pub room_kept : room_of plant new ≡ room_of plant old
  room_kept = stays 0 3 (omega arith)

  pub own_kept : in_own_half plant new ≡ true
  own_kept =
      let f = room_fits plant old known in
      let o = half_long plant old in
      let m = half_long plant new in
      let w = half_low plant in
      ap (λ (k : ℕ). in_half k (half_of plant new)) room_kept
      ∙ half_same (half_of plant old) (half_of plant new) (λ i r l ne. stays i r l) (room_of plant old) (omega (arith, f, o, w)) (omega (arith, f, m, w, long)) (omega (arith, f)) (own_half plant old known)

  pub terms_kept : (v : List ℕ) → term_at (half_of plant new) v ≡ term_at (half_of plant old) v
  terms_kept = term_same (half_of plant old) (half_of plant new) (λ i r l ne. stays i r l)

-- ---- two pools with the same halves

module _ (p q : List ℕ) (long : length p ≡ length q)
    (halves : (plant : Plant) (i r : ℕ) → r < 4 → get_or (half_of plant p) (8 * i + r) 0 ≡ get_or (half_of plant q) (8 * i + r) 0) where
  cells_same : cells_of p ≡ cells_of q
  cells_same = ext_get_or 0 (cells_of p) (cells_of q) size (λ k l. go k (dec_lt (k % 8) 4))
    where
      size : length (cells_of p) ≡ length (cells_of q)
      size = omega (arith, long, whole.long p (capacity p) refl, whole.long q (capacity q) refl)

      go : (k : ℕ) → Dec (k % 8 < 4) → get_or (cells_of p) k 0 ≡ get_or (cells_of q) k 0
      go k (yes r) =
          let z : k ≡ 8 * (k / 8) + k % 8 = omega arith in
          ap (λ (j : ℕ). get_or (cells_of p) j 0) z ∙ halves A (k / 8) (k % 8) r ∙ sym (ap (λ (j : ℕ). get_or (cells_of q) j 0) z)
      go k (no r) =
          let z : k ≡ 4 + (8 * (k / 8) + (k % 8 - 4)) = omega arith in
          ap (λ (j : ℕ). get_or (cells_of p) j 0) z ∙ sym (get_or-drop 4 (cells_of p) (8 * (k / 8) + (k % 8 - 4)) 0)
          ∙ halves B (k / 8) (k % 8 - 4) (omega arith)
          ∙ get_or-drop 4 (cells_of q) (8 * (k / 8) + (k % 8 - 4)) 0 ∙ sym (ap (λ (j : ℕ). get_or (cells_of q) j 0) z)

  -- and the same later cells are the same
  pub pool_same : (n : ℕ) → n ≡ capacity p → drop (8 * n) p ≡ drop (8 * n) q → p ≡ q
  pool_same n is later =
      let iq : n ≡ capacity q = omega (arith, long, is) in
      sym (take-append-drop (8 * n) p) ∙ ap (λ (l : List ℕ). take (8 * n) p ++ l) later
      ∙ ap (λ (l : List ℕ). l ++ drop (8 * n) q) (ap (λ (k : ℕ). take (8 * k) p) is ∙ cells_same ∙ sym (ap (λ (k : ℕ). take (8 * k) q) iq))
      ∙ take-append-drop (8 * n) q
