-- The bytes of what is listed at a node, child by child. Assumes nothing.
use Prim.Native.Nat.{ℕ, zero, suc, ◌+◌, ◌-◌, ◌*◌, ◌≤◌, ◌<◌}
use native.Mathlib.Omega.{arith}
use native.Mathlib.Numerals.{add-one}
use mathlib.Core.Path.{◌≡◌, refl, sym, ap, ◌∙◌}
use mathlib.Core.List.{List, [], ◌∷◌, ◌++◌, append_assoc, append-nil}
use lib.ListN.{length, get_or}
use Rattle.utf8_sequences.specs.Utf8.{bytes_of, encode}
use Rattle.trie_pool.specs.Cells.{scalar_at, first_at, count_at, mark_at, used}
use Rattle.trie_pool.specs.Words.{at, rev}
use Rattle.trie_pool.specs.inner.Paths.{reach}
use Rattle.trie_pool.specs.inner.Sound.{Sound}
use Rattle.trie_pool.proofs.Shape.{within, reach_within}
use Rattle.trie_pool.proofs.Held.{root_mark}
use Rattle.image_rules.specs.Records.{Term, word_records, image_of}
use Rattle.image_list.specs.Listed.{own, block, list_of}
use Rattle.image_list.specs.inner.Under.{under}
use Rattle.image_list.proofs.Under.{block_next, block_none, under_is, under_root, size_both, path_short, part_of_all, path_on}
use Rattle.image_size.specs.inner.Sizing.{Stands}
use Rattle.image_size.proofs.Bytes.{more_long, path_most, encode_none, word_long, image_long, own_none, own_some, list_most}

pub scalar_is : (p : List ℕ) (i : ℕ) → get_or p (8 * i) 0 ≡ scalar_at p i
unfolding scalar_at
scalar_is p i = refl

-- the root has no mark
pub mark_none : (p : List ℕ) (i : ℕ) → i ≡ 0 → 0 ≡ mark_at p i
mark_none p i e = sym (ap (mark_at p) e ∙ root_mark p)

-- ---- a node's own word

pub own_zero : (m bytes : ℕ) → m ≡ 0 → (u : List ℕ) → bytes ≡ length (encode (rev u [])) → 0 ≡ length (word_records (own u m))
own_zero m bytes e u l = sym (ap (λ (k : ℕ). length (word_records (own u k))) e ∙ own_none u)

pub own_more : (m bytes : ℕ) → (m ≡ 0 → ⊥) → (u : List ℕ) → bytes ≡ length (encode (rev u [])) → 8 + bytes ≡ length (word_records (own u m))
own_more zero bytes e u l = absurd (e refl)
own_more (suc c) bytes e u l = sym (ap length (own_some u c) ∙ word_long (record { word = rev u []; class = c }) ∙ ap (λ (k : ℕ). 8 + k) (sym l))

-- ---- a node

module _ {p : List ℕ} {i bytes : ℕ} (s : Stands p i bytes) where
  pub inside : i < used p
  inside = reach_within p (used p) s.sound.shaped s.path i s.leads

  -- the node's cells are there
  pub cells : 8 * i + 4 ≤ length p
  cells = omega (arith, inside, s.sound.fits)

  pub bytes_most : bytes ≤ 1020
  bytes_most = omega (arith, s.long, path_most s.path, path_short p (used p) s.sound s.path i s.leads)

  pub block_end : first_at p i + count_at p i ≤ used p
  block_end = within p (used p) s.sound.shaped i inside

  pub nodes_few : used p ≤ 1048576
  nodes_few = s.sound.small

  -- ---- a child

  module _ (k : ℕ) (low : first_at p i ≤ k) (high : k < first_at p i + count_at p i) where
    pub child_later : i < k
    child_later = omega (arith, s.sound.shaped.ahead i inside)

    pub child_stands : (x size : ℕ) → x ≡ scalar_at p k → size ≡ length (bytes_of x) → Stands p k (bytes + size)
    child_stands x size e z = record {
      sound = s.sound;
      path = scalar_at p k ∷ s.path;
      leads = path_on p (used p) s.sound s.path i k s.leads low high;
      long = omega (arith, more_long (scalar_at p k) s.path, s.long, ap (λ (y : ℕ). length (bytes_of y)) e);
    }

-- ---- the loop over the children

-- with the path u: `done` is what is counted, and the rest is still to come
pub record Done (p u : List ℕ) (i k end size : ℕ) : Type 0 where
  pub done : List Term
  pub all : done ++ block (under p) p u k (end - k) ≡ under p u i
  pub count : size ≡ length (word_records done)

pub record Sizing (p : List ℕ) (i bytes end size k : ℕ) : Type 0 where
  pub stop : end ≡ first_at p i + count_at p i
  pub low : first_at p i ≤ k
  pub high : k ≤ end
  pub each : (u : List ℕ) → reach p u ≡ at i → bytes ≡ length (encode (rev u [])) → Done p u i k end size

pub sizing_none : {p : List ℕ} {i bytes : ℕ} → Stands p i bytes → (size m first count : ℕ) → ((u : List ℕ) → bytes ≡ length (encode (rev u [])) → size ≡ length (word_records (own u m))) → m ≡ mark_at p i → first ≡ first_at p i → count ≡ count_at p i → Sizing p i bytes (first + count) size first
sizing_none {p} {i} {bytes} s size m first count own' em ef ec = record {
  stop = omega arith;
  low = omega arith;
  high = omega arith;
  each = λ u e l.
      record {
        done = own u (mark_at p i);
        all = (let a : first + count - first ≡ count_at p i = omega arith in ap (λ (z : ℕ). own u (mark_at p i) ++ block (under p) p u first z) a)
            ∙ ap (λ (z : ℕ). own u (mark_at p i) ++ block (under p) p u z (count_at p i)) ef
            ∙ sym (under_is p u i (path_short p (used p) s.sound u i e));
        count = own' u l ∙ ap (λ (z : ℕ). length (word_records (own u z))) em;
      };
}

module _ {p : List ℕ} {i bytes end size k : ℕ} (s : Stands p i bytes) (v : Sizing p i bytes end size k) (h : k < end) where
  pub below_end : k < first_at p i + count_at p i
  below_end = omega (arith, v.stop)

  -- its cells are there
  pub kid_in : (8 * k + 4 ≤ length p) × (k < used p) × (used p ≤ 1048576) × (i < k)
  kid_in =
      let e = block_end s in
      (omega (arith, below_end, s.sound.fits), omega (arith, below_end), nodes_few s, child_later s k v.low below_end)

  module _ (x n r : ℕ) (ex : x ≡ scalar_at p k) (en : n ≡ length (bytes_of x)) (is : (u : List ℕ) → reach p u ≡ at k → bytes + n ≡ length (encode (rev u [])) → r ≡ length (word_records (under p u k))) where
    kid : (u : List ℕ) → reach p u ≡ at i → bytes ≡ length (encode (rev u [])) → r ≡ length (word_records (under p (scalar_at p k ∷ u) k))
    kid u e l = is (scalar_at p k ∷ u) (path_on p (used p) s.sound u i k e v.low below_end) (omega (arith, more_long (scalar_at p k) u, ap (λ (y : ℕ). length (bytes_of y)) ex))

    next : (u : List ℕ) → reach p u ≡ at i → bytes ≡ length (encode (rev u [])) → Done p u i (k + 1) end (size + r)
    next u e l =
        let d = v.each u e l in
        record {
          done = d.done ++ under p (scalar_at p k ∷ u) k;
          all = append_assoc d.done (under p (scalar_at p k ∷ u) k) (block (under p) p u (k + 1) (end - (k + 1)))
              ∙ ap (λ (z : ℕ). d.done ++ (under p (scalar_at p k ∷ u) k ++ block (under p) p u z (end - z))) (add-one k)
              ∙ ap (λ (l : List Term). d.done ++ l) (sym (block_next (under p) p u k end h)) ∙ d.all;
          count = omega (arith, d.count, kid u e l, size_both d.done (under p (scalar_at p k ∷ u) k));
        }

    pub size_fits : size + r ≤ 1077936128
    size_fits =
        let d = next s.path s.leads s.long in
        omega (
          arith,
          d.count,
          ap (λ (l : List Term). length (word_records l)) d.all,
          size_both d.done (block (under p) p s.path (k + 1) (end - (k + 1))),
          part_of_all p (used p) s.sound s.path i s.leads,
          list_most p (used p) s.sound,
        )

    pub sizing_next : Sizing p i bytes end (size + r) (k + 1)
    sizing_next = record { stop = v.stop; low = omega (arith, v.low); high = omega arith; each = next }

pub sizing_all : {p : List ℕ} {i bytes end size k : ℕ} → Sizing p i bytes end size k → end ≤ k → (u : List ℕ) → reach p u ≡ at i → bytes ≡ length (encode (rev u [])) → size ≡ length (word_records (under p u i))
sizing_all {p} {i} {bytes} {end} {size} {k} v h u e l =
    let d = v.each u e l in
    d.count ∙ ap (λ (z : List Term). length (word_records z)) (sym (append-nil d.done) ∙ ap (λ (z : List Term). d.done ++ z) (sym (block_none (under p) p u k end h)) ∙ d.all)

-- ---- the root

pub root_stands : (p : List ℕ) → Sound p (used p) 0 → Stands p 0 0
root_stands p g = record { sound = g; path = []; leads = refl; long = sym (ap length encode_none) }

module _ (p : List ℕ) (g : Sound p (used p) 0) (r : ℕ) (is : (u : List ℕ) → reach p u ≡ at 0 → 0 ≡ length (encode (rev u [])) → r ≡ length (word_records (under p u 0))) where
  whole : r ≡ length (word_records (list_of p))
  whole = is [] refl (sym (ap length encode_none)) ∙ ap (λ (l : List Term). length (word_records l)) (sym (under_root p))

  pub image_is : r + 10 ≡ length (image_of (list_of p))
  image_is = ap (λ (k : ℕ). k + 10) whole ∙ sym (image_long (list_of p))

  pub image_most : r ≤ 1077936128
  image_most = omega (arith, whole, list_most p (used p) g)
