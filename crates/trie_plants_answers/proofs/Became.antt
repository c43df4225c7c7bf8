-- What becomes of a plants' pool whose view of one plant was lent, and came back as another
-- dictionary. Assumes nothing.
use Prim.Native.Nat.{ℕ, zero, suc, ◌+◌, ◌-◌, ◌*◌, ◌/◌, ◌≤◌, ◌<◌, min}
use native.Mathlib.Omega.{arith}
use native.Mathlib.Decide.{dec_lt}
use mathlib.Core.Path.{◌≡◌, refl, sym, ap, ◌∙◌}
use mathlib.Core.Bool.{true}
use mathlib.Core.List.{List, ◌++◌}
use mathlib.Core.Option.{some}
use borrow.Author.Tests.{le-leb}
use borrow.Rule.Slice.PartMut.{same_len_mid, drop_put}
use lib.ListN.{length, get_or, take, drop, get_or-append}
use lib.Seq.{length-take-le, get_or-take, get_or-drop, take_at, drop_at}
use Rattle.trie_pool.specs.Cells.{used}
use Rattle.trie_pool.specs.Words.{term_at}
use Rattle.trie_pool.specs.Rules.{capacity, in_half}
use Rattle.trie_pool.specs.Meaning.{Terms}
use Rattle.trie_pool.specs.inner.Sound.{Sound}
use Rattle.trie_pool.proofs.Rules.{passes_half}
use Rattle.trie_leaf.specs.inner.Planting.{Beside}
use Rattle.trie_check.proofs.Parts.{inside}
use Rattle.trie_plants.specs.declared.Plant.{Plant}
use Rattle.trie_plants.specs.declared.Plant.TheVariants.{A, B}
use Rattle.trie_plants.specs.Halves.{other_of, half_at, half_of, room_of}
use Rattle.trie_plants.specs.Rules.{in_own_half, limits_fit, is_plants}
use Rattle.trie_plants.proofs.Parts.{is_plants_holds, rooms, terms_yes, terms_is, view_is, long, from}
use Rattle.trie_plants.proofs.Same.{cell_of, cell_past, room_kept, own_kept}
use Rattle.trie_plants_answers.specs.Answers.{own_terms}
use Rattle.trie_plants_answers.specs.Changes.{PlantBecame}

-- the limits fit where both are as they were
limits_still_fit : (plant : Plant) (old new : List ℕ) → length new ≡ length old → is_plants old ≡ true
    → room_of plant new ≡ room_of plant old → room_of (other_of plant) new ≡ room_of (other_of plant) old → limits_fit new ≡ true
limits_still_fit A old new l e a b = le-leb (room_of A new + room_of B new) (suc (capacity new)) (omega (arith, rooms old e, a, b, l))
limits_still_fit B old new l e a b = le-leb (room_of A new + room_of B new) (suc (capacity new)) (omega (arith, rooms old e, a, b, l))

module _ (plant : Plant) (old : List ℕ) (known : is_plants old ≡ true) (n : ℕ) (n_is : n ≡ min (length old / 8) 1048576) (a : ℕ) (a_is : a ≡ half_at plant)
    (half : List ℕ) (back : length half ≡ length (take (8 * n - a) (drop a old))) (beside : Beside (take (8 * n - a) (drop a old)) half) where
  -- the pool with the view back in its place
  abbrev put : List ℕ
  put = take a old ++ (half ++ drop (8 * n - a) (drop a old))

  starts : a + 4 ≤ 8 * n
  starts = from plant old n n_is a a_is known

  fits : 8 * n ≤ length old
  fits = inside old n n_is

  size : length half ≡ 8 * n - a
  size = back ∙ long plant old n n_is a a_is

  pub put_long : length put ≡ length old
  put_long = same_len_mid a (8 * n - a) old half back

  n_put : n ≡ min (length put / 8) 1048576
  n_put = n_is ∙ ap (λ (k : ℕ). min (k / 8) 1048576) (sym put_long)

  behind : drop a put ≡ half ++ drop (8 * n - a) (drop a old)
  behind = drop_at (take a old) (half ++ drop (8 * n - a) (drop a old)) a (length-take-le a old (omega (arith, starts, fits)))

  pub put_half : half_of plant put ≡ half
  put_half = sym (view_is plant put n n_put a a_is) ∙ ap (take (8 * n - a)) behind ∙ take_at half (drop (8 * n - a) (drop a old)) (8 * n - a) size

  -- ---- the other cells

  before : (k : ℕ) → k < a → get_or put k 0 ≡ get_or old k 0
  before k l = get_or-append (take a old) (half ++ drop (8 * n - a) (drop a old)) 0 k (omega (arith, length-take-le a old (omega (arith, starts, fits)))) ∙ get_or-take a old k 0 l

  aside : (k i r : ℕ) → 4 ≤ r → r < 8 → k ≡ a + (8 * i + r) → k < 8 * n → get_or put k 0 ≡ get_or old k 0
  aside k i r low high z l =
      ap (λ (j : ℕ). get_or put j 0) z ∙ sym (get_or-drop a put (8 * i + r) 0) ∙ ap (λ (q : List ℕ). get_or q (8 * i + r) 0) behind
      ∙ get_or-append half (drop (8 * n - a) (drop a old)) 0 (8 * i + r) (omega (arith, size)) ∙ beside.aside i r low high
      ∙ get_or-take (8 * n - a) (drop a old) (8 * i + r) 0 (omega arith) ∙ get_or-drop a old (8 * i + r) 0 ∙ sym (ap (λ (j : ℕ). get_or old j 0) z)

  outside : (q : Plant) → a ≡ half_at q → (i r : ℕ) → r < 4 → half_at (other_of q) + (8 * i + r) < 8 * n
      → get_or put (half_at (other_of q) + (8 * i + r)) 0 ≡ get_or old (half_at (other_of q) + (8 * i + r)) 0
  outside A e i r h l = aside (4 + (8 * i + r)) i (4 + r) (omega arith) (omega arith) (omega (arith, e)) l
  outside B e zero r h l = before (0 + (8 * 0 + r)) (omega (arith, e))
  outside B e (suc i) r h l = aside (0 + (8 * suc i + r)) i (4 + r) (omega arith) (omega arith) (omega (arith, e)) l

  other : (i r : ℕ) → r < 4 → get_or (half_of (other_of plant) put) (8 * i + r) 0 ≡ get_or (half_of (other_of plant) old) (8 * i + r) 0
  other i r h = go (dec_lt (half_at (other_of plant) + (8 * i + r)) (8 * n))
    where
      go : Dec (half_at (other_of plant) + (8 * i + r) < 8 * n) → get_or (half_of (other_of plant) put) (8 * i + r) 0 ≡ get_or (half_of (other_of plant) old) (8 * i + r) 0
      go (yes l) = cell_of (other_of plant) put (8 * i + r) (omega (arith, n_put)) ∙ outside plant a_is i r h l ∙ sym (cell_of (other_of plant) old (8 * i + r) (omega (arith, n_is)))
      go (no l) = cell_past (other_of plant) put (8 * i + r) (omega (arith, n_put)) ∙ sym (cell_past (other_of plant) old (8 * i + r) (omega (arith, n_is)))

  limit : room_of plant put ≡ room_of plant old
  limit = ap (λ (p : List ℕ). get_or p 3 0) put_half ∙ beside.root ∙ ap (λ (p : List ℕ). get_or p 3 0) (view_is plant old n n_is a a_is)

  -- ---- the pool

  module _ (sound : Sound half (used half) 0) (room : used half ≤ room_of plant old) where
    pub put_passes : is_plants put ≡ true
    put_passes =
        is_plants_holds plant put own_in (own_kept (other_of plant) old put put_long known other)
        (limits_still_fit plant old put put_long known limit (room_kept (other_of plant) old put put_long known other))
      where
        own_in : in_own_half plant put ≡ true
        own_in = ap (λ (p : List ℕ). in_half (room_of plant put) p) put_half ∙ passes_half (room_of plant put) half sound (omega (arith, room, limit))

    pub became : (held' : Terms) → ((v : List ℕ) → term_at half v ≡ held' v) → PlantBecame plant old put held'
    became held' h = record {
      means = terms_yes plant put put_passes ∙ ap some (ap term_at put_half ∙ (λ i v. h v i));
      apart = record { limit = limit; other = other };
      later = ap (λ (k : ℕ). drop (8 * k) put) (sym n_is) ∙ drop_put a (8 * n) old half (omega (arith, starts)) fits size ∙ ap (λ (k : ℕ). drop (8 * k) old) n_is;
      kept = put_long;
    }

-- a pool in which the plant holds these words with these classes already
pub stayed : (plant : Plant) (old : List ℕ) (held' : Terms) → is_plants old ≡ true → ((v : List ℕ) → own_terms plant old v ≡ held' v) → PlantBecame plant old old held'
stayed plant old held' e h = record {
  means = terms_yes plant old e ∙ ap some (sym (terms_is plant old e) ∙ (λ i v. h v i));
  apart = record { limit = refl; other = λ i r l. refl };
  later = refl;
  kept = refl;
}
