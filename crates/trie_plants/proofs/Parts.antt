-- The half of a pool that a plant's calls read and write, and its meaning by it. Assumes nothing.
use Prim.Native.Nat.{ℕ, suc, ◌+◌, ◌-◌, ◌*◌, ◌/◌, ◌≤◌, min}
use native.Mathlib.Omega.{arith}
use mathlib.Core.Path.{◌≡◌, refl, sym, ap, subst, ◌∙◌}
use mathlib.Core.Bool.{Bool, true, false, cond, ◌&&◌}
use mathlib.Core.List.{List}
use mathlib.Core.Option.{none, some}
use borrow.Author.Tests.{leb-true}
use lib.Dec.{leb}
use lib.ListN.{length, take, drop, length-drop}
use lib.Seq.{length-take-le}
use Rattle.lists.proofs.Parts.{drop_take}
use Rattle.trie_pool.specs.Cells.{used}
use Rattle.trie_pool.specs.Words.{holds, term_at}
use Rattle.trie_pool.specs.inner.Sound.{Sound, Readable}
use Rattle.trie_pool.specs.Rules.{capacity, cells_of, in_use, in_half}
use Rattle.trie_pool.specs.Meaning.{Terms, words_in}
use Rattle.trie_pool.specs.Classes.{words_only}
use Rattle.trie_pool.proofs.Rules.{clash, join, sound_half}
use Rattle.trie_pool.proofs.Terms.{holds_terms}
use Rattle.trie_check.specs.Refusals.{is_none, held, held_terms}
use Rattle.trie_check.proofs.Parts as whole
use Rattle.trie_plants.specs.declared.Plant.{Plant}
use Rattle.trie_plants.specs.declared.Plant.TheVariants.{A, B}
use Rattle.trie_plants.specs.Halves.{other_of, half_at, half_of, room_of}
use Rattle.trie_plants.specs.Rules.{in_own_half, limits_fit, is_plants}
use Rattle.trie_plants.specs.Meaning.{plant_meaning, plant_terms}

-- ---- meaning

pub meaning_yes : (plant : Plant) (pool : List ℕ) → is_plants pool ≡ true → plant_meaning plant pool ≡ some (holds (half_of plant pool))
unfolding plant_meaning
meaning_yes plant pool e = ap (λ (b : Bool). cond b (some (holds (half_of plant pool))) none) e

pub meaning_no : (plant : Plant) (pool : List ℕ) → is_plants pool ≡ false → plant_meaning plant pool ≡ none
unfolding plant_meaning
meaning_no plant pool e = ap (λ (b : Bool). cond b (some (holds (half_of plant pool))) none) e

-- a pool has a meaning exactly if it is a plants' pool
pub meaning_is_none : (plant : Plant) (pool : List ℕ) (b : Bool) → b ≡ is_plants pool → is_none (plant_meaning plant pool) ≡ cond b false true
meaning_is_none plant pool true e = ap is_none (meaning_yes plant pool (sym e))
meaning_is_none plant pool false e = ap is_none (meaning_no plant pool (sym e))

pub known_is : (plant : Plant) (pool : List ℕ) → is_none (plant_meaning plant pool) ≡ false → is_plants pool ≡ true
known_is plant pool h = go (is_plants pool) refl
  where
    go : (b : Bool) → is_plants pool ≡ b → b ≡ true
    go true e = refl
    go false e = clash (sym h ∙ ap is_none (meaning_no plant pool e))

pub held_is : (plant : Plant) (pool : List ℕ) → is_plants pool ≡ true → held (plant_meaning plant pool) ≡ holds (half_of plant pool)
held_is plant pool e = ap held (meaning_yes plant pool e)

-- ---- the words with their classes

pub terms_yes : (plant : Plant) (pool : List ℕ) → is_plants pool ≡ true → plant_terms plant pool ≡ some (term_at (half_of plant pool))
unfolding plant_terms
terms_yes plant pool e = ap (λ (b : Bool). cond b (some (term_at (half_of plant pool))) none) e

pub terms_is : (plant : Plant) (pool : List ℕ) → is_plants pool ≡ true → held_terms (plant_terms plant pool) ≡ term_at (half_of plant pool)
terms_is plant pool e = ap held_terms (terms_yes plant pool e)

-- the words of a plant are those with a class
pub meaning_terms : (plant : Plant) (pool : List ℕ) → plant_meaning plant pool ≡ words_only (plant_terms plant pool)
unfolding plant_meaning plant_terms
meaning_terms plant pool = go (is_plants pool)
  where
    go : (b : Bool) → cond b (some (holds (half_of plant pool))) none ≡ words_only (cond b (some (term_at (half_of plant pool))) none)
    go true = ap some (holds_terms (half_of plant pool))
    go false = refl

pub means_of : (plant : Plant) (pool : List ℕ) (t : Terms) → plant_terms plant pool ≡ some t → plant_meaning plant pool ≡ some (words_in t)
means_of plant pool t e = meaning_terms plant pool ∙ ap words_only e

pub terms_known : (plant : Plant) (pool : List ℕ) (t : Terms) → plant_terms plant pool ≡ some t → is_plants pool ≡ true
terms_known plant pool t e = known_is plant pool (ap is_none (means_of plant pool t e))

-- ---- the rules

both : (a b : Bool) → a && b ≡ true → (a ≡ true) × (b ≡ true)
both true b e = (refl, e)
both false b e = clash e

-- rule 1 of a half
pub used_in_half : (most : ℕ) (p : List ℕ) → in_half most p ≡ true → (1 ≤ used p) × (used p ≤ most)
unfolding in_half
used_in_half most p h =
    let b = both (leb 1 (used p)) (leb (used p) most) (both (in_use most p) _ h).0 in
    (leb-true 1 (used p) b.0, leb-true (used p) most b.1)

pub half_low : (plant : Plant) → half_at plant ≤ 4
half_low A = omega arith
half_low B = omega arith

pub half_long : (plant : Plant) (pool : List ℕ) → length (half_of plant pool) ≡ 8 * capacity pool - half_at plant
half_long plant pool = length-drop (half_at plant) (cells_of pool) ∙ ap (λ (k : ℕ). k - half_at plant) (whole.long pool (capacity pool) refl)

pub is_plants_holds : (plant : Plant) (pool : List ℕ) → in_own_half plant pool ≡ true → in_own_half (other_of plant) pool ≡ true → limits_fit pool ≡ true → is_plants pool ≡ true
unfolding is_plants
is_plants_holds A pool a b l = join (in_own_half A pool && in_own_half B pool) (limits_fit pool) (join (in_own_half A pool) (in_own_half B pool) a b) l
is_plants_holds B pool b a l = join (in_own_half A pool && in_own_half B pool) (limits_fit pool) (join (in_own_half A pool) (in_own_half B pool) a b) l

module _ (pool : List ℕ) (e : is_plants pool ≡ true) where
  halves : (in_own_half A pool && in_own_half B pool ≡ true) × (limits_fit pool ≡ true)
  unfolding is_plants
  halves = both (in_own_half A pool && in_own_half B pool) (limits_fit pool) e

  own : (plant : Plant) → in_own_half plant pool ≡ true
  own A = (both (in_own_half A pool) (in_own_half B pool) halves.0).0
  own B = (both (in_own_half A pool) (in_own_half B pool) halves.0).1

  sum : room_of A pool + room_of B pool ≤ suc (capacity pool)
  sum = leb-true (room_of A pool + room_of B pool) (suc (capacity pool)) halves.1

pub own_half : (plant : Plant) (pool : List ℕ) → is_plants pool ≡ true → in_own_half plant pool ≡ true
own_half plant pool e = own pool e plant

pub rooms : (pool : List ℕ) → is_plants pool ≡ true → room_of A pool + room_of B pool ≤ suc (capacity pool)
rooms pool e = sum pool e

pub some_used : (plant : Plant) (pool : List ℕ) → is_plants pool ≡ true → 1 ≤ used (half_of plant pool)
some_used plant pool e = (used_in_half (room_of plant pool) (half_of plant pool) (own pool e plant)).0

pub in_room : (plant : Plant) (pool : List ℕ) → is_plants pool ≡ true → used (half_of plant pool) ≤ room_of plant pool
in_room plant pool e = (used_in_half (room_of plant pool) (half_of plant pool) (own pool e plant)).1

pub room_fits : (plant : Plant) (pool : List ℕ) → is_plants pool ≡ true → room_of plant pool ≤ capacity pool
room_fits A pool e = omega (arith, rooms pool e, some_used B pool e, in_room B pool e)
room_fits B pool e = omega (arith, rooms pool e, some_used A pool e, in_room A pool e)

pub some_node : (plant : Plant) (pool : List ℕ) → is_plants pool ≡ true → 1 ≤ capacity pool
some_node plant pool e = omega (arith, some_used plant pool e, in_room plant pool e, room_fits plant pool e)

pub sound : (plant : Plant) (pool : List ℕ) → is_plants pool ≡ true → Sound (half_of plant pool) (used (half_of plant pool)) 0
sound plant pool e =
    sound_half (room_of plant pool) (half_of plant pool) (own pool e plant)
    (omega (arith, room_fits plant pool e, half_long plant pool, half_low plant))
    (omega (arith, room_fits plant pool e))

readable_of : (p : List ℕ) → Sound p (used p) 0 → Readable p 0
readable_of p s = record { nodes = used p; inside = s.shaped.some; shaped = s.shaped; fits = s.fits; rising = s.rising }

pub readable : (plant : Plant) (pool : List ℕ) → is_plants pool ≡ true → Readable (half_of plant pool) 0
readable plant pool e = readable_of (half_of plant pool) (sound plant pool e)

-- ---- the part that is lent on

module _ (plant : Plant) (pool : List ℕ) (n : ℕ) (is : n ≡ min (length pool / 8) 1048576) (a : ℕ) (a_is : a ≡ half_at plant) where
  pub view_is : take (8 * n - a) (drop a pool) ≡ half_of plant pool
  view_is = sym (drop_take a (8 * n) pool) ∙ ap (λ (k : ℕ). drop k (take (8 * n) pool)) a_is ∙ ap (λ (k : ℕ). drop (half_at plant) (take (8 * k) pool)) is

  pub long : length (take (8 * n - a) (drop a pool)) ≡ 8 * n - a
  long = length-take-le (8 * n - a) (drop a pool) (omega (arith, length-drop a pool, whole.inside pool n is))

  module _ (e : is_plants pool ≡ true) where
    -- the view starts in the root
    pub from : a + 4 ≤ 8 * n
    from = omega (arith, some_node plant pool e, half_low plant)

    pub sound_view : Sound (take (8 * n - a) (drop a pool)) (used (take (8 * n - a) (drop a pool))) 0
    sound_view = subst (λ (p : List ℕ). Sound p (used p) 0) (sym view_is) (sound plant pool e)

    pub readable_view : Readable (take (8 * n - a) (drop a pool)) 0
    readable_view = readable_of (take (8 * n - a) (drop a pool)) sound_view

    pub held_view : held (plant_meaning plant pool) ≡ holds (take (8 * n - a) (drop a pool))
    held_view = held_is plant pool e ∙ ap holds (sym view_is)

    pub terms_view : held_terms (plant_terms plant pool) ≡ term_at (take (8 * n - a) (drop a pool))
    terms_view = terms_is plant pool e ∙ ap term_at (sym view_is)
