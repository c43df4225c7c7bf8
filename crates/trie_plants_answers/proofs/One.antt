-- An accepted call leaves one plants' pool, and the other plant in it as it was. Assumes nothing.
use Rattle.std.specs.Prelude.{Result, Ok, Err}
use Rattle.refusal.specs.declared.Refusal.{Refusal}
use Prim.Native.Nat.{ℕ, ◌+◌, ◌-◌, ◌*◌, ◌<◌}
use native.Mathlib.Omega.{arith}
use mathlib.Core.Path.{◌≡◌, sym, ap, ◌∙◌}
use mathlib.Core.Bool.{true}
use mathlib.Core.List.{List}
use mathlib.Core.Option.{some}
use lib.ListN.{get_or}
use Rattle.trie_pool.specs.Cells.{used}
use Rattle.trie_pool.specs.Words.{holds, term_at, lacking}
use Rattle.trie_pool.specs.Rules.{capacity}
use Rattle.trie_pool.specs.Meaning.{Terms, is_some, no_term, amount}
use Rattle.trie_pool.specs.Classes.{words_only}
use Rattle.trie_pool.proofs.Canon.{holds_term, one_half}
use Rattle.trie_check.specs.Refusals.{held_terms}
use Rattle.trie_plants.specs.declared.Plant.{Plant}
use Rattle.trie_plants.specs.declared.Plant.TheVariants.{A, B}
use Rattle.trie_plants.specs.Halves.{other_of, half_of, room_of, limit_of}
use Rattle.trie_plants.specs.Rules.{is_plants}
use Rattle.trie_plants.specs.Meaning.{plant_terms, plant_meaning}
use Rattle.trie_plants.proofs.Parts.{terms_known, terms_is, terms_yes, meaning_terms, sound, some_used, in_room}
use Rattle.trie_plants.proofs.Same.{pool_same, terms_kept}
use Rattle.trie_plants.proofs.Same as same
use Rattle.trie_plants_answers.specs.Changes.{PlantBecame, PlantAfter, PlantsBegin, Started}

-- ---- what holds in the pool that is left

-- Every plants' pool reached from a start passes.
pub became_passes : (plant : Plant) (old new : List ℕ) (held : Terms) → PlantBecame plant old new held → is_plants new ≡ true
became_passes plant old new held b = terms_known plant new held b.means

pub begins_passes : (limit_a limit_b : ℕ) (old new : List ℕ) → PlantsBegin limit_a limit_b old new → is_plants new ≡ true
begins_passes limit_a limit_b old new b = terms_known A new no_term (b.means A)

-- the plant's words and classes are those that are said
terms_of : (plant : Plant) (pool : List ℕ) (held : Terms) → plant_terms plant pool ≡ some held → term_at (half_of plant pool) ≡ held
terms_of plant pool held e = sym (terms_is plant pool (terms_known plant pool held e)) ∙ ap held_terms e

pub became_terms : (plant : Plant) (old new : List ℕ) (held : Terms) → PlantBecame plant old new held → term_at (half_of plant new) ≡ held
became_terms plant old new held b = terms_of plant new held b.means

-- ---- the other plant

module _ (plant : Plant) (old new : List ℕ) (held : Terms) (b : PlantBecame plant old new held) where
  stays : (i r : ℕ) → r < 4 → (8 * i + r ≡ 3 → ⊥) → get_or (half_of (other_of plant) new) (8 * i + r) 0 ≡ get_or (half_of (other_of plant) old) (8 * i + r) 0
  stays i r l ne = b.apart.other i r l

  -- its words and classes, or that it has none
  pub other_kept : is_plants old ≡ true → plant_terms (other_of plant) new ≡ plant_terms (other_of plant) old
  other_kept e =
      terms_yes (other_of plant) new (became_passes plant old new held b)
      ∙ ap some (λ i v. terms_kept (other_of plant) old new b.kept e b.apart.other v i)
      ∙ sym (terms_yes (other_of plant) old e)

  pub other_means : is_plants old ≡ true → plant_meaning (other_of plant) new ≡ plant_meaning (other_of plant) old
  other_means e = meaning_terms (other_of plant) new ∙ ap words_only (other_kept e) ∙ sym (meaning_terms (other_of plant) old)

  -- its nodes in use, those that a word lacks, and its word count
  pub other_used : used (half_of (other_of plant) new) ≡ used (half_of (other_of plant) old)
  other_used = same.used_same (half_of (other_of plant) old) (half_of (other_of plant) new) stays

  pub other_lacking : (w : List ℕ) → lacking (half_of (other_of plant) new) w 0 ≡ lacking (half_of (other_of plant) old) w 0
  other_lacking w = same.lacking_same (half_of (other_of plant) old) (half_of (other_of plant) new) stays w 0

  pub other_amount : amount (half_of (other_of plant) new) ≡ amount (half_of (other_of plant) old)
  other_amount = same.amount_same (half_of (other_of plant) old) (half_of (other_of plant) new) stays

  -- both limits
  pub room_same : (q : Plant) → room_of q new ≡ room_of q old
  room_same q = go plant q b.apart.limit (b.apart.other 0 3 (omega arith))
    where
      go : (p q : Plant) → room_of p new ≡ room_of p old → room_of (other_of p) new ≡ room_of (other_of p) old → room_of q new ≡ room_of q old
      go A A f g = f
      go A B f g = g
      go B A f g = g
      go B B f g = f

  pub limit_same : (q : Plant) → limit_of q new ≡ limit_of q old
  limit_same q = ap (λ (k : ℕ). k - 1) (room_same q)

-- ---- there is one such pool

-- a plant's words, their classes and its limit say all of its half
pub one_own : (plant : Plant) (p q : List ℕ) (held : Terms) → plant_terms plant p ≡ some held → plant_terms plant q ≡ some held → room_of plant p ≡ room_of plant q
    → (i r : ℕ) → r < 4 → get_or (half_of plant p) (8 * i + r) 0 ≡ get_or (half_of plant q) (8 * i + r) 0
one_own plant p q held e f root =
    one_half (half_of plant p) (half_of plant q) (used (half_of plant p)) (used (half_of plant q)) (sound plant p (terms_known plant p held e)) (sound plant q (terms_known plant q held f)) words classes root
  where
    classes : (v : List ℕ) → term_at (half_of plant p) v ≡ term_at (half_of plant q) v
    classes v = ap (λ (h : Terms). h v) (terms_of plant p held e ∙ sym (terms_of plant q held f))

    words : (v : List ℕ) → holds (half_of plant p) v ≡ holds (half_of plant q) v
    words v = holds_term (half_of plant p) v ∙ ap is_some (classes v) ∙ sym (holds_term (half_of plant q) v)

pub one_plant_became : (plant : Plant) (old p q : List ℕ) (held : Terms) → PlantBecame plant old p held → PlantBecame plant old q held → p ≡ q
one_plant_became plant old p q held f g =
    pool_same p q (f.kept ∙ sym g.kept) halves (capacity old) (omega (arith, f.kept)) (f.later ∙ sym g.later)
  where
    own : (i r : ℕ) → r < 4 → get_or (half_of plant p) (8 * i + r) 0 ≡ get_or (half_of plant q) (8 * i + r) 0
    own = one_own plant p q held f.means g.means (f.apart.limit ∙ sym g.apart.limit)

    other : (i r : ℕ) → r < 4 → get_or (half_of (other_of plant) p) (8 * i + r) 0 ≡ get_or (half_of (other_of plant) q) (8 * i + r) 0
    other i r l = f.apart.other i r l ∙ sym (g.apart.other i r l)

    halves : (x : Plant) (i r : ℕ) → r < 4 → get_or (half_of x p) (8 * i + r) 0 ≡ get_or (half_of x q) (8 * i + r) 0
    halves x = go plant x own other
      where
        go : (z x : Plant) → ((i r : ℕ) → r < 4 → get_or (half_of z p) (8 * i + r) 0 ≡ get_or (half_of z q) (8 * i + r) 0)
            → ((i r : ℕ) → r < 4 → get_or (half_of (other_of z) p) (8 * i + r) 0 ≡ get_or (half_of (other_of z) q) (8 * i + r) 0)
            → (i r : ℕ) → r < 4 → get_or (half_of x p) (8 * i + r) 0 ≡ get_or (half_of x q) (8 * i + r) 0
        go A A s t = s
        go A B s t = t
        go B A s t = t
        go B B s t = s

-- so an answer leaves one pool
pub one_plant_after : (plant : Plant) (a : Result ℕ Refusal) (old p q : List ℕ) (held : Terms) → PlantAfter plant a old p held → PlantAfter plant a old q held → p ≡ q
one_plant_after plant (Ok n) old p q held f g = one_plant_became plant old p q held f g
one_plant_after plant (Err r) old p q held f g = f ∙ sym g

-- a start, too
pub one_begins : (limit_a limit_b : ℕ) (old p q : List ℕ) → PlantsBegin limit_a limit_b old p → PlantsBegin limit_a limit_b old q → p ≡ q
one_begins limit_a limit_b old p q f g =
    pool_same p q (f.kept ∙ sym g.kept) (λ x. one_own x p q no_term (f.means x) (g.means x) (room x)) (capacity old) (omega (arith, f.kept)) (f.later ∙ sym g.later)
  where
    limits : (x : Plant) → limit_of x p ≡ limit_of x q
    limits A = f.limit_of_a ∙ sym g.limit_of_a
    limits B = f.limit_of_b ∙ sym g.limit_of_b

    room : (x : Plant) → room_of x p ≡ room_of x q
    room x =
        let e = begins_passes limit_a limit_b old p f in
        let h = begins_passes limit_a limit_b old q g in
        omega (arith, limits x, some_used x p e, in_room x p e, some_used x q h, in_room x q h)

pub one_started : (a : Result ℕ Refusal) (limit_a limit_b : ℕ) (old p q : List ℕ) → Started a limit_a limit_b old p → Started a limit_a limit_b old q → p ≡ q
one_started (Ok n) limit_a limit_b old p q f g = one_begins limit_a limit_b old p q f g
one_started (Err r) limit_a limit_b old p q f g = f ∙ sym g
