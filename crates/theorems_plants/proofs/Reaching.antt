-- Every pool of a run passes as a plants' pool, and each plant holds what its own calls left.
-- Assumes nothing.
use Rattle.std.specs.Prelude.{Result, Ok, Err}
use Prim.Native.Nat.{ℕ}
use native.Mathlib.Omega.{arith}
use mathlib.Core.Path.{◌≡◌, refl, sym, ap, subst, ◌∙◌}
use mathlib.Core.Bool.{Bool, true, false, cond}
use mathlib.Core.List.{List, ◌∷◌}
use mathlib.Core.Option.{Option, none, some}
use Rattle.refusal.specs.declared.Refusal.{Refusal}
use Rattle.char_string_trim.specs.Trimming.{trimmed_of}
use Rattle.trie_pool.specs.Words.{term_at}
use Rattle.trie_pool.specs.Rules.{cells_of, is_dictionary}
use Rattle.trie_pool.specs.Meaning.{Terms, terms, no_term, with_term, without_term}
use Rattle.trie_pool.proofs.Rules.{plain_is}
use Rattle.trie_check.specs.Refusals.{held_terms}
use Rattle.trie_check.proofs.Parts as plain
use Rattle.trie_plants.specs.declared.Plant.{Plant}
use Rattle.trie_plants.specs.declared.Plant.TheVariants.{A}
use Rattle.trie_plants.specs.Halves.{half_of, limit_of}
use Rattle.trie_plants.specs.Rules.{is_plants}
use Rattle.trie_plants.specs.Meaning.{plant_terms}
use Rattle.trie_plants.proofs.Parts as parts
use Rattle.trie_plants_answers.specs.Answers.{plant_add_answer, plant_remove_answer}
use Rattle.trie_plants_answers.specs.Changes.{PlantAfter}
use Rattle.word_list_answers.specs.Answers.{image_terms}
use Rattle.word_list_plants.specs.Answers.{plant_read_answer}
use Rattle.theorems_plants.specs.Plants.{Call, add, remove, contains, prefixes, count, cut, reasons, cut_many, reasons_many, read, write, told_of, Left, Kept, refused_in, refusal, Step, Steps, nothing, next, same_plant, made, left_by, terms_left, Reached, PlainNotPlants}
use Rattle.theorems_plants.proofs.Frame.{beside, limits}
use Rattle.theorems_plants.proofs.Undisturbed.{is_plant, is_other, begun_passes, begun_limit}

-- ---- one call

module _ (plant : Plant) (old new : List ℕ) (t : Terms) (known : plant_terms plant old ≡ some t) where
  -- a call that changes words
  changes : (call : Call) (a : Result ℕ Refusal) (u : Option Terms → Terms) → made call t ≡ u (some t) → PlantAfter plant a old new (u (plant_terms plant old))
      → plant_terms plant new ≡ some (left_by call (refused_in a) t)
  changes call (Ok n) u e b = b.means ∙ ap (λ (m : Option Terms). some (u m)) known ∙ ap some (sym e)
  changes call (Err r) u e f = ap (plant_terms plant) f ∙ known

  -- one that reads
  reads : (call : Call) (m : Option Refusal) → made call t ≡ t → new ≡ old → plant_terms plant new ≡ some (left_by call m t)
  reads call none e f = ap (plant_terms plant) f ∙ known ∙ ap some (sym e)
  reads call (some r) e f = ap (plant_terms plant) f ∙ known

  left_own : (call : Call) → Left plant call old new → plant_terms plant new ≡ some (left_by call (refusal (told_of plant call old)) t)
  left_own (add word class) f = changes (add word class) (plant_add_answer plant word class old) (λ m. with_term (trimmed_of word) class (held_terms m)) refl f
  left_own (remove word) f = changes (remove word) (plant_remove_answer plant word old) (λ m. without_term (trimmed_of word) (held_terms m)) refl f
  left_own (read image) f = changes (read image) (plant_read_answer plant image old) (λ m. image_terms image) refl f
  left_own (contains word) f = reads (contains word) (refusal (told_of plant (contains word) old)) refl f
  left_own (prefixes text out) f = reads (prefixes text out) (refusal (told_of plant (prefixes text out) old)) refl f
  left_own count f = reads count (refusal (told_of plant count old)) refl f
  left_own (cut mode text out scratch) f = reads (cut mode text out scratch) (refusal (told_of plant (cut mode text out scratch) old)) refl f
  left_own (reasons mode text out scratch) f = reads (reasons mode text out scratch) (refusal (told_of plant (reasons mode text out scratch) old)) refl f
  left_own (cut_many mode joined ends answers out scratch) f = reads (cut_many mode joined ends answers out scratch) (refusal (told_of plant (cut_many mode joined ends answers out scratch) old)) refl f
  left_own (reasons_many mode joined ends answers out scratch) f = reads (reasons_many mode joined ends answers out scratch) (refusal (told_of plant (reasons_many mode joined ends answers out scratch) old)) refl f
  left_own (write out) f = reads (write out) (refusal (told_of plant (write out) old)) refl f

-- ---- a run

-- what is known of the pool behind these steps
record Behind (ss : List Step) (old new : List ℕ) : Type 0 where
  passes : is_plants new ≡ true
  limits : (plant : Plant) → limit_of plant new ≡ limit_of plant old
  holds : (plant : Plant) (t : Terms) → plant_terms plant old ≡ some t → plant_terms plant new ≡ some (terms_left plant ss t)

module _ (s : Step) (old mid : List ℕ) (k : Kept s.plant s.call old mid s.told) (known : is_plants old ≡ true) where
  step : (plant : Plant) (t : Terms) → plant_terms plant old ≡ some t → (w : Bool) → same_plant plant s.plant ≡ w → plant_terms plant mid ≡ some (cond w (left_by s.call (refusal s.told) t) t)
  step plant t e true is =
      let z = is_plant plant s.plant is in
      left_own plant old mid t e s.call (subst (λ (p : Plant). Left p s.call old mid) z k.left)
      ∙ sym (ap (λ (m : Option Refusal). some (left_by s.call m t)) (ap refusal k.answered ∙ ap (λ (p : Plant). refusal (told_of p s.call old)) z))
  step plant t e false is =
      subst (λ (p : Plant). plant_terms p mid ≡ plant_terms p old) (is_other plant s.plant is) (beside s.plant s.call old mid known k.left).others ∙ e

  one_more : {ss : List Step} {new : List ℕ} → Behind ss mid new → Behind (s ∷ ss) old new
  one_more rest = record {
    passes = rest.passes;
    limits = λ plant. rest.limits plant ∙ limits (beside s.plant s.call old mid known k.left) plant;
    holds = λ plant t e. rest.holds plant (cond (same_plant plant s.plant) (left_by s.call (refusal s.told) t) t) (step plant t e (same_plant plant s.plant) refl);
  }

behind : {ss : List Step} {old new : List ℕ} → Steps ss old new → is_plants old ≡ true → Behind ss old new
behind nothing known = record { passes = known; limits = λ plant. refl; holds = λ plant t e. e }
behind (next s {old = old} {mid = mid} k ks) known = one_more s old mid k known (behind ks (beside s.plant s.call old mid known k.left).passes)

pub reached : Reached
reached limit_a limit_b steps pool r =
    let b = behind r.calls (begun_passes limit_a limit_b steps pool r) in
    (b.passes, (λ plant. b.limits plant ∙ begun_limit limit_a limit_b steps pool r plant), λ plant. b.holds plant no_term (r.started.means plant))

-- ---- no pool is both

-- the root's fourth cell is 0 in a plain pool, and at least 1 in a plants' pool
pub not_both : (pool : List ℕ) → is_dictionary pool ≡ true → is_plants pool ≡ true → ⊥
not_both pool d e = omega (arith, (plain_is (cells_of pool) d).root, parts.some_used A pool e, parts.in_room A pool e)

no : (b : Bool) → (b ≡ true → ⊥) → b ≡ false
no true h = absurd (h refl)
no false h = refl

terms_no : (pool : List ℕ) → is_dictionary pool ≡ false → terms pool ≡ none
unfolding terms
terms_no pool e = ap (λ (b : Bool). cond b (some (term_at (cells_of pool))) none) e

plant_terms_no : (plant : Plant) (pool : List ℕ) → is_plants pool ≡ false → plant_terms plant pool ≡ none
unfolding plant_terms
plant_terms_no plant pool e = ap (λ (b : Bool). cond b (some (term_at (half_of plant pool))) none) e

pub plain_not_plants : PlainNotPlants
plain_not_plants pool = (
  λ e. let z : is_dictionary pool ≡ false = no (is_dictionary pool) (λ d. not_both pool d e) in (plain.meaning_no pool z, terms_no pool z),
  λ d plant. let z : is_plants pool ≡ false = no (is_plants pool) (λ e. not_both pool d e) in (parts.meaning_no plant pool z, plant_terms_no plant pool z),
)
