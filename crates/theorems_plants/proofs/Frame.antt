-- A call of a plant leaves the other plant's half, and a refused one the whole pool. Assumes
-- nothing.
use Rattle.std.specs.Prelude.{Result, Ok, Err}
use Prim.Native.Nat.{ℕ, ◌-◌, ◌*◌}
use native.Mathlib.Omega.{arith}
use mathlib.Core.Path.{◌≡◌, refl, sym, ap, subst, ◌∙◌}
use mathlib.Core.Bool.{true}
use mathlib.Core.List.{List}
use mathlib.Core.Option.{none, some}
use lib.ListN.{length, drop}
use Rattle.refusal.specs.declared.Refusal.{Refusal}
use Rattle.trie_pool.specs.Rules.{capacity}
use Rattle.trie_pool.specs.Meaning.{Terms}
use Rattle.trie_plants.specs.declared.Plant.{Plant}
use Rattle.trie_plants.specs.declared.Plant.TheVariants.{A}
use Rattle.trie_plants.specs.Halves.{other_of, room_of, limit_of}
use Rattle.trie_plants.specs.Rules.{is_plants}
use Rattle.trie_plants.specs.Meaning.{plant_terms}
use Rattle.trie_plants.proofs.Parts.{terms_yes}
use Rattle.trie_plants_answers.specs.Answers.{plant_add_answer, plant_added, plant_remove_answer, plant_removed}
use Rattle.trie_plants_answers.specs.Changes.{PlantBecame, PlantAfter}
use Rattle.trie_plants_answers.proofs.One.{became_passes, room_same}
use Rattle.trie_plants_answers.proofs.One as one
use Rattle.word_list_answers.specs.Answers.{image_terms}
use Rattle.word_list_plants.specs.Answers.{plant_read_answer}
use Rattle.theorems_plants.specs.Plants.{Call, add, remove, contains, prefixes, count, cut, reasons, cut_many, reasons_many, read, write, told_of, Left, refused_in, refusal, RefusedKeeps, OtherKept, SameOwn}

none_some : {P : Type 0} {r : Refusal} → none ≡ some r → P
none_some e = absurd (let z : ◌≡◌ {A = ℕ} 0 1 = cc in omega arith)

-- ---- refused

refused_after : (plant : Plant) (a : Result ℕ Refusal) (old new : List ℕ) (t : Terms) (r : Refusal) → refused_in a ≡ some r → PlantAfter plant a old new t → new ≡ old
refused_after plant (Ok n) old new t r e f = none_some e
refused_after plant (Err q) old new t r e f = f

pub refused_left : (plant : Plant) (call : Call) (old new : List ℕ) (r : Refusal) → refusal (told_of plant call old) ≡ some r → Left plant call old new → new ≡ old
refused_left plant (add word class) old new r e f = refused_after plant (plant_add_answer plant word class old) old new (plant_added plant word class old) r e f
refused_left plant (remove word) old new r e f = refused_after plant (plant_remove_answer plant word old) old new (plant_removed plant word old) r e f
refused_left plant (read image) old new r e f = refused_after plant (plant_read_answer plant image old) old new (image_terms image) r e f
refused_left plant (contains word) old new r e f = f
refused_left plant (prefixes text out) old new r e f = f
refused_left plant count old new r e f = f
refused_left plant (cut mode text out scratch) old new r e f = f
refused_left plant (reasons mode text out scratch) old new r e f = f
refused_left plant (cut_many mode joined ends answers out scratch) old new r e f = f
refused_left plant (reasons_many mode joined ends answers out scratch) old new r e f = f
refused_left plant (write out) old new r e f = f

pub refused_keeps : RefusedKeeps
refused_keeps plant call old new told r k e = refused_left plant call old new r (sym (ap refusal k.answered) ∙ e) k.left

-- ---- the other plant

-- what stays, and that the pool still passes
pub record Beside (plant : Plant) (old new : List ℕ) : Type 0 where
  pub passes : is_plants new ≡ true
  pub others : plant_terms (other_of plant) new ≡ plant_terms (other_of plant) old
  pub rooms : (any : Plant) → room_of any new ≡ room_of any old
  pub later : drop (8 * capacity old) new ≡ drop (8 * capacity old) old
  pub long : length new ≡ length old

beside_became : (plant : Plant) (old new : List ℕ) (t : Terms) → is_plants old ≡ true → PlantBecame plant old new t → Beside plant old new
beside_became plant old new t known b =
    record { passes = became_passes plant old new t b; others = one.other_kept plant old new t b known; rooms = room_same plant old new t b; later = b.later; long = b.kept }

beside_same : (plant : Plant) (old new : List ℕ) → is_plants old ≡ true → new ≡ old → Beside plant old new
beside_same plant old new known e =
    record { passes = ap is_plants e ∙ known; others = ap (plant_terms (other_of plant)) e; rooms = λ any. ap (room_of any) e; later = ap (drop (8 * capacity old)) e; long = ap length e }

beside_after : (plant : Plant) (a : Result ℕ Refusal) (old new : List ℕ) (t : Terms) → is_plants old ≡ true → PlantAfter plant a old new t → Beside plant old new
beside_after plant (Ok n) old new t known b = beside_became plant old new t known b
beside_after plant (Err r) old new t known e = beside_same plant old new known e

pub beside : (plant : Plant) (call : Call) (old new : List ℕ) → is_plants old ≡ true → Left plant call old new → Beside plant old new
beside plant (add word class) old new known f = beside_after plant (plant_add_answer plant word class old) old new (plant_added plant word class old) known f
beside plant (remove word) old new known f = beside_after plant (plant_remove_answer plant word old) old new (plant_removed plant word old) known f
beside plant (read image) old new known f = beside_after plant (plant_read_answer plant image old) old new (image_terms image) known f
beside plant (contains word) old new known f = beside_same plant old new known f
beside plant (prefixes text out) old new known f = beside_same plant old new known f
beside plant count old new known f = beside_same plant old new known f
beside plant (cut mode text out scratch) old new known f = beside_same plant old new known f
beside plant (reasons mode text out scratch) old new known f = beside_same plant old new known f
beside plant (cut_many mode joined ends answers out scratch) old new known f = beside_same plant old new known f
beside plant (reasons_many mode joined ends answers out scratch) old new known f = beside_same plant old new known f
beside plant (write out) old new known f = beside_same plant old new known f

-- both limits
pub limits : {plant : Plant} {old new : List ℕ} → Beside plant old new → (any : Plant) → limit_of any new ≡ limit_of any old
limits b any = ap (λ (k : ℕ). k - 1) (b.rooms any)

pub other_kept : OtherKept
other_kept plant call old new told known k = let b = beside plant call old new known k.left in (b.others, limits b)

-- ---- the same of a plant

pub same_self : (plant : Plant) (pool : List ℕ) → is_plants pool ≡ true → SameOwn plant pool plant pool
same_self plant pool known =
    let e = terms_yes plant pool known in
    record { terms_one = _; terms_two = _; means_one = e; means_two = e; same = λ v. refl; limit = refl }

pub same_back : (p q : Plant) (one two : List ℕ) → SameOwn p one q two → SameOwn q two p one
same_back p q one two s =
    record { terms_one = s.terms_two; terms_two = s.terms_one; means_one = s.means_two; means_two = s.means_one; same = λ v. sym (s.same v); limit = sym s.limit }

some_inj : {a b : Terms} → some a ≡ some b → a ≡ b
some_inj e = cc

pub same_on : (p q r : Plant) (one two three : List ℕ) → SameOwn p one q two → SameOwn q two r three → SameOwn p one r three
same_on p q r one two three s t =
    let mid : s.terms_two ≡ t.terms_one = some_inj (sym s.means_two ∙ t.means_one) in
    record {
      terms_one = s.terms_one;
      terms_two = t.terms_two;
      means_one = s.means_one;
      means_two = t.means_two;
      same = λ v. s.same v ∙ ap (λ (f : Terms). f v) mid ∙ t.same v;
      limit = s.limit ∙ t.limit;
    }

-- what a call of the other plant leaves of a plant
pub same_beside : (plant other : Plant) → other_of other ≡ plant → (call : Call) (old new : List ℕ) → is_plants old ≡ true → Left other call old new → SameOwn plant old plant new
same_beside plant other is call old new known f = subst (λ (p : Plant). SameOwn p old p new) is stays
  where
    stays : SameOwn (other_of other) old (other_of other) new
    stays =
        let b = beside other call old new known f in
        let e = terms_yes (other_of other) old known in
        record { terms_one = _; terms_two = _; means_one = e; means_two = b.others ∙ e; same = λ v. refl; limit = sym (limits b (other_of other)) }
