-- No plants' pool is refused with 4, and a plain pool is refused whatever a plant asks. Assumes
-- nothing.
use Rattle.std.specs.Prelude.{Result, Ok, Err}
use Rattle.newmm_rules.specs.declared.Ends.{Ends}
use Prim.Native.Nat.{ℕ, ◌+◌, ◌*◌}
use native.Mathlib.Omega.{arith}
use mathlib.Core.Path.{◌≡◌, refl, sym, ap, subst, ◌∙◌}
use mathlib.Core.Bool.{Bool, true, false, cond}
use mathlib.Core.List.{List, [], ◌∷◌}
use mathlib.Core.Option.{Option, none, some}
use lib.ListN.{length, get_or, drop}
use lib.Seq.{get_or-take, get_or-drop}
use Rattle.refusal.specs.declared.Refusal.{Refusal}
use Rattle.refusal.specs.declared.Refusal.TheVariants.{NotADictionary}
use Rattle.refusal.specs.Numbers.{number_of}
use Rattle.refusal.specs.Answers.{Cause, answer}
use Rattle.refusal.specs.Firsts.{None}
use Rattle.refusal.proofs.Causes.{none_of}
use Rattle.trie_pool.specs.Rules.{is_dictionary}
use Rattle.trie_pool.proofs.Rules.{clash}
use Rattle.trie_check.specs.Refusals.{is_none, pool_causes, read_causes}
use Rattle.trie_char_answers.specs.Refusals.{prefix_causes, remove_causes}
use Rattle.trie_char_answers.specs.Answers.{told_term}
use Rattle.trie_plants.specs.declared.Plant.{Plant}
use Rattle.trie_plants.specs.Rules.{is_plants}
use Rattle.trie_plants.specs.Meaning.{plant_meaning}
use Rattle.trie_plants.proofs.Parts.{meaning_yes}
use Rattle.trie_plants_answers.specs.Refusals.{plant_add_causes}
use Rattle.newmm_answers.specs.Answers.{cut_causes, told}
use Rattle.newmm_answers.specs.Calls as asked
use Rattle.newmm_reasons_answers.specs.Answers.{pair_room}
use Rattle.newmm_many_answers.specs.Turns.{cells_of}
use Rattle.newmm_many_answers.specs.Calls.{ManyCall, many_call, many_causes, many_answer, answers_by, out_by, scratch_by}
use Rattle.word_list_plants.specs.Answers.{plant_image_causes}
use Rattle.word_list_plants_write.specs.Answers.{plant_write_causes}
use Rattle.theorems_demands.specs.ManyTexts.{Form, single_call, ManyIsSingleFor}
use Rattle.theorems_demands.proofs.ManyTexts.{some_number}
use Rattle.theorems_plants.specs.Plants.{Call, add, remove, contains, prefixes, count, cut, reasons, cut_many, reasons_many, read, write, texts, told_texts, told_of, Left, refused_in, refused_word, refused_cut, refusal, NoText, Step, Steps, nothing, next, NoneTold4, Never4, NothingAccepted, PlainRefused}
use Rattle.theorems_plants.specs.ManyTexts.{plant_cuts_form, plant_reasons_form}
use Rattle.theorems_plants.proofs.Frame.{beside, refused_left}
use Rattle.theorems_plants.proofs.Undisturbed.{begun_passes}
use Rattle.theorems_plants.proofs.Reaching.{plain_not_plants}
use Rattle.theorems_plants.proofs.ManyTexts.{plant_many_is_single, plant_many_is_single_reasons}

-- ---- what is told by the causes of a call

abbrev causes_of : Plant → Call → List ℕ → List Cause
causes_of plant (add word class) pool = plant_add_causes plant word pool
causes_of plant (remove word) pool = remove_causes word (plant_meaning plant pool)
causes_of plant (contains word) pool = read_causes word (plant_meaning plant pool)
causes_of plant (prefixes text out) pool = prefix_causes text (plant_meaning plant pool) out
causes_of plant count pool = pool_causes (plant_meaning plant pool)
causes_of plant (cut mode text out scratch) pool = cut_causes mode text (plant_meaning plant pool) (length scratch) (length out)
causes_of plant (reasons mode text out scratch) pool = cut_causes mode text (plant_meaning plant pool) (length scratch) (pair_room out)
causes_of plant (cut_many mode joined ends answers out scratch) pool = many_causes (length joined) ends (length answers)
causes_of plant (reasons_many mode joined ends answers out scratch) pool = many_causes (length joined) ends (length answers)
causes_of plant (read image) pool = plant_image_causes plant image pool
causes_of plant (write out) pool = plant_write_causes plant pool out

-- with whatever number the call would be accepted
any_number : (cs : List Cause) (n m : ℕ) → refused_in (answer cs n) ≡ refused_in (answer cs m)
any_number [] n m = refl
any_number (c ∷ cs) n m = go c.holds (any_number cs n m)
  where
    go : (b : Bool) → refused_in (answer cs n) ≡ refused_in (answer cs m) → refused_in (cond b (Err c.refusal) (answer cs n)) ≡ refused_in (cond b (Err c.refusal) (answer cs m))
    go true ih = refl
    go false ih = ih

by_word : (a : Result ℕ Refusal) (t : Option ℕ) → refused_word (told_term a t) ≡ refused_in a
by_word (Ok n) none = refl
by_word (Ok n) (some class) = refl
by_word (Err r) t = refl

by_cut : (a : Result ℕ Refusal) (edges : ℕ) → refused_cut (told a edges) ≡ refused_in a
by_cut (Ok n) edges = refl
by_cut (Err r) edges = refl

refused_by : (plant : Plant) (call : Call) (pool : List ℕ) → refusal (told_of plant call pool) ≡ refused_in (answer (causes_of plant call pool) 0)
refused_by plant (add word class) pool = any_number (causes_of plant (add word class) pool) _ 0
refused_by plant (remove word) pool = any_number (causes_of plant (remove word) pool) _ 0
refused_by plant (contains word) pool = by_word (answer (read_causes word (plant_meaning plant pool)) (length word)) _ ∙ any_number (causes_of plant (contains word) pool) (length word) 0
refused_by plant (prefixes text out) pool = any_number (causes_of plant (prefixes text out) pool) _ 0
refused_by plant count pool = any_number (causes_of plant count pool) _ 0
refused_by plant (cut mode text out scratch) pool = by_cut (answer (causes_of plant (cut mode text out scratch) pool) _) _ ∙ any_number (causes_of plant (cut mode text out scratch) pool) _ 0
refused_by plant (reasons mode text out scratch) pool = by_cut (answer (causes_of plant (reasons mode text out scratch) pool) _) _ ∙ any_number (causes_of plant (reasons mode text out scratch) pool) _ 0
refused_by plant (cut_many mode joined ends answers out scratch) pool = any_number (causes_of plant (cut_many mode joined ends answers out scratch) pool) _ 0
refused_by plant (reasons_many mode joined ends answers out scratch) pool = any_number (causes_of plant (reasons_many mode joined ends answers out scratch) pool) _ 0
refused_by plant (read image) pool = any_number (causes_of plant (read image) pool) _ 0
refused_by plant (write out) pool = any_number (causes_of plant (write out) pool) _ 0

-- ---- never 4

-- no cause is 4, but one that does not hold
abbrev Not4 : List Cause → Type 0
Not4 [] = Unit {0}
Not4 (c ∷ cs) = (c.holds ≡ true → number_of c.refusal ≡ 4 → ⊥) × Not4 cs

never : (cs : List Cause) (n : ℕ) (r : Refusal) → Not4 cs → refused_in (answer cs n) ≡ some r → number_of r ≡ 4 → ⊥
never [] n r h e f = absurd (let z : ◌≡◌ {A = ℕ} 0 1 = cc in omega arith)
never (c ∷ cs) n r h e f = go c.holds refl e (λ q. never cs n r h.1 q f)
  where
    same : some c.refusal ≡ some r → c.refusal ≡ r
    same e = cc

    go : (b : Bool) → c.holds ≡ b → refused_in (cond b (Err c.refusal) (answer cs n)) ≡ some r → (refused_in (answer cs n) ≡ some r → ⊥) → ⊥
    go true is q ih = h.0 is (ap number_of (same q) ∙ f)
    go false is q ih = ih q

module _ (plant : Plant) (pool : List ℕ) (known : is_none (plant_meaning plant pool) ≡ false) where
  free : is_none (plant_meaning plant pool) ≡ true → number_of NotADictionary ≡ 4 → ⊥
  free e q = clash (sym known ∙ e)

  not4 : (call : Call) → Not4 (causes_of plant call pool)
  not4 (add word class) = (λ e q. omega arith, (λ e q. omega arith, (free, (λ e q. omega arith, (λ e q. omega arith, tt)))))
  not4 (remove word) = (λ e q. omega arith, (λ e q. omega arith, (free, (λ e q. omega arith, tt))))
  not4 (contains word) = (λ e q. omega arith, (λ e q. omega arith, (free, tt)))
  not4 (prefixes text out) = (λ e q. omega arith, (λ e q. omega arith, (free, (λ e q. omega arith, tt))))
  not4 count = (free, tt)
  not4 (cut mode text out scratch) = (λ e q. omega arith, (λ e q. omega arith, (free, (λ e q. omega arith, (λ e q. omega arith, tt)))))
  not4 (reasons mode text out scratch) = (λ e q. omega arith, (λ e q. omega arith, (free, (λ e q. omega arith, (λ e q. omega arith, tt)))))
  not4 (cut_many mode joined ends answers out scratch) = (λ e q. omega arith, (λ e q. omega arith, tt))
  not4 (reasons_many mode joined ends answers out scratch) = (λ e q. omega arith, (λ e q. omega arith, tt))
  not4 (read image) = (free, (λ e q. omega arith, (λ e q. omega arith, tt)))
  not4 (write out) = (free, (λ e q. omega arith, tt))

pub never_told : (plant : Plant) (call : Call) (pool : List ℕ) → is_plants pool ≡ true → (r : Refusal) → refusal (told_of plant call pool) ≡ some r → number_of r ≡ 4 → ⊥
never_told plant call pool known r e =
    never (causes_of plant call pool) 0 r (not4 plant pool (ap is_none (meaning_yes plant pool known)) call) (sym (refused_by plant call pool) ∙ e)

-- ---- the number that each of many texts is told

-- no text is told a number that the single call for no text is told
no_text : (f : Form) → ManyIsSingleFor f → (c : ManyCall) (k : ℕ) → ((i : ℕ) → get_or (cells_of (f.answer (single_call f c i))) 0 0 ≡ k → ⊥) → NoText k (told_texts (f.one c) c)
no_text f single c k h = go (many_answer c) refl
  where
    go : (x : Result ℕ Refusal) → many_answer c ≡ x → NoText k (texts x (answers_by (f.one c) c) (out_by (f.one c) c) (scratch_by (f.one c) c))
    go (Ok n) e = λ i l q.
        let told_all = answers_by (f.one c) c in
        let z : 4 * i + 0 ≡ 4 * i = omega arith in
        h i (sym (ap (λ (m : List ℕ). get_or m 0 0) (single c n i e l).0)
        ∙ get_or-take 4 (drop (4 * i) told_all) 0 0 (omega arith)
        ∙ get_or-drop (4 * i) told_all 0 0
        ∙ ap (λ (m : ℕ). get_or told_all m 0) z
        ∙ q)
    go (Err r) e = tt

-- 4 is told where a single call is refused so, and 0 where it is accepted
told_4 : (a : Result Ends Refusal) → ((r : Refusal) → refused_cut a ≡ some r → number_of r ≡ 4 → ⊥) → get_or (cells_of a) 0 0 ≡ 4 → ⊥
told_4 (Ok told) h e = absurd (omega arith)
told_4 (Err r) h e = h r refl e

told_0 : (a : Result Ends Refusal) → (refused_cut a ≡ none → ⊥) → get_or (cells_of a) 0 0 ≡ 0 → ⊥
told_0 (Ok told) h e = h refl
told_0 (Err r) h e = some_number r e

-- the call of the plant for a text by itself
abbrev cut_for : asked.Call → Call
cut_for c = cut c.mode c.text c.out c.scratch

abbrev reasons_for : asked.Call → Call
reasons_for c = reasons c.mode c.text c.out c.scratch

no_text_4 : (plant : Plant) (call : Call) (pool : List ℕ) → is_plants pool ≡ true → NoText 4 (told_of plant call pool)
no_text_4 plant (add word class) pool known = tt
no_text_4 plant (remove word) pool known = tt
no_text_4 plant (contains word) pool known = tt
no_text_4 plant (prefixes text out) pool known = tt
no_text_4 plant count pool known = tt
no_text_4 plant (cut mode text out scratch) pool known = tt
no_text_4 plant (reasons mode text out scratch) pool known = tt
no_text_4 plant (cut_many mode joined ends answers out scratch) pool known =
    let c = many_call joined ends pool answers out scratch mode in
    let f = plant_cuts_form plant in
    no_text f (plant_many_is_single plant) c 4 (λ i. told_4 (f.answer (single_call f c i)) (λ r. never_told plant (cut_for (single_call f c i)) pool known r))
no_text_4 plant (reasons_many mode joined ends answers out scratch) pool known =
    let c = many_call joined ends pool answers out scratch mode in
    let f = plant_reasons_form plant in
    no_text f (plant_many_is_single_reasons plant) c 4 (λ i. told_4 (f.answer (single_call f c i)) (λ r. never_told plant (reasons_for (single_call f c i)) pool known r))
no_text_4 plant (read image) pool known = tt
no_text_4 plant (write out) pool known = tt

none_told : {ss : List Step} {old new : List ℕ} → Steps ss old new → is_plants old ≡ true → NoneTold4 ss
none_told nothing known = tt
none_told (next s {old = old} {mid = mid} k ks) known = (
  (λ e. never_told s.plant s.call old known NotADictionary (sym (ap refusal k.answered) ∙ e) refl),
  subst (NoText 4) (sym k.answered) (no_text_4 s.plant s.call old known),
  none_told ks (beside s.plant s.call old mid known k.left).passes,
)

pub never_4 : Never4
never_4 limit_a limit_b steps pool r = none_told r.calls (begun_passes limit_a limit_b steps pool r)

-- ---- a plain pool

accepted_none : (cs : List Cause) (a : Result ℕ Refusal) → answer cs 0 ≡ a → refused_in a ≡ none → None cs
accepted_none cs (Ok n) e h = none_of cs 0 n e
accepted_none cs (Err r) e h = absurd (let z : ◌≡◌ {A = ℕ} 0 1 = cc in omega arith)

module _ (plant : Plant) (pool : List ℕ) (plain : is_dictionary pool ≡ true) where
  -- a call that is accepted only with a pool that it knows
  not_accepted : (call : Call) → (None (causes_of plant call pool) → is_none (plant_meaning plant pool) ≡ false) → refusal (told_of plant call pool) ≡ none → ⊥
  not_accepted call knows e =
      let h = knows (accepted_none (causes_of plant call pool) (answer (causes_of plant call pool) 0) refl (sym (refused_by plant call pool) ∙ e)) in
      clash (sym h ∙ ap is_none ((plain_not_plants pool).1 plain plant).0)

  nothing_accepted : (call : Call) → NothingAccepted (told_of plant call pool)
  nothing_accepted (add word class) = not_accepted (add word class) (λ h. h.1.1.0)
  nothing_accepted (remove word) = not_accepted (remove word) (λ h. h.1.1.0)
  nothing_accepted (contains word) = not_accepted (contains word) (λ h. h.1.1.0)
  nothing_accepted (prefixes text out) = not_accepted (prefixes text out) (λ h. h.1.1.0)
  nothing_accepted count = not_accepted count (λ h. h.0)
  nothing_accepted (cut mode text out scratch) = not_accepted (cut mode text out scratch) (λ h. h.1.1.0)
  nothing_accepted (reasons mode text out scratch) = not_accepted (reasons mode text out scratch) (λ h. h.1.1.0)
  nothing_accepted (cut_many mode joined ends answers out scratch) =
      let c = many_call joined ends pool answers out scratch mode in
      let f = plant_cuts_form plant in
      no_text f (plant_many_is_single plant) c 0 (λ i. told_0 (f.answer (single_call f c i)) (not_accepted (cut_for (single_call f c i)) (λ h. h.1.1.0)))
  nothing_accepted (reasons_many mode joined ends answers out scratch) =
      let c = many_call joined ends pool answers out scratch mode in
      let f = plant_reasons_form plant in
      no_text f (plant_many_is_single_reasons plant) c 0 (λ i. told_0 (f.answer (single_call f c i)) (not_accepted (reasons_for (single_call f c i)) (λ h. h.1.1.0)))
  nothing_accepted (read image) = not_accepted (read image) (λ h. h.0)
  nothing_accepted (write out) = not_accepted (write out) (λ h. h.0)

  -- what a refused call leaves
  as_it_was : (call : Call) (new : List ℕ) → (None (causes_of plant call pool) → is_none (plant_meaning plant pool) ≡ false) → Left plant call pool new → new ≡ pool
  as_it_was call new knows f = go (refusal (told_of plant call pool)) refl
    where
      go : (m : Option Refusal) → refusal (told_of plant call pool) ≡ m → new ≡ pool
      go none e = absurd (not_accepted call knows e)
      go (some r) e = refused_left plant call pool new r e f

  left_plain : (call : Call) (new : List ℕ) → Left plant call pool new → new ≡ pool
  left_plain (add word class) new f = as_it_was (add word class) new (λ h. h.1.1.0) f
  left_plain (remove word) new f = as_it_was (remove word) new (λ h. h.1.1.0) f
  left_plain (read image) new f = as_it_was (read image) new (λ h. h.0) f
  left_plain (contains word) new f = f
  left_plain (prefixes text out) new f = f
  left_plain count new f = f
  left_plain (cut mode text out scratch) new f = f
  left_plain (reasons mode text out scratch) new f = f
  left_plain (cut_many mode joined ends answers out scratch) new f = f
  left_plain (reasons_many mode joined ends answers out scratch) new f = f
  left_plain (write out) new f = f

pub plain_refused : PlainRefused
plain_refused plant call old new t plain k =
    (subst NothingAccepted (sym k.answered) (nothing_accepted plant old plain call), left_plain plant old plain call new k.left)
