-- TWO PLANTS IN ONE POOL (02, ticket 11): can one plant learn or disturb anything of the other's?
-- Everything that the statements stand on is named here: what a plant asks, what it is told, what
-- the contracts say of the call, and a run of calls of both plants. A comment that starts in
-- capitals names a statement. Cells are told to no one here, nor how long a call took.
use Rattle.std.specs.Prelude.{ℕ, ◌*◌, ◌<◌, ◌≡◌, Bool, true, false, cond, List, [], ◌∷◌, get_or, Result, Ok, Err}
use Rattle.std.proofs.Math.Option.{Option, none, some}
use Rattle.newmm_rules.specs.declared.Ends.{Ends}
use Rattle.refusal.specs.declared.Refusal.{Refusal}
use Rattle.refusal.specs.declared.Refusal.TheVariants.{NotADictionary}
use Rattle.refusal.specs.Answers.{output}
use Rattle.char_string_trim.specs.Trimming.{trimmed_of}
use Rattle.trie_pool.specs.Rules.{is_dictionary}
use Rattle.trie_pool.specs.Meaning.{Terms, meaning, terms, no_term, with_term, without_term}
use Rattle.trie_char_answers.specs.Answers.{WordAnswer}
use Rattle.trie_plants.specs.declared.Plant.{Plant}
use Rattle.trie_plants.specs.declared.Plant.TheVariants.{A, B}
use Rattle.trie_plants.specs.Halves.{other_of, limit_of}
use Rattle.trie_plants.specs.Rules.{is_plants}
use Rattle.trie_plants.specs.Meaning.{plant_meaning, plant_terms}
use Rattle.trie_plants_answers.specs.Answers.{start_answer, plant_add_answer, plant_added, plant_remove_answer, plant_removed}
use Rattle.trie_plants_answers.specs.Answers.{plant_contains_answer, plant_prefixes, plant_prefixes_answer, plant_count_answer}
use Rattle.trie_plants_answers.specs.Changes.{PlantAfter, Started}
use Rattle.word_list_answers.specs.Answers.{image_terms}
use Rattle.newmm_rules.specs.declared.Mode.{Mode}
use Rattle.newmm_answers.specs.Calls as asked
use Rattle.newmm_many_answers.specs.Turns.{Singly}
use Rattle.newmm_many_answers.specs.Calls.{ManyCall, many_call, many_answer, answers_by, out_by, scratch_by}
use Rattle.newmm_plants.specs.Calls.{plant_answer_of, plant_out_of, plant_scratch_of}
use Rattle.newmm_plants_reasons.specs.Calls.{plant_reasons_answer_of, plant_pairs_of}
use Rattle.newmm_plants_many.specs.Calls.{plant_cuts_one, plant_reasons_one}
use Rattle.word_list_plants.specs.Answers.{plant_read_answer}
use Rattle.word_list_plants_write.specs.Answers.{plant_image, plant_write_answer}

-- ---- calls

-- What a plant asks. Rows that it lends are part of what it asks, as they are when it lends them.
pub data Call : Type 0 where
  add : (word : List ℕ) (class : ℕ) → Call
  remove : (word : List ℕ) → Call
  contains : (word : List ℕ) → Call
  prefixes : (text out : List ℕ) → Call
  count : Call
  cut : (mode : Mode) (text out scratch : List ℕ) → Call
  reasons : (mode : Mode) (text out scratch : List ℕ) → Call
  cut_many : (mode : Mode) (joined ends answers out scratch : List ℕ) → Call
  reasons_many : (mode : Mode) (joined ends answers out scratch : List ℕ) → Call
  read : (image : List ℕ) → Call
  write : (out : List ℕ) → Call

-- What it is told: the answer, and each row that it lent to be written, as it is afterwards.
pub data Told : Type 0 where
  number : Result ℕ Refusal → Told
  held : WordAnswer → Told
  row : Result ℕ Refusal → (out : List ℕ) → Told
  rows : Result Ends Refusal → (out scratch : List ℕ) → Told
  texts : Result ℕ Refusal → (answers out scratch : List ℕ) → Told

-- what a call with many texts is told, by the single calls that it stands for
abbrev pub told_texts : Singly → ManyCall → Told
told_texts one c = texts (many_answer c) (answers_by one c) (out_by one c) (scratch_by one c)

-- What the contract of the call says that the plant is told of this pool.
abbrev pub told_of : Plant → Call → List ℕ → Told
told_of plant (add word class) pool = number (plant_add_answer plant word class pool)
told_of plant (remove word) pool = number (plant_remove_answer plant word pool)
told_of plant (contains word) pool = held (plant_contains_answer plant word pool)
told_of plant (prefixes text out) pool =
    row (plant_prefixes_answer plant text pool out)
    (output (plant_prefixes_answer plant text pool out) (plant_prefixes plant text pool) out)
told_of plant count pool = number (plant_count_answer plant pool)
told_of plant (cut mode text out scratch) pool =
    rows (plant_answer_of plant (asked.call text pool out scratch mode))
    (plant_out_of plant (asked.call text pool out scratch mode))
    (plant_scratch_of plant (asked.call text pool out scratch mode))
told_of plant (reasons mode text out scratch) pool =
    rows (plant_reasons_answer_of plant (asked.call text pool out scratch mode))
    (plant_pairs_of plant (asked.call text pool out scratch mode))
    (plant_scratch_of plant (asked.call text pool out scratch mode))
told_of plant (cut_many mode joined ends answers out scratch) pool =
    told_texts (plant_cuts_one plant (many_call joined ends pool answers out scratch mode))
    (many_call joined ends pool answers out scratch mode)
told_of plant (reasons_many mode joined ends answers out scratch) pool =
    told_texts (plant_reasons_one plant (many_call joined ends pool answers out scratch mode))
    (many_call joined ends pool answers out scratch mode)
told_of plant (read image) pool = number (plant_read_answer plant image pool)
told_of plant (write out) pool =
    row (plant_write_answer plant pool out) (output (plant_write_answer plant pool out) (plant_image plant pool) out)

-- What it says of the pool before and after the call. A call that only reads leaves it as it was.
abbrev pub Left : Plant → Call → List ℕ → List ℕ → Type 0
Left plant (add word class) old new =
    PlantAfter plant (plant_add_answer plant word class old) old new (plant_added plant word class old)
Left plant (remove word) old new =
    PlantAfter plant (plant_remove_answer plant word old) old new (plant_removed plant word old)
Left plant (read image) old new = PlantAfter plant (plant_read_answer plant image old) old new (image_terms image)
Left plant (contains word) old new = new ≡ old
Left plant (prefixes text out) old new = new ≡ old
Left plant count old new = new ≡ old
Left plant (cut mode text out scratch) old new = new ≡ old
Left plant (reasons mode text out scratch) old new = new ≡ old
Left plant (cut_many mode joined ends answers out scratch) old new = new ≡ old
Left plant (reasons_many mode joined ends answers out scratch) old new = new ≡ old
Left plant (write out) old new = new ≡ old

-- A call of a plant that keeps its contract.
pub record Kept (plant : Plant) (call : Call) (old new : List ℕ) (told : Told) : Type 0 where
  pub answered : told ≡ told_of plant call old
  pub left : Left plant call old new

-- the refusal that a plant is told, if it is one; of a call with many texts, that of the whole
abbrev pub refused_in : Result ℕ Refusal → Option Refusal
refused_in (Ok n) = none
refused_in (Err r) = some r

abbrev pub refused_word : WordAnswer → Option Refusal
refused_word (Ok told) = none
refused_word (Err r) = some r

abbrev pub refused_cut : Result Ends Refusal → Option Refusal
refused_cut (Ok told) = none
refused_cut (Err r) = some r

abbrev pub refusal : Told → Option Refusal
refusal (number r) = refused_in r
refusal (held r) = refused_word r
refusal (row r out) = refused_in r
refusal (rows r out scratch) = refused_cut r
refusal (texts r answers out scratch) = refused_in r

-- No text of an accepted call is told this number: the first of its four cells.
abbrev pub NoText : ℕ → Told → Type 0
NoText k (texts (Ok n) answers out scratch) = (i : ℕ) → i < n → get_or answers (4 * i) 0 ≡ k → ⊥
NoText k (texts (Err r) answers out scratch) = Unit {0}
NoText k (number r) = Unit {0}
NoText k (held r) = Unit {0}
NoText k (row r out) = Unit {0}
NoText k (rows r out scratch) = Unit {0}

-- ---- one call

-- REFUSED: a refused call changes no pool.
abbrev pub RefusedKeeps : Type 0
RefusedKeeps =
    (plant : Plant) (call : Call) (old new : List ℕ) (told : Told) (r : Refusal)
    → Kept plant call old new told
    → refusal told ≡ some r
    → new ≡ old

-- FRAME: no call of a plant, accepted or refused, changes the words, classes or limit of the other,
-- nor its own limit.
abbrev pub OtherKept : Type 0
OtherKept =
    (plant : Plant) (call : Call) (old new : List ℕ) (told : Told)
    → is_plants old ≡ true
    → Kept plant call old new told
    → (plant_terms (other_of plant) new ≡ plant_terms (other_of plant) old)
    × ((any : Plant) → limit_of any new ≡ limit_of any old)

-- Plant p of one plants' pool and plant q of another have the same words, classes and limit. All
-- else may differ: the pools' sizes, and the words and the limit of the other plants.
pub record SameOwn (p : Plant) (one : List ℕ) (q : Plant) (two : List ℕ) : Type 0 where
  pub terms_one : Terms
  pub terms_two : Terms
  pub means_one : plant_terms p one ≡ some terms_one
  pub means_two : plant_terms q two ≡ some terms_two
  pub same : (v : List ℕ) → terms_one v ≡ terms_two v
  pub limit : limit_of p one ≡ limit_of q two

-- OWN WORDS: what a plant is told depends on its own words, classes and limit alone, and so does
-- what the call leaves of them.
abbrev pub ByOwn : Type 0
ByOwn =
    (p q : Plant) (call : Call) (one new two new' : List ℕ) (told told' : Told)
    → SameOwn p one q two
    → Kept p call one new told
    → Kept q call two new' told'
    → (told ≡ told') × SameOwn p new q new'

-- EITHER ORDER: a call of one plant and a call of the other, on one pool in both orders. Each is
-- told the same in both, and the pools are equal, cell by cell.
abbrev pub EitherOrder : Type 0
EitherOrder =
    (plant : Plant) (call other : Call) (pool p₁ p₂ q₁ q₂ : List ℕ) (t u t' u' : Told)
    → is_plants pool ≡ true
    → Kept plant call pool p₁ t
    → Kept (other_of plant) other p₁ p₂ u
    → Kept (other_of plant) other pool q₁ u'
    → Kept plant call q₁ q₂ t'
    → (t ≡ t') × (u ≡ u') × (p₂ ≡ q₂)

-- ---- runs

-- A call in a run: whose it is, what it asks and what it is told.
pub record Step : Type 0 where
  pub plant : Plant
  pub call : Call
  pub told : Told

-- Calls of either plant, accepted or refused, each on the pool that the one before it left.
pub data Steps : List Step → List ℕ → List ℕ → Type 0 where
  nothing : {pool : List ℕ} → Steps [] pool pool
  next : (s : Step) {ss : List Step} {old mid new : List ℕ}
      → Kept s.plant s.call old mid s.told
      → Steps ss mid new
      → Steps (s ∷ ss) old new

-- A run: an accepted start with these limits on any cells, and then such calls. Only they touch the
-- pool.
pub record Run (limit_a limit_b : ℕ) (steps : List Step) (pool : List ℕ) : Type 0 where
  pub lent : List ℕ
  pub begun : List ℕ
  pub told : ℕ
  pub accepted : start_answer limit_a limit_b lent ≡ Ok told
  pub started : Started (Ok told) limit_a limit_b lent begun
  pub calls : Steps steps begun pool

abbrev pub limit_for : Plant → ℕ → ℕ → ℕ
limit_for A limit_a limit_b = limit_a
limit_for B limit_a limit_b = limit_b

abbrev pub same_plant : Plant → Plant → Bool
same_plant A A = true
same_plant A B = false
same_plant B A = false
same_plant B B = true

-- What the plant asks in these steps and what it is told, in order.
abbrev pub asked_by : Plant → List Step → List Call
asked_by plant [] = []
asked_by plant (s ∷ ss) = cond (same_plant plant s.plant) (s.call ∷ asked_by plant ss) (asked_by plant ss)

abbrev pub told_to : Plant → List Step → List Told
told_to plant [] = []
told_to plant (s ∷ ss) = cond (same_plant plant s.plant) (s.told ∷ told_to plant ss) (told_to plant ss)

-- UNDISTURBED: two runs whose starts give a plant the same limit and in which it makes the same
-- calls in the same order. It is told the same at each of them, whatever the other plant called,
-- was told or was limited to, and whatever the pools' sizes; and it ends with the same words and
-- classes.
abbrev pub Undisturbed : Type 0
Undisturbed =
    (plant : Plant) (limit_a limit_b limit_a' limit_b' : ℕ) (one two : List Step) (p q : List ℕ)
    → Run limit_a limit_b one p
    → Run limit_a' limit_b' two q
    → limit_for plant limit_a limit_b ≡ limit_for plant limit_a' limit_b'
    → asked_by plant one ≡ asked_by plant two
    → (told_to plant one ≡ told_to plant two) × SameOwn plant p plant q

-- EITHER PLANT: the same of plant p in the one run and plant q in the other. Being A or B is not
-- told.
abbrev pub EitherPlant : Type 0
EitherPlant =
    (p q : Plant) (limit_a limit_b limit_a' limit_b' : ℕ) (one two : List Step) (new new' : List ℕ)
    → Run limit_a limit_b one new
    → Run limit_a' limit_b' two new'
    → limit_for p limit_a limit_b ≡ limit_for q limit_a' limit_b'
    → asked_by p one ≡ asked_by q two
    → (told_to p one ≡ told_to q two) × SameOwn p new q new'

-- ---- the pools of a run

-- What an accepted call makes of the words and classes that its plant held, and what any call
-- leaves.
abbrev pub made : Call → Terms → Terms
made (add word class) t = with_term (trimmed_of word) class t
made (remove word) t = without_term (trimmed_of word) t
made (read image) t = image_terms image
made (contains word) t = t
made (prefixes text out) t = t
made count t = t
made (cut mode text out scratch) t = t
made (reasons mode text out scratch) t = t
made (cut_many mode joined ends answers out scratch) t = t
made (reasons_many mode joined ends answers out scratch) t = t
made (write out) t = t

abbrev pub left_by : Call → Option Refusal → Terms → Terms
left_by call none t = made call t
left_by call (some r) t = t

-- The same of a plant's own calls in these steps, from the words with which it went in.
abbrev pub terms_left : Plant → List Step → Terms → Terms
terms_left plant [] t = t
terms_left plant (s ∷ ss) t =
    terms_left plant ss (cond (same_plant plant s.plant) (left_by s.call (refusal s.told) t) t)

-- REACHED: every pool of a run passes as a plants' pool, has the limits of the start, and each
-- plant holds what its own accepted calls left. (What a run does up to some call is a run.)
abbrev pub Reached : Type 0
Reached =
    (limit_a limit_b : ℕ) (steps : List Step) (pool : List ℕ)
    → Run limit_a limit_b steps pool
    → (is_plants pool ≡ true)
    × ((plant : Plant) → limit_of plant pool ≡ limit_for plant limit_a limit_b)
    × ((plant : Plant) → plant_terms plant pool ≡ some (terms_left plant steps no_term))

-- so 4 is told to no one in a run, nor of any text
abbrev pub NoneTold4 : List Step → Type 0
NoneTold4 [] = Unit {0}
NoneTold4 (s ∷ ss) = (refusal s.told ≡ some NotADictionary → ⊥) × NoText 4 s.told × NoneTold4 ss

abbrev pub Never4 : Type 0
Never4 =
    (limit_a limit_b : ℕ) (steps : List Step) (pool : List ℕ)
    → Run limit_a limit_b steps pool
    → NoneTold4 steps

-- NO POOL IS BOTH: a plants' pool has no meaning for a plain call, which refuses it with 4, and a
-- plain pool none for a plant call.
abbrev pub PlainNotPlants : Type 0
PlainNotPlants =
    (pool : List ℕ)
    → (is_plants pool ≡ true → (meaning pool ≡ none) × (terms pool ≡ none))
    × (is_dictionary pool ≡ true → (plant : Plant) → (plant_meaning plant pool ≡ none) × (plant_terms plant pool ≡ none))

-- Nothing is accepted: the call is refused, or each of its many texts. An accepted text is told 0.
abbrev pub NothingAccepted : Told → Type 0
NothingAccepted (number r) = refused_in r ≡ none → ⊥
NothingAccepted (held r) = refused_word r ≡ none → ⊥
NothingAccepted (row r out) = refused_in r ≡ none → ⊥
NothingAccepted (rows r out scratch) = refused_cut r ≡ none → ⊥
NothingAccepted (texts r answers out scratch) = NoText 0 (texts r answers out scratch)

-- so of a plain pool no plant call is accepted
abbrev pub PlainRefused : Type 0
PlainRefused =
    (plant : Plant) (call : Call) (old new : List ℕ) (told : Told)
    → is_dictionary old ≡ true
    → Kept plant call old new told
    → NothingAccepted told × (new ≡ old)
