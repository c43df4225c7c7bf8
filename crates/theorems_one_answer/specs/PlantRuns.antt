-- Two plants in one pool (02, ticket 11), over runs of the proved functions themselves:
-- `trie_plants_change::start`, `add_in` and `remove_in`, `trie_plants_read::contain_in`,
-- `prefix_lengths_in` and `amount_of_words_in`, `newmm_plants::cut_in`,
-- `newmm_plants_reasons::cut_reasons_in`, `newmm_plants_many::cut_many_in` and
-- `cut_reasons_many_in`, `word_list_plants::read_image_in` and
-- `word_list_plants_write::write_image_in`.
use Rattle.std.specs.Prelude.{ℕ, ◌≡◌, true, List, [], ◌∷◌, map, Ok}
use Rattle.std.proofs.Math.Option.{some}
use contract.Lifetimes.{Lfts}
use borrow.Fn.Kinds.{Dens, res_t, ended_of}
use denote.Triple.Clauses.{AtExit}
use Rattle.trie_plants_change.proofs.start.Kinds as start_kinds
use Rattle.trie_plants_change.proofs.start.Reads as start_contract
use Rattle.trie_plants_change.proofs.add_in.Kinds as add_kinds
use Rattle.trie_plants_change.proofs.add_in.Reads as add_contract
use Rattle.trie_plants_change.proofs.remove_in.Kinds as remove_kinds
use Rattle.trie_plants_change.proofs.remove_in.Reads as remove_contract
use Rattle.trie_plants_read.proofs.contain_in.Kinds as contain_kinds
use Rattle.trie_plants_read.proofs.contain_in.Reads as contain_contract
use Rattle.trie_plants_read.proofs.prefix_lengths_in.Kinds as prefixes_kinds
use Rattle.trie_plants_read.proofs.prefix_lengths_in.Reads as prefixes_contract
use Rattle.trie_plants_read.proofs.amount_of_words_in.Kinds as amount_kinds
use Rattle.trie_plants_read.proofs.amount_of_words_in.Reads as amount_contract
use Rattle.newmm_plants.proofs.cut_in.Kinds as cut_kinds
use Rattle.newmm_plants.proofs.cut_in.Reads as cut_contract
use Rattle.newmm_plants_reasons.proofs.cut_reasons_in.Kinds as reasons_kinds
use Rattle.newmm_plants_reasons.proofs.cut_reasons_in.Reads as reasons_contract
use Rattle.newmm_plants_many.proofs.cut_many_in.Kinds as cut_many_kinds
use Rattle.newmm_plants_many.proofs.cut_many_in.Reads as cut_many_contract
use Rattle.newmm_plants_many.proofs.cut_reasons_many_in.Kinds as reasons_many_kinds
use Rattle.newmm_plants_many.proofs.cut_reasons_many_in.Reads as reasons_many_contract
use Rattle.word_list_plants.proofs.read_image_in.Kinds as read_kinds
use Rattle.word_list_plants.proofs.read_image_in.Reads as read_contract
use Rattle.word_list_plants_write.proofs.write_image_in.Kinds as write_kinds
use Rattle.word_list_plants_write.proofs.write_image_in.Reads as write_contract
use Rattle.trie_pool.specs.Meaning.{no_term}
use Rattle.trie_plants.specs.declared.Plant.{Plant}
use Rattle.trie_plants.specs.Rules.{is_plants}
use Rattle.trie_plants.specs.Meaning.{plant_terms}
use Rattle.theorems_plants.specs.Plants.{Call, add, remove, contains, prefixes, count, cut, reasons, cut_many, reasons_many, read, write}
use Rattle.theorems_plants.specs.Plants.{Told, number, held, row, rows, texts, Step, limit_for, asked_by, told_to, terms_left}

-- Runs of the twelve functions, as `Run` (specs/Runs.antt) is one of `newmm::cut`.
pub record StartRun : Type 0 where
  pub lifetimes : Lfts 1
  pub arguments : Dens lifetimes start_kinds.ps
  pub answer : (res_t start_kinds.r lifetimes).Denot
  pub rows : AtExit (ended_of 1 start_kinds.ps start_kinds.r) lifetimes
  pub promise : start_contract.Post lifetimes arguments answer rows

pub record AddRun : Type 0 where
  pub lifetimes : Lfts 2
  pub arguments : Dens lifetimes add_kinds.ps
  pub answer : (res_t add_kinds.r lifetimes).Denot
  pub rows : AtExit (ended_of 2 add_kinds.ps add_kinds.r) lifetimes
  pub promise : add_contract.Post lifetimes arguments answer rows

pub record RemoveRun : Type 0 where
  pub lifetimes : Lfts 2
  pub arguments : Dens lifetimes remove_kinds.ps
  pub answer : (res_t remove_kinds.r lifetimes).Denot
  pub rows : AtExit (ended_of 2 remove_kinds.ps remove_kinds.r) lifetimes
  pub promise : remove_contract.Post lifetimes arguments answer rows

pub record ContainRun : Type 0 where
  pub lifetimes : Lfts 2
  pub arguments : Dens lifetimes contain_kinds.ps
  pub answer : (res_t contain_kinds.r lifetimes).Denot
  pub rows : AtExit (ended_of 2 contain_kinds.ps contain_kinds.r) lifetimes
  pub promise : contain_contract.Post lifetimes arguments answer rows

pub record PrefixesRun : Type 0 where
  pub lifetimes : Lfts 3
  pub arguments : Dens lifetimes prefixes_kinds.ps
  pub answer : (res_t prefixes_kinds.r lifetimes).Denot
  pub rows : AtExit (ended_of 3 prefixes_kinds.ps prefixes_kinds.r) lifetimes
  pub promise : prefixes_contract.Post lifetimes arguments answer rows

pub record AmountRun : Type 0 where
  pub lifetimes : Lfts 1
  pub arguments : Dens lifetimes amount_kinds.ps
  pub answer : (res_t amount_kinds.r lifetimes).Denot
  pub rows : AtExit (ended_of 1 amount_kinds.ps amount_kinds.r) lifetimes
  pub promise : amount_contract.Post lifetimes arguments answer rows

pub record CutRun : Type 0 where
  pub lifetimes : Lfts 4
  pub arguments : Dens lifetimes cut_kinds.ps
  pub answer : (res_t cut_kinds.r lifetimes).Denot
  pub rows : AtExit (ended_of 4 cut_kinds.ps cut_kinds.r) lifetimes
  pub promise : cut_contract.Post lifetimes arguments answer rows

pub record ReasonsRun : Type 0 where
  pub lifetimes : Lfts 4
  pub arguments : Dens lifetimes reasons_kinds.ps
  pub answer : (res_t reasons_kinds.r lifetimes).Denot
  pub rows : AtExit (ended_of 4 reasons_kinds.ps reasons_kinds.r) lifetimes
  pub promise : reasons_contract.Post lifetimes arguments answer rows

pub record CutManyRun : Type 0 where
  pub lifetimes : Lfts 6
  pub arguments : Dens lifetimes cut_many_kinds.ps
  pub answer : (res_t cut_many_kinds.r lifetimes).Denot
  pub rows : AtExit (ended_of 6 cut_many_kinds.ps cut_many_kinds.r) lifetimes
  pub promise : cut_many_contract.Post lifetimes arguments answer rows

pub record ReasonsManyRun : Type 0 where
  pub lifetimes : Lfts 6
  pub arguments : Dens lifetimes reasons_many_kinds.ps
  pub answer : (res_t reasons_many_kinds.r lifetimes).Denot
  pub rows : AtExit (ended_of 6 reasons_many_kinds.ps reasons_many_kinds.r) lifetimes
  pub promise : reasons_many_contract.Post lifetimes arguments answer rows

pub record ReadRun : Type 0 where
  pub lifetimes : Lfts 2
  pub arguments : Dens lifetimes read_kinds.ps
  pub answer : (res_t read_kinds.r lifetimes).Denot
  pub rows : AtExit (ended_of 2 read_kinds.ps read_kinds.r) lifetimes
  pub promise : read_contract.Post lifetimes arguments answer rows

pub record WriteRun : Type 0 where
  pub lifetimes : Lfts 2
  pub arguments : Dens lifetimes write_kinds.ps
  pub answer : (res_t write_kinds.r lifetimes).Denot
  pub rows : AtExit (ended_of 2 write_kinds.ps write_kinds.r) lifetimes
  pub promise : write_contract.Post lifetimes arguments answer rows

-- A start: the limits that it was asked for, and the pool that it left.
abbrev pub limit_a : StartRun → ℕ
limit_a r = r.arguments.1.0

abbrev pub limit_b : StartRun → ℕ
limit_b r = r.arguments.1.1.0

abbrev pub start_left : StartRun → List ℕ
start_left r = r.rows.0.now

-- A run of a plant call.
pub data CallRun : Type 0 where
  added : AddRun → CallRun
  removed : RemoveRun → CallRun
  contained : ContainRun → CallRun
  prefixed : PrefixesRun → CallRun
  counted : AmountRun → CallRun
  cut_by : CutRun → CallRun
  reasoned : ReasonsRun → CallRun
  cut_texts : CutManyRun → CallRun
  reasoned_texts : ReasonsManyRun → CallRun
  read_in : ReadRun → CallRun
  written : WriteRun → CallRun

-- whose it is
abbrev pub plant_of : CallRun → Plant
plant_of (added r) = r.arguments.1.0
plant_of (removed r) = r.arguments.1.0
plant_of (contained r) = r.arguments.1.0
plant_of (prefixed r) = r.arguments.1.0
plant_of (counted r) = r.arguments.1.0
plant_of (cut_by r) = r.arguments.1.1.0
plant_of (reasoned r) = r.arguments.1.1.0
plant_of (cut_texts r) = r.arguments.1.1.1.0
plant_of (reasoned_texts r) = r.arguments.1.1.1.0
plant_of (read_in r) = r.arguments.1.0
plant_of (written r) = r.arguments.1.0

-- what it asks
abbrev pub ask_of : CallRun → Call
ask_of (added r) = add r.arguments.1.1.0.now r.arguments.1.1.1.0
ask_of (removed r) = remove r.arguments.1.1.0.now
ask_of (contained r) = contains r.arguments.1.1.0.now
ask_of (prefixed r) = prefixes r.arguments.1.1.0.now r.arguments.1.1.1.0.now
ask_of (counted r) = count
ask_of (cut_by r) =
    let a = r.arguments in
    cut a.1.1.1.1.1.0 a.0.now a.1.1.1.0.now a.1.1.1.1.0.now
ask_of (reasoned r) =
    let a = r.arguments in
    reasons a.1.1.1.1.1.0 a.0.now a.1.1.1.0.now a.1.1.1.1.0.now
ask_of (cut_texts r) =
    let a = r.arguments in
    cut_many a.1.1.1.1.1.1.1.0 a.0.now a.1.0.now
    a.1.1.1.1.0.now a.1.1.1.1.1.0.now a.1.1.1.1.1.1.0.now
ask_of (reasoned_texts r) =
    let a = r.arguments in
    reasons_many a.1.1.1.1.1.1.1.0 a.0.now a.1.0.now
    a.1.1.1.1.0.now a.1.1.1.1.1.0.now a.1.1.1.1.1.1.0.now
ask_of (read_in r) = read r.arguments.1.1.0.now
ask_of (written r) = write r.arguments.1.1.0.now

-- what it is told
abbrev pub told_by : CallRun → Told
told_by (added r) = number r.answer
told_by (removed r) = number r.answer
told_by (contained r) = held r.answer
told_by (prefixed r) = row r.answer r.rows.1.1.1.0.now
told_by (counted r) = number r.answer
told_by (cut_by r) = rows r.answer r.rows.1.1.1.0.now r.rows.1.1.1.1.0.now
told_by (reasoned r) = rows r.answer r.rows.1.1.1.0.now r.rows.1.1.1.1.0.now
told_by (cut_texts r) =
    texts r.answer r.rows.1.1.1.1.0.now r.rows.1.1.1.1.1.0.now
    r.rows.1.1.1.1.1.1.0.now
told_by (reasoned_texts r) =
    texts r.answer r.rows.1.1.1.1.0.now r.rows.1.1.1.1.1.0.now
    r.rows.1.1.1.1.1.1.0.now
told_by (read_in r) = number r.answer
told_by (written r) = row r.answer r.rows.1.1.0.now

abbrev pub step_of : CallRun → Step
step_of r = record { plant = plant_of r; call = ask_of r; told = told_by r }

-- The pool that it was lent, and what it left. A pool that is lent to be read stays as it is.
abbrev pub lent_to : CallRun → List ℕ
lent_to (added r) = r.arguments.0.now
lent_to (removed r) = r.arguments.0.now
lent_to (contained r) = r.arguments.0.now
lent_to (prefixed r) = r.arguments.0.now
lent_to (counted r) = r.arguments.0.now
lent_to (cut_by r) = r.arguments.1.0.now
lent_to (reasoned r) = r.arguments.1.0.now
lent_to (cut_texts r) = r.arguments.1.1.0.now
lent_to (reasoned_texts r) = r.arguments.1.1.0.now
lent_to (read_in r) = r.arguments.0.now
lent_to (written r) = r.arguments.0.now

abbrev pub left_by : CallRun → List ℕ
left_by (added r) = r.rows.0.now
left_by (removed r) = r.rows.0.now
left_by (contained r) = r.arguments.0.now
left_by (prefixed r) = r.arguments.0.now
left_by (counted r) = r.arguments.0.now
left_by (cut_by r) = r.arguments.1.0.now
left_by (reasoned r) = r.arguments.1.0.now
left_by (cut_texts r) = r.arguments.1.1.0.now
left_by (reasoned_texts r) = r.arguments.1.1.0.now
left_by (read_in r) = r.rows.0.now
left_by (written r) = r.arguments.0.now

-- Runs in turn, accepted or refused: each is lent the pool that the one before left.
pub data InTurn : List CallRun → List ℕ → List ℕ → Type 0 where
  nothing : {pool : List ℕ} → InTurn [] pool pool
  next : (r : CallRun) {rs : List CallRun} {pool new : List ℕ}
      → lent_to r ≡ pool
      → InTurn rs (left_by r) new
      → InTurn (r ∷ rs) pool new

-- An accepted start, and runs of plant calls in turn.
pub record PlantsRun (calls : List CallRun) (pool : List ℕ) : Type 0 where
  pub start : StartRun
  pub told : ℕ
  pub accepted : start.answer ≡ Ok told
  pub turns : InTurn calls (start_left start) pool

-- the limit that it gives a plant
abbrev pub limit_in : {calls : List CallRun} {pool : List ℕ} → Plant → PlantsRun calls pool → ℕ
limit_in plant r = limit_for plant (limit_a r.start) (limit_b r.start)

-- UNDISTURBED: two such runs that give a plant the same limit and in which it asks the same in the
-- same order. It is told the same.
abbrev pub UndisturbedOfRuns : Type 0
UndisturbedOfRuns =
    (plant : Plant) (one two : List CallRun) (p q : List ℕ) (r : PlantsRun one p) (s : PlantsRun two q)
    → limit_in plant r ≡ limit_in plant s
    → asked_by plant (map step_of one) ≡ asked_by plant (map step_of two)
    → told_to plant (map step_of one) ≡ told_to plant (map step_of two)

-- REACHED: its pool passes, and each plant holds what its own accepted calls left.
abbrev pub ReachedOfRuns : Type 0
ReachedOfRuns =
    (calls : List CallRun) (pool : List ℕ)
    → PlantsRun calls pool
    → (is_plants pool ≡ true)
    × ((plant : Plant) → plant_terms plant pool ≡ some (terms_left plant (map step_of calls) no_term))
