-- The order of edits (02, ticket 8), over runs of the proved functions `trie_char::fresh`, `add`,
-- `add_class` and `remove` themselves, and of `newmm::cut`.
use Rattle.std.specs.Prelude.{ℕ, ◌≡◌, true, List, [], ◌∷◌, map, Result, Ok}
use Rattle.std.proofs.Math.Option.{some}
use Rattle.refusal.specs.declared.Refusal.{Refusal}
use contract.Lifetimes.{Lfts}
use borrow.Fn.Kinds.{Dens, res_t, ended_of}
use denote.Triple.Clauses.{AtExit}
use Rattle.trie_char.proofs.fresh.Kinds as fresh_kinds
use Rattle.trie_char.proofs.fresh.Reads as fresh_contract
use Rattle.trie_char.proofs.add.Kinds as add_kinds
use Rattle.trie_char.proofs.add.Reads as add_contract
use Rattle.trie_char.proofs.add_class.Kinds as add_class_kinds
use Rattle.trie_char.proofs.add_class.Reads as add_class_contract
use Rattle.trie_char.proofs.remove.Kinds as remove_kinds
use Rattle.trie_char.proofs.remove.Reads as remove_contract
use Rattle.trie_pool.specs.Rules.{is_dictionary}
use Rattle.trie_pool.specs.Meaning.{Terms, terms}
use Rattle.trie_char_answers.specs.Answers.{terms_of}
use Rattle.theorems_order.specs.Order.{Edit, add, remove, word_of, Apart, Joined, adds, HoldsUnion}
use Rattle.theorems_one_answer.specs.Runs.{Run, call_of, SameAnswers}

-- Runs of the four functions, as `Run` is one of `cut`.
pub record FreshRun : Type 0 where
  pub lifetimes : Lfts 1
  pub arguments : Dens lifetimes fresh_kinds.ps
  pub answer : (res_t fresh_kinds.r lifetimes).Denot
  pub rows : AtExit (ended_of 1 fresh_kinds.ps fresh_kinds.r) lifetimes
  pub promise : fresh_contract.Post lifetimes arguments answer rows

pub record AddRun : Type 0 where
  pub lifetimes : Lfts 2
  pub arguments : Dens lifetimes add_kinds.ps
  pub answer : (res_t add_kinds.r lifetimes).Denot
  pub rows : AtExit (ended_of 2 add_kinds.ps add_kinds.r) lifetimes
  pub promise : add_contract.Post lifetimes arguments answer rows

pub record AddClassRun : Type 0 where
  pub lifetimes : Lfts 2
  pub arguments : Dens lifetimes add_class_kinds.ps
  pub answer : (res_t add_class_kinds.r lifetimes).Denot
  pub rows : AtExit (ended_of 2 add_class_kinds.ps add_class_kinds.r) lifetimes
  pub promise : add_class_contract.Post lifetimes arguments answer rows

pub record RemoveRun : Type 0 where
  pub lifetimes : Lfts 2
  pub arguments : Dens lifetimes remove_kinds.ps
  pub answer : (res_t remove_kinds.r lifetimes).Denot
  pub rows : AtExit (ended_of 2 remove_kinds.ps remove_kinds.r) lifetimes
  pub promise : remove_contract.Post lifetimes arguments answer rows

-- the pool that was lent to a run of `fresh`, and what it left
abbrev pub fresh_lent : FreshRun → List ℕ
fresh_lent r = r.arguments.0.now

abbrev pub fresh_left : FreshRun → List ℕ
fresh_left r = r.rows.0.now

-- A run of an edit; what was asked, what it answered, the pool that it was lent, and what it left.
pub data EditRun : Type 0 where
  added : AddRun → EditRun
  added_class : AddClassRun → EditRun
  removed : RemoveRun → EditRun

abbrev pub edit_of : EditRun → Edit
edit_of (added r) = add r.arguments.1.0.now 0
edit_of (added_class r) = add r.arguments.1.0.now r.arguments.1.1.0
edit_of (removed r) = remove r.arguments.1.0.now

abbrev pub told_by : EditRun → Result ℕ Refusal
told_by (added r) = r.answer
told_by (added_class r) = r.answer
told_by (removed r) = r.answer

abbrev pub lent_to : EditRun → List ℕ
lent_to (added r) = r.arguments.0.now
lent_to (added_class r) = r.arguments.0.now
lent_to (removed r) = r.arguments.0.now

abbrev pub left_by : EditRun → List ℕ
left_by (added r) = r.rows.0.now
left_by (added_class r) = r.rows.0.now
left_by (removed r) = r.rows.0.now

-- Runs in turn: each is lent the pool that the one before left, and is accepted.
pub data InTurn : List EditRun → List ℕ → List ℕ → Type 0 where
  nothing : {pool : List ℕ} → InTurn [] pool pool
  next : (r : EditRun) {rs : List EditRun} {pool new : List ℕ} (n : ℕ)
      → lent_to r ≡ pool
      → told_by r ≡ Ok n
      → InTurn rs (left_by r) new
      → InTurn (r ∷ rs) pool new

-- Two runs of the cut on these pools are told the same, by demand 3.
abbrev pub CutAlike : List ℕ → List ℕ → Type 0
CutAlike p q = (a b : Run) → (call_of a).pool ≡ p → (call_of b).pool ≡ q → SameAnswers a b

-- EITHER ORDER: e and then f, and on the same pool f' and then e', which ask the same.
abbrev pub OrderOfRuns : Type 0
OrderOfRuns =
    (e f f' e' : EditRun) (i j k l : ℕ)
    → edit_of e' ≡ edit_of e
    → edit_of f' ≡ edit_of f
    → (word_of (edit_of e) ≡ word_of (edit_of f) → ⊥)
    → told_by e ≡ Ok i
    → told_by f ≡ Ok j
    → told_by f' ≡ Ok k
    → told_by e' ≡ Ok l
    → lent_to f ≡ left_by e
    → lent_to f' ≡ lent_to e
    → lent_to e' ≡ left_by f'
    → (terms (left_by f) ≡ terms (left_by e')) × (i ≡ l) × (j ≡ k) × (left_by f ≡ left_by e')

-- EDIT FILES: two files whose words differ, run as they were joined in two ways.
abbrev pub FilesOfRuns : Type 0
FilesOfRuns =
    (a b : List Edit) (one two : List EditRun) (pool pool' p q : List ℕ) (held : Terms)
    → Apart a b
    → Joined a b (map edit_of one)
    → Joined a b (map edit_of two)
    → terms pool ≡ some held
    → terms pool' ≡ some held
    → InTurn one pool p
    → InTurn two pool' q
    → (terms p ≡ terms q) × CutAlike p q × (pool ≡ pool' → p ≡ q)

-- TWICE IS ONCE: a run that was accepted, and one that asks the same of the pool that it left.
abbrev pub TwiceOfRuns : Type 0
TwiceOfRuns =
    (e f : EditRun) (n : ℕ)
    → edit_of f ≡ edit_of e
    → told_by e ≡ Ok n
    → lent_to f ≡ left_by e
    → (told_by f ≡ Ok 0) × (left_by f ≡ left_by e)

-- UNION: runs that add the words of list a and then of list b, without classes, to a fresh pool.
abbrev pub UnionOfRuns : Type 0
UnionOfRuns =
    (a b : List (List ℕ)) (f : FreshRun) (x y : List EditRun) (mid new : List ℕ) (n : ℕ)
    → f.answer ≡ Ok n
    → map edit_of x ≡ adds a
    → map edit_of y ≡ adds b
    → InTurn x (fresh_left f) mid
    → InTurn y mid new
    → (is_dictionary new ≡ true) × HoldsUnion a b (terms_of new)

-- THE UNION IN EITHER ORDER, in pools of any sizes.
abbrev pub UnionEitherWayOfRuns : Type 0
UnionEitherWayOfRuns =
    (a b : List (List ℕ)) (f f' : FreshRun) (x y y' x' : List EditRun) (mid new mid' new' : List ℕ) (n n' : ℕ)
    → f.answer ≡ Ok n
    → map edit_of x ≡ adds a
    → map edit_of y ≡ adds b
    → InTurn x (fresh_left f) mid
    → InTurn y mid new
    → f'.answer ≡ Ok n'
    → map edit_of y' ≡ adds b
    → map edit_of x' ≡ adds a
    → InTurn y' (fresh_left f') mid'
    → InTurn x' mid' new'
    → (terms new ≡ terms new') × CutAlike new new' × (fresh_lent f ≡ fresh_lent f' → new ≡ new')
