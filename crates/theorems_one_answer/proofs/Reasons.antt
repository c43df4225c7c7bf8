-- The cut with reasons: no second answer fits, and what holds of its runs. Assumes nothing.
use Rattle.std.specs.Prelude.{Result}
use Rattle.newmm_rules.specs.declared.Ends.{Ends}
use Rattle.refusal.specs.declared.Refusal.{Refusal}
use Prim.Native.Nat.{ℕ, ◌*◌}
use native.Mathlib.Omega.{arith}
use mathlib.Core.Path.{◌≡◌, refl, sym, ◌∙◌, ap, subst}
use mathlib.Core.List.{List, [], ◌∷◌, map}
use mathlib.Core.Option.{Option, some}
use lib.ListN.{length, take, length-map}
use Rattle.newmm_reasons.proofs.cut_reasons.Kinds as reasons_kinds
use Rattle.newmm_reasons.proofs.cut_reasons.Reads as reasons_contract
use Rattle.trie_pool.specs.Meaning.{Words}
use Rattle.newmm_reason_rules.specs.Reasons.{Told}
use Rattle.newmm_answers.specs.Answers.{cut_of}
use Rattle.newmm_reasons_answers.specs.Answers.{pairs}
use Rattle.newmm_reasons_answers.specs.Calls.{reasons_answer_of, pairs_of}
use Rattle.newmm_records.specs.declared.Record.{Record}
use Rattle.newmm_records.specs.Calls.{RecordsCall, Records}
use Rattle.theorems_demands.specs.Reasons.{ends_told, telling, WroteReasons}
use Rattle.theorems_demands.specs.Demand3.{SameAnswerFor}
use Rattle.theorems_demands.proofs.Ends.{told}
use Rattle.theorems_demands.proofs.Reasons.{reasons_wrote, demand_3_any_reasons, demand_3_reasons}
use Rattle.theorems_one_answer.specs.OneAnswer.{OneAnswer}
use Rattle.theorems_one_answer.specs.Runs.{Run, call_of, out_left}
use Rattle.theorems_one_answer.specs.ReasonRuns.{ReasonsRun, asked_of, pairs_left, ReasonsOfRuns, firsts, SameTokensOfRuns, SameReasons, Demand3AnyReasonsOfRuns, Demand3ReasonsOfRuns}
use Rattle.theorems_one_answer.proofs.Shapes.{answer_and_two_rows}
use Rattle.theorems_one_answer.proofs.Demand3.{answered}

-- the answer, the row of pairs and the scratch
pub cut_reasons_one : OneAnswer {A = Result Ends Refusal × List ℕ × List ℕ} 4 reasons_kinds.ps reasons_kinds.r reasons_contract.Post (λ κs x s. let pairs = s.1.1.0.now in let scratch = s.1.1.1.0.now in (x, pairs, scratch))
cut_reasons_one κs a x y s t p q = answer_and_two_rows p.0 p.1.0 p.1.1 q.0 q.1.0 q.1.1

-- what the contract says of a run
said : (r : ReasonsRun) → (r.answer ≡ reasons_answer_of (asked_of r)) × (pairs_left r ≡ pairs_of (asked_of r))
said r = (r.promise.0, r.promise.1.0)

pub reasons_of_runs : ReasonsOfRuns
reasons_of_runs r n edges h =
    let p = said r in
    subst (WroteReasons (asked_of r) n edges) (sym p.1) (reasons_wrote (asked_of r) n edges (sym p.0 ∙ h))

firsts_are : (ts : List Told) → firsts (pairs ts) ≡ ends_told ts
unfolding pairs
firsts_are [] = refl
firsts_are (t ∷ ts) = ap (λ (l : List ℕ). t.end ∷ l) (firsts_are ts)

some_one : {v w : Words} → ◌≡◌ {A = Option Words} (some v) (some w) → v ≡ w
some_one h = cc

pub same_tokens_of_runs : SameTokensOfRuns
same_tokens_of_runs a b v w pa pb same text mode n edges m edges' ha hb =
    let p = answered a in
    let t = told (call_of a) n edges (sym p.0 ∙ ha) in
    let r = reasons_of_runs b m edges' hb in
    let words : t.words ≡ r.words = some_one (sym t.means ∙ pa) ∙ (λ i. λ (x : List ℕ). same x i) ∙ sym (some_one (sym r.means ∙ pb)) in
    let ends : ends_told r.told ≡ (cut_of (call_of a).mode t.words (call_of a).text).ends = r.same_ends ∙ sym (λ i. (cut_of (mode i) (words i) (text i)).ends) in
    let many : m ≡ n = sym r.many ∙ sym (length-map r.told (λ (x : Told). x.end)) ∙ ap length ends ∙ t.many in (
      many,
      sym r.same_edges ∙ sym (λ i. (cut_of (mode i) (words i) (text i)).edges) ∙ t.counted,
      ap firsts r.wrote ∙ firsts_are r.told ∙ ends ∙ sym t.front ∙ sym (ap (take n) p.1),
    )

-- two calls that are told the same are two runs that are told the same
runs : (a b : ReasonsRun) → SameAnswerFor telling (asked_of a) (asked_of b) → SameReasons a b
runs a b d text mode n edges h scratch out =
    let p = said a in
    let q = said b in
    let e = d text mode n edges (sym p.0 ∙ h) scratch out in
    (q.0 ∙ e.0, ap (take (2 * n)) q.1 ∙ e.1 ∙ sym (ap (take (2 * n)) p.1))

pub demand_3_any_reasons_of_runs : Demand3AnyReasonsOfRuns
demand_3_any_reasons_of_runs a b v w pa pb same = runs a b (demand_3_any_reasons (asked_of a) (asked_of b) v w pa pb same)

pub demand_3_reasons_of_runs : Demand3ReasonsOfRuns
demand_3_reasons_of_runs a b v w ra rb same = runs a b (demand_3_reasons (asked_of a) (asked_of b) v w ra rb same)

-- The cut with records: the answer, the row of records and the scratch.
pub cut_records_one : (c : RecordsCall) (x y : Result Ends Refusal) (rows rows' : List Record) (scratch scratch' : List ℕ) → Records c x rows scratch → Records c y rows' scratch'
    → ◌≡◌ {A = Result Ends Refusal × List Record × List ℕ} (x, rows, scratch) (y, rows', scratch')
cut_records_one c x y rows rows' scratch scratch' p q = answer_and_two_rows p.0 p.1.0 p.1.1 q.0 q.1.0 q.1.1
