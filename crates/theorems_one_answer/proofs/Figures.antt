-- Release figures: no second answer fits, and what runs that follow each other leave. Assumes
-- nothing.
use Rattle.std.specs.Prelude.{Result}
use Rattle.newmm_rules.specs.declared.Ends.{Ends}
use Rattle.refusal.specs.declared.Refusal.{Refusal}
use Prim.Native.Nat.{ℕ, ◌≤◌}
use mathlib.Core.Path.{◌≡◌, refl, sym, ◌∙◌, ap}
use mathlib.Core.List.{List, [], ◌∷◌}
use lib.ListN.{length}
use Rattle.figures.proofs.feed.Kinds as feed_kinds
use Rattle.figures.proofs.feed.Reads as feed_contract
use Rattle.figures.proofs.feed_refused.Kinds as refused_kinds
use Rattle.figures.proofs.feed_refused.Reads as refused_contract
use Rattle.figures.proofs.join.Kinds as join_kinds
use Rattle.figures.proofs.join.Reads as join_contract
use Rattle.fetlockice.proofs.fetlockice_feed_plain.Kinds as feed_plain_kinds
use Rattle.fetlockice.proofs.fetlockice_feed_plain.Reads as feed_plain_contract
use Rattle.fetlockice.proofs.fetlockice_feed_safe.Kinds as feed_safe_kinds
use Rattle.fetlockice.proofs.fetlockice_feed_safe.Reads as feed_safe_contract
use Rattle.fetlockice.proofs.fetlockice_feed_sheet.Kinds as feed_sheet_kinds
use Rattle.fetlockice.proofs.fetlockice_feed_sheet.Reads as feed_sheet_contract
use Rattle.fetlockice.proofs.fetlockice_feed_refused.Kinds as host_refused_kinds
use Rattle.fetlockice.proofs.fetlockice_feed_refused.Reads as host_refused_contract
use Rattle.fetlockice.proofs.fetlockice_join_figures.Kinds as host_join_kinds
use Rattle.fetlockice.proofs.fetlockice_join_figures.Reads as host_join_contract
use Rattle.figures_rules.specs.Figures.{zeros, after}
use Rattle.figures_rules.specs.Outcomes.{of_refused}
use Rattle.figures_rules.specs.Runs.{fed}
use Rattle.figures.specs.Calls.{text_figures}
use Rattle.host_telling.specs.Told.{Told, told, told_cut}
use Rattle.theorems_demands.specs.Figures.{Text, outcomes}
use Rattle.theorems_demands.proofs.Figures.{refused_is_fed, run_gives_sums}
use Rattle.theorems_one_answer.specs.OneAnswer.{OneAnswer}
use Rattle.theorems_one_answer.specs.FigureRuns.{fed_call, refused_number, Chain, none, text, refused, ChainsAreRuns, ChainsGiveSums}
use Rattle.theorems_one_answer.proofs.Shapes.{answer, both, answer_and_two_rows}

-- ---- the library: the answer, the figures, and the rows

pub feed_one : OneAnswer {A = (Result Ends Refusal × List ℕ × List ℕ) × List ℕ} 5 feed_kinds.ps feed_kinds.r feed_contract.Post
    (λ κs x s. let figures = s.0.now in let out = s.1.1.1.0.now in let scratch = s.1.1.1.1.0.now in ((x, figures, out), scratch))
feed_one κs a x y s t p q = both (answer_and_two_rows p.0 p.1.0 p.1.1.0 q.0 q.1.0 q.1.1.0) (answer p.1.1.1 q.1.1.1)

pub feed_refused_one : OneAnswer {A = Result ℕ Refusal × List ℕ} 1 refused_kinds.ps refused_kinds.r refused_contract.Post (λ κs x s. let figures = s.0.now in (x, figures))
feed_refused_one κs a x y s t p q = both (answer p.0 q.0) (answer p.1 q.1)

pub join_one : OneAnswer {A = Result ℕ Refusal × List ℕ} 2 join_kinds.ps join_kinds.r join_contract.Post (λ κs x s. let figures = s.0.now in (x, figures))
join_one κs a x y s t p q = both (answer p.0 q.0) (answer p.1 q.1)

-- ---- hosts: what is told, the figures, and the rows

pub host_feed_plain_one :
    OneAnswer {A = (Told × List ℕ × List ℕ) × List ℕ} 8 feed_plain_kinds.ps feed_plain_kinds.r feed_plain_contract.Post
    (λ κs number s. let figures = s.0.now in let pairs = s.1.1.1.0.now in let scratch = s.1.1.1.1.0.now in let count = s.1.1.1.1.1.0.now in let edges = s.1.1.1.1.1.1.0.now in let detail = s.1.1.1.1.1.1.1.0.now in ((told_cut number count edges detail, figures, pairs), scratch))
host_feed_plain_one κs a x y s t p q = both (answer_and_two_rows p.0 p.1.0 p.1.1.0 q.0 q.1.0 q.1.1.0) (answer p.1.1.1 q.1.1.1)

pub host_feed_safe_one :
    OneAnswer {A = (Told × List ℕ × List ℕ) × List ℕ} 8 feed_safe_kinds.ps feed_safe_kinds.r feed_safe_contract.Post
    (λ κs number s. let figures = s.0.now in let pairs = s.1.1.1.0.now in let scratch = s.1.1.1.1.0.now in let count = s.1.1.1.1.1.0.now in let edges = s.1.1.1.1.1.1.0.now in let detail = s.1.1.1.1.1.1.1.0.now in ((told_cut number count edges detail, figures, pairs), scratch))
host_feed_safe_one κs a x y s t p q = both (answer_and_two_rows p.0 p.1.0 p.1.1.0 q.0 q.1.0 q.1.1.0) (answer p.1.1.1 q.1.1.1)

pub host_feed_sheet_one :
    OneAnswer {A = (Told × List ℕ × List ℕ) × List ℕ} 8 feed_sheet_kinds.ps feed_sheet_kinds.r feed_sheet_contract.Post
    (λ κs number s. let figures = s.0.now in let pairs = s.1.1.1.0.now in let scratch = s.1.1.1.1.0.now in let count = s.1.1.1.1.1.0.now in let edges = s.1.1.1.1.1.1.0.now in let detail = s.1.1.1.1.1.1.1.0.now in ((told_cut number count edges detail, figures, pairs), scratch))
host_feed_sheet_one κs a x y s t p q = both (answer_and_two_rows p.0 p.1.0 p.1.1.0 q.0 q.1.0 q.1.1.0) (answer p.1.1.1 q.1.1.1)

pub host_feed_refused_one :
    OneAnswer {A = Told × List ℕ} 2 host_refused_kinds.ps host_refused_kinds.r host_refused_contract.Post
    (λ κs number s. let figures = s.0.now in let detail = s.1.1.0.now in (told number 0 detail, figures))
host_feed_refused_one κs a x y s t p q = both (answer p.0 q.0) (answer p.1 q.1)

pub host_join_one :
    OneAnswer {A = Told × List ℕ} 3 host_join_kinds.ps host_join_kinds.r host_join_contract.Post
    (λ κs number s. let figures = s.0.now in let detail = s.1.1.0.now in (told number 0 detail, figures))
host_join_one κs a x y s t p q = both (answer p.0 q.0) (answer p.1 q.1)

-- ---- runs that follow each other

chained : (a : List ℕ) (ts : List Text) (z : List ℕ) → Chain a ts z → z ≡ fed a (outcomes ts)
unfolding fed
chained a [] z none = refl
chained a (t ∷ ts) z (text r given c) = chained _ ts z c ∙ ap (λ (l : List ℕ). fed l (outcomes ts)) (r.promise.1.0 ∙ ap (λ (l : List ℕ). after l (text_figures (fed_call r))) given)
chained a (t ∷ ts) z (refused r least most given c) =
    chained _ ts z c ∙ ap (λ (l : List ℕ). fed l (outcomes ts)) (r.promise.1 ∙ refused_is_fed _ (refused_number r) least most ∙ ap (λ (l : List ℕ). after l (of_refused (refused_number r))) given)

pub chains_are_runs : ChainsAreRuns
chains_are_runs ts z c = chained zeros ts z c

pub chains_give_sums : ChainsGiveSums
chains_give_sums ts z c h = chained zeros ts z c ∙ run_gives_sums ts h
