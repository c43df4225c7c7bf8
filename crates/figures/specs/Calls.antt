-- RELEASE FIGURES (02, ticket 14): what the calls that feed and join them answer, and what they
-- leave.
use Rattle.std.specs.Prelude.{ℕ, ◌≡◌, cond, List, map, length, Result, Ok, Err}
use Rattle.newmm_rules.specs.declared.Ends.{Ends}
use Rattle.refusal.specs.declared.Refusal.{Refusal}
use Rattle.refusal.specs.declared.Refusal.TheVariants.{FiguresFull}
use Rattle.refusal.specs.Numbers.{number_of}
use Rattle.trie_pool.specs.Meaning.{meaning}
use Rattle.trie_check.specs.Refusals.{held}
use Rattle.newmm_reason_rules.specs.Reasons.{Told}
use Rattle.newmm_answers.specs.Answers.{cut_of, accepts}
use Rattle.newmm_answers.specs.Calls.{Call, scratch_of}
use Rattle.newmm_reasons_answers.specs.Told.{told_of}
use Rattle.newmm_reasons_answers.specs.Answers.{pair_room}
use Rattle.newmm_reasons_answers.specs.Calls.{reasons_answer_of, pairs_of}
use Rattle.figures_rules.specs.Figures.{full, after}
use Rattle.figures_rules.specs.Outcomes.{Outcome, cut, refused, of_refused, of_outcome, refuses_text}

-- What became of a text: it was cut, or refused with a number.
abbrev pub outcome : Result ℕ Refusal → ℕ → List ℕ → ℕ → Outcome
outcome (Ok n) characters reasons edges = cut characters reasons edges
outcome (Err r) characters reasons edges = refused (number_of r)

abbrev pub reasons_told : List Told → List ℕ
reasons_told ts = map (λ (t : Told). t.reason) ts

-- What becomes of the text of a call, as the cut with reasons has it; and the figures of that text.
abbrev pub outcome_of : Call → Outcome
outcome_of c =
    outcome
    (accepts c.mode c.text (meaning c.pool) (length c.scratch) (pair_room c.out))
    (length c.text)
    (reasons_told (told_of c.mode (held (meaning c.pool)) c.text))
    (cut_of c.mode (held (meaning c.pool)) c.text).edges

abbrev pub text_figures : Call → List ℕ
text_figures c = of_outcome (outcome_of c)

-- FEEDING A TEXT is the cut with reasons, with the figures beside it. 13 is given before all
-- others, if the figures would be full; then figures and output are as they were. Scratch is in
-- every case as the cut leaves it.
abbrev pub feed_answer : List ℕ → Call → Result Ends Refusal
feed_answer figures c = cond (full figures (text_figures c)) (Err FiguresFull) (reasons_answer_of c)

abbrev pub pairs_fed : List ℕ → Call → List ℕ
pairs_fed figures c = cond (full figures (text_figures c)) c.out (pairs_of c)

abbrev pub Feeds : List ℕ → Call → Result Ends Refusal → (figures out scratch : List ℕ) → Type 0
Feeds old c answer figures out scratch =
    (answer ≡ feed_answer old c)
    × ((figures ≡ after old (text_figures c)) × ((out ≡ pairs_fed old c) × (scratch ≡ scratch_of c)))

-- JOINING A BATCH: accepted with 0, or refused with 13.
abbrev pub join_answer : List ℕ → List ℕ → Result ℕ Refusal
join_answer figures more = cond (full figures more) (Err FiguresFull) (Ok 0)

abbrev pub Joins : List ℕ → List ℕ → Result ℕ Refusal → (figures : List ℕ) → Type 0
Joins old more answer figures = (answer ≡ join_answer old more) × (figures ≡ after old more)

-- A REFUSED TEXT that is fed by its refusal's number is a batch of that text. A number that is no
-- text's changes nothing.
abbrev pub refused_answer : List ℕ → ℕ → Result ℕ Refusal
refused_answer figures number = cond (refuses_text number) (join_answer figures (of_refused number)) (Ok 0)

abbrev pub refused_after : List ℕ → ℕ → List ℕ
refused_after figures number = cond (refuses_text number) (after figures (of_refused number)) figures

abbrev pub FeedsRefused : List ℕ → ℕ → Result ℕ Refusal → (figures : List ℕ) → Type 0
FeedsRefused old number answer figures = (answer ≡ refused_answer old number) × (figures ≡ refused_after old number)
