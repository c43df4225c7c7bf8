-- What a call answers, and what becomes of a lent output, by the refusals that are due.
use Rattle.std.specs.Prelude.{ℕ, Bool, cond, List, [], ◌∷◌, ◌++◌, map, ltb, length, drop, Result, Ok, Err}
use Rattle.refusal.specs.declared.Refusal.{Refusal}
use Rattle.refusal.specs.declared.Refusal.TheVariants.{TooManyScalars, OutputTooShort}
use Rattle.refusal.specs.Numbers.{number_of}
use Rattle.refusal.specs.Limits.{max_text}

-- A line of 01's table as an operation reads it: the refusal, and whether its condition holds.
pub record Cause : Type 0 where
  pub refusal : Refusal
  pub holds : Bool

-- An operation's causes stand in its stated order. The first whose condition holds is given;
-- with none, the call is accepted with n. (proofs/Firsts.antt has both as theorems.)
abbrev pub answer : List Cause → ℕ → Result ℕ Refusal
answer [] n = Ok n
answer (r ∷ rs) n = cond r.holds (Err r.refusal) (answer rs n)

-- The numbers of an operation's causes, in order, as 01 lists them.
abbrev pub numbers : List Cause → List ℕ
numbers rs = map (λ (r : Cause). number_of r.refusal) rs

-- 2: more than 65,535 scalars; that number.
abbrev pub long_cause : ℕ → Cause
long_cause scalars = record { refusal = TooManyScalars scalars; holds = ltb max_text scalars }

-- 6: the output has fewer cells than the answer; cells needed. An operation that writes has this
-- cause last.
abbrev pub out_cause : ℕ → ℕ → Cause
out_cause needed room = record { refusal = OutputTooShort needed; holds = ltb room needed }

-- A refusal changes no output. An accepted call writes the first cells of the output and keeps the
-- rest.
abbrev pub output : Result ℕ Refusal → List ℕ → List ℕ → List ℕ
output (Ok n) written old = written ++ drop (length written) old
output (Err r) written old = old
