-- 02, ticket 2: input of any length, part by part, answered with reasons.
use Rattle.std.specs.Prelude.{ℕ, Bool, true, false, List}
use Rattle.sheet_replies.specs.declared.Asked.{Asked}
use Rattle.sheet_replies.specs.declared.Asked.TheVariants.{Nothing}
use Rattle.why_replies.specs.Replies.{asked}

-- what is asked: nothing before the line is at its end
abbrev pub asked_if : Bool → List ℕ → Asked
asked_if true line = asked line
asked_if false line = Nothing
