-- A call of the public cut, and what its contract says of it.
use Rattle.std.specs.Prelude.{◌≡◌, List, ℕ, length, Result}
use Rattle.newmm_rules.specs.declared.Ends.{Ends}
use Rattle.refusal.specs.declared.Refusal.{Refusal}
use Rattle.trie_pool.specs.Meaning.{meaning}
use Rattle.newmm_rules.specs.declared.Mode.{Mode}
use Rattle.newmm_answers.specs.Answers.{cut_answer, out_after, scratch_after}

-- What a call is given, each row as it was lent.
pub record Call : Type 0 where
  pub mode : Mode
  pub text : List ℕ
  pub pool : List ℕ
  pub scratch : List ℕ
  pub out : List ℕ

-- The call with these arguments, in the order of the function's parameters.
abbrev pub call : (text pool out scratch : List ℕ) → Mode → Call
call text pool out scratch mode = record { mode = mode; text = text; pool = pool; scratch = scratch; out = out }

-- The answer, and the output and the scratch afterwards.
abbrev pub answer_of : Call → Result Ends Refusal
answer_of c = cut_answer c.mode c.text (meaning c.pool) (length c.scratch) (length c.out)

abbrev pub out_of : Call → List ℕ
out_of c = out_after c.mode c.text (meaning c.pool) (length c.scratch) c.out

abbrev pub scratch_of : Call → List ℕ
scratch_of c = scratch_after c.text (meaning c.pool) c.scratch

-- THE PUBLIC CUT: what it answers, and what it leaves in the output and in scratch.
abbrev pub Cuts : Call → Result Ends Refusal → (out scratch : List ℕ) → Type 0
Cuts c answer out scratch = (answer ≡ answer_of c) × ((out ≡ out_of c) × (scratch ≡ scratch_of c))
