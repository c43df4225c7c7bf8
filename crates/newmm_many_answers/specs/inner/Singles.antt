-- What is asked of a turn: it leaves what the single call does.
use Rattle.std.specs.Prelude.{ℕ, ◌≡◌, List, Result}
use Rattle.newmm_rules.specs.declared.Ends.{Ends}
use Rattle.refusal.specs.declared.Refusal.{Refusal}
use Rattle.newmm_many_answers.specs.declared.Wanted.{Wanted}
use Rattle.newmm_many_answers.specs.declared.Wanted.TheVariants as wants
use Rattle.newmm_many_answers.specs.Turns.{Single}

-- what was told, and what stands in the output and in scratch, are the single call's
abbrev pub SingleIs : Single → Result Ends Refusal → (out scratch : List ℕ) → Type 0
SingleIs s told out scratch = (told ≡ s.told) × ((out ≡ s.out) × (scratch ≡ s.scratch))

-- the cells that are written for a token
abbrev pub width_of : Wanted → ℕ
width_of wants.Ends = 1
width_of wants.Pairs = 2
