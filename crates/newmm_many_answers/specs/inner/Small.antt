-- What is asked of an answer whose numbers are to be put into cells of 32 bits.
use Rattle.std.specs.Prelude.{ℕ, ◌≤◌, ◌≡◌, Result, Err}
use Rattle.newmm_answers.specs.Answers.{accepted_with}
use Rattle.newmm_rules.specs.declared.Ends.{Ends}
use Rattle.refusal.specs.declared.Refusal.{Refusal}
use Rattle.refusal.specs.Numbers.{detail_of}

pub record Small (told : Result Ends Refusal) : Type 0 where
  pub counts : (n edges : ℕ) → told ≡ accepted_with n edges → (n ≤ 4294967295) × (edges ≤ 4294967295)
  pub detail : (r : Refusal) → told ≡ Err r → detail_of r ≤ 4294967295
