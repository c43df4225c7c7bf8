-- The answers of `check_text`, over plain values. Assumes nothing.
use Rattle.std.specs.Prelude.{Ok, Err}
use Prim.Native.Nat.{ℕ, ◌≤◌, ◌<◌}
use mathlib.Core.Path.{◌≡◌, refl}
use mathlib.Core.List.{List, [], ◌∷◌}
use lib.ListN.{length}
use borrow.Author.Tests.{lt-ltb, le-ltb}
use Rattle.refusal.specs.declared.Refusal.TheVariants.{TooManyScalars, NotAScalar}
use Rattle.refusal.specs.Answers.{numbers}
use Rattle.char_string_scalars.specs.Scalars.{first_non_scalar, text_causes, checked}

-- Every operation on a text gives 2 and 3 first.
pub first_two : (text : List ℕ) → numbers (text_causes text) ≡ 2 ∷ 3 ∷ []
first_two text = refl

module _ (text : List ℕ) where
  pub long : 65535 < length text → Err (TooManyScalars (length text)) ≡ checked text
  unfolding checked
  long h = simp (lt-ltb _ _ h)

  pub bad : (i : ℕ) → length text ≤ 65535 → i ≡ first_non_scalar text → i < length text → Err (NotAScalar i) ≡ checked text
  unfolding checked
  bad i h e k = simp (le-ltb _ _ h, e, lt-ltb _ _ (rw e at k))

  pub right : (i : ℕ) → length text ≤ 65535 → i ≡ first_non_scalar text → length text ≤ i → Ok (length text) ≡ checked text
  unfolding checked
  right i h e k = simp (le-ltb _ _ h, le-ltb _ _ (rw e at k))
