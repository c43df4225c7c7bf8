-- What "the first cause that holds" and "no cause holds" mean.
use Rattle.std.specs.Prelude.{ℕ, ◌<◌, ◌≡◌, true, false, List, [], ◌∷◌, ◌++◌, ◌⊎◌}
use Rattle.refusal.specs.declared.Refusal.{Refusal}
use Rattle.refusal.specs.Answers.{Cause}

-- No cause holds.
abbrev pub None : List Cause → Type 0
None [] = Unit {0}
None (c ∷ cs) = (c.holds ≡ false) × None cs

-- r is the refusal of the first cause that holds: of those before it none does.
pub record First (causes : List Cause) (r : Refusal) : Type 0 where
  pub earlier : List Cause
  pub cause : Cause
  pub later : List Cause
  pub order : causes ≡ earlier ++ (cause ∷ later)
  pub none : None earlier
  pub due : cause.holds ≡ true
  pub named : r ≡ cause.refusal

-- c is one of the causes.
abbrev pub Among : Cause → List Cause → Type 0
Among c [] = ⊥
Among c (d ∷ ds) = (c ≡ d) ⊎ Among c ds

-- Each number is above those before it.
abbrev pub Above : ℕ → List ℕ → Type 0
Above m [] = Unit {0}
Above m (n ∷ ns) = (m < n) × Above m ns

abbrev pub Rising : List ℕ → Type 0
Rising [] = Unit {0}
Rising (n ∷ ns) = Above n ns × Rising ns
