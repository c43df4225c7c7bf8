-- The index of the last space, by what stands at it and behind it. Assumes nothing.
use Rattle.std.specs.Prelude.{Option, Some, None}
use Rattle.std.specs.Option.{MatchOption}
use Prim.Native.Nat.{ℕ, ◌+◌, ◌≤◌, ◌<◌}
use native.Mathlib.Omega.{arith}
use mathlib.Core.Path.{◌≡◌, sym, ap}
use mathlib.Core.List.{List}
use lib.ListN.{length, get_or}
use borrow.Author.Tests.{eq-eqb, ne_eqb}
use Rattle.lists.proofs.Scans.{last_found, last_unfound}
use Rattle.char_string_last_space.specs.Spaces.{is_space, before, last_space}

-- no space from the cell k on
abbrev pub NoSpace : List ℕ → ℕ → Type 0
NoSpace text k = (j : ℕ) → k ≤ j → j < length text → get_or text j 0 ≡ 0x20 → ⊥

pub last_is : (text : List ℕ) (r : Option ℕ) → MatchOption r (NoSpace text 0) (λ k. (k < length text) × (get_or text k 0 ≡ 0x20) × NoSpace text (k + 1)) → r ≡ last_space text
last_is text None f = sym (ap before (last_unfound is_space text (λ j h. ne_eqb _ _ (f j (omega arith) h))))
last_is text (Some k) f = sym (ap before (last_found is_space text k f.0 (eq-eqb _ _ f.1) (λ j l h. ne_eqb _ _ (f.2 j (omega arith) h))))
