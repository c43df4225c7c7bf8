-- The last space of a text.
use Rattle.std.specs.Prelude.{ℕ, zero, suc, Bool, List, eqb, Option, Some, None}
use Rattle.lists.specs.Scans.{behind_last}

-- the index of the last U+0020
abbrev pub is_space : ℕ → Bool
is_space x = eqb x 0x20

abbrev pub before : ℕ → Option ℕ
before zero = None
before (suc i) = Some i

abbrev pub last_space : List ℕ → Option ℕ
last_space text = before (behind_last is_space text)
