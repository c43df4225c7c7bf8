-- What a program was handed, part by part.
use Rattle.std.specs.Prelude.{ℕ, List, [], ◌++◌}

-- The bytes are the parts that the program has taken, one behind the other; each made of it what the
-- next one found.
pub data Handed {P : Type 0} (takes : P → List ℕ → P → Type 0) : P → List ℕ → P → Type 0 where
  nothing : (s : P) → Handed takes s [] s
  part : (s t u : P) → (bytes next : List ℕ) → Handed takes s bytes t → takes t next u → Handed takes s (bytes ++ next) u
