-- The program was handed what is gone from the input.
use Rattle.std.proofs.Common.{ℕ, List}
use Rattle.std.specs.Io.KnownBytes.{Consumes}
use Rattle.sheet_io.specs.Handing.{Handed}
use Rattle.sheet_io.proofs.read_all.Given as goal

abbrev pub invariant-loop : goal.invariant-loop
invariant-loop g l =
    (bytes : List ℕ) × Consumes (g.R.Read.remaining l.initial.input) (g.R.Read.remaining l.input) bytes × Handed (g.G.Program.takes) l.initial.program bytes l.program
