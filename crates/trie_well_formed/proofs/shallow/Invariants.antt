use Prim.Native.Nat.{◌-◌}
use Rattle.trie_well_formed.proofs.Whole.{Levels}
use Rattle.trie_well_formed.proofs.shallow.Given as goal

abbrev pub invariant-loop-level : goal.invariant-loop-level
invariant-loop-level l = Levels l.p l.n l.e l._level
