use Prim.Native.Nat.{◌-◌}
use lib.ListN.{length}
use Rattle.trie_well_formed.proofs.Zeros.{Zeros}
use Rattle.trie_well_formed.proofs.blank.Given as goal

abbrev pub invariant-loop-i : goal.invariant-loop-i
invariant-loop-i l = Zeros l.p l.k l.i l.all
