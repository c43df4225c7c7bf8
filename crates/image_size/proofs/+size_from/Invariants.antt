use Prim.Native.Nat.{◌+◌, ◌-◌, ◌*◌}
use lib.ListN.{get_or}
use Rattle.trie_pool.specs.Cells.{used}
use Rattle.image_size.proofs.Sizing.{Sizing}
use Rattle.image_size.proofs.+size_from.Given as goal

abbrev pub decreases-size_from : goal.decreases-size_from
decreases-size_from l = used l.p.now - l.i

abbrev pub invariant-loop-k : goal.invariant-loop-k
invariant-loop-k l = Sizing l.p l.i l.bytes (get_or l.p (8 * l.i + 1) 0 + get_or l.p (8 * l.i + 2) 0) l.size l.k
