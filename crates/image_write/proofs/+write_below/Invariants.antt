use Prim.Native.Nat.{◌+◌, ◌-◌, ◌*◌}
use lib.ListN.{get_or}
use Rattle.trie_pool.specs.Cells.{used}
use Rattle.image_write.proofs.Writing.{Going}
use Rattle.image_write.proofs.+write_below.Given as goal

abbrev pub decreases-write_below : goal.decreases-write_below
decreases-write_below l = used l.p.now - l.i

abbrev pub invariant-loop-k : goal.invariant-loop-k
invariant-loop-k l =
    Going l.p l.i l.initial.path l.path l.n l.initial.out l.out l.initial.end l.end l.k (get_or l.p (8 * l.i + 1) 0 + get_or l.p (8 * l.i + 2) 0)
