use native.Mathlib.Omega.{arith}
use lib.ListN.{length-set}
use Rattle.trie_leaf.proofs.Halves.{put}
use Rattle.trie_leaf.proofs.moves.put_half.Goals as goal

pub bounds-p-a-2 : goal.bounds-p-a-2
bounds-p-a-2 c = simp length-set (omega arith)

pub bounds-p-a-3 : goal.bounds-p-a-3
bounds-p-a-3 c = simp length-set (omega arith)

pub bounds-p-a-4 : goal.bounds-p-a-4
bounds-p-a-4 c = simp length-set (omega arith)

pub returns : goal.returns
returns c = put c.args.p.now c.args.a c.args.scalar c.args.first c.args.count c.args.mark c.requires
