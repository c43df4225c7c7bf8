use mathlib.Core.Path.{refl}
use borrow.Author.Tests.{ne_eqb}
use Rattle.trie_node.proofs.Decide.{denied}
use Rattle.trie_node.proofs.Single.{stands, first_not}
use Rattle.trie_node.proofs.node_ok.Goals as goal

pub returns-then-p-a : goal.returns-then-p-a
returns-then-p-a c = stands c.args.p.now c.args.i c.requires.0 c.args.s _ _ c.if-p-a.true refl c.inner_ok.ensures

pub returns-else-p-a : goal.returns-else-p-a
returns-else-p-a c =
    rw (ne_eqb _ _ c.if-p-a.false) (denied (first_not c.args.p.now c.args.i c.requires.0 c.args.s _ refl c.if-p-a.false))
