use native.Mathlib.Omega.{arith}
use Rattle.trie_nodes.proofs.Cells.{first_none}
use Rattle.trie_nodes.proofs.root_falls.Goals as goal

pub returns-then-n-eq1 : goal.returns-then-n-eq1
returns-then-n-eq1 c = record { value = λ l h. first_none _ 1 c.args.k (omega (arith, c.if-n-eq1.true)); upper_bound = omega arith }

pub returns : goal.returns
returns c = record { value = λ l h. c.start_falls.ensures.value h; upper_bound = c.start_falls.ensures.upper_bound }
