-- What the list of a dictionary has at a node and below it, by the path that leads to the node.
use Rattle.std.specs.Prelude.{ℕ, ◌+◌, ◌-◌, List, length}
use Rattle.refusal.specs.Limits.{max_word}
use Rattle.image_rules.specs.Records.{Term}
use Rattle.image_list.specs.Listed.{listed}

unfoldable pub under : List ℕ → List ℕ → ℕ → List Term
under p path i = listed (max_word + 1 - length path) p path i
