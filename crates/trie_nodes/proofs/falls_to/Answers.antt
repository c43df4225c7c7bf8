use mathlib.Core.Path.{◌≡◌, refl, ◌∙◌}
use mathlib.Core.Bool.{Bool, true, false, cond}
use Prim.Native.Nat.{ℕ}
use mir.Val.{bool_byte}
use Rattle.trie_nodes.specs.inner.Falls.{fall_to}
use Rattle.trie_nodes.proofs.falls_to.Goals as goal

as_number : (b : Bool) → bool_byte b ≡ cond b 1 0
as_number true = refl
as_number false = refl

pub returns : goal.returns
unfolding fall_to
returns c = c.from.ensures ∙ as_number _
