use mathlib.Core.Path.{◌≡◌}
use Prim.Native.Nat.{ℕ}
use lib.ListN.{length, replicate}
use Rattle.std.proofs.Common.{rules}
use Rattle.trie_change.proofs.Cleared.{cleared}
use Rattle.trie_change.proofs.empty.reset.Goals as goal

pub returns : goal.returns
returns c =
    let e : c.fill.new.self ≡ replicate {A = ℕ} (length c.args.cells.now) 0 = search rules in
    rw e (cleared _ c.requires)
