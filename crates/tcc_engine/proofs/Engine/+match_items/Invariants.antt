use Prim.Native.Nat.{◌+◌, ◌-◌}
use Rattle.tcc_engine.proofs.Engine.+match_items.Given as goal

abbrev pub decreases-match_items : goal.decreases-match_items
decreases-match_items l = (l.e - l.i) + (l.e - l.g)
