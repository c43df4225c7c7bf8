use Prim.Native.Nat.{◌-◌}
use lib.ListN.{length, take}
use Rattle.bench_prefix_search.proofs.Places.{Going}
use Rattle.bench_prefix_search.proofs.search_places.Given as goal

abbrev pub invariant-loop-place : goal.invariant-loop-place
invariant-loop-place l = Going (take l.cells l.pool) l.text l.initial.out l.out l.found l.place

abbrev pub decreases-loop-place : goal.decreases-loop-place
decreases-loop-place l = length l.text - l.place
