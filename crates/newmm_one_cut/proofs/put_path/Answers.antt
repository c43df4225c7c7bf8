use mathlib.Core.Path.{refl}
use Rattle.newmm_one_cut.proofs.OneEdge.{edge_put, search_asks}
use Rattle.newmm_one_cut.proofs.put_path.Goals as goal

pub returns-then-b-committed : goal.returns-then-b-committed
returns-then-b-committed c = let both = edge_put c.requires c.if-b-committed.true _ refl in record { next_is = both.0; path = both.1 }

pub bfs_paths_graph-k-requires : goal.bfs_paths_graph-k-requires
bfs_paths_graph-k-requires c = let both = search_asks c.requires c.next_candidate-goal.ensures in record { start = both.0; count_le_start = both.1 }
