use native.Mathlib.Omega.{arith}
use mathlib.Core.Path.{refl}
use mathlib.Core.Path.{◌∙◌}
use lib.ListN.{length-set}
use Rattle.newmm_bfs.proofs.Tracing.{asks_length, asks_put, index₂, path_is}
use Rattle.newmm_bfs.proofs.bfs_paths_graph.Goals as goal

pub way_length-k-requires : goal.way_length-k-requires
way_length-k-requires c = let both = asks_length c.requires.start c.search-v.auto.row c.search-v.ensures.reaches in record { sized = both.0; v_lt_m = both.1.0; traced = both.1.1 }

pub put_way-requires : goal.put_way-requires
put_way-requires c = let r = c.search-v.ensures.reaches in let both = asks_put c.requires.start c.search-v.auto.row r _ _ c.requires.count_le_start (c.way_length-k.ensures _ r.trace) in record { sized = both.0; v_lt_m = both.1.0; traced_by = both.1.1 }

pub overflow_add-row : goal.overflow_add-row
overflow_add-row c =
    let r = c.search-v.ensures.reaches in
    let k = c.way_length-k.ensures _ r.trace in
    let q = asks_put c.requires.start c.search-v.auto.row r _ _ c.requires.count_le_start k in
    omega (arith, q.1.0.1, c.requires.start.sized.small)

pub offset_bounds-row-count : goal.offset_bounds-row-count
offset_bounds-row-count c =
    let r = c.search-v.ensures.reaches in
    let k = c.way_length-k.ensures _ r.trace in
    let q = asks_put c.requires.start c.search-v.auto.row r _ _ c.requires.count_le_start k in
    omega (arith, q.1.0.1, c.requires.start.sized.small)

pub bounds-row-count : goal.bounds-row-count
bounds-row-count c =
    let r = c.search-v.ensures.reaches in
    let k = c.way_length-k.ensures _ r.trace in
    index₂ c.requires.start.inside c.requires.start.sized c.search-v.auto.row c.search-v.ensures.kept r c.requires.count_le_start k (c.put_way.ensures _ _ r.trace k)

pub overflow_add-result : goal.overflow_add-result
overflow_add-result c =
    let r = c.search-v.ensures.reaches in
    let k = c.way_length-k.ensures _ r.trace in
    let q = asks_put c.requires.start c.search-v.auto.row r _ _ c.requires.count_le_start k in
    omega (arith, q.1.0.1, c.requires.start.sized.small)

pub overflow_add-result-2 : goal.overflow_add-result-2
overflow_add-result-2 c =
    let r = c.search-v.ensures.reaches in
    let k = c.way_length-k.ensures _ r.trace in
    let q = asks_put c.requires.start c.search-v.auto.row r _ _ c.requires.count_le_start k in
    omega (arith, q.1.0.1, c.requires.start.sized.small)

pub shape_of-row : goal.shape_of-row
shape_of-row c = length-set c.put_way.new.row _ _ ∙ c.put_way.auto.row ∙ c.search-v.auto.row

pub returns : goal.returns
returns c =
    let r = c.search-v.ensures.reaches in
    let k = c.way_length-k.ensures _ r.trace in
    path_is c.requires.start.inside c.requires.start.sized c.search-v.auto.row c.search-v.ensures.kept r c.requires.count_le_start k
    (c.put_way.ensures _ _ r.trace k) _ refl
