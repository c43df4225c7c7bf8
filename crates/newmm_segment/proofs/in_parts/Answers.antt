use native.Mathlib.Omega.{arith}
use Prim.Native.Nat.{ℕ, ◌+◌, ◌-◌, ◌≤◌}
use mathlib.Core.Path.{◌∙◌}
use lib.ListN.{length}
use borrow.Rule.Slice.PartMut.{same_len_mid}
use Rattle.trie_pool.specs.Words.{holds}
use Rattle.trie_pool.specs.Meaning.{Words}
use Rattle.newmm_answers.specs.Answers.{plain_cut}
use Rattle.newmm_segment.proofs.Rounds.{until_none, room_left, rest_ready, rest_size, rest_short, row_long, Told, plainly, part_most, until_more, until_all, rest_most}
use Rattle.newmm_segment.proofs.in_parts.Goals as goal

pub loop-start-init : goal.loop-start-init
loop-start-init g c = until_none _ _ _ _ _

pub overflow_sub-text : goal.overflow_sub-text
overflow_sub-text g c = let u = c.loop-start.invariant in omega (arith, u.inside)

pub offset_bounds-row-count : goal.offset_bounds-row-count
offset_bounds-row-count g c = omega (arith, (room_left c.loop-start.invariant c.requires.0).1)

pub slice_bounds-first_part-count-in-loop-start : goal.slice_bounds-first_part-count-in-loop-start
slice_bounds-first_part-count-in-loop-start g c = omega (arith, (room_left c.loop-start.invariant c.requires.0).0)

pub slice_bounds-first_part-start-in-loop-start : goal.slice_bounds-first_part-start-in-loop-start
slice_bounds-first_part-start-in-loop-start g c = omega (arith, (room_left c.loop-start.invariant c.requires.0).0)

pub first_part-p-requires : goal.first_part-p-requires
first_part-p-requires g c = (
  rest_ready c.loop-start.invariant c.requires.0,
  omega
      (arith, rest_size c.loop-start.invariant, c.loop-start-test.true),
  c.requires.2,
  c.requires.3,
  rest_short c.loop-start.invariant
      c.requires.0.short,
)

pub overflow_add-start : goal.overflow_add-start
overflow_add-start g c =
    omega (
      arith,
      (part_most _ _ _ (plainly c.args.space_cut c.requires.2 c.requires.3 (holds c.args.pool.now) (g.W.PartWriter.told (holds c.args.pool.now)) (g.W.PartWriter.as_many (holds c.args.pool.now))) _ _ c.loop-start.invariant
          c.loop-start-test.true _ _ c.first_part-p.ensures).1,
      c.requires.0.short,
    )

pub overflow_add-count : goal.overflow_add-count
overflow_add-count g c =
    let m = part_most _ _ _ (plainly c.args.space_cut c.requires.2 c.requires.3 (holds c.args.pool.now) (g.W.PartWriter.told (holds c.args.pool.now)) (g.W.PartWriter.as_many (holds c.args.pool.now))) _ _ c.loop-start.invariant
    c.loop-start-test.true _ _ c.first_part-p.ensures in
    omega (arith, m.1, m.2, c.loop-start.invariant.few_ends, c.requires.0.short)

pub overflow_add-edges : goal.overflow_add-edges
overflow_add-edges g c =
    let m = part_most _ _ _ (plainly c.args.space_cut c.requires.2 c.requires.3 (holds c.args.pool.now) (g.W.PartWriter.told (holds c.args.pool.now)) (g.W.PartWriter.as_many (holds c.args.pool.now))) _ _ c.loop-start.invariant
    c.loop-start-test.true _ _ c.first_part-p.ensures in
    omega (arith, m.1, m.3, c.loop-start.invariant.few_edges, c.requires.0.short)

pub loop-start-smaller : goal.loop-start-smaller
loop-start-smaller g c =
    let m = part_most _ _ _ (plainly c.args.space_cut c.requires.2 c.requires.3 (holds c.args.pool.now) (g.W.PartWriter.told (holds c.args.pool.now)) (g.W.PartWriter.as_many (holds c.args.pool.now))) _ _ c.loop-start.invariant
    c.loop-start-test.true _ _ c.first_part-p.ensures in
    omega (arith, m.0, m.1)

pub loop-start-preserved : goal.loop-start-preserved
loop-start-preserved g c =
    until_more _ _ _ (plainly c.args.space_cut c.requires.2 c.requires.3 (holds c.args.pool.now) (g.W.PartWriter.told (holds c.args.pool.now)) (g.W.PartWriter.as_many (holds c.args.pool.now))) _ _ c.loop-start.invariant c.loop-start-test.true _ _
    c.first_part-p.ensures

pub offset_bounds-row-count-2 : goal.offset_bounds-row-count-2
offset_bounds-row-count-2 g c = omega (arith, (room_left c.loop-start.invariant c.requires.0).1)

pub slice_bounds-write-count-2 : goal.slice_bounds-write-count-2
slice_bounds-write-count-2 g c = omega (arith, (room_left c.loop-start.invariant c.requires.0).0)

pub slice_bounds-write-start-2 : goal.slice_bounds-write-start-2
slice_bounds-write-start-2 g c = omega (arith, (room_left c.loop-start.invariant c.requires.0).0)

pub write-r-requires : goal.write-r-requires
write-r-requires g c = (rest_ready c.loop-start.invariant c.requires.0, rest_short c.loop-start.invariant c.requires.0.short)

pub overflow_add-result : goal.overflow_add-result
overflow_add-result g c =
    let m = rest_most _ _ _ (plainly c.args.space_cut c.requires.2 c.requires.3 (holds c.args.pool.now) (g.W.PartWriter.told (holds c.args.pool.now)) (g.W.PartWriter.as_many (holds c.args.pool.now))) _ _ c.loop-start.invariant
    c.loop-start-test.false _ _ c.write-r.ensures in
    omega (arith, m.0, c.loop-start.invariant.few_ends, c.loop-start.invariant.inside, c.requires.0.short)

pub overflow_add-result-2 : goal.overflow_add-result-2
overflow_add-result-2 g c =
    let m = rest_most _ _ _ (plainly c.args.space_cut c.requires.2 c.requires.3 (holds c.args.pool.now) (g.W.PartWriter.told (holds c.args.pool.now)) (g.W.PartWriter.as_many (holds c.args.pool.now))) _ _ c.loop-start.invariant
    c.loop-start-test.false _ _ c.write-r.ensures in
    omega (arith, m.1, c.loop-start.invariant.few_edges, c.loop-start.invariant.inside, c.requires.0.short)

pub shape_of-row : goal.shape_of-row
shape_of-row g c =
    same_len_mid {X = ℕ} c.loop-start.count (length c.loop-start.row - c.loop-start.count) c.loop-start.row
    c.write-r.new.row c.write-r.auto.row ∙ row_long c.loop-start.invariant
    (omega (arith, c.requires.0.room))

pub returns : goal.returns
returns g c =
    until_all _ _ _ (plainly c.args.space_cut c.requires.2 c.requires.3 (holds c.args.pool.now) (g.W.PartWriter.told (holds c.args.pool.now)) (g.W.PartWriter.as_many (holds c.args.pool.now))) _ _ c.loop-start.invariant c.loop-start-test.false _ _
    c.write-r.ensures
