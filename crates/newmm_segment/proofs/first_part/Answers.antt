use native.Mathlib.Omega.{arith}
use Prim.Native.Nat.{ℕ, ◌+◌}
use mathlib.Core.Path.{sym, subst}
use mathlib.Core.List.{List}
use lib.ListN.{take}
use Rattle.trie_pool.specs.Words.{holds}
use Rattle.newmm_answers.specs.Answers.{plain_cut}
use Rattle.newmm_answers.proofs.Plain.{plain_right, plain_edges}
use Rattle.newmm_segment.specs.inner.Written.{Ready}
use Rattle.newmm_rules.proofs.RunEdges.{sample_few}
use Rattle.newmm_segment.proofs.Samples.{part_inside, part_ready, part_size, first_told}
use Rattle.newmm_segment.proofs.first_part.Goals as goal

pub overflow_add-size : goal.overflow_add-size
overflow_add-size g c =
    omega (
      arith,
      (part_inside c.requires.0 c.requires.1 c.args.space_cut c.requires.2 c.requires.3
          (plain_right (holds c.args.pool.now)) c.cut_at-cut.ensures.sampled).1,
    )

pub slice_bounds-write-end : goal.slice_bounds-write-end
slice_bounds-write-end g c =
    sym (part_size c.requires.0 c.requires.1 c.args.space_cut c.requires.2 c.requires.3
    (plain_right (holds c.args.pool.now)) c.cut_at-cut.ensures.sampled)

pub write-r-requires : goal.write-r-requires
write-r-requires g c =
    let right = plain_right (holds c.args.pool.now) in (
      subst (λ (row : List ℕ). Ready (take (c.cut_at-cut.result.at + c.cut_at-cut.result.from) c.args.rest.now)
          c.args.pool.now row) (sym c.cut_at-cut.ensures.row_unchanged)
          (part_ready c.requires.0 c.requires.1 c.args.space_cut c.requires.2 c.requires.3 right
          c.cut_at-cut.ensures.sampled),
      omega (
        arith,
        part_size c.requires.0 c.requires.1 c.args.space_cut c.requires.2 c.requires.3 right
            c.cut_at-cut.ensures.sampled,
        (part_inside c.requires.0 c.requires.1 c.args.space_cut c.requires.2
            c.requires.3 right c.cut_at-cut.ensures.sampled).1,
        c.requires.4,
      ),
    )

pub overflow_add-result : goal.overflow_add-result
overflow_add-result g c =
    let right = plain_right (holds c.args.pool.now) in
    omega (
      arith,
      c.cut_at-cut.ensures.sampled.edges,
      sample_few (plain_cut (holds c.args.pool.now))
          (plain_edges (holds c.args.pool.now)) c.args.rest.now,
      c.write-r.ensures.edges,
      plain_edges
          (holds c.args.pool.now)
          (take (c.cut_at-cut.result.at + c.cut_at-cut.result.from) c.args.rest.now),
      part_size c.requires.0
          c.requires.1 c.args.space_cut c.requires.2 c.requires.3 right c.cut_at-cut.ensures.sampled,
      (part_inside
          c.requires.0 c.requires.1 c.args.space_cut c.requires.2 c.requires.3 right c.cut_at-cut.ensures.sampled).1,
    )

pub returns : goal.returns
returns g c =
    first_told c.requires.0 c.requires.1 c.args.space_cut c.requires.2 c.requires.3
    (plain_right (holds c.args.pool.now)) c.cut_at-cut.ensures.sampled
    (g.W.PartWriter.told (holds c.args.pool.now)) (g.W.PartWriter.as_many (holds c.args.pool.now)) c.args.start
    c.cut_at-cut.ensures.row_unchanged c.write-r.ensures
