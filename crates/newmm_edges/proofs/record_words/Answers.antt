use Prim.Native.Nat.{ℕ, ◌+◌, ◌*◌, ◌-◌}
use native.Mathlib.Omega.{arith}
use mathlib.Core.Path.{refl, ◌∙◌}
use lib.ListN.{length-set}
use Rattle.newmm_edges.proofs.Looping.{loop_first, asks, finish_end, finish_none, loop_part, stopped, alone_stopped, looped, from_given, alone_given, flags_given}
use Rattle.newmm_edges.proofs.record_words.Goals as goal
use Rattle.newmm_edges.proofs.record_words.Goals.{in-Part, in-Word+else-q-gt-MAX_GRAPH_SIZE}

pub loop-e-init : goal.loop-e-init
loop-e-init c =
    loop_first _ _ _ _ _ _ c.requires _ _
    refl
    c.word_limit-limit.ensures

pub word_step-requires : goal.word_step-requires
word_step-requires c =
    asks c.loop-e.invariant _ (flags_given _ _ _ _ _ _ c.requires refl c.loop-e.invariant.alone) c.loop-e-test.true

pub shape_of-row-in-Nothing : goal.shape_of-row-in-Nothing
shape_of-row-in-Nothing c = c.loop-e.invariant.same_size ∙ length-set c.args.row.now _ _

pub returns-in-Nothing : goal.returns-in-Nothing
returns-in-Nothing c =
    record {
      records_all = from_given _ _ _ _ _ _ c.requires refl
          (finish_none c.loop-e.invariant _ c.word_step.ensures c.in-Nothing.is);
      alone = alone_given _ _ _ _ _ _
          c.requires refl c.loop-e.invariant.alone;
    }

pub record_edge-q-requires : goal.record_edge-q-requires
record_edge-q-requires c =
    let h = c.requires in let i = c.loop-e.invariant in record {
      sized = i.sized;
      room = (
        omega (arith, h.size, h.inside),
        omega (arith, h.size, i.far, c.loop-e-test.true),
        i.low,
        omega
            (arith, i.few, h.size, h.inside),
        omega
            (arith, i.lefts, i.few, h.left_few, h.size, h.inside, h.sized.small),
        omega
            (arith, i.totals, i.few, h.total_few, h.size, h.inside, h.sized.small),
      );
    }

pub shape_of-row-then-q-gt-MAX_GRAPH_SIZE : goal.shape_of-row-then-q-gt-MAX_GRAPH_SIZE
shape_of-row-then-q-gt-MAX_GRAPH_SIZE c = c.record_edge-q.auto.row ∙ c.loop-e.invariant.same_size ∙ length-set c.args.row.now _ _

pub returns-then-q-gt-MAX_GRAPH_SIZE : goal.returns-then-q-gt-MAX_GRAPH_SIZE
returns-then-q-gt-MAX_GRAPH_SIZE c =
    let h = c.requires in record {
      records_all = from_given _ _ _ _ _ _ h refl
          (stopped c.loop-e.invariant _ c.word_step.ensures c.loop-e-test.true c.in-Word.is h.size
          h.inside c.record_edge-q.ensures.value c.record_edge-q.ensures.row_after c.if-q-gt-MAX_GRAPH_SIZE.true);
      alone = alone_given _ _ _ _ _ _
          h refl (alone_stopped c.loop-e.invariant _ c.word_step.ensures c.loop-e-test.true c.in-Word.is
          h.size h.inside c.record_edge-q.ensures.value c.record_edge-q.ensures.row_after);
    }

pub loop-e-preserved : goal.loop-e-preserved
loop-e-preserved c =
    let h = c.requires in
    elim c.match-word_step.branch [
      | in-Part w ↦ rw (w.row-is, w.q-is, w.node-is) (loop_part c.loop-e.invariant _ c.word_step.ensures c.loop-e-test.true w.in-Part.is)
      | in-Word+else-q-gt-MAX_GRAPH_SIZE w ↦ rw (w.row-is, w.q-is, w.node-is) (looped c.loop-e.invariant _ c.word_step.ensures c.loop-e-test.true w.in-Word.is h.size h.inside w.record_edge-q.ensures.value w.record_edge-q.ensures.row_after w.if-q-gt-MAX_GRAPH_SIZE.false)
    ]

pub shape_of-row : goal.shape_of-row
shape_of-row c = c.loop-e.invariant.same_size ∙ length-set c.args.row.now _ _

pub returns : goal.returns
returns c =
    record {
      records_all = from_given _ _ _ _ _ _ c.requires refl
          (finish_end c.loop-e.invariant (let t = c.loop-e-test.false in omega arith));
      alone = alone_given _ _ _ _ _ _ c.requires refl
          c.loop-e.invariant.alone;
    }
