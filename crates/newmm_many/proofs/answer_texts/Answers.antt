use native.Mathlib.Omega.{arith}
use mathlib.Core.Path.{◌≡◌, refl}
use lib.ListN.{length}
use Rattle.newmm_many_answers.proofs.Steady.{steady, by_width}
use Rattle.newmm_many_turn.specs.inner.Knowing.{seen_in}
use Rattle.newmm_many.proofs.Turned.{turned_none, used_fits, answers_long, end_fits, cells_fit, cells_lent, told_small, used_more, turned_more, turned_all}
use Rattle.newmm_many.proofs.answer_texts.Goals as goal

pub loop-i-init : goal.loop-i-init
loop-i-init c = turned_none _ _

pub offset_bounds-texts-from : goal.offset_bounds-texts-from
offset_bounds-texts-from c =
    omega (
      arith,
      (end_fits c.loop-i.invariant c.requires.whole c.loop-i-test.true).0,
      (end_fits c.loop-i.invariant
          c.requires.whole c.loop-i-test.true).1,
    )

pub slice_bounds-answer_next-count : goal.slice_bounds-answer_next-count
slice_bounds-answer_next-count c = omega (arith, (end_fits c.loop-i.invariant c.requires.whole c.loop-i-test.true).0)

pub slice_bounds-answer_next-start : goal.slice_bounds-answer_next-start
slice_bounds-answer_next-start c = omega (arith, (end_fits c.loop-i.invariant c.requires.whole c.loop-i-test.true).0)

pub slice_bounds-answer_next-end : goal.slice_bounds-answer_next-end
slice_bounds-answer_next-end c = omega (arith, (end_fits c.loop-i.invariant c.requires.whole c.loop-i-test.true).1)

pub offset_bounds-out-used : goal.offset_bounds-out-used
offset_bounds-out-used c = omega (arith, used_fits c.loop-i.invariant)

pub slice_bounds-answer_next-count-in-loop-i : goal.slice_bounds-answer_next-count-in-loop-i
slice_bounds-answer_next-count-in-loop-i c = omega (arith, used_fits c.loop-i.invariant)

pub slice_bounds-answer_next-start-in-loop-i : goal.slice_bounds-answer_next-start-in-loop-i
slice_bounds-answer_next-start-in-loop-i c = omega (arith, used_fits c.loop-i.invariant)

pub answer_next-told-requires : goal.answer_next-told-requires
answer_next-told-requires c = record { view = c.requires.view; blank = c.loop-i.invariant.zeros }

pub overflow_mul-i : goal.overflow_mul-i
overflow_mul-i c = omega (arith, cells_fit c.loop-i.invariant c.requires.whole c.loop-i-test.true)

pub offset_bounds-answers-i : goal.offset_bounds-answers-i
offset_bounds-answers-i c = omega (arith, cells_fit c.loop-i.invariant c.requires.whole c.loop-i-test.true)

pub slice_bounds-put_answer-count : goal.slice_bounds-put_answer-count
slice_bounds-put_answer-count c = omega (arith, cells_fit c.loop-i.invariant c.requires.whole c.loop-i-test.true)

pub slice_bounds-put_answer-start : goal.slice_bounds-put_answer-start
slice_bounds-put_answer-start c = omega (arith, cells_fit c.loop-i.invariant c.requires.whole c.loop-i-test.true)

pub put_answer-requires : goal.put_answer-requires
put_answer-requires c = (
  cells_lent c.loop-i.invariant c.requires.whole c.loop-i-test.true,
  told_small c.loop-i.invariant c.requires.whole
      c.loop-i-test.true
      (steady c.args.mode (seen_in c.args.view) c.args.wanted)
      refl c.answer_next-told.ensures.single_is (omega (arith, (c.type_inv.text_ends c.loop-i.i).fits)),
)

pub cells_told-used-requires : goal.cells_told-used-requires
cells_told-used-requires c =
    told_small c.loop-i.invariant c.requires.whole c.loop-i-test.true
    (steady c.args.mode (seen_in c.args.view) c.args.wanted)
    refl c.answer_next-told.ensures.single_is (omega (arith, (c.type_inv.text_ends c.loop-i.i).fits))

pub overflow_add-used : goal.overflow_add-used
overflow_add-used c =
    let e : length c.loop-i.out ≡ length c.args.out.now = c.loop-i.invariant.out_long in
    omega (
      arith,
      c.well_formed.1.1.1.1.0.0,
      used_more c.loop-i.invariant c.requires.whole c.loop-i-test.true
          (steady c.args.mode (seen_in c.args.view) c.args.wanted)
          refl c.answer_next-told.ensures.single_is
          (by_width c.args.mode (seen_in c.args.view) c.args.wanted
          c.answer_next-told.result c.cells_told-used.ensures),
    )

pub loop-i-preserved : goal.loop-i-preserved
loop-i-preserved c =
    turned_more c.loop-i.invariant c.requires.whole c.loop-i-test.true
    (steady c.args.mode (seen_in c.args.view) c.args.wanted)
    refl c.answer_next-told.ensures.single_is _
    (by_width c.args.mode (seen_in c.args.view) c.args.wanted
    c.answer_next-told.result c.cells_told-used.ensures) c.put_answer.ensures c.answer_next-told.ensures.blank

pub shape_of-answers : goal.shape_of-answers
shape_of-answers c = answers_long c.loop-i.invariant c.requires.whole

pub shape_of-out : goal.shape_of-out
shape_of-out c = c.loop-i.invariant.out_long

pub shape_of-scratch : goal.shape_of-scratch
shape_of-scratch c = c.loop-i.invariant.scratch_long

pub returns : goal.returns
returns c = turned_all c.loop-i.invariant c.loop-i-test.false
