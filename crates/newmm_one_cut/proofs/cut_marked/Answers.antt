use Prim.Native.Nat.{◌-◌}
use native.Mathlib.Omega.{arith}
use mathlib.Core.Path.{refl, sym, ◌∙◌}
use Rattle.newmm_rules.proofs.Spans.{token_spans}
use Rattle.newmm_word_step.specs.inner.Walks.{given_by}
use Rattle.newmm_one_cut.proofs.Rounds.{b_inside, ends_few, committed_low, here, recorded}
use Rattle.newmm_one_cut.proofs.Tokens.{token_asks, token_round}
use Rattle.newmm_one_cut.proofs.Candidates.{path_asks, round_one, round_more}
use Rattle.newmm_one_cut.proofs.Bounds.{marked, first_round, size₁, part_long, part_blank}
use Rattle.newmm_one_cut.proofs.cut_marked.Goals as goal

pub overflow_add-m : goal.overflow_add-m
overflow_add-m c = omega (arith, c.requires.short)

pub overflow_mul-flags : goal.overflow_mul-flags
overflow_mul-flags c = omega (arith, c.requires.short)

pub overflow_mul-flags_end : goal.overflow_mul-flags_end
overflow_mul-flags_end c = omega (arith, c.requires.short)

pub offset_bounds-row-flags : goal.offset_bounds-row-flags
offset_bounds-row-flags c = omega (arith, c.requires.short)

pub slice_bounds-mark_ends-count : goal.slice_bounds-mark_ends-count
slice_bounds-mark_ends-count c = omega arith

pub slice_bounds-mark_ends-start : goal.slice_bounds-mark_ends-start
slice_bounds-mark_ends-start c = omega (arith, c.requires.size)

pub slice_bounds-mark_ends-end : goal.slice_bounds-mark_ends-end
slice_bounds-mark_ends-end c = omega (arith, c.requires.size)

pub mark_ends-requires : goal.mark_ends-requires
mark_ends-requires c = (part_long c.requires refl, part_blank c.requires refl)

pub overflow_mul-row : goal.overflow_mul-row
overflow_mul-row c = omega (arith, c.requires.short)

pub offset_bounds-row-m : goal.offset_bounds-row-m
offset_bounds-row-m c = omega (arith, c.requires.short)

pub bounds-row-m : goal.bounds-row-m
bounds-row-m c = omega (arith, size₁ _ _ c.args.row.now _ c.requires refl _ c.mark_ends.ensures, c.requires.size)

pub loop-b-init : goal.loop-b-init
loop-b-init c = first_round _ _ _ _ c.requires refl _ c.mark_ends.ensures

pub record_words-q-requires : goal.record_words-q-requires
record_words-q-requires c = here c.loop-b.invariant c.loop-b-test.true

pub put_token-b-requires : goal.put_token-b-requires
put_token-b-requires c =
    token_asks (recorded c.loop-b.invariant c.loop-b-test.true c.record_words-q.ensures.records_all c.record_words-q.ensures.alone
    c.record_words-q.auto.row) c.if-left-eq0.true

pub overflow_add-ends : goal.overflow_add-ends
overflow_add-ends c =
    let r = c.loop-b.invariant in
    omega (arith, ends_few r, committed_low r, b_inside r, r.sized.small, r.size_is)

pub loop-b-smaller-then-left-eq0 : goal.loop-b-smaller-then-left-eq0
loop-b-smaller-then-left-eq0 c =
    let t = token_spans (given_by c.args.text.now c.args.pool.now) c.loop-b.b
    c.loop-b-test.true in
    let e = c.put_token-b.ensures.value in
    let l = c.loop-b-test.true in
    omega (arith, t.0)

pub loop-b-preserved-then-left-eq0 : goal.loop-b-preserved-then-left-eq0
loop-b-preserved-then-left-eq0 c =
    token_round (recorded c.loop-b.invariant c.loop-b-test.true c.record_words-q.ensures.records_all c.record_words-q.ensures.alone
    c.record_words-q.auto.row) c.if-left-eq0.true _ _ c.put_token-b.ensures.value c.put_token-b.ensures.row_after

pub put_path-r-requires : goal.put_path-r-requires
put_path-r-requires c =
    path_asks (recorded c.loop-b.invariant c.loop-b-test.true c.record_words-q.ensures.records_all c.record_words-q.ensures.alone
    c.record_words-q.auto.row) c.if-left-eq1.true

pub loop-b-smaller-then-left-eq1 : goal.loop-b-smaller-then-left-eq1
loop-b-smaller-then-left-eq1 c =
    let l = c.loop-b-test.true in
    let n = c.put_path-r.ensures.next_is.above in
    omega arith

pub loop-b-preserved-then-left-eq1 : goal.loop-b-preserved-then-left-eq1
loop-b-preserved-then-left-eq1 c =
    round_one (recorded c.loop-b.invariant c.loop-b-test.true c.record_words-q.ensures.records_all c.record_words-q.ensures.alone
    c.record_words-q.auto.row) c.if-left-eq1.true c.put_path-r.ensures.next_is _ _ c.put_path-r.auto.row
    c.put_path-r.ensures.path

pub next_candidate-b-requires : goal.next_candidate-b-requires
next_candidate-b-requires c =
    record {
      sized = (recorded c.loop-b.invariant c.loop-b-test.true c.record_words-q.ensures.records_all c.record_words-q.ensures.alone
          c.record_words-q.auto.row).sized;
      b_lt_m = (let l = c.loop-b-test.true in omega (arith, c.loop-b.invariant.size_is));
    }

pub overflow_sub-p : goal.overflow_sub-p
overflow_sub-p c = let n = c.if-left-eq0.false in omega arith

pub loop-b-smaller : goal.loop-b-smaller
loop-b-smaller c =
    let l = c.loop-b-test.true in
    let n = c.next_candidate-b.ensures.above in
    omega arith

pub loop-b-preserved : goal.loop-b-preserved
loop-b-preserved c =
    round_more (recorded c.loop-b.invariant c.loop-b-test.true c.record_words-q.ensures.records_all c.record_words-q.ensures.alone
    c.record_words-q.auto.row) c.next_candidate-b.ensures c.if-left-eq0.false c.if-left-eq1.false

pub shape_of-row : goal.shape_of-row
shape_of-row c = c.loop-b.invariant.exact ∙ sym c.requires.size

pub returns : goal.returns
returns c = marked c.loop-b.invariant c.loop-b-test.false
