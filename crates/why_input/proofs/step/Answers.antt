use native.Mathlib.Omega.{arith}
use Prim.Native.Nat.{ℕ}
use mathlib.Core.Path.{sym}
use mathlib.Core.List.{List}
use lib.ListN.{length}
use lib.Seq.{length-take-le}
use Rattle.sheet_bytes.specs.Lines.{laid}
use Rattle.sheet_input.specs.Feeding.{line_with}
use Rattle.why_replies.specs.Replies.{explained}
use Rattle.sheet_input.proofs.Feeding.{end_inside, end_below, line_is, open_fed, open_out, end_fed, end_out}
use Rattle.why_sizes.proofs.Sizes.{whole_amount, whole_written}
use Rattle.why_input.proofs.Feeding.{open_rows, end_rows}
use Rattle.why_input.proofs.step.Goals as goal

pub slice_bounds-keep-end : goal.slice_bounds-keep-end
slice_bounds-keep-end c =
    sym (length-take-le c.line_end-end.result c.args.bytes.now
    (end_inside c.args.bytes.now c.line_end-end.ensures))

pub returns-then-end-bytes : goal.returns-then-end-bytes
returns-then-end-bytes c =
    let a = c.args in let whole = line_with a.bytes.now a.line.now a.kept in record {
      value = open_fed a.bytes.now a.line.now a.kept c.line_end-end.ensures c.keep-n.ensures.value c.keep-n.ensures.row_after c.if-end-bytes.true
          (length (explained whole a.pool.now a.scalars.now a.positions.now a.pairs.now (length a.scratch.now)));
      line_after = line_is a.bytes.now a.line.now a.kept c.line_end-end.ensures c.keep-n.ensures.value c.keep-n.ensures.row_after;
      out_after = open_out a.bytes.now a.line.now a.kept c.line_end-end.ensures c.keep-n.ensures.value c.keep-n.ensures.row_after c.if-end-bytes.true
          (laid (explained whole a.pool.now a.scalars.now a.positions.now a.pairs.now (length a.scratch.now)) a.out.now) a.out.now;
      rows_after = open_rows a.bytes.now a.line.now a.kept c.line_end-end.ensures c.keep-n.ensures.value c.keep-n.ensures.row_after c.if-end-bytes.true
          a.pool.now a.scalars.now a.positions.now a.pairs.now a.scratch.now;
    }

pub overflow_add-result : goal.overflow_add-result
overflow_add-result c = omega (arith, end_below c.args.bytes.now c.line_end-end.ensures c.if-end-bytes.false)

pub returns : goal.returns
returns c =
    let a = c.args in record {
      value = end_fed a.bytes.now a.line.now a.kept c.line_end-end.ensures c.keep-n.ensures.value c.keep-n.ensures.row_after c.if-end-bytes.false c.front.ensures.result_value
          (λ (l : List ℕ). length (explained l a.pool.now a.scalars.now a.positions.now a.pairs.now (length a.scratch.now))) (whole_amount _ a.pool.now a.scalars.now a.positions.now a.pairs.now (length a.scratch.now) a.out.now (omega arith) c.explain_line-written.ensures.value);
      line_after = line_is a.bytes.now a.line.now a.kept c.line_end-end.ensures c.keep-n.ensures.value c.keep-n.ensures.row_after;
      out_after = end_out a.bytes.now a.line.now a.kept c.line_end-end.ensures c.keep-n.ensures.value c.keep-n.ensures.row_after c.if-end-bytes.false c.front.ensures.result_value
          (λ (l : List ℕ). laid (explained l a.pool.now a.scalars.now a.positions.now a.pairs.now (length a.scratch.now)) a.out.now) a.out.now (whole_written _ a.pool.now a.scalars.now a.positions.now a.pairs.now (length a.scratch.now) a.out.now (omega arith) c.explain_line-written.ensures.out_after);
      rows_after = end_rows a.bytes.now a.line.now a.kept c.line_end-end.ensures c.keep-n.ensures.value c.keep-n.ensures.row_after c.if-end-bytes.false c.front.ensures.result_value
          a.pool.now a.scalars.now a.positions.now a.pairs.now a.scratch.now c.explain_line-written.ensures.rows_after;
    }
