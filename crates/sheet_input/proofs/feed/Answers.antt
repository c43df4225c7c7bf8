use Rattle.utf8.specs.Decoding.{room_in}
use native.Mathlib.Omega.{arith}
use Prim.Native.Nat.{ℕ}
use mathlib.Core.Path.{sym}
use mathlib.Core.List.{List}
use lib.ListN.{length}
use lib.Seq.{length-take-le}
use Rattle.sheet_texts.specs.Texts.{written, amount}
use Rattle.sheet_input.specs.Feeding.{told, line_with}
use Rattle.sheet_input.proofs.Feeding.{end_inside, end_below, line_is, open_fed, open_out, open_rows, end_fed, end_out, end_rows}
use Rattle.sheet_input.proofs.feed.Goals as goal

pub slice_bounds-keep-end : goal.slice_bounds-keep-end
slice_bounds-keep-end c =
    sym (length-take-le c.line_end-end.result c.args.bytes.now
    (end_inside c.args.bytes.now c.line_end-end.ensures))

pub returns-then-end-bytes : goal.returns-then-end-bytes
returns-then-end-bytes c =
    let a = c.args in let whole = line_with a.bytes.now a.line.now a.kept in record {
      value = open_fed a.bytes.now a.line.now a.kept c.line_end-end.ensures c.keep-n.ensures.value c.keep-n.ensures.row_after c.if-end-bytes.true
          (amount (told whole a.pool.now (room_in a.scalars.now a.positions.now) (length a.scratch.now) a.ends.now) a.out.now);
      line_after = line_is a.bytes.now a.line.now a.kept c.line_end-end.ensures c.keep-n.ensures.value c.keep-n.ensures.row_after;
      out_after = open_out a.bytes.now a.line.now a.kept c.line_end-end.ensures c.keep-n.ensures.value c.keep-n.ensures.row_after c.if-end-bytes.true
          (written (told whole a.pool.now (room_in a.scalars.now a.positions.now) (length a.scratch.now) a.ends.now) a.out.now) a.out.now;
      rows_after = open_rows a.bytes.now a.line.now a.kept c.line_end-end.ensures c.keep-n.ensures.value c.keep-n.ensures.row_after c.if-end-bytes.true
          a.pool.now a.scalars.now a.positions.now a.ends.now a.scratch.now;
    }

pub overflow_add-result : goal.overflow_add-result
overflow_add-result c = omega (arith, end_below c.args.bytes.now c.line_end-end.ensures c.if-end-bytes.false)

pub returns : goal.returns
returns c =
    let a = c.args in record {
      value = end_fed a.bytes.now a.line.now a.kept c.line_end-end.ensures c.keep-n.ensures.value c.keep-n.ensures.row_after c.if-end-bytes.false c.front.ensures.result_value
          (λ (l : List ℕ). amount (told l a.pool.now (room_in a.scalars.now a.positions.now) (length a.scratch.now) a.ends.now) a.out.now) c.told-written.ensures.value;
      line_after = line_is a.bytes.now a.line.now a.kept c.line_end-end.ensures c.keep-n.ensures.value c.keep-n.ensures.row_after;
      out_after = end_out a.bytes.now a.line.now a.kept c.line_end-end.ensures c.keep-n.ensures.value c.keep-n.ensures.row_after c.if-end-bytes.false c.front.ensures.result_value
          (λ (l : List ℕ). written (told l a.pool.now (room_in a.scalars.now a.positions.now) (length a.scratch.now) a.ends.now) a.out.now) a.out.now c.told-written.ensures.out_after;
      rows_after = end_rows a.bytes.now a.line.now a.kept c.line_end-end.ensures c.keep-n.ensures.value c.keep-n.ensures.row_after c.if-end-bytes.false c.front.ensures.result_value
          a.pool.now a.scalars.now a.positions.now a.ends.now a.scratch.now c.told-written.ensures.rows_after;
    }
