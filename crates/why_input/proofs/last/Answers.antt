use Prim.Native.Nat.{ℕ}
use native.Mathlib.Omega.{arith}
use mathlib.Core.List.{List}
use lib.ListN.{length, take}
use Rattle.sheet_bytes.specs.Lines.{laid}
use Rattle.why_replies.specs.Replies.{explained}
use Rattle.sheet_input.proofs.Feeding.{no_line, no_text, last_size, last_out}
use Rattle.why_sizes.proofs.Sizes.{whole_amount, whole_written}
use Rattle.why_input.proofs.Feeding.{no_rows, last_rows}
use Rattle.why_input.proofs.last.Goals as goal

pub returns-then-kept-eq0 : goal.returns-then-kept-eq0
returns-then-kept-eq0 c = let a = c.args in let whole = take a.kept a.line.now in record { value = no_line a.kept c.if-kept-eq0.true (length (explained whole a.pool.now a.scalars.now a.positions.now a.pairs.now (length a.scratch.now))); out_after = no_text a.kept c.if-kept-eq0.true a.out.now (laid (explained whole a.pool.now a.scalars.now a.positions.now a.pairs.now (length a.scratch.now)) a.out.now); rows_after = no_rows a.kept c.if-kept-eq0.true a.line.now a.pool.now a.scalars.now a.positions.now a.pairs.now a.scratch.now }

pub returns : goal.returns
returns c =
    let a = c.args in record {
      value = last_size a.line.now a.kept c.if-kept-eq0.false c.front.ensures.result_value (λ (l : List ℕ). length (explained l a.pool.now a.scalars.now a.positions.now a.pairs.now (length a.scratch.now))) (whole_amount _ a.pool.now a.scalars.now a.positions.now a.pairs.now (length a.scratch.now) a.out.now (omega arith) c.explain_line.ensures.value);
      out_after = last_out a.line.now a.kept c.if-kept-eq0.false c.front.ensures.result_value (λ (l : List ℕ). laid (explained l a.pool.now a.scalars.now a.positions.now a.pairs.now (length a.scratch.now)) a.out.now)
          a.out.now (whole_written _ a.pool.now a.scalars.now a.positions.now a.pairs.now (length a.scratch.now) a.out.now (omega arith) c.explain_line.ensures.out_after);
      rows_after = last_rows a.line.now a.kept c.if-kept-eq0.false c.front.ensures.result_value a.pool.now a.scalars.now a.positions.now a.pairs.now a.scratch.now c.explain_line.ensures.rows_after;
    }
