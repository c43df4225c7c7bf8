use Rattle.utf8.specs.Decoding.{room_in}
use Prim.Native.Nat.{ℕ}
use mathlib.Core.List.{List}
use lib.ListN.{length, take}
use Rattle.sheet_texts.specs.Texts.{written, amount}
use Rattle.sheet_input.specs.Feeding.{told}
use Rattle.sheet_input.proofs.Feeding.{no_line, no_text, no_rows, last_size, last_out, last_rows}
use Rattle.sheet_input.proofs.finish.Goals as goal

pub returns-then-kept-eq0 : goal.returns-then-kept-eq0
returns-then-kept-eq0 c = let a = c.args in let whole = take a.kept a.line.now in record { value = no_line a.kept c.if-kept-eq0.true (amount (told whole a.pool.now (room_in a.scalars.now a.positions.now) (length a.scratch.now) a.ends.now) a.out.now); out_after = no_text a.kept c.if-kept-eq0.true a.out.now (written (told whole a.pool.now (room_in a.scalars.now a.positions.now) (length a.scratch.now) a.ends.now) a.out.now); rows_after = no_rows a.kept c.if-kept-eq0.true a.line.now a.pool.now a.scalars.now a.positions.now a.ends.now a.scratch.now }

pub returns : goal.returns
returns c = let a = c.args in record { value = last_size a.line.now a.kept c.if-kept-eq0.false c.front.ensures.result_value (λ (l : List ℕ). amount (told l a.pool.now (room_in a.scalars.now a.positions.now) (length a.scratch.now) a.ends.now) a.out.now) c.told.ensures.value; out_after = last_out a.line.now a.kept c.if-kept-eq0.false c.front.ensures.result_value (λ (l : List ℕ). written (told l a.pool.now (room_in a.scalars.now a.positions.now) (length a.scratch.now) a.ends.now) a.out.now) a.out.now c.told.ensures.out_after; rows_after = last_rows a.line.now a.kept c.if-kept-eq0.false c.front.ensures.result_value a.pool.now a.scalars.now a.positions.now a.ends.now a.scratch.now c.told.ensures.rows_after }
