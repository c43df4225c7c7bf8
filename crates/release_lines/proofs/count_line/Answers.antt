use Rattle.utf8.specs.Decoding.{room_in}
use Rattle.release_lines.proofs.Counting.{none_counted, text_counted}
use Rattle.release_lines.proofs.count_line.Goals as goal

pub returns-in-None : goal.returns-in-None
returns-in-None c =
    let both = none_counted c.args.line.now c.cutting_in-cutting.ensures c.args.figures.now c.args.pool.now
    c.args.pairs.now c.args.scratch.now (room_in c.args.scalars.now c.args.positions.now)
    c.in-None.is _ c.answer_line.ensures.rows_after.pool_is in record { value = both.0; figures_after = both.1.0; pool_after = both.1.1 }

pub returns-in-Some : goal.returns-in-Some
returns-in-Some c =
    let both = text_counted c.args.line.now c.cutting_in-cutting.ensures c.args.figures.now c.args.pool.now
    c.args.pairs.now c.args.scratch.now (room_in c.args.scalars.now c.args.positions.now)
    c.in-Some.is c.text_in.ensures c.count_text.ensures.value c.count_text.ensures.figures_after in record { value = both.0; figures_after = both.1.0; pool_after = both.1.1 }
