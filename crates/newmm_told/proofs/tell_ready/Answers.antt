use native.Mathlib.Omega.{arith}
use lib.ListN.{length}
use Rattle.newmm_reasons_answers.specs.inner.Cells.{text_cells}
use Rattle.newmm.proofs.Calls.{Ended, ready, ends_fit}
use Rattle.newmm_told.proofs.Calls.{the_cells, short_tells, done_tells}
use Rattle.newmm_told.proofs.tell_ready.Goals as goal

pub tell_text-r-requires : goal.tell_text-r-requires
tell_text-r-requires c = ready (record { sees = c.requires.0; blank = c.requires.1 })

pub clear_first-requires : goal.clear_first-requires
clear_first-requires c =
    let ended : Ended text_cells c.args.mode c.args.text.now c.args.view.now c.tell_text-r.new.row (length c.args.scratch.now) c.tell_text-r.result = record { like = the_cells; blank_row = _; lent = record { sees = c.requires.0; blank = c.requires.1 }; written = c.tell_text-r.ensures } in
    omega (arith, ends_fit ended)

pub returns-then-room-n : goal.returns-then-room-n
returns-then-room-n c =
    let ended : Ended text_cells c.args.mode c.args.text.now c.args.view.now c.tell_text-r.new.row (length c.args.scratch.now) c.tell_text-r.result = record { like = the_cells; blank_row = _; lent = record { sees = c.requires.0; blank = c.requires.1 }; written = c.tell_text-r.ensures } in
    short_tells c.args.scratch.now c.args.room ended c.if-room-n.true c.clear_first.ensures

pub returns : goal.returns
returns c =
    let ended : Ended text_cells c.args.mode c.args.text.now c.args.view.now c.tell_text-r.new.row (length c.args.scratch.now) c.tell_text-r.result = record { like = the_cells; blank_row = _; lent = record { sees = c.requires.0; blank = c.requires.1 }; written = c.tell_text-r.ensures } in
    done_tells c.args.scratch.now c.args.room ended c.if-room-n.false
