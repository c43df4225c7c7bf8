-- What `tell` leaves in scratch is what `fill` takes out of it. Assumes nothing.
use Rattle.newmm_records.proofs.Calls.{fill_fits, filled}
use Rattle.newmm_records.proofs.cut_records.Goals as goal

pub fill-requires : goal.fill-requires
fill-requires c =
    let a = c.args in
    fill_fits a.mode a.text.now a.pool.now a.scratch.now a.records.now c.tell-told.ensures c.tell-told.auto.scratch c.ends_told-k.ensures

pub returns : goal.returns
returns c =
    let a = c.args in
    filled a.mode a.text.now a.pool.now a.scratch.now a.records.now c.tell-told.ensures c.tell-told.auto.scratch c.ends_told-k.ensures
    c.fill.ensures.0 c.fill.ensures.1
