-- A turn hands on what it has read. Assumes nothing.
use Rattle.std.proofs.Common.{List, [], ◌++◌, take}
use Rattle.std.proofs.KnownBytes.{Consumes-nil, Consumes-trans}
use Rattle.sheet_io.specs.Handing.{nothing, part}
use Rattle.sheet_io.proofs.read_all.Goals as goal

pub loop-init : goal.loop-init
loop-init g c = ([], Consumes-nil _, nothing _)

pub loop-preserved : goal.loop-preserved
loop-preserved g c =
    let held = c.loop.invariant in
    let read = c.in_ok-n.ensures in (
      held.0 ++ take c.in_ok-n.n c.read_some.new.buffer,
      Consumes-trans _ _ _ _ _ held.1 read.1,
      part _ _ _ _ _ held.2 c.in_ok-take.ensures,
    )
