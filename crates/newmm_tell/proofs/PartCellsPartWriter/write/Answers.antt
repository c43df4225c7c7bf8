use Prim.Native.Nat.{◌+◌}
use native.Mathlib.Omega.{arith}
use mathlib.Core.Path.{sym}
use lib.ListN.{length}
use lib.Seq.{length-take-le}
use Rattle.newmm_bfs.specs.inner.Strips.{cells_for}
use Rattle.newmm_one_cut.proofs.Whole.{fresh}
use Rattle.newmm_segment.proofs.Samples.{lent}
use Rattle.newmm_tell.proofs.Rows.{part_told}
use Rattle.newmm_tell.proofs.PartCellsPartWriter.write.Goals as goal

pub slice_bounds-tell_strips-end-2 : goal.slice_bounds-tell_strips-end-2
slice_bounds-tell_strips-end-2 c = sym (length-take-le (cells_for (length c.args.part.now + 1)) c.args.row.now (omega (arith, c.requires.0.room)))

pub tell_strips-requires : goal.tell_strips-requires
tell_strips-requires c = (fresh (lent c.requires.0 c.args.part.now (omega arith)), c.requires.1)

pub returns : goal.returns
returns c = part_told c.args.start (lent c.requires.0 c.args.part.now (omega arith)) c.tell_strips.ensures
