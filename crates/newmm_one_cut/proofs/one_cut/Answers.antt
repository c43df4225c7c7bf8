use Prim.Native.Nat.{◌+◌}
use mathlib.Core.Path.{sym}
use lib.ListN.{length}
use lib.Seq.{length-take-le}
use Rattle.newmm_bfs.specs.inner.Strips.{cells_for}
use Rattle.newmm_one_cut.proofs.Whole.{fresh, whole}
use Rattle.newmm_one_cut.proofs.one_cut.Goals as goal

pub slice_bounds-cut_strips-end-2 : goal.slice_bounds-cut_strips-end-2
slice_bounds-cut_strips-end-2 c = sym (length-take-le (cells_for (length c.args.text.now + 1)) c.args.row.now c.requires.room)

pub cut_strips-requires : goal.cut_strips-requires
cut_strips-requires c = fresh c.requires

pub returns : goal.returns
returns c = whole c.requires c.cut_strips.ensures
