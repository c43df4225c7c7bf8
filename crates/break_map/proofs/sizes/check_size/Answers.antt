use Rattle.break_map_rules.specs.Maps.{cells_for}
use Rattle.break_map.proofs.Checks.{too_long, row_short, row_fits}
use Rattle.break_map.proofs.sizes.check_size.Goals as goal

pub returns-then-n-gt-MAX_SCALARS : goal.returns-then-n-gt-MAX_SCALARS
returns-then-n-gt-MAX_SCALARS c = too_long c.args.n c.args.room (cells_for c.args.n) c.if-n-gt-MAX_SCALARS.true

pub returns-then-room-needed : goal.returns-then-room-needed
returns-then-room-needed c = row_short c.args.n c.args.room (cells_for c.args.n) c.if-n-gt-MAX_SCALARS.false c.if-room-needed.true

pub returns : goal.returns
returns c = row_fits c.args.n c.args.room (cells_for c.args.n) c.if-n-gt-MAX_SCALARS.false c.if-room-needed.false
