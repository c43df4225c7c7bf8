use native.Mathlib.Omega.{arith}
use mathlib.Core.Path.{sym, ◌∙◌}
use Rattle.utf8.proofs.Runs.{read_inside, read_more, read_broken, read_done}
use Rattle.utf8.proofs.count_by_table.Goals as goal

pub loop-at-init : goal.loop-at-init
loop-at-init c = c.requires

pub returns-then-size-eq0 : goal.returns-then-size-eq0
returns-then-size-eq0 c = read_broken c.loop-at.invariant c.loop-at-test.true (sym c.next_size-size.ensures ∙ c.if-size-eq0.true)

pub overflow_add-at : goal.overflow_add-at
overflow_add-at c =
    let z = read_inside _ _ _ c.loop-at.invariant.inside c.next_size-size.ensures in
    omega arith

pub over_thai-r-requires : goal.over_thai-r-requires
over_thai-r-requires c = read_more _ c.loop-at.invariant c.next_size-size.ensures (omega (arith, c.if-size-eq0.false))

pub loop-at-smaller : goal.loop-at-smaller
loop-at-smaller c =
    omega (
      arith,
      c.over_thai-r.ensures.0.inside,
      c.over_thai-r.ensures.1,
      c.if-size-eq0.false,
      c.loop-at-test.true,
    )

pub loop-at-preserved : goal.loop-at-preserved
loop-at-preserved c = c.over_thai-r.ensures.0

pub returns : goal.returns
returns c = read_done c.loop-at.invariant c.loop-at-test.false
