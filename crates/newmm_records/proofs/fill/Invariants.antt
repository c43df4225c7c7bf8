use Rattle.std.proofs.Common.{◌-◌, ◌≡◌, ◌≤◌}
use Rattle.newmm_records.proofs.Filled.{cur, taken}
use Rattle.newmm_records.proofs.fill.Given as goal

abbrev pub invariant-loop-i : goal.invariant-loop-i
invariant-loop-i l =
    record {
      within : l.i ≤ l.n;
      filled : l.records ≡ cur l.initial.told l.initial.records l.i;
      cleared : l.told ≡ taken l.initial.told l.i;
    }

abbrev pub decreases-loop-i : goal.decreases-loop-i
decreases-loop-i l = l.n - l.i
