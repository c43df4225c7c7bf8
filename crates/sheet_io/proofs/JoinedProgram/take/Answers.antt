use Rattle.std.proofs.Common.{◌≤◌, ℕ, length, sym, subst}
use Rattle.lists.proofs.Scans.{leading_inside}
use Rattle.sheet_io.proofs.JoinedProgram.take.Goals as goal

pub split_at-requires : goal.split_at-requires
split_at-requires g c = subst (λ (k : ℕ). k ≤ length c.loop-lines.rest.now) (sym c.line_end.ensures) (leading_inside _ c.loop-lines.rest.now)
