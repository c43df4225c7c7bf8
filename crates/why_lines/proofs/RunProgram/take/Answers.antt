use Rattle.std.proofs.Common.{rules}
use Rattle.sheet_input.proofs.Feeding.{taken_some}
use Rattle.why_lines.proofs.RunProgram.take.Goals as goal

pub slice_bounds-rest-count : goal.slice_bounds-rest-count
slice_bounds-rest-count g c = (taken_some c.loop-output.rest.now _ _ c.step-fed.ensures.value (search rules)).1

pub slice_bounds-rest-start : goal.slice_bounds-rest-start
slice_bounds-rest-start g c = (taken_some c.loop-output.rest.now _ _ c.step-fed.ensures.value (search rules)).1
