use Rattle.std.specs.Prelude.{Result, Ok}
use borrow.Author.Rules.{rules}
use mathlib.Core.Path.{◌≡◌}
use Prim.Native.Nat.{ℕ}
use Rattle.image_read.specs.declared.Surveyed.{Surveyed}
use Rattle.image_build.proofs.Replacing.{told, replaces}
use Rattle.image_build.proofs.replace.Goals as goal

pub returns-clause-after : goal.returns-clause-after
returns-clause-after c =
    let e : ◌≡◌ {A = Result Surveyed ℕ} c.survey.result (Ok c.in_ok-found.found) = search rules in
    replaces (told {image = c.args.image.now} c.survey.ensures e) c.build.ensures.placed c.build.ensures.beside c.build.ensures.used_after c.if-room-n.false
