use Prim.Native.Nat.{ℕ, ◌+◌, ◌≤◌, ◌<◌}
use native.Mathlib.Omega.{arith}
use native.Mathlib.Numerals.{add-one}
use mathlib.Core.Path.{◌≡◌, sym, ◌∙◌, ap}
use mathlib.Core.Bool.{true, false, not}
use lib.ListN.{length, get_or}
use Rattle.std.proofs.Common.{rules}
use Rattle.lists.proofs.Scans.{last_found, last_unfound}
use Rattle.char_string_white_space.specs.Trimmed.{is_trimmed}
use Rattle.char_string_trim.specs.Trimming.{stays}
use Rattle.char_string_trim.proofs.kept.Goals as goal

pub returns-in-Some : goal.returns-in-Some
returns-in-Some c =
    let m : (c.in-Some.last < length c.args.word.now) × (is_trimmed (get_or c.args.word.now c.in-Some.last 0) ≡ false)
    × ((j : ℕ) → c.in-Some.last + 1 ≤ j → j < length c.args.word.now → is_trimmed (get_or c.args.word.now j 0) ≡ true) = search rules in
    add-one c.in-Some.last ∙ sym (last_found stays c.args.word.now c.in-Some.last m.0 (ap not m.1) (λ j l h. ap not (m.2 j (omega arith) h)))

pub returns-in-None : goal.returns-in-None
returns-in-None c =
    let m : (j : ℕ) → 0 ≤ j → j < length c.args.word.now → is_trimmed (get_or c.args.word.now j 0) ≡ true = search rules in
    sym (last_unfound stays c.args.word.now (λ j h. ap not (m j (omega arith) h)))
