use mathlib.Core.Path.{◌≡◌}
use mathlib.Core.Bool.{false}
use Prim.Native.Nat.{ℕ, ◌+◌, ◌-◌, ◌<◌}
use Rattle.char_string_white_space.specs.Trimmed.{is_trimmed}
use Rattle.trie_pool.specs.Cells.{scalar_at}
use Rattle.trie_well_formed.proofs.starts_ok.Given as goal

abbrev pub invariant-loop-i : goal.invariant-loop-i
invariant-loop-i l = (0 < l.i) × ((j : ℕ) → 0 < j → j < l.i → is_trimmed (scalar_at l.p j) ≡ false)
