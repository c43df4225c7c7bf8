-- A pool's words are those that are seen in its cells. Assumes nothing.
use Prim.Native.Nat.{ℕ, ◌*◌, ◌/◌, min}
use mathlib.Core.Path.{◌≡◌, sym, ◌∙◌, ap}
use mathlib.Core.Bool.{Bool, true, false}
use mathlib.Core.List.{List}
use mathlib.Core.Option.{none}
use lib.ListN.{length, take}
use Rattle.trie_pool.specs.Rules.{is_dictionary}
use Rattle.trie_pool.specs.Meaning.{meaning}
use Rattle.trie_check.proofs.Parts.{meaning_yes, meaning_no, cells_are}
use Rattle.newmm_answers.specs.inner.Passing.{in_view}

pub no_pool : (pool : List ℕ) → is_dictionary pool ≡ false → none ≡ meaning pool
no_pool pool e = sym (meaning_no pool e)

pub seen_pool : (pool : List ℕ) (n : ℕ) → n ≡ min (length pool / 8) 1048576 → is_dictionary pool ≡ true → in_view (take (8 * n) pool) ≡ meaning pool
seen_pool pool n is e = ap in_view (cells_are pool n is) ∙ sym (meaning_yes pool e)
