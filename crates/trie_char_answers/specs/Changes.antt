-- What becomes of a pool that was lent to be changed.
use Rattle.std.specs.Prelude.{ℕ, ◌*◌, ◌≡◌, List, length, drop, Result, Ok, Err}
use Rattle.std.proofs.Math.Option.{some}
use Rattle.refusal.specs.declared.Refusal.{Refusal}
use Rattle.trie_pool.specs.Cells.{node_cells}
use Rattle.trie_pool.specs.Rules.{capacity}
use Rattle.trie_pool.specs.Meaning.{Terms, terms}

-- The pool of these words with these classes, of which there is one (proofs/One.antt: one_after).
-- Later cells and a part node are never written.
pub record Became (old new : List ℕ) (held : Terms) : Type 0 where
  pub means : terms new ≡ some held
  pub later : drop (node_cells * capacity old) new ≡ drop (node_cells * capacity old) old
  pub kept : length new ≡ length old

-- A refusal changes no pool.
abbrev pub After : Result ℕ Refusal → List ℕ → List ℕ → Terms → Type 0
After (Ok n) old new held = Became old new held
After (Err r) old new held = new ≡ old
