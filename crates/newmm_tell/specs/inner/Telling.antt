-- What telling the tokens of a part asks of the row.
use Rattle.std.specs.Prelude.{ℕ, ◌+◌, ◌*◌, ◌≤◌, ◌≡◌, List, length, take}
use Rattle.tcc.specs.Flags.{end_flags}
use Rattle.trie_pool.specs.Words.{holds}
use Rattle.trie_pool.specs.inner.Sound.{Readable}
use Rattle.newmm_bfs.specs.inner.Strips.{flags_in}
use Rattle.newmm_answers.specs.Answers.{plain_cut}
use Rattle.newmm_reasons_answers.specs.inner.Cells.{cells_part}
use Rattle.newmm_reasons_answers.proofs.Cells.{cells_many}
use Rattle.newmm_segment.specs.inner.Written.{AsManyAsEnds}

-- as many positions as a part has, 0 and its length among them
abbrev pub positions : List ℕ → ℕ
positions part = length part + 1

-- the ends of a part's plain cut at the front of the row, and the flags of its cluster ends in
-- their strip
pub record CutPart (part pool row : List ℕ) (k : ℕ) : Type 0 where
  pub root_is : Readable pool 0
  pub room : 7 * positions part ≤ length row
  pub count : k ≡ length (plain_cut (holds pool) part).ends
  pub ends_are : take k row ≡ (plain_cut (holds pool) part).ends
  pub flags_are : flags_in row (positions part) ≡ end_flags part

-- a part has as many cells as ends
pub cells_as_many : AsManyAsEnds cells_part
cells_as_many words start part = cells_many words start part
