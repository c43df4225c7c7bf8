-- What a call that comes past the refusals 2 to 5 has, what it is lent on with, and what it leaves.
use Rattle.std.specs.Prelude.{ℕ, ◌≡◌, List, length, replicate, Result, Ok}
use Rattle.std.proofs.Math.Option.{Option, some}
use Rattle.newmm_rules.specs.declared.Ends.{Ends}
use Rattle.refusal.specs.declared.Refusal.{Refusal}
use Rattle.refusal.specs.Answers.{answer}
use Rattle.trie_pool.specs.Words.{holds}
use Rattle.trie_pool.specs.Meaning.{Words}
use Rattle.trie_pool.specs.inner.Sound.{Readable}
use Rattle.newmm_rules.specs.declared.Mode.{Mode}
use Rattle.newmm_answers.specs.Answers.{first_causes, cut_answer, out_after, scratch_after}

-- none of the refusals 2 to 5 is due, the pool having this meaning
pub record Passes (text : List ℕ) (m : Option Words) (cells : ℕ) : Type 0 where
  pub accepted : answer (first_causes text m cells) 0 ≡ Ok 0

-- the words in a view of a pool: the cells in which a dictionary stands
abbrev pub in_view : List ℕ → Option Words
in_view view = some (holds view)

-- a text passes with the words in a view, which can be read
pub record Sees (text view : List ℕ) (cells : ℕ) : Type 0 where
  pub passes : Passes text (in_view view) cells
  pub readable : Readable view 0

-- all cells are 0
abbrev pub Blank : List ℕ → Type 0
Blank row = row ≡ replicate (length row) 0

-- What a cut answers, and leaves in the output and in scratch, the pool having this meaning. A
-- public cut promises it of the meaning of the pool that it is lent.
abbrev pub CutsBy : Option Words → (text out scratch : List ℕ) → Mode → Result Ends Refusal → (out' scratch' : List ℕ) → Type 0
CutsBy m text out scratch mode answer out' scratch' =
    (answer ≡ cut_answer mode text m (length scratch) (length out))
    × ((out' ≡ out_after mode text m (length scratch) out) × (scratch' ≡ scratch_after text m scratch))
