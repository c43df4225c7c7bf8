-- The refusals of each operation on a dictionary, in the order of 01.
use Rattle.std.specs.Prelude.{ℕ, ◌+◌, ◌-◌, List, [], ◌∷◌, ◌++◌, ltb, length}
use Rattle.std.proofs.Math.Option.{Option}
use Rattle.refusal.specs.Answers.{Cause, out_cause}
use Rattle.refusal.specs.Limits.{max_word}
use Rattle.refusal.specs.declared.Refusal.TheVariants.{WordTooLong, TooFewNodes}
use Rattle.char_string_trim.specs.Trimming.{trimmed_of}
use Rattle.trie_pool.specs.Cells.{node_cells, used}
use Rattle.trie_pool.specs.Words.{lacking}
use Rattle.trie_pool.specs.Rules.{capacity, cells_of}
use Rattle.trie_pool.specs.Meaning.{Words, meaning, prefix_lengths}
use Rattle.trie_check.specs.Refusals.{held, read_causes}

-- 7: the word is over 255 scalars after trimming; its trimmed length.
abbrev pub length_causes : List ℕ → List Cause
length_causes word =
    record { refusal = WordTooLong (length (trimmed_of word)); holds = ltb max_word (length (trimmed_of word)) } ∷ []

-- Nodes in use are the root and one for each distinct non-empty prefix of the words held; so many
-- there would be with the word added. It is counted by the cells; that it is the number of prefixes
-- of the words is a theorem (crates/theorems_demands/proofs/Counts.antt: nodes_is).
abbrev pub nodes_with : List ℕ → List ℕ → ℕ
nodes_with pool w = used (cells_of pool) + lacking (cells_of pool) w 0

-- 8: the pool has too few free nodes; nodes missing. Exactly if the nodes in use would pass
-- capacity.
abbrev pub node_causes : List ℕ → List ℕ → List Cause
node_causes pool w =
    record {
      refusal = TooFewNodes (nodes_with pool w - capacity pool);
      holds = ltb (capacity pool) (nodes_with pool w);
    }
    ∷ []

-- Prefix lengths: 2, 3, 4, 6.
abbrev pub prefix_causes : List ℕ → Option Words → List ℕ → List Cause
prefix_causes text m out = read_causes text m ++ (out_cause (length (prefix_lengths (held m) text)) (length out) ∷ [])

-- Remove: 2, 3, 4, 7.
abbrev pub remove_causes : List ℕ → Option Words → List Cause
remove_causes word m = read_causes word m ++ length_causes word

-- Add: 2, 3, 4, 7, 8.
abbrev pub add_causes : List ℕ → List ℕ → List Cause
add_causes word pool = remove_causes word (meaning pool) ++ node_causes pool (trimmed_of word)

-- Fresh pool: 8 (missing 1 if under eight cells).
abbrev pub fresh_causes : List ℕ → List Cause
fresh_causes pool = record { refusal = TooFewNodes 1; holds = ltb (length pool) node_cells } ∷ []
