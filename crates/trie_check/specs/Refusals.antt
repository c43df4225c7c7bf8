-- Refusal 4, and the refusals that every operation on a text and a pool starts with.
use Rattle.std.specs.Prelude.{ℕ, Bool, true, false, List, [], ◌∷◌, ◌++◌}
use Rattle.std.proofs.Math.Option.{Option, none, some}
use Rattle.refusal.specs.Answers.{Cause}
use Rattle.refusal.specs.declared.Refusal.TheVariants.{NotADictionary}
use Rattle.char_string_scalars.specs.Scalars.{text_causes}
use Rattle.trie_pool.specs.Meaning.{Words, no_word, Terms, no_term}

abbrev pub is_none : Option Words → Bool
is_none none = true
is_none (some f) = false

-- the words of a pool; those of one that is no dictionary are asked for nowhere
abbrev pub held : Option Words → Words
held none = no_word
held (some f) = f

-- the same with their classes
abbrev pub held_terms : Option Terms → Terms
held_terms none = no_term
held_terms (some f) = f

-- 4: the pool isn't a dictionary; 0.
abbrev pub pool_causes : Option Words → List Cause
pool_causes m = record { refusal = NotADictionary; holds = is_none m } ∷ []

-- Contains: 2, 3, 4. The causes of every operation on a text start with these.
abbrev pub read_causes : List ℕ → Option Words → List Cause
read_causes text m = text_causes text ++ pool_causes m
