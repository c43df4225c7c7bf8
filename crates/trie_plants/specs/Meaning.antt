-- What a plants' pool means: the words of each plant, and their classes.
use Rattle.std.specs.Prelude.{ℕ, cond, List}
use Rattle.std.proofs.Math.Option.{Option, none, some}
use Rattle.trie_pool.specs.Words.{holds, term_at}
use Rattle.trie_pool.specs.Meaning.{Words, Terms}
use Rattle.trie_plants.specs.declared.Plant.{Plant}
use Rattle.trie_plants.specs.Halves.{half_of}
use Rattle.trie_plants.specs.Rules.{is_plants}

-- Nothing exactly where refusal 4 is due in a plant call, else which words the plant holds.
unfoldable pub plant_meaning : Plant → List ℕ → Option Words
plant_meaning plant pool = cond (is_plants pool) (some (holds (half_of plant pool))) none

-- The same with their classes.
unfoldable pub plant_terms : Plant → List ℕ → Option Terms
plant_terms plant pool = cond (is_plants pool) (some (term_at (half_of plant pool))) none
