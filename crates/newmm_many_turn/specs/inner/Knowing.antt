-- What is known of the pool.
use Rattle.std.specs.Prelude.{List, ℕ, Some, None}
use Rattle.std.specs.Prelude.{Option as Maybe}
use Rattle.std.specs.Borrow.{Bor}
use Rattle.std.proofs.Math.Option.{Option, none}
use Rattle.trie_pool.specs.Meaning.{Words}
use Rattle.newmm_answers.specs.inner.Passing.{in_view}

-- a pool whose words stand in a view, where it has words
abbrev pub seen_in : Maybe (Bor (List ℕ)) → Option Words
seen_in (Some view) = in_view view.now
seen_in None = none
