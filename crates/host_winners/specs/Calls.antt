-- What a host is told of a text's clusters and of the alternatives that won them, and what stands
-- in the two rows that it lends: the answer and the rows of the library function, as its contract
-- gives them.
use Rattle.std.specs.Prelude.{ℕ, ◌≡◌, List, length}
use Rattle.refusal.specs.Answers.{output}
use Rattle.tcc_rules.specs.Clusters.{cluster_ends}
use Rattle.tcc_tables.specs.Answers.{winners_of, winners_answer}
use Rattle.host_telling.specs.Told.{Told, tells}

-- WINNERS: what is told, the row with the clusters' ends, and the row with the winners.
abbrev pub WinnersTold : (text ends winners : List ℕ) → Told → (ends' winners' : List ℕ) → Type 0
WinnersTold text ends winners t ends' winners' =
    (t ≡ tells (winners_answer text (length ends) (length winners)))
    × ((ends' ≡ output (winners_answer text (length ends) (length winners)) (cluster_ends text) ends)
    × (winners' ≡ output (winners_answer text (length ends) (length winners)) (winners_of text) winners))
