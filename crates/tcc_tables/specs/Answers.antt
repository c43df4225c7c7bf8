-- 02, ticket 5: which alternative won at each cluster, and what the call tells.
use Rattle.std.specs.Prelude.{ℕ, min, ◌≡◌, List, [], ◌∷◌, length, Result}
use Rattle.refusal.specs.declared.Refusal.{Refusal}
use Rattle.refusal.specs.Answers.{Cause, answer, output}
use Rattle.tcc_rules.specs.Patterns.{winner}
use Rattle.tcc_rules.specs.Rules.{alternatives}
use Rattle.tcc_rules.specs.Clusters.{cluster_ends}
use Rattle.tcc.specs.Answers.{cluster_causes}

-- the number of the alternative that won at the start of each cluster, 0 where none did: the first
-- starts at p, each other where the one before it ends
abbrev pub winners_from : List ℕ → ℕ → List ℕ → List ℕ
winners_from text p [] = []
winners_from text p (e ∷ ends) = winner alternatives text p ∷ winners_from text e ends

-- Which alternative won at each cluster. A character that no alternative takes is told as 0.
unfoldable pub winners_of : List ℕ → List ℕ
winners_of text = winners_from text 0 (cluster_ends text)

-- Refusals: as for clusters, 6 for either row. `room` and `more` are the cells of the two rows.
abbrev pub winners_causes : List ℕ → ℕ → ℕ → List Cause
winners_causes text room more = cluster_causes text (min room more)

-- accepted with the number of clusters
abbrev pub winners_answer : List ℕ → ℕ → ℕ → Result ℕ Refusal
winners_answer text room more = answer (winners_causes text room more) (length (cluster_ends text))

-- What is told of a text, and the two rows afterwards: the clusters' ends, and who won them.
abbrev pub Wins : (text ends winners : List ℕ) → Result ℕ Refusal → (ends' winners' : List ℕ) → Type 0
Wins text ends winners r ends' winners' =
    (r ≡ winners_answer text (length ends) (length winners))
    × ((ends' ≡ output r (cluster_ends text) ends) × (winners' ≡ output r (winners_of text) winners))
