-- 01, "Numbers the host sees": the refusals of the cluster call, and its answer.
use Rattle.std.specs.Prelude.{ℕ, List, [], ◌∷◌, ◌++◌, length, Result}
use Rattle.refusal.specs.declared.Refusal.{Refusal}
use Rattle.refusal.specs.Answers.{Cause, answer, out_cause}
use Rattle.char_string_scalars.specs.Scalars.{text_causes}
use Rattle.tcc_rules.specs.Clusters.{cluster_ends}

-- Clusters: 2, 3, 6. `room` is the number of output cells.
abbrev pub cluster_causes : List ℕ → ℕ → List Cause
cluster_causes text room = text_causes text ++ (out_cause (length (cluster_ends text)) room ∷ [])

-- accepted with the number of ends
abbrev pub clusters_answer : List ℕ → ℕ → Result ℕ Refusal
clusters_answer text room = answer (cluster_causes text room) (length (cluster_ends text))
