-- What a host is told of its bytes and texts, and what stands in the rows that it lends: the answer
-- and the rows of the library function, as its contract gives them.
use Rattle.std.specs.Prelude.{ℕ, ◌≡◌, List, length, Option, Some, None}
use Rattle.refusal.specs.Answers.{output}
use Rattle.utf8.specs.Decoding.{scalars_of, room_in, decoded}
use Rattle.utf8.specs.Positions.{positions_of, end_in_bytes}
use Rattle.tcc_rules.specs.Clusters.{cluster_ends}
use Rattle.tcc.specs.Answers.{clusters_answer}
use Rattle.host_telling.specs.Told.{Told, tells}

-- BYTES DECODED: what is told, the output with the scalars, and the row with their positions.
abbrev pub DecodeTold : (bytes out positions : List ℕ) → Told → (left placed : List ℕ) → Type 0
DecodeTold bytes out positions t left placed =
    (t ≡ tells (decoded bytes (room_in out positions)))
    × ((left ≡ output (decoded bytes (room_in out positions)) (scalars_of bytes) out)
    × (placed ≡ output (decoded bytes (room_in out positions)) (positions_of bytes) positions))

-- CLUSTERS: what is told, and the output with their ends.
abbrev pub ClustersTold : (text out : List ℕ) → Told → (left : List ℕ) → Type 0
ClustersTold text out t left =
    (t ≡ tells (clusters_answer text (length out)))
    × (left ≡ output (clusters_answer text (length out)) (cluster_ends text) out)

-- The number that a call for an end in bytes returns, and the numbers that it sets.
pub record ToldEnd : Type 0 where
  pub number : ℕ
  pub found : ℕ
  pub place : ℕ

abbrev pub told_end : (number found place : ℕ) → ToldEnd
told_end number found place = record { number = number; found = found; place = place }

-- The call is never refused. Found is 1, and the place is told; or both are 0.
abbrev pub tells_end : Option ℕ → ToldEnd
tells_end (Some p) = told_end 0 1 p
tells_end None = told_end 0 0 0

-- AN END IN BYTES: what is told.
abbrev pub EndTold : (positions : List ℕ) (n end : ℕ) → ToldEnd → Type 0
EndTold positions n end t = t ≡ tells_end (end_in_bytes positions n end)
