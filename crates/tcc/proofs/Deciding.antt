-- The answers of `tcc_pos`, over plain values. Assumes nothing.
use Rattle.std.specs.Prelude.{Result, Ok, Err}
use Prim.Native.Nat.{ℕ, ◌≤◌, ◌<◌}
use mathlib.Core.Path.{◌≡◌, refl}
use mathlib.Core.List.{List, [], ◌∷◌}
use lib.ListN.{length}
use borrow.Author.Tests.{ltb-false}
use Rattle.refusal.specs.declared.Refusal.{Refusal}
use Rattle.refusal.specs.declared.Refusal.TheVariants.{OutputTooShort}
use Rattle.refusal.specs.Answers.{numbers, out_cause}
use Rattle.refusal.proofs.Causes.{handed, out_short, out_fits}
use Rattle.refusal.proofs.Firsts.{accepted_exactly_if_none}
use Rattle.char_string_scalars.specs.Scalars.{text_causes, checked}
use Rattle.tcc_rules.specs.Clusters.{cluster_ends}
use Rattle.tcc.specs.Answers.{cluster_causes, clusters_answer}

-- Clusters: 2, 3, 6.
pub order : (text : List ℕ) (room : ℕ) → numbers (cluster_causes text room) ≡ 2 ∷ 3 ∷ 6 ∷ []
order text room = refl

-- an accepted text
pub record Right (text : List ℕ) (n : ℕ) : Type 0 where
  pub small : length text ≤ 65535
  pub whole : n ≡ length text

pub right : (text : List ℕ) {n : ℕ} → checked text ≡ Ok n → Right text n
unfolding checked
right text {n} h =
    let r = (accepted_exactly_if_none (text_causes text) (length text)).1 n h in
    record { small = ltb-false 65535 (length text) r.0.0; whole = r.1 }

module _ (text : List ℕ) (room : ℕ) where
  pub refused : {a : Result ℕ Refusal} {r : Refusal} → a ≡ checked text → a ≡ Err r → a ≡ clusters_answer text room
  unfolding checked
  refused = handed (text_causes text) (out_cause (length (cluster_ends text)) room ∷ []) (length text) (length (cluster_ends text))

  pub short : {n k : ℕ} → checked text ≡ Ok n → k ≡ length (cluster_ends text) → room < k
      → Err (OutputTooShort k) ≡ clusters_answer text room
  unfolding checked
  short {n} {k} = out_short (text_causes text) (length (cluster_ends text)) room (length text) (length (cluster_ends text)) k

  pub fitting : {n k : ℕ} → checked text ≡ Ok n → k ≡ length (cluster_ends text) → k ≤ room
      → Ok k ≡ clusters_answer text room
  unfolding checked
  fitting {n} {k} = out_fits (text_causes text) (length (cluster_ends text)) room (length text) k
