-- The answers of `decode`, from what the first pass counted. Assumes nothing.
use Rattle.std.specs.Prelude.{Result, Ok, Err}
use Prim.Native.Nat.{ℕ, ◌+◌, ◌≤◌, ◌<◌}
use native.Mathlib.Omega.{arith}
use mathlib.Core.Path.{◌≡◌, refl, sym, ◌∙◌, ap}
use mathlib.Core.Bool.{Bool, true, false, cond}
use mathlib.Core.List.{List, [], ◌∷◌, ◌++◌}
use lib.ListN.{length}
use borrow.Author.Tests.{lt-ltb, le-ltb}
use Rattle.refusal.specs.declared.Refusal.TheVariants.{IllFormed, TooManyScalars, OutputTooShort}
use Rattle.refusal.specs.declared.Refusal.{Refusal}
use Rattle.refusal.proofs.Order.{not_both}
use Rattle.refusal.specs.Answers.{Cause, answer, numbers, out_cause}
use Rattle.refusal.proofs.Causes.{handed, cause_no, out_short}
use Rattle.utf8.specs.Decoding.{Run, run_all, scalars_of, bytes_causes, Room, decode_causes, decoded}
use Rattle.utf8.specs.inner.Passes.{counted}

-- Decoding: 1, 2, 6, for the scalar row and then for the position row.
pub decoding : (bytes : List ℕ) (room : Room) → numbers (decode_causes bytes room) ≡ 1 ∷ 2 ∷ 6 ∷ 6 ∷ []
decoding bytes room = refl

same : {j k : ℕ} → ◌≡◌ {A = Result ℕ Refusal} (Ok j) (Ok k) → j ≡ k
same e = cc

counted_all : (r : Run) {k : ℕ} → Ok k ≡ counted r → (r.whole ≡ true) × (k ≡ length r.scalars)
counted_all r {k} h = go r.whole refl h
  where
    go : (b : Bool) → r.whole ≡ b → Ok k ≡ cond b (Ok (length r.scalars)) (Err (IllFormed r.taken)) → (r.whole ≡ true) × (k ≡ length r.scalars)
    go true e q = (e, same q)
    go false e q = not_both q

-- the bytes are not well-formed
pub broken : (bytes : List ℕ) (room : Room) {e : Refusal} → Err e ≡ counted (run_all bytes) → Err e ≡ decoded bytes room
broken bytes room {e} h = go (run_all bytes).whole refl h
  where
    go : (b : Bool) → (run_all bytes).whole ≡ b → Err e ≡ cond b (Ok (length (scalars_of bytes))) (Err (IllFormed (run_all bytes).taken)) → Err e ≡ decoded bytes room
    go true w q = not_both (sym q)
    go false w q = q ∙ simp w

module _ (bytes : List ℕ) (room : Room) {k : ℕ} (h : Ok k ≡ counted (run_all bytes)) where
  abbrev n : ℕ
  n = length (scalars_of bytes)

  pub number_is : k ≡ n
  number_is = (counted_all (run_all bytes) h).1

  pub whole_is : (run_all bytes).whole ≡ true
  whole_is = (counted_all (run_all bytes) h).0

  pub long : 65535 < k → Err (TooManyScalars k) ≡ decoded bytes room
  long i = simp (whole_is, number_is, lt-ltb 65535 n (omega (arith, number_is)))

  module _ (i : k ≤ 65535) where
    early : answer (bytes_causes bytes) 0 ≡ Ok 0
    early = simp (whole_is, le-ltb 65535 n (omega (arith, number_is)))

    -- the causes but the last
    abbrev before_last : List Cause
    before_last = bytes_causes bytes ++ (out_cause n room.scalars ∷ [])

    -- the scalar row is too short
    pub tight : room.scalars < k → Err (OutputTooShort k) ≡ decoded bytes room
    tight l = handed before_last (out_cause (n + 1) room.positions ∷ []) 0 n (out_short (bytes_causes bytes) n room.scalars 0 0 k early number_is l) refl

    module _ (l : k ≤ room.scalars) where
      scalars_fit : answer before_last 0 ≡ Ok 0
      scalars_fit = sym (cause_no (bytes_causes bytes) (out_cause n room.scalars) 0 0 early (le-ltb room.scalars n (omega (arith, number_is))))

      -- the position row is too short
      pub cramped : (m : ℕ) → m ≡ k + 1 → room.positions < m → Err (OutputTooShort m) ≡ decoded bytes room
      cramped m e' l' = out_short before_last (n + 1) room.positions 0 n m scalars_fit (omega (arith, number_is)) l'

      pub taken : k + 1 ≤ room.positions → Ok k ≡ decoded bytes room
      taken m =
          ap Ok number_is
          ∙ cause_no before_last (out_cause (n + 1) room.positions) 0 n scalars_fit (le-ltb room.positions (n + 1) (omega (arith, number_is)))
