-- What stands in scratch when a text is told, whatever was answered. Assumes nothing.
use Rattle.std.specs.Prelude.{Result, Ok, Err}
use Rattle.newmm_rules.specs.declared.Ends.{Ends}
use Prim.Native.Nat.{ℕ, ◌+◌, ◌*◌, ◌-◌, ◌≤◌, ◌<◌}
use native.Mathlib.Omega.{arith}
use mathlib.Core.Path.{◌≡◌, refl, sym, ◌∙◌, ap}
use mathlib.Core.List.{List, [], ◌∷◌, ◌++◌}
use mathlib.Core.Option.{Option}
use lib.ListN.{length, take, drop, replicate, length-append, length-drop, length-replicate, length-map, replicate-append-replicate}
use lib.Seq.{take_at, drop_at, drop-length}
use borrow.Author.Tests.{ltb-false}
use Rattle.refusal.specs.declared.Refusal.{Refusal}
use Rattle.refusal.specs.Answers.{answer, output}
use Rattle.refusal.proofs.Order.{not_both, refused_first}
use Rattle.refusal.proofs.Causes.{none_of}
use Rattle.trie_pool.specs.Meaning.{Words}
use Rattle.trie_check.specs.Refusals.{held}
use Rattle.newmm_rules.specs.declared.Mode.{Mode}
use Rattle.newmm_answers.specs.Answers.{cut_of, out_causes, first_causes, cut_causes, accepts, told, cleared, scratch_after}
use Rattle.newmm_answers.proofs.Told.{accepted_is}
use Rattle.newmm_many_answers.specs.Turns.{ends_told}
use Rattle.newmm_reasons_answers.specs.Told.{told_of}
use Rattle.newmm_reasons_answers.specs.inner.Cells.{cell_of, cells_of, Tells}
use Rattle.newmm_reasons_answers.proofs.Told.{as_many}

-- an accepted call with k cells at the front of scratch, which is else all 0; or a refused one,
-- which tells none
pub data Came (mode : Mode) (text : List ℕ) (m : Option Words) (scratch after : List ℕ) (room k : ℕ) : Type 0 where
  accepted : accepts mode text m (length scratch) room ≡ Ok k
      → k ≡ length (cells_of (told_of mode (held m) text))
      → k ≤ room
      → scratch_after text m scratch ≡ replicate {A = ℕ} (length scratch) 0
      → after ≡ cells_of (told_of mode (held m) text) ++ drop k (scratch_after text m scratch)
      → Came mode text m scratch after room k
  refused : {r : Refusal} → accepts mode text m (length scratch) room ≡ Err r → k ≡ 0 → after ≡ scratch_after text m scratch → Came mode text m scratch after room k

module _ {mode : Mode} {text : List ℕ} {m : Option Words} {scratch after : List ℕ} {room k : ℕ} {told' : Result Ends Refusal} where
  pub came : Tells text m scratch room mode told' after → k ≡ ends_told told' → Came mode text m scratch after room k
  came t e = go (accepts mode text m (length scratch) room) refl
    where
      edges : ℕ
      edges = (cut_of mode (held m) text).edges

      many : ℕ
      many = length (cut_of mode (held m) text).ends

      -- scratch was cleared
      zero_left : {n : ℕ} → accepts mode text m (length scratch) room ≡ Ok n → scratch_after text m scratch ≡ replicate {A = ℕ} (length scratch) 0
      zero_left h = past (answer (first_causes text m (length scratch)) 0) refl
        where
          past : (x : Result ℕ Refusal) → answer (first_causes text m (length scratch)) 0 ≡ x → scratch_after text m scratch ≡ replicate {A = ℕ} (length scratch) 0
          past (Ok n) q = ap (λ (x : Result ℕ Refusal). cleared x scratch) q
          past (Err r) q = not_both (sym h ∙ refused_first (first_causes text m (length scratch)) (out_causes (cut_of mode (held m) text).ends room) 0 many q)

      go : (x : Result ℕ Refusal) → accepts mode text m (length scratch) room ≡ x → Came mode text m scratch after room k
      go (Ok n) h =
          let told_n : k ≡ n = e ∙ ap ends_told t.0 ∙ ap (λ (x : Result ℕ Refusal). ends_told (told x edges)) h in
          let is : n ≡ many = sym (accepted_is (cut_causes mode text m (length scratch) room) many n h) in
          let c : k ≡ length (cells_of (told_of mode (held m) text)) =
          told_n ∙ is ∙ sym (as_many (held m) text mode) ∙ sym (length-map (told_of mode (held m) text) cell_of) in
          let due = none_of (cut_causes mode text m (length scratch) room) many n h in
          accepted (h ∙ ap Ok (sym told_n)) c (omega (arith, told_n, is, ltb-false room many due.1.1.1.1.0)) (zero_left h)
          (t.1 ∙ ap (λ (x : Result ℕ Refusal). output x (cells_of (told_of mode (held m) text)) (scratch_after text m scratch)) h
          ∙ ap (λ (j : ℕ). cells_of (told_of mode (held m) text) ++ drop j (scratch_after text m scratch)) (sym c))
      go (Err r) h =
          refused h (e ∙ ap ends_told t.0 ∙ ap (λ (x : Result ℕ Refusal). ends_told (told x edges)) h)
          (t.1 ∙ ap (λ (x : Result ℕ Refusal). output x (cells_of (told_of mode (held m) text)) (scratch_after text m scratch)) h)

-- the cells, and behind them what a cut leaves
behind_told : (cells left : List ℕ) (k : ℕ) → k ≡ length cells → left ≡ replicate {A = ℕ} (length left) 0 → k ≤ length left → replicate {A = ℕ} k 0 ++ drop k (cells ++ drop k left) ≡ left
behind_told cells left k e z l =
    let d : length left ≡ k + (length left - k) = omega arith in
    ap (λ (x : List ℕ). replicate {A = ℕ} k 0 ++ x) (drop_at cells (drop k left) k (sym e))
    ∙ ap (λ (x : List ℕ). replicate {A = ℕ} k 0 ++ drop k x) (z ∙ ap (λ (j : ℕ). replicate {A = ℕ} j 0) d ∙ sym (replicate-append-replicate {A = ℕ} k (length left - k) 0))
    ∙ ap (λ (x : List ℕ). replicate {A = ℕ} k 0 ++ x) (drop_at (replicate {A = ℕ} k 0) (replicate {A = ℕ} (length left - k) 0) k (length-replicate {A = ℕ} k 0))
    ∙ replicate-append-replicate {A = ℕ} k (length left - k) 0 ∙ ap (λ (j : ℕ). replicate {A = ℕ} j 0) (sym d) ∙ sym z

module _ {mode : Mode} {text : List ℕ} {m : Option Words} {scratch after : List ℕ} {room k : ℕ} where
  pub told_room : Came mode text m scratch after room k → k ≤ room
  told_room (accepted h c l z w) = l
  told_room (refused h c w) = omega arith

  pub told_fits : Came mode text m scratch after room k → k ≤ length after
  told_fits (accepted h c l z w) = omega (arith, ap length w, length-append (cells_of (told_of mode (held m) text)) (drop k (scratch_after text m scratch)))
  told_fits (refused h c w) = omega arith

  -- the cells cleared, scratch is as a cut leaves it
  pub cleared_told : Came mode text m scratch after room k → length after ≡ length scratch → {row : List ℕ} → row ≡ replicate {A = ℕ} k 0 ++ drop k after → row ≡ scratch_after text m scratch
  cleared_told (accepted h c l z w) kept e =
      let left = scratch_after text m scratch in
      let n : length left ≡ length scratch = ap length z ∙ length-replicate {A = ℕ} (length scratch) 0 in
      let f : k ≤ length left = omega (arith, c, n, kept, ap length w, length-append (cells_of (told_of mode (held m) text)) (drop k left)) in
      e ∙ ap (λ (x : List ℕ). replicate {A = ℕ} k 0 ++ drop k x) w
      ∙ behind_told (cells_of (told_of mode (held m) text)) left k c (z ∙ ap (λ (j : ℕ). replicate {A = ℕ} j 0) (sym n)) f
  cleared_told (refused h c w) kept e = e ∙ ap (λ (j : ℕ). replicate {A = ℕ} j 0 ++ drop j after) c ∙ w

  -- what is told: the cells of an accepted call, none of a refused one
  pub told_cells : Came mode text m scratch after room k → (n : ℕ) → accepts mode text m (length scratch) room ≡ Ok n → take k after ≡ cells_of (told_of mode (held m) text)
  told_cells (accepted h c l z w) n q = ap (take k) w ∙ take_at (cells_of (told_of mode (held m) text)) (drop k (scratch_after text m scratch)) k (sym c)
  told_cells (refused h c w) n q = not_both (sym q ∙ h)
