-- What the cut with records answers and leaves. Assumes nothing.
use Rattle.std.specs.Prelude.{Result}
use Rattle.newmm_rules.specs.declared.Ends.{Ends}
use Rattle.refusal.specs.declared.Refusal.{Refusal}
use Prim.Native.Nat.{ℕ, zero, suc, ◌≤◌, ◌<◌}
use native.Mathlib.Omega.{arith}
use mathlib.Core.Path.{◌≡◌, refl, sym, ◌∙◌, ap}
use mathlib.Core.List.{List, [], ◌∷◌, ◌++◌, map}
use lib.ListN.{length, get_or, take, drop, replicate, length-map}
use lib.Seq.{take-suc, take_at}
use Rattle.trie_pool.specs.Meaning.{meaning}
use Rattle.trie_check.specs.Refusals.{held}
use Rattle.newmm_rules.specs.declared.Mode.{Mode}
use Rattle.newmm_reason_rules.specs.Reasons.{Told}
use Rattle.newmm_many_answers.specs.Turns.{ends_told}
use Rattle.newmm_reasons_answers.specs.Told.{told_of}
use Rattle.newmm_reasons_answers.specs.inner.Cells.{cell_of, cells_of, Tells}
use Rattle.newmm_reasons_answers.proofs.Told.{map_two, Small, told_small}
use Rattle.newmm_reasons_answers.proofs.Cells.{end_back, reason_back}
use Rattle.newmm_told.proofs.Told.{Came, accepted, refused, came, told_room, told_fits, cleared_told}
use Rattle.newmm_records.specs.declared.Record.{Record}
use Rattle.newmm_records.specs.Calls.{records_call, record_told, record_rows, records_of, Records}
use Rattle.newmm_records.specs.inner.Cells.{record_of, records}

-- the records of the first cells, one by one
records_are : (cells : List ℕ) (n : ℕ) → n ≤ length cells → records cells n ≡ map record_of (take n cells)
unfolding records
records_are cells zero h = refl
records_are cells (suc n) h =
    ap (λ (l : List Record). l ++ (record_of (get_or cells n 0) ∷ [])) (records_are cells n (omega arith))
    ∙ sym (map_two record_of (take n cells) (get_or cells n 0 ∷ []))
    ∙ ap (map record_of) (sym (take-suc cells n 0 (omega arith)))

-- no cell, no record
at_none : (after : List ℕ) (rows : List Record) → records after 0 ++ drop 0 rows ≡ rows
unfolding records
at_none after rows = refl

-- a cell's record is its token's
cell_record : (ts : List Told) → Small ts → map record_of (cells_of ts) ≡ map record_told ts
cell_record [] s = refl
cell_record (t ∷ ts) s = (λ i. record { end = end_back t s.0 i; reason = reason_back t s.0 i } ∷ cell_record ts s.1 i)

module _ (mode : Mode) (text pool scratch : List ℕ) (rows : List Record) {told : Result Ends Refusal} {after : List ℕ} {k : ℕ}
    (t : Tells text (meaning pool) scratch (length rows) mode told after) (kept : length after ≡ length scratch) (is : k ≡ ends_told told) where
  at : Came mode text (meaning pool) scratch after (length rows) k
  at = came t is

  pub fill_fits : (k ≤ length rows) × (k ≤ length after)
  fill_fits = (told_room at, told_fits at)

  pub filled : {rows' : List Record} {after' : List ℕ} → rows' ≡ records after k ++ drop k rows → after' ≡ replicate {A = ℕ} k 0 ++ drop k after
      → Records (records_call text pool rows scratch mode) told rows' after'
  filled {rows'} e f = (t.0, (go at e, cleared_told at kept f))
    where
      ts : List Told
      ts = told_of mode (held (meaning pool)) text

      go : Came mode text (meaning pool) scratch after (length rows) k → rows' ≡ records after k ++ drop k rows → rows' ≡ records_of (records_call text pool rows scratch mode)
      go (accepted h c l z w) e =
          let n : k ≡ length (map record_told ts) = c ∙ length-map ts cell_of ∙ sym (length-map ts record_told) in
          e ∙ ap (λ (x : List Record). x ++ drop k rows)
          (records_are after k fill_fits.1 ∙ ap (map record_of) (ap (take k) w ∙ take_at (cells_of ts) _ k (sym c)) ∙ cell_record ts (told_small (held (meaning pool)) mode text))
          ∙ ap (λ (j : ℕ). map record_told ts ++ drop j rows) n
          ∙ sym (ap (λ (a : Result ℕ Refusal). record_rows a (map record_told ts) rows) h)
      go (refused h c w) e = e ∙ none c ∙ sym (ap (λ (a : Result ℕ Refusal). record_rows a (map record_told ts) rows) h)
        where
          none : k ≡ 0 → records after k ++ drop k rows ≡ rows
          none c = ap (λ (j : ℕ). records after j ++ drop j rows) c ∙ at_none after rows
