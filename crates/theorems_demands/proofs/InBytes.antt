-- Demand 3 holds in bytes. Assumes nothing.
use Rattle.std.specs.Prelude.{Result, Ok, Option}
use Rattle.refusal.specs.declared.Refusal.{Refusal}
use Prim.Native.Nat.{ℕ, ◌+◌, ◌<◌}
use native.Mathlib.Omega.{arith}
use mathlib.Core.Path.{◌≡◌, refl, sym, ◌∙◌, ap}
use mathlib.Core.Bool.{Bool, true, false}
use mathlib.Core.List.{List, ◌++◌, map}
use lib.Dec.{leb}
use lib.ListN.{length, take, drop, length-append, get_or-append}
use borrow.Author.Tests.{leb-true, lt-ltb, not-false}
use Rattle.refusal.specs.Answers.{output}
use Rattle.refusal.proofs.Causes.{none_of}
use Rattle.utf8.specs.Decoding.{run_all, scalars_of, room_in, decode_causes}
use Rattle.utf8.specs.Positions.{positions_of, end_in_bytes}
use Rattle.theorems_unicode.proofs.Positions.{positions_right}
use Rattle.trie_pool.specs.Meaning.{words_in}
use Rattle.trie_pool.proofs.Terms.{means_of}
use Rattle.newmm_answers.specs.Calls.{out_of}
use Rattle.theorems_demands.specs.InBytes.{Decoding, answered, ends_in_bytes, Demand3AnyInBytes, Demand3InBytes}
use Rattle.theorems_demands.proofs.Demand3.{demand_3_any}
use Rattle.theorems_demands.proofs.Reaching.{means}

-- what lies behind the positions is not read
kept : (row rest : List ℕ) (n end : ℕ) → n < length row → end_in_bytes (row ++ rest) n end ≡ end_in_bytes row n end
kept row rest n end h = go (leb end n) refl
  where
    go : (t : Bool) → leb end n ≡ t → end_in_bytes (row ++ rest) n end ≡ end_in_bytes row n end
    go true e =
        let k = leb-true end n e in
        simp (e, lt-ltb end (length (row ++ rest)) (omega (arith, length-append row rest)), lt-ltb end (length row) (omega arith), get_or-append row rest 0 end (omega arith))
    go false e = simp e

-- so the ends in bytes are those of the bytes' own positions
abbrev of_bytes : List ℕ → List ℕ → List (Option ℕ)
of_bytes bytes ends = map (λ (end : ℕ). end_in_bytes (positions_of bytes) (length (scalars_of bytes)) end) ends

shown : (d : Decoding) (k : ℕ) → answered d ≡ Ok k → (text ends : List ℕ) → text ≡ scalars_of d.bytes → ends_in_bytes d (length text) ends ≡ of_bytes d.bytes ends
shown d k e text ends t =
    let bytes = d.bytes in
    let row = positions_of bytes in
    let rest = drop (length row) d.positions in
    let whole : (run_all bytes).whole ≡ true =
    not-false (run_all bytes).whole (none_of (decode_causes bytes (room_in d.scalars d.positions)) (length (scalars_of bytes)) k e).0 in
    let room : length (scalars_of bytes) < length row = omega (arith, (positions_right bytes whole).cells) in
    ap (λ (x : List ℕ). ends_in_bytes d (length x) ends) t
    ∙ ap (λ (a : Result ℕ Refusal). map (λ (end : ℕ). end_in_bytes (output a row d.positions) (length (scalars_of bytes)) end) ends) e
    ∙ (λ i. map (λ (end : ℕ). kept row rest (length (scalars_of bytes)) end room i) ends)

pub demand_3_any_in_bytes : Demand3AnyInBytes
demand_3_any_in_bytes c d a b v w pa pb same bytes k l ec ed ta tb mode n edges h s o =
    let r = demand_3_any a b v w pa pb same (ta ∙ ap scalars_of bytes ∙ sym tb) mode n edges h s o in (
      r.0,
      shown d l ed b.text (take n (out_of b)) tb ∙ ap (of_bytes d.bytes) r.1 ∙ sym (ap (λ (x : List ℕ). of_bytes x (take n (out_of a))) bytes)
          ∙ sym (shown c k ec a.text (take n (out_of a)) ta),
    )

pub demand_3_in_bytes : Demand3InBytes
demand_3_in_bytes c d a b v w ra rb = demand_3_any_in_bytes c d a b (words_in v) (words_in w) (means_of a.pool v (means ra)) (means_of b.pool w (means rb))
