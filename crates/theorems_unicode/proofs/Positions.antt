-- The positions of well-formed bytes against the Unicode Standard. Assumes nothing.
use Prim.Native.Nat.{ℕ, zero, suc, ◌+◌, ◌-◌, ◌≤◌, ◌<◌}
use native.Mathlib.Omega.{arith}
use mathlib.Core.Path.{◌≡◌, refl, sym, ◌∙◌, ap, subst}
use mathlib.Core.List.{List, [], ◌∷◌, ◌++◌}
use lib.ListN.{length, get_or, take, drop, length-append}
use lib.Seq.{take-add, drop-drop, take-append_seam, drop-append_seam}
use lib.Dec.{T}
use Rattle.utf8_sequences.specs.Utf8.{is_sequence, scalar_of, encode, Utf8, empty, next}
use Rattle.utf8_sequences.specs.Sequences.{size_of}
use Rattle.utf8.specs.Decoding.{Run, run_all, scalars_of, more}
use Rattle.utf8.specs.Positions.{places_from, positions_of}
use Rattle.utf8_sequences.proofs.Sizes.{size_most}
use Rattle.utf8.proofs.Runs.{run_empty, run_more}
use Rattle.theorems_unicode.specs.Positions.{Positions, PositionsRight, PartsEncoded}
use Rattle.theorems_unicode.proofs.Standard.{sequence_size, accepted}
use Rattle.theorems_unicode.proofs.Encoding.{encode_back}

-- ---- places

places_number : (at : ℕ) (sizes : List ℕ) → length (places_from at sizes) ≡ length sizes + 1
unfolding places_from
places_number at [] = refl
places_number at (k ∷ sizes) = let z = places_number (at + k) sizes in omega arith

-- places from k + at on are k behind those from at on
moved : (k at : ℕ) (sizes : List ℕ) (i : ℕ) → i ≤ length sizes → get_or (places_from (k + at) sizes) i 0 ≡ k + get_or (places_from at sizes) i 0
unfolding places_from
moved k at [] zero h = refl
moved k at [] (suc i) h = absurd (omega arith)
moved k at (m ∷ sizes) zero h = refl
moved k at (m ∷ sizes) (suc i) h =
    let e : (k + at) + m ≡ k + (at + m) = omega arith in
    ap (λ (a : ℕ). get_or (places_from a sizes) i 0) e ∙ moved k (at + m) sizes i (omega arith)

-- the places behind a first sequence of k bytes
behind : (k : ℕ) (sizes : List ℕ) (i : ℕ) → i ≤ length sizes → get_or (places_from 0 (k ∷ sizes)) (suc i) 0 ≡ k + get_or (places_from 0 sizes) i 0
unfolding places_from
behind k sizes i h =
    let e : 0 + k ≡ k + 0 = omega arith in
    ap (λ (a : ℕ). get_or (places_from a sizes) i 0) e ∙ moved k 0 sizes i h

at_start : (sizes : List ℕ) → get_or (places_from 0 sizes) 0 0 ≡ 0
unfolding places_from
at_start [] = refl
at_start (k ∷ sizes) = refl

-- ---- one sequence more in front

utf8_as : {bytes bytes' scalars scalars' : List ℕ} → bytes ≡ bytes' → scalars ≡ scalars' → Utf8 bytes scalars → Utf8 bytes' scalars'
utf8_as {bytes} {bytes'} {scalars} {scalars'} e f u = subst (λ (l : List ℕ). Utf8 bytes' l) f (subst (λ (l : List ℕ). Utf8 l scalars) e u)

drop_in : (q bytes : List ℕ) (p : ℕ) → drop p bytes ≡ drop (length q + p) (q ++ bytes)
drop_in q bytes p = ap (drop p) (sym (drop-append_seam q bytes)) ∙ drop-drop p (length q) (q ++ bytes)

take_in : (q bytes : List ℕ) (p : ℕ) → q ++ take p bytes ≡ take (length q + p) (q ++ bytes)
take_in q bytes p =
    sym (take-add (length q) p (q ++ bytes) ∙ ap (λ (l : List ℕ). l ++ take p (drop (length q) (q ++ bytes))) (take-append_seam q bytes)
    ∙ ap (λ (l : List ℕ). q ++ take p l) (drop-append_seam q bytes))

-- a part behind the sequence
shifted : (q bytes : List ℕ) (a b : ℕ) {c d : ℕ} → c ≡ length q + a → d ≡ length q + b → take (b - a) (drop a bytes) ≡ take (d - c) (drop c (q ++ bytes))
shifted q bytes a b {c} {d} e f =
    let z : b - a ≡ d - c = omega arith in
    ap (λ (k : ℕ). take k (drop a bytes)) z ∙ ap (take (d - c)) (drop_in q bytes a ∙ ap (λ (k : ℕ). drop k (q ++ bytes)) (sym e))

-- a part from the sequence on
lengthened : (q bytes : List ℕ) (a b : ℕ) {c d : ℕ} → a ≡ 0 → c ≡ 0 → d ≡ length q + b → q ++ take (b - a) (drop a bytes) ≡ take (d - c) (drop c (q ++ bytes))
lengthened q bytes a b {c} {d} e g f =
    let z : b - a ≡ b = omega arith in
    let y : length q + b ≡ d - c = omega arith in
    ap (λ (k : ℕ). q ++ take k (drop a bytes)) z ∙ ap (λ (k : ℕ). q ++ take b (drop k bytes)) e ∙ take_in q bytes b
    ∙ ap (λ (k : ℕ). take k (q ++ bytes)) y ∙ ap (λ (k : ℕ). take (d - c) (drop k (q ++ bytes))) (sym g)

none_between : (l : List ℕ) (a b : ℕ) → a ≡ b → [] ≡ take (b - a) (drop a l)
none_between l a b e = let z : 0 ≡ b - a = omega arith in ap (λ (k : ℕ). take k (drop a l)) z

positions_none : Positions [] [] (places_from 0 [])
unfolding places_from
positions_none =
    record {
      cells = refl;
      first = refl;
      last = refl;
      steps = λ i h. absurd (omega arith);
      parts = λ i j h k. let e : i ≡ j = omega arith in utf8_as (none_between [] _ _ (ap (λ (n : ℕ). get_or (places_from 0 []) n 0) e)) (none_between [] i j e) empty;
    }

module _ (q bytes scalars sizes : List ℕ) (t : T (is_sequence q)) (small : length q ≤ 4) (h : Positions bytes scalars (places_from 0 sizes)) where
  abbrev row : List ℕ
  row = places_from 0 (length q ∷ sizes)

  some : 0 < length q
  some = (sequence_size q [] t).1

  number : length sizes ≡ length scalars
  number = omega (arith, h.cells, places_number 0 sizes)

  start : get_or row 0 0 ≡ 0
  start = at_start (length q ∷ sizes)

  next_place : (i : ℕ) → i ≤ length scalars → get_or row (suc i) 0 ≡ length q + get_or (places_from 0 sizes) i 0
  next_place i k = behind (length q) sizes i (omega (arith, number))

  steps_more : (i : ℕ) → i < suc (length scalars) → (get_or row i 0 + 1 ≤ get_or row (suc i) 0) × (get_or row (suc i) 0 ≤ get_or row i 0 + 4)
  steps_more zero k =
      let a = next_place 0 (omega arith) in
      (omega (arith, start, some, h.first), omega (arith, start, small, h.first))
  steps_more (suc i) k =
      let a = next_place i (omega arith) in
      let b = next_place (suc i) (omega arith) in
      let s = h.steps i (omega arith) in
      (omega (arith, s.0), omega (arith, s.1))

  parts_more : (i j : ℕ) → i ≤ j → j ≤ suc (length scalars)
      → Utf8 (take (get_or row j 0 - get_or row i 0) (drop (get_or row i 0) (q ++ bytes))) (take (j - i) (drop i (scalar_of q ∷ scalars)))
  parts_more zero zero k m = utf8_as (none_between (q ++ bytes) (get_or row 0 0) (get_or row 0 0) refl) (none_between (scalar_of q ∷ scalars) 0 0 refl) empty
  parts_more zero (suc j) k m =
      let z : suc (j - 0) ≡ suc j - 0 = omega arith in
      utf8_as (lengthened q bytes (get_or (places_from 0 sizes) 0 0) (get_or (places_from 0 sizes) j 0) h.first start (next_place j (omega arith))) (ap (λ (n : ℕ). take n (scalar_of q ∷ scalars)) z)
      (next q t (h.parts 0 j (omega arith) (omega arith)))
  parts_more (suc i) zero k m = absurd (omega arith)
  parts_more (suc i) (suc j) k m =
      let z : j - i ≡ suc j - suc i = omega arith in
      utf8_as (shifted q bytes (get_or (places_from 0 sizes) i 0) (get_or (places_from 0 sizes) j 0) (next_place i (omega arith)) (next_place j (omega arith))) (ap (λ (n : ℕ). take n (drop i scalars)) z)
      (h.parts i j (omega arith) (omega arith))

  positions_more : Positions (q ++ bytes) (scalar_of q ∷ scalars) row
  positions_more =
      record {
        cells = omega (arith, places_number 0 (length q ∷ sizes), number);
        first = start;
        last = next_place (length scalars) (omega arith) ∙ ap (λ (n : ℕ). length q + n) h.last ∙ sym (length-append q bytes);
        steps = steps_more;
        parts = parts_more;
      }

-- ---- the row of the run

sizes_more : (q bytes : List ℕ) → T (is_sequence q) → length q ∷ (run_all bytes).sizes ≡ (run_all (q ++ bytes)).sizes
sizes_more q bytes t =
    let z = sequence_size q bytes t in
    let r : run_all (q ++ bytes) ≡ more (length q) (q ++ bytes) (run_all (drop (length q) (q ++ bytes))) =
    run_more (q ++ bytes) (omega arith) ∙ ap (λ (k : ℕ). more k (q ++ bytes) (run_all (drop k (q ++ bytes)))) z.0 in
    sym (ap (λ (x : Run). x.sizes) r ∙ ap (λ (l : List ℕ). length q ∷ (run_all l).sizes) (drop-append_seam q bytes))

positions_by : {bytes scalars : List ℕ} → Utf8 bytes scalars → Positions bytes scalars (positions_of bytes)
positions_by empty = subst (λ (r : Run). Positions [] [] (places_from 0 r.sizes)) (sym (run_empty [] refl)) positions_none
positions_by (next q {bytes} {scalars} t u) =
    let z = sequence_size q bytes t in
    subst (λ (l : List ℕ). Positions (q ++ bytes) (scalar_of q ∷ scalars) (places_from 0 l)) (sizes_more q bytes t)
    (positions_more q bytes scalars (run_all bytes).sizes t (omega (arith, z.0, size_most (q ++ bytes))) (positions_by u))

-- Positions have n+1 cells, start at 0, end at the number of bytes and step by 1 to 4, and the
-- bytes between two of them are the UTF-8 of the characters between them.
pub positions_right : PositionsRight
positions_right bytes w = positions_by (accepted bytes w)

pub parts_encoded : PartsEncoded
parts_encoded bytes i j w h k = sym (encode_back ((positions_right bytes w).parts i j h k))
