-- The decoder against the Unicode Standard: what it takes is well-formed UTF-8, all of it, and no
-- longer prefix is. Assumes nothing.
use Prim.Native.Nat.{ℕ, zero, suc, ◌+◌, ◌-◌, ◌≤◌, ◌<◌}
use native.Mathlib.Omega.{arith}
use mathlib.Core.Path.{◌≡◌, refl, sym, ◌∙◌, ap, subst}
use mathlib.Core.Bool.{Bool, true, false, cond, ◌&&◌}
use mathlib.Core.List.{List, [], ◌∷◌, ◌++◌, append_assoc}
use lib.ListN.{length, take, drop, length-append, length-drop, take-append-drop}
use lib.Seq.{take-add, take_all, drop-append_seam, take-append_seam, length-take-le}
use lib.Dec.{T, eqb}
use borrow.Author.Tests.{eqb-true, eqb-false}
use Rattle.lists.specs.Scans.{within}
use Rattle.utf8_sequences.specs.Utf8.{Range, fits, is_sequence, scalar_of, Utf8, empty, next}
use Rattle.utf8_sequences.specs.Sequences.{starts, size_of}
use Rattle.utf8.specs.Decoding.{Run, run_all, scalars_of, more, stop}
use Rattle.theorems_unicode.specs.Standard.{Taken}
use Rattle.utf8_sequences.proofs.FirstBytes.{Opens, Kind, shut, one, two, three, four, kind_of}
use Rattle.utf8_sequences.proofs.Sizes.{size_inside}
use Rattle.utf8.proofs.Runs.{run_empty, run_broken, run_more}

pub no : {P : Type 0} → false ≡ true → P
no e = absurd (let z : ◌≡◌ {A = ℕ} 0 1 = cc in omega arith)

pub true_is : (b : Bool) → T b → b ≡ true
true_is true t = refl
true_is false t = absurd t

pub is_true : {b : Bool} → b ≡ true → T b
is_true e = subst T (sym e) tt

-- a sequence of a row, and bytes that start with one
fits_starts : (row : List Range) (q rest : List ℕ) → fits row q ≡ true → (starts row (q ++ rest) ≡ true) × (length row ≡ length q)
fits_starts [] [] rest h = (refl, refl)
fits_starts [] (b ∷ q) rest h = no h
fits_starts (r ∷ row) [] rest h = no h
fits_starts (r ∷ row) (b ∷ q) rest h = go (λ e. fits_starts row q rest e) (within r.lo r.hi b) h
  where
    go : (fits row q ≡ true → (starts row (q ++ rest) ≡ true) × (length row ≡ length q)) → (t : Bool) → (t && fits row q) ≡ true → ((t && starts row (q ++ rest)) ≡ true) × (suc (length row) ≡ suc (length q))
    go ih true e = ((ih e).0, ap suc (ih e).1)
    go ih false e = no e

starts_fits : (row : List Range) (s : List ℕ) → starts row s ≡ true → fits row (take (length row) s) ≡ true
starts_fits [] s h = refl
starts_fits (r ∷ row) [] h = no h
starts_fits (r ∷ row) (b ∷ s) h = go (λ e. starts_fits row s e) (within r.lo r.hi b) h
  where
    go : (starts row s ≡ true → fits row (take (length row) s) ≡ true) → (t : Bool) → (t && starts row s) ≡ true → (t && fits row (take (length row) s)) ≡ true
    go ih true e = ih e
    go ih false e = no e

-- bytes that go on after a sequence start with that sequence
open_size : {b : ℕ} {row : List Range} (q rest : List ℕ) → Opens b row → is_sequence (b ∷ q) ≡ true → size_of (b ∷ (q ++ rest)) ≡ length (b ∷ q)
open_size {b} {row} q rest o h =
    let f = fits_starts row q rest (sym (o.fit q) ∙ h) in
    o.size (q ++ rest) ∙ ap (λ (t : Bool). cond t (suc (length row)) 0) f.0 ∙ ap suc f.1

kind_size : (b : ℕ) (q rest : List ℕ) → Kind b → is_sequence (b ∷ q) ≡ true → size_of (b ∷ (q ++ rest)) ≡ length (b ∷ q)
kind_size b q rest (shut x c) h = no (sym (c.fit q) ∙ h)
kind_size b q rest (one x o) h = open_size q rest o h
kind_size b q rest (two x y o) h = open_size q rest o h
kind_size b q rest (three r o) h = open_size q rest o h
kind_size b q rest (four r o) h = open_size q rest o h

pub not_empty : is_sequence [] ≡ false
unfolding is_sequence
not_empty = refl

pub sequence_size : (q rest : List ℕ) → T (is_sequence q) → (size_of (q ++ rest) ≡ length q) × (0 < length q)
sequence_size [] rest t = no (sym not_empty ∙ true_is _ t)
sequence_size (b ∷ q) rest t = (kind_size b q rest (kind_of b) (true_is _ t), omega arith)

-- where bytes start with a sequence, those first bytes are one
open_take : {b : ℕ} {row : List Range} (s : List ℕ) → Opens b row → 0 < size_of (b ∷ s) → is_sequence (take (size_of (b ∷ s)) (b ∷ s)) ≡ true
open_take {b} {row} s o h = go (starts row s) refl
  where
    go : (t : Bool) → starts row s ≡ t → is_sequence (take (size_of (b ∷ s)) (b ∷ s)) ≡ true
    go true e =
        let k : size_of (b ∷ s) ≡ suc (length row) = o.size s ∙ ap (λ (t : Bool). cond t (suc (length row)) 0) e in
        ap (λ (n : ℕ). is_sequence (take n (b ∷ s))) k ∙ o.fit (take (length row) s) ∙ starts_fits row s e
    go false e =
        let k : size_of (b ∷ s) ≡ 0 = o.size s ∙ ap (λ (t : Bool). cond t (suc (length row)) 0) e in
        absurd (omega arith)

kind_take : (b : ℕ) (s : List ℕ) → Kind b → 0 < size_of (b ∷ s) → is_sequence (take (size_of (b ∷ s)) (b ∷ s)) ≡ true
kind_take b s (shut x c) h = absurd (omega (arith, c.size s))
kind_take b s (one x o) h = open_take s o h
kind_take b s (two x y o) h = open_take s o h
kind_take b s (three r o) h = open_take s o h
kind_take b s (four r o) h = open_take s o h

first_sequence : (s : List ℕ) → 0 < size_of s → T (is_sequence (take (size_of s) s))
first_sequence [] h = absurd (omega (arith, size_inside []))
first_sequence (b ∷ s) h = is_true (kind_take b s (kind_of b) h)

taken_stop : (s : List ℕ) (w : Bool) → run_all s ≡ stop w → (w ≡ true → length s ≡ 0) → Taken s
taken_stop s w r h =
    let k : (run_all s).taken ≡ 0 = ap (λ (q : Run). q.taken) r in
    record {
      inside = omega (arith, k);
      prefix = subst (λ (q : Run). Utf8 (take q.taken s) q.scalars) (sym r) empty;
      all = λ e. k ∙ sym (h (sym (ap (λ (q : Run). q.whole) r) ∙ e));
    }

taken_more : (s : List ℕ) → 0 < size_of s → Taken (drop (size_of s) s) → Taken s
taken_more s h t =
    let z = size_of s in
    let r = run_more s h in
    let k : (run_all s).taken ≡ z + (run_all (drop z s)).taken = ap (λ (q : Run). q.taken) r in
    let i = size_inside s in
    let d = length-drop z s in
    let p : Utf8 (take z s ++ take (run_all (drop z s)).taken (drop z s)) (scalar_of (take z s) ∷ scalars_of (drop z s)) = next (take z s) (first_sequence s h) t.prefix in
    record {
      inside = omega (arith, t.inside);
      prefix = subst (λ (q : Run). Utf8 (take q.taken s) q.scalars) (sym r) (subst (λ (l : List ℕ). Utf8 l (scalar_of (take z s) ∷ scalars_of (drop z s))) (sym (take-add z (run_all (drop z s)).taken s)) p);
      all = λ e. omega (arith, t.all (sym (ap (λ (q : Run). q.whole) r) ∙ e));
    }

taken_by : (n : ℕ) (s : List ℕ) → length s ≤ n → Taken s
taken_by zero s h = taken_stop s true (run_empty s (omega arith)) (λ e. omega arith)
taken_by (suc n) s h = go (λ t k. taken_by n t k) (eqb (length s) 0) refl (eqb (size_of s) 0) refl
  where
    go : ((t : List ℕ) → length t ≤ n → Taken t) → (x : Bool) → eqb (length s) 0 ≡ x → (y : Bool) → eqb (size_of s) 0 ≡ y → Taken s
    go ih true e y k = taken_stop s true (run_empty s (eqb-true (length s) 0 e)) (λ f. eqb-true (length s) 0 e)
    go ih false e true k = taken_stop s false (run_broken s (omega (arith, eqb-false (length s) 0 e)) (eqb-true (size_of s) 0 k)) (λ f. no f)
    go ih false e false k =
        let p : 0 < size_of s = omega (arith, eqb-false (size_of s) 0 k) in
        taken_more s p (ih (drop (size_of s) s) (omega (arith, length-drop (size_of s) s)))

-- The bytes that a run takes are well-formed and encode its scalars.
pub taken_of : (s : List ℕ) → Taken s
taken_of s = taken_by (length s) s (omega arith)

-- What is accepted is well-formed, and its scalars are those of the standard.
pub accepted : (bytes : List ℕ) → (run_all bytes).whole ≡ true → Utf8 bytes (scalars_of bytes)
accepted bytes w =
    subst (λ (l : List ℕ). Utf8 l (scalars_of bytes)) (take_all (run_all bytes).taken bytes (omega (arith, (taken_of bytes).all w))) (taken_of bytes).prefix

-- well-formed bytes are read to their end, whatever follows
pub record Through (bytes scalars rest : List ℕ) : Type 0 where
  pub scalars_are : scalars_of (bytes ++ rest) ≡ scalars ++ scalars_of rest
  pub taken_is : (run_all (bytes ++ rest)).taken ≡ length bytes + (run_all rest).taken
  pub whole_is : (run_all (bytes ++ rest)).whole ≡ (run_all rest).whole

through_next : (q bytes scalars rest : List ℕ) → T (is_sequence q) → Through bytes scalars rest → Through (q ++ bytes) (scalar_of q ∷ scalars) rest
through_next q bytes scalars rest t h =
    let z = sequence_size q (bytes ++ rest) t in
    let a : (q ++ bytes) ++ rest ≡ q ++ (bytes ++ rest) = append_assoc q bytes rest in
    let r : run_all (q ++ (bytes ++ rest)) ≡ more (length q) (q ++ (bytes ++ rest)) (run_all (drop (length q) (q ++ (bytes ++ rest)))) =
    run_more (q ++ (bytes ++ rest)) (omega arith) ∙ ap (λ (k : ℕ). more k (q ++ (bytes ++ rest)) (run_all (drop k (q ++ (bytes ++ rest))))) z.0 in
    let d : drop (length q) (q ++ (bytes ++ rest)) ≡ bytes ++ rest = drop-append_seam q (bytes ++ rest) in
    let e : take (length q) (q ++ (bytes ++ rest)) ≡ q = take-append_seam q (bytes ++ rest) in
    record {
      scalars_are =
          ap scalars_of a ∙ ap (λ (x : Run). x.scalars) r
          ∙ ap (λ (l : List ℕ). scalar_of l ∷ scalars_of (drop (length q) (q ++ (bytes ++ rest)))) e
          ∙ ap (λ (l : List ℕ). scalar_of q ∷ l) (ap scalars_of d ∙ h.scalars_are);
      taken_is =
          omega (arith, ap (λ (l : List ℕ). (run_all l).taken) a, ap (λ (x : Run). x.taken) r, ap (λ (l : List ℕ). (run_all l).taken) d, h.taken_is, length-append q bytes);
      whole_is = ap (λ (l : List ℕ). (run_all l).whole) a ∙ ap (λ (x : Run). x.whole) r ∙ ap (λ (l : List ℕ). (run_all l).whole) d ∙ h.whole_is;
    }

pub through : {bytes scalars : List ℕ} (rest : List ℕ) → Utf8 bytes scalars → Through bytes scalars rest
through rest empty = record { scalars_are = refl; taken_is = omega arith; whole_is = refl }
through rest (next q {bytes} {scalars} t u) = through_next q bytes scalars rest t (through rest u)

append_nil : (l : List ℕ) → l ++ [] ≡ l
append_nil [] = refl
append_nil (x ∷ l) = ap (λ (k : List ℕ). x ∷ k) (append_nil l)

-- Every well-formed sequence of bytes is read whole, to the scalars of the standard.
pub complete : {bytes scalars : List ℕ} → Utf8 bytes scalars → ((run_all bytes).whole ≡ true) × (scalars_of bytes ≡ scalars)
complete {bytes} {scalars} u =
    let h = through [] u in
    let e = run_empty [] refl in
    let w : (run_all bytes).whole ≡ (run_all (bytes ++ [])).whole = ap (λ (l : List ℕ). (run_all l).whole) (sym (append_nil bytes)) in (
      w ∙ h.whole_is ∙ ap (λ (x : Run). x.whole) e,
      ap scalars_of (sym (append_nil bytes)) ∙ h.scalars_are ∙ ap (λ (x : Run). scalars ++ x.scalars) e ∙ append_nil scalars,
    )

-- Bytes encode one list of scalars at most.
pub one_reading : {bytes v w : List ℕ} → Utf8 bytes v → Utf8 bytes w → v ≡ w
one_reading a b = sym (complete a).1 ∙ (complete b).1

-- Refusal 1's detail: no longer prefix is well-formed.
pub longest : (bytes : List ℕ) {scalars : List ℕ} (k : ℕ) → k ≤ length bytes → Utf8 (take k bytes) scalars → k ≤ (run_all bytes).taken
longest bytes k h u =
    let t = (through (drop k bytes) u).taken_is in
    let a = ap (λ (l : List ℕ). (run_all l).taken) (take-append-drop k bytes) in
    omega (arith, length-take-le k bytes h)

-- Refusal 1 is given to no well-formed bytes.
pub refused : (bytes : List ℕ) {scalars : List ℕ} → (run_all bytes).whole ≡ false → Utf8 bytes scalars → ⊥
refused bytes w u = no (sym w ∙ (complete u).0)
