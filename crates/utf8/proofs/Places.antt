-- The position row as it is filled, and an end in bytes. Assumes nothing.
use Prim.Native.Nat.{ℕ, suc, ◌+◌, ◌*◌, ◌≤◌, ◌<◌}
use native.Mathlib.Omega.{arith}
use native.Mathlib.Numerals.{add-one}
use mathlib.Core.Path.{◌≡◌, refl, sym, ◌∙◌, ap}
use mathlib.Core.List.{List, [], ◌∷◌, ◌++◌}
use lib.ListN.{length, get_or, set, take, drop, length-drop, length-set}
use lib.Seq.{drop-cons, take-length}
use borrow.Author.Tests.{lt-ltb, le-ltb, le-leb, lt-leb}
use Rattle.lists.proofs.Rows.{store}
use Rattle.std.specs.Prelude.{Some, None}
use Rattle.utf8_sequences.specs.Sequences.{size_of}
use Rattle.utf8.specs.Decoding.{Run, run_all}
use Rattle.utf8.specs.Positions.{places_from, positions_of, end_in_bytes}
use Rattle.utf8_sequences.proofs.Sizes.{size_most}
use Rattle.utf8.proofs.Runs.{run_empty, onward}

-- the places behind the first
abbrev later : ℕ → List ℕ → List ℕ
later at [] = []
later at (k ∷ sizes) = places_from (at + k) sizes

first_place : (at : ℕ) (sizes : List ℕ) → places_from at sizes ≡ at ∷ later at sizes
unfolding places_from
first_place at [] = refl
first_place at (k ∷ sizes) = refl

-- the positions of n characters are written, and the next one's place is at
pub record Placed (s row₀ row : List ℕ) (at n : ℕ) : Type 0 where
  pub near : at ≤ 4 * n
  pub rest : drop n (positions_of s) ≡ places_from at (run_all (drop at s)).sizes
  pub written : row ≡ take n (positions_of s) ++ drop n row₀
  pub long : length row ≡ length row₀

pub placed_none : (s row : List ℕ) → Placed s row row 0 0
placed_none s row = record { near = omega arith; rest = refl; written = refl; long = refl }

module _ {s row₀ row : List ℕ} {at n : ℕ} (h : Placed s row₀ row at n) where
  split : drop n (positions_of s) ≡ at ∷ later at (run_all (drop at s)).sizes
  split = h.rest ∙ first_place at (run_all (drop at s)).sizes

  inside : n < length (positions_of s)
  inside = omega (arith, length-drop n (positions_of s), ap length split)

  here : get_or (positions_of s) n 0 ∷ drop (suc n) (positions_of s) ≡ at ∷ later at (run_all (drop at s)).sizes
  here = sym (drop-cons (positions_of s) n 0 inside) ∙ split

  stored : (v : ℕ) → v ≡ at → n < length row₀ → set row n v ≡ take (n + 1) (positions_of s) ++ drop (n + 1) row₀
  stored v e room =
      let z : get_or (positions_of s) n 0 ∷ drop (suc n) (positions_of s) ≡ at ∷ later at (run_all (drop at s)).sizes = here in
      let y : get_or (positions_of s) n 0 ≡ at = cc in
      ap (λ (l : List ℕ). set l n v) h.written ∙ ap (λ (w : ℕ). set (take n (positions_of s) ++ drop n row₀) n w) (e ∙ sym y)
      ∙ store (positions_of s) row₀ n inside room

  -- a sequence of k bytes stands there
  pub placed_more : (v k : ℕ) → v ≡ at → k ≡ size_of (drop at s) → 0 < k → n < length row₀ → Placed s row₀ (set row n v) (at + k) (n + 1)
  placed_more v k w e p room =
      let sizes : (run_all (drop at s)).sizes ≡ k ∷ (run_all (drop (at + k) s)).sizes = ap (λ (r : Run). r.sizes) (onward s at k e p) in
      let behind : later at (run_all (drop at s)).sizes ≡ places_from (at + k) (run_all (drop (at + k) s)).sizes = ap (later at) sizes in
      let z : get_or (positions_of s) n 0 ∷ drop (suc n) (positions_of s) ≡ at ∷ later at (run_all (drop at s)).sizes = here in
      let y : drop (suc n) (positions_of s) ≡ later at (run_all (drop at s)).sizes = cc in
      record {
        near = omega (arith, h.near, size_most (drop at s));
        rest = rw add-one (y ∙ behind);
        written = stored v w room;
        long = length-set row n v ∙ h.long;
      }

  -- or the bytes are at their end
  pub placed_last : (v : ℕ) → v ≡ length s → at ≤ length s → length s ≤ at → n < length row₀ → set row n v ≡ positions_of s ++ drop (length (positions_of s)) row₀
  placed_last v w j i room =
      let e : v ≡ at = omega arith in
      let r : (run_all (drop at s)).sizes ≡ [] = ap (λ (q : Run). q.sizes) (run_empty (drop at s) (simp length-drop (omega arith))) in
      let last : drop n (positions_of s) ≡ at ∷ [] = split ∙ ap (λ (l : List ℕ). at ∷ later at l) r in
      let t : length (positions_of s) ≡ n + 1 = omega (arith, length-drop n (positions_of s), ap length last, inside) in
      stored v e room ∙ rw (← t, take-length)

-- ---- an end in bytes

module _ (positions : List ℕ) (n end : ℕ) where
  pub over_none : n < end → None ≡ end_in_bytes positions n end
  over_none h = simp (lt-leb end n h)

  pub short_none : end ≤ n → length positions ≤ end → None ≡ end_in_bytes positions n end
  short_none h k = simp (le-leb end n h, le-ltb end (length positions) k)

  pub place_at : {p : ℕ} → end ≤ n → end < length positions → p ≡ get_or positions end 0 → Some p ≡ end_in_bytes positions n end
  place_at h k e = ap Some e ∙ simp (le-leb end n h, lt-ltb end (length positions) k)
