-- A row that is filled from the left with what another list has. Assumes nothing.
use Prim.Native.Nat.{ℕ, suc, ◌+◌, ◌≤◌, ◌<◌}
use native.Mathlib.Omega.{arith}
use mathlib.Core.Path.{◌≡◌, refl, ◌∙◌, ap}
use mathlib.Core.List.{List, [], ◌∷◌, ◌++◌, map}
use lib.ListN.{length, get_or, set, take, drop, length-append, length-drop}
use lib.Seq.{length-take-le, get_or-drop, get_or-append-add}
use Rattle.lists.proofs.Rows.{store}

-- i cells of the row are those of src, the others are as they were
pub record Filled (src old row : List ℕ) (k i : ℕ) : Type 0 where
  pub upto : i ≤ k
  pub enough : k ≤ length src
  pub fits : k ≤ length old
  pub is : row ≡ take i src ++ drop i old

pub filled_none : (src old : List ℕ) (k : ℕ) → k ≤ length src → k ≤ length old → Filled src old old k 0
filled_none src old k h l = record { upto = omega arith; enough = h; fits = l; is = refl }

module _ {src old row : List ℕ} {k i : ℕ} (f : Filled src old row k i) where
  pub long : length row ≡ length old
  long =
      ap length f.is
      ∙ omega (arith, length-append (take i src) (drop i old), length-take-le i src (omega (arith, f.upto, f.enough)), length-drop i old, f.upto, f.fits)

  -- what is still to come stands where it stood
  pub unmoved : i < k → get_or row i 0 ≡ get_or old i 0
  unmoved h =
      let e : length (take i src) ≡ i = length-take-le i src (omega (arith, f.enough)) in
      let z : i ≡ length (take i src) + 0 = omega arith in
      let y : i + 0 ≡ i = omega arith in
      ap (λ (l : List ℕ). get_or l i 0) f.is
      ∙ ap (λ (j : ℕ). get_or (take i src ++ drop i old) j 0) z
      ∙ get_or-append-add (take i src) (drop i old) 0 0
      ∙ get_or-drop i old 0 0
      ∙ ap (λ (j : ℕ). get_or old j 0) y

  pub filled_more : (x : ℕ) → i < k → x ≡ get_or src i 0 → Filled src old (set row i x) k (i + 1)
  filled_more x h e =
      record {
        upto = omega arith;
        enough = f.enough;
        fits = f.fits;
        is = ap (λ (l : List ℕ). set l i x) f.is ∙ ap (λ (y : ℕ). set (take i src ++ drop i old) i y) e ∙ store src old i (omega (arith, f.enough)) (omega (arith, f.fits));
      }

  pub filled_all : k ≤ i → row ≡ take k src ++ drop k old
  filled_all h = let e : i ≡ k = omega (arith, f.upto) in f.is ∙ ap (λ (j : ℕ). take j src ++ drop j old) e

-- ---- the rows that are written

pub map_long : (f : ℕ → ℕ) (l : List ℕ) → length (map f l) ≡ length l
map_long f [] = refl
map_long f (x ∷ l) = ap suc (map_long f l)
