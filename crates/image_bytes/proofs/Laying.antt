-- Parts laid on a row, one behind the other. Assumes nothing.
use Prim.Native.Nat.{ℕ, zero, suc, ◌+◌, ◌-◌, ◌*◌, ◌/◌, ◌%◌, ◌≤◌, ◌<◌}
use native.Mathlib.Omega.{arith}
use native.Mathlib.Numerals.{add-one}
use native.Mathlib.Nat.{add-zero}
use mathlib.Core.Path.{◌≡◌, refl, sym, ap, ◌∙◌}
use mathlib.Core.List.{List, [], ◌∷◌, ◌++◌, append_assoc, append-nil}
use lib.ListN.{length, get_or, set, take, drop, length-append, length-drop, length-set, take-append-drop}
use lib.Seq.{length-take-le, take_at, drop_at, drop-drop, take-suc, take-length, take-append-le, sets, sets-eq}
use Rattle.image_rules.specs.Records.{le}
use Rattle.image_bytes.specs.inner.Laying.{laid_at}

-- ---- single parts

-- stores one behind the other
pub laid_stores : (part row : List ℕ) (place : ℕ) → place + length part ≤ length row → sets row place part ≡ laid_at place part row
unfolding laid_at
laid_stores part row place h = sets-eq part row place h

module _ (row : List ℕ) (place : ℕ) where
  pub laid_1 : (a : ℕ) → place + 1 ≤ length row → set row place a ≡ laid_at place (a ∷ []) row
  laid_1 a h = laid_stores (a ∷ []) row place h

  pub laid_2 : (a b : ℕ) → place + 2 ≤ length row → set (set row place a) (place + 1) b ≡ laid_at place (a ∷ b ∷ []) row
  laid_2 a b h = ap (λ (k : ℕ). set (set row place a) k b) (add-one place) ∙ laid_stores (a ∷ b ∷ []) row place h

  two : place + 2 ≡ suc (suc place)
  two = omega arith

  three : place + 3 ≡ suc (suc (suc place))
  three = omega arith

  pub laid_3 : (a b c : ℕ) → place + 3 ≤ length row → set (set (set row place a) (place + 1) b) (place + 2) c ≡ laid_at place (a ∷ b ∷ c ∷ []) row
  laid_3 a b c h =
      ap (λ (k : ℕ). set (set (set row place a) k b) (place + 2) c) (add-one place)
      ∙ ap (λ (k : ℕ). set (set (set row place a) (suc place) b) k c) two
      ∙ laid_stores (a ∷ b ∷ c ∷ []) row place h

  pub laid_4 : (a b c d : ℕ) → place + 4 ≤ length row → set (set (set (set row place a) (place + 1) b) (place + 2) c) (place + 3) d ≡ laid_at place (a ∷ b ∷ c ∷ d ∷ []) row
  laid_4 a b c d h =
      ap (λ (k : ℕ). set (set (set (set row place a) k b) (place + 2) c) (place + 3) d) (add-one place)
      ∙ ap (λ (k : ℕ). set (set (set (set row place a) (suc place) b) k c) (place + 3) d) two
      ∙ ap (λ (k : ℕ). set (set (set (set row place a) (suc place) b) (suc (suc place)) c) k d) three
      ∙ laid_stores (a ∷ b ∷ c ∷ d ∷ []) row place h

  pub laid_none : laid_at place [] row ≡ row
  unfolding laid_at
  laid_none = ap (λ (k : ℕ). take place row ++ [] ++ drop k row) (add-zero place) ∙ ap (λ (l : List ℕ). l ++ drop place row) (append-nil (take place row)) ∙ take-append-drop place row

-- ---- what a part leaves

module _ (row part : List ℕ) (place : ℕ) (h : place + length part ≤ length row) where
  head_long : length (take place row ++ part) ≡ place + length part
  head_long = length-append (take place row) part ∙ ap (λ (k : ℕ). k + length part) (length-take-le place row (omega arith))

  pub laid_head : take (place + length part) (laid_at place part row) ≡ take place row ++ part
  unfolding laid_at
  laid_head = take_at (take place row ++ part) (drop (place + length part) row) (place + length part) head_long

  pub laid_rest : drop (place + length part) (laid_at place part row) ≡ drop (place + length part) row
  unfolding laid_at
  laid_rest = drop_at (take place row ++ part) (drop (place + length part) row) (place + length part) head_long

  pub laid_long : length (laid_at place part row) ≡ length row
  unfolding laid_at
  laid_long = length-append (take place row ++ part) (drop (place + length part) row) ∙ omega (arith, head_long, length-drop (place + length part) row)

  -- the cells before the part stay
  pub laid_before : take place (laid_at place part row) ≡ take place row
  unfolding laid_at
  laid_before =
      ap (take place) (append_assoc (take place row) part (drop (place + length part) row))
      ∙ take_at (take place row) (part ++ drop (place + length part) row) place (length-take-le place row (omega arith))

-- a part behind another
pub laid_then : (row a b : List ℕ) (place next : ℕ) → next ≡ place + length a → next + length b ≤ length row → laid_at next b (laid_at place a row) ≡ laid_at place (a ++ b) row
unfolding laid_at
laid_then row a b place next e h =
    let x : next + length b ≡ place + length (a ++ b) = omega (arith, length-append a b) in
    let y : place + length a + length b ≡ place + length (a ++ b) = omega (arith, length-append a b) in
    ap (λ (k : ℕ). take k (laid_at place a row) ++ b ++ drop (k + length b) (laid_at place a row)) e
    ∙ ap (λ (l : List ℕ). l ++ b ++ drop (place + length a + length b) (laid_at place a row)) (laid_head row a place (omega arith))
    ∙ ap (λ (l : List ℕ). take place row ++ a ++ b ++ l) (sym (drop-drop (length b) (place + length a) (laid_at place a row)) ∙ ap (drop (length b)) (laid_rest row a place (omega arith)) ∙ drop-drop (length b) (place + length a) row ∙ ap (λ (k : ℕ). drop k row) y)
    ∙ ap (λ (l : List ℕ). l ++ drop (place + length (a ++ b)) row) (append_assoc (take place row) a b)

-- two bytes and two more
pub laid_twice : {r s : List ℕ} (row : List ℕ) (place v : ℕ) → place + 4 ≤ length row → r ≡ laid_at place (le 2 v) row → s ≡ laid_at (place + 2) (le 2 (v / 256 / 256)) r → s ≡ laid_at place (le 4 v) row
unfolding le
laid_twice row place v h e f =
    f ∙ ap (laid_at (place + 2) (le 2 (v / 256 / 256))) e
    ∙ laid_then row (v % 256 ∷ v / 256 % 256 ∷ []) (v / 256 / 256 % 256 ∷ v / 256 / 256 / 256 % 256 ∷ []) place (place + 2) refl (omega arith)

-- ---- a part, cell by cell

pub record Copied (row₀ : List ℕ) (place : ℕ) (part row : List ℕ) (i : ℕ) : Type 0 where
  pub upto : i ≤ length part
  pub fits : place + length part ≤ length row₀
  pub same : length row ≡ length row₀
  pub is : row ≡ laid_at place (take i part) row₀

pub copied_none : (row : List ℕ) (place : ℕ) (part : List ℕ) → place + length part ≤ length row → Copied row place part row 0
copied_none row place part h = record { upto = omega arith; fits = h; same = refl; is = sym (laid_none row place) }

pub copied_more : {row₀ part row : List ℕ} {place i : ℕ} → Copied row₀ place part row i → i < length part → Copied row₀ place part (set row (place + i) (get_or part i 0)) (i + 1)
copied_more {row₀} {part} {row} {place} {i} c l = record {
  upto = omega arith;
  fits = c.fits;
  same = length-set row (place + i) (get_or part i 0) ∙ c.same;
  is = laid_1 row (place + i) (get_or part i 0) (omega (arith, c.fits, c.same))
      ∙ ap (laid_at (place + i) (get_or part i 0 ∷ [])) c.is
      ∙ laid_then row₀ (take i part) (get_or part i 0 ∷ []) place (place + i) (let z : place + i ≡ place + length (take i part) = omega (arith, length-take-le i part (omega arith)) in z) (omega (arith, c.fits))
      ∙ ap (λ (l : List ℕ). laid_at place l row₀) (sym (take-suc part i 0 l) ∙ ap (λ (k : ℕ). take k part) (sym (add-one i)));
}

pub copied_all : {row₀ part row : List ℕ} {place i : ℕ} → Copied row₀ place part row i → length part ≤ i → row ≡ laid_at place part row₀
copied_all {row₀} {part} {row} {place} {i} c h =
    let e : i ≡ length part = omega (arith, c.upto) in
    c.is ∙ ap (λ (k : ℕ). laid_at place (take k part) row₀) e ∙ ap (λ (l : List ℕ). laid_at place l row₀) (take-length part)
