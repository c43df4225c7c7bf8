-- The cells of a map. Assumes nothing.
use Prim.Native.Nat.{ℕ, zero, suc, ◌+◌, ◌*◌, ◌/◌, ◌%◌, ◌^◌, ◌≤◌, ◌<◌}
use native.Mathlib.Omega.{arith}
use native.Mathlib.Nat.{zero-div}
use mathlib.Core.Path.{◌≡◌, refl, sym, ◌∙◌, ap, ap₂}
use mathlib.Core.Bool.{Bool, true, false}
use mathlib.Core.List.{List, ◌++◌}
use lib.ListN.{length, get_or, take, get_or-eq_default, get_or-append}
use lib.Seq.{get_or-take, ext_get_or}
use lib.Dec.{eqb}
use borrow.Author.Tests.{eqb-true, eqb-false}
use Rattle.break_map_rules.specs.Maps.{Cells, bit, word, cells, bit_at, is_break, breaks}
use Rattle.break_map_rules.proofs.Breaks.{those_same}
use Rattle.break_map_rules.proofs.Bits.{word_small, word_bit, word_back, word_same}

-- ---- cells that are made by a test

module _ (f : ℕ → Bool) where
  pub cells_long : (c p : ℕ) → length (cells f c p) ≡ c
  unfolding cells
  cells_long zero p = refl
  cells_long (suc c) p = ap suc (cells_long c (p + 64))

  cells_at : (c p i : ℕ) → i < c → get_or (cells f c p) i 0 ≡ word f 64 (p + 64 * i)
  unfolding cells
  cells_at zero p i h = absurd (omega arith)
  cells_at (suc c) p zero h = let z : p ≡ p + 0 = omega arith in ap (word f 64) z
  cells_at (suc c) p (suc i) h = let z : p + 64 + 64 * i ≡ p + 64 * suc i = omega arith in cells_at c (p + 64) i (omega arith) ∙ ap (word f 64) z

  pub cell_at : (c i : ℕ) → i < c → get_or (cells f c 0) i 0 ≡ word f 64 (64 * i)
  cell_at c i h = let z : 0 + 64 * i ≡ 64 * i = omega arith in cells_at c 0 i h ∙ ap (word f 64) z

  pub cells_fit : (c : ℕ) → Cells (cells f c 0)
  cells_fit c i h = let e = cells_long c 0 in let w = word_small f 64 (64 * i) in omega (arith, cell_at c i (omega arith))

  pub made_bit : (c p : ℕ) → p < 64 * c → bit_at (cells f c 0) p ≡ bit (f p)
  unfolding bit_at
  made_bit c p h =
      let e : 64 * (p / 64) + p % 64 ≡ p = omega arith in
      ap (λ (x : ℕ). x / 2 ^ (p % 64) % 2) (cell_at c (p / 64) (omega arith)) ∙ word_bit f (p % 64) 64 (64 * (p / 64)) (omega arith) ∙ ap (λ (q : ℕ). bit (f q)) e

  pub made_break : (c p : ℕ) → p < 64 * c → is_break (cells f c 0) p ≡ f p
  made_break c p h = ap (λ (x : ℕ). eqb x 1) (made_bit c p h) ∙ is (f p)
    where
      is : (b : Bool) → eqb (bit b) 1 ≡ b
      is true = refl
      is false = refl

-- no bit behind the last cell
pub no_bit : (map : List ℕ) (p : ℕ) → 64 * length map ≤ p → bit_at map p ≡ 0
unfolding bit_at
no_bit map p h = ap (λ (x : ℕ). x / 2 ^ (p % 64) % 2) (get_or-eq_default map 0 {n = p / 64} (omega arith)) ∙ ap (λ (x : ℕ). x % 2) (zero-div (2 ^ (p % 64)))

-- ---- cells that are given

-- the used cells alone
pub break_take : (c : ℕ) (map : List ℕ) (p : ℕ) → p < 64 * c → is_break (take c map) p ≡ is_break map p
unfolding bit_at
break_take c map p h = ap (λ (x : ℕ). eqb (x / 2 ^ (p % 64) % 2) 1) (get_or-take c map (p / 64) 0 (omega arith))

pub breaks_take : (c : ℕ) (map : List ℕ) (d p : ℕ) → p + d ≤ 64 * c → breaks (take c map) d p ≡ breaks map d p
breaks_take c map d p h = those_same (is_break map) (is_break (take c map)) d p (λ x a b. break_take c map x (omega arith))

pub break_front : (xs ys : List ℕ) (p : ℕ) → p < 64 * length xs → is_break (xs ++ ys) p ≡ is_break xs p
unfolding bit_at
break_front xs ys p h = ap (λ (x : ℕ). eqb (x / 2 ^ (p % 64) % 2) 1) (get_or-append xs ys 0 (p / 64) (omega arith))

bit_is : (x : ℕ) → x < 2 → bit (eqb x 1) ≡ x
bit_is x h = go (eqb x 1) refl
  where
    go : (b : Bool) → eqb x 1 ≡ b → bit (eqb x 1) ≡ x
    go true e = ap bit e ∙ sym (eqb-true x 1 e)
    go false e = let n = eqb-false x 1 e in ap bit e ∙ omega arith

-- a cell is the word of its own bits
pub cell_is : (map : List ℕ) → Cells map → (i : ℕ) → i < length map → get_or map i 0 ≡ word (is_break map) 64 (64 * i)
unfolding bit_at
cell_is map fit i h = word_back (is_break map) (get_or map i 0) 64 (64 * i) bits (fit i h)
  where
    bits : (j : ℕ) → j < 64 → bit (is_break map (64 * i + j)) ≡ get_or map i 0 / 2 ^ j % 2
    bits j l =
        let a : (64 * i + j) / 64 ≡ i = omega arith in
        let b : (64 * i + j) % 64 ≡ j = omega arith in
        ap₂ (λ (k m : ℕ). bit (eqb (get_or map k 0 / 2 ^ m % 2) 1)) a b ∙ bit_is (get_or map i 0 / 2 ^ j % 2) (omega arith)

-- rows of as many cells with the same bits are the same
pub same_bits : (f : ℕ → Bool) (c : ℕ) (map : List ℕ) → Cells map → length map ≡ c → ((p : ℕ) → p < 64 * c → is_break map p ≡ f p) → map ≡ cells f c 0
same_bits f c map fit size same =
    ext_get_or 0 map (cells f c 0) (size ∙ sym (cells_long f c 0))
    (λ i h. cell_is map fit i h ∙ word_same f (is_break map) 64 (64 * i) (λ x l u. same x (omega arith)) ∙ sym (cell_at f c i (omega arith)))
