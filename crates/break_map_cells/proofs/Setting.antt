-- Bits that are set one after the other in cells that were all 0. Assumes nothing.
use Prim.Native.Nat.{ℕ, ◌+◌, ◌*◌, ◌-◌, ◌/◌, ◌%◌, ◌^◌, ◌≤◌, ◌<◌}
use native.Mathlib.Omega.{arith}
use native.Mathlib.Numerals.{add-one}
use mathlib.Core.Path.{◌≡◌, refl, sym, ◌∙◌, ap, ap₂}
use mathlib.Core.Bool.{Bool, true, false, ◌||◌}
use mathlib.Core.List.{List, [], ◌∷◌, ◌++◌}
use lib.ListN.{length, get_or, set, take, replicate, length-set, length-replicate, get_or-replicate}
use lib.Seq.{take-suc, take_all, get_or-set_same, get_or-set_other, ext_get_or}
use lib.Bits.{bit_or}
use lib.Dec.{eqb}
use borrow.Author.Tests.{eqb-true, eqb-false, eq-eqb, ne_eqb}
use Rattle.newmm_rules.specs.Positions.{any, member}
use Rattle.break_map_rules.specs.Maps.{word, cells}
use Rattle.break_map_rules.proofs.Bits.{word_none, word_same, word_set}
use Rattle.break_map_rules.proofs.Cells.{cells_long, cell_at}

-- ---- one position more

member_here : (x y : ℕ) (xs : List ℕ) → x ≡ y → member x (xs ++ (y ∷ [])) ≡ true
unfolding any
member_here x y [] e = ap (λ (b : Bool). b || false) (eq-eqb x y e)
member_here x y (z ∷ xs) e = ap (λ (b : Bool). eqb x z || b) (member_here x y xs e) ∙ or_true (eqb x z)
  where
    or_true : (t : Bool) → (t || true) ≡ true
    or_true true = refl
    or_true false = refl

member_other : (x y : ℕ) (xs : List ℕ) → (x ≡ y → ⊥) → member x (xs ++ (y ∷ [])) ≡ member x xs
unfolding any
member_other x y [] h = ap (λ (b : Bool). b || false) (ne_eqb x y h)
member_other x y (z ∷ xs) h = ap (λ (b : Bool). eqb x z || b) (member_other x y xs h)

-- ---- the loop

-- the bits at the first i positions are set, and no others
pub record SetUpTo (positions old map : List ℕ) (i : ℕ) : Type 0 where
  pub size : length map ≡ length old
  pub cells_are : (j : ℕ) → j < length old → get_or map j 0 ≡ word (λ (p : ℕ). member p (take i positions)) 64 (64 * j)

-- cells that were cleared
pub zeros_are : (row : List ℕ) (n : ℕ) → row ≡ replicate n 0 → row ≡ replicate (length row) 0
zeros_are row n e = let k : n ≡ length row = sym (ap length e ∙ length-replicate {A = ℕ} n 0) in e ∙ ap (λ (i : ℕ). replicate {A = ℕ} i 0) k

pub set_none : (positions old : List ℕ) → old ≡ replicate (length old) 0 → SetUpTo positions old old 0
unfolding any
set_none positions old e =
    record {
      size = refl;
      cells_are = λ j h.
          ap (λ (l : List ℕ). get_or l j 0) e ∙ get_or-replicate (length old) j 0 0 h ∙ sym (word_none (λ (p : ℕ). member p []) 64 (64 * j) (λ x. refl));
    }

module _ {positions old map : List ℕ} {i : ℕ} (s : SetUpTo positions old map i) where
  module _ (h : i < length positions) (p : ℕ) (is : p ≡ get_or positions i 0) (l : p < 64 * length old) where
    abbrev f : ℕ → Bool
    f x = member x (take i positions)

    abbrev g : ℕ → Bool
    g x = member x (take (i + 1) positions)

    longer : take (i + 1) positions ≡ take i positions ++ (p ∷ [])
    longer = ap (λ (k : ℕ). take k positions) (add-one i) ∙ take-suc positions i 0 h ∙ ap (λ (x : ℕ). take i positions ++ (x ∷ [])) (sym is)

    here : g p ≡ true
    here = ap (member p) longer ∙ member_here p p (take i positions) refl

    other : (x : ℕ) → (x ≡ p → ⊥) → g x ≡ f x
    other x n = ap (member x) longer ∙ member_other x p (take i positions) n

    pub set_more : SetUpTo positions old (set map (p / 64) (bit_or (get_or map (p / 64) 0) (2 ^ (p % 64)))) (i + 1)
    set_more = record { size = length-set map (p / 64) x ∙ s.size; cells_are = λ j u. go j u (eqb j (p / 64)) refl }
      where
        x : ℕ
        x = bit_or (get_or map (p / 64) 0) (2 ^ (p % 64))

        q : ℕ
        q = 64 * (p / 64)

        go : (j : ℕ) → j < length old → (t : Bool) → eqb j (p / 64) ≡ t → get_or (set map (p / 64) x) j 0 ≡ word g 64 (64 * j)
        go j u true e =
            let k : j ≡ p / 64 = eqb-true j (p / 64) e in
            let z : p % 64 ≡ p - q = omega arith in
            ap (λ (n : ℕ). get_or (set map (p / 64) x) n 0) k
            ∙ get_or-set_same map (p / 64) x 0 (let y = s.size in omega arith)
            ∙ ap₂ (λ (a b : ℕ). bit_or a (2 ^ b)) (s.cells_are (p / 64) (omega arith)) z
            ∙ word_set f g p 64 q here other (omega arith) (omega arith)
            ∙ ap (λ (n : ℕ). word g 64 (64 * n)) (sym k)
        go j u false e =
            let k = eqb-false j (p / 64) e in
            get_or-set_other map (p / 64) j x 0 k ∙ s.cells_are j u ∙ sym (word_same f g 64 (64 * j) (λ y a b. other y (λ r. k (omega arith))))

  pub set_all : length positions ≤ i → map ≡ cells (λ (p : ℕ). member p positions) (length old) 0
  set_all h =
      ext_get_or 0 map (cells (λ (p : ℕ). member p positions) (length old) 0) (s.size ∙ sym (cells_long (λ (p : ℕ). member p positions) (length old) 0))
      (λ j u.
      let k : j < length old = (let y = s.size in omega arith) in
      s.cells_are j k ∙ ap (λ (l : List ℕ). word (λ (p : ℕ). member p l) 64 (64 * j)) (take_all i positions h) ∙ sym (cell_at (λ (p : ℕ). member p positions) (length old) j k))
