-- Joining is commutative and associative, and zeros are neutral. Assumes nothing.
use Prim.Native.Nat.{ℕ, zero, suc, ◌+◌, ◌≤◌, ◌<◌}
use native.Mathlib.Omega.{arith}
use mathlib.Core.Path.{◌≡◌, refl, sym, ◌∙◌, ap}
use mathlib.Core.Bool.{Bool, true, false, cond}
use mathlib.Core.List.{List, [], ◌∷◌}
use lib.ListN.{length, get_or, replicate, length-replicate}
use lib.Dec.{ltb, eqb}
use borrow.Author.Tests.{ltb-true, ltb-false}
use Rattle.figures_rules.specs.Figures.{figure, row, zeros, larger, join_cell, joined}
use Rattle.figures_rules.proofs.Rows.{row_long, row_at, same_row}

-- ---- the larger of two

larger_by : (x y : ℕ) (P : ℕ → Type 0) → (x < y → P y) → (y ≤ x → P x) → P (larger x y)
larger_by x y P h l = go (ltb x y) refl
  where
    go : (b : Bool) → ltb x y ≡ b → P (cond b y x)
    go true e = h (ltb-true x y e)
    go false e = l (ltb-false x y e)

pub larger_left : (x y : ℕ) → x ≤ larger x y
larger_left x y = larger_by x y (λ (z : ℕ). x ≤ z) (λ h. omega arith) (λ h. omega arith)

pub larger_right : (x y : ℕ) → y ≤ larger x y
larger_right x y = larger_by x y (λ (z : ℕ). y ≤ z) (λ h. omega arith) (λ h. omega arith)

pub larger_least : (x y z : ℕ) → x ≤ z → y ≤ z → larger x y ≤ z
larger_least x y z h l = larger_by x y (λ (m : ℕ). m ≤ z) (λ k. l) (λ k. h)

larger_comm : (x y : ℕ) → larger x y ≡ larger y x
larger_comm x y =
    let a = larger_least x y (larger y x) (larger_right y x) (larger_left y x) in
    let b = larger_least y x (larger x y) (larger_right x y) (larger_left x y) in
    omega arith

larger_assoc : (x y z : ℕ) → larger (larger x y) z ≡ larger x (larger y z)
larger_assoc x y z =
    let p = larger_left x (larger y z) in
    let q = larger_right x (larger y z) in
    let r = larger_left y z in
    let s = larger_right y z in
    let p' = larger_left (larger x y) z in
    let q' = larger_right (larger x y) z in
    let r' = larger_left x y in
    let s' = larger_right x y in
    let a = larger_least (larger x y) z (larger x (larger y z)) (larger_least x y (larger x (larger y z)) p (omega arith)) (omega arith) in
    let b = larger_least x (larger y z) (larger (larger x y) z) (omega arith) (larger_least y z (larger (larger x y) z) (omega arith) q') in
    omega arith

-- ---- a cell

cell_comm : (i x y : ℕ) → join_cell i x y ≡ join_cell i y x
cell_comm i x y = go (eqb i 9)
  where
    go : (b : Bool) → cond b (larger x y) (x + y) ≡ cond b (larger y x) (y + x)
    go true = larger_comm x y
    go false = omega arith

cell_assoc : (i x y z : ℕ) → join_cell i (join_cell i x y) z ≡ join_cell i x (join_cell i y z)
cell_assoc i x y z = go (eqb i 9)
  where
    go : (b : Bool) → cond b (larger (cond b (larger x y) (x + y)) z) (cond b (larger x y) (x + y) + z) ≡ cond b (larger x (cond b (larger y z) (y + z))) (x + cond b (larger y z) (y + z))
    go true = larger_assoc x y z
    go false = omega arith

cell_zero : (i x : ℕ) → join_cell i 0 x ≡ x
cell_zero i x = go (eqb i 9)
  where
    top : larger 0 x ≡ x
    top = let a = larger_right 0 x in let b = larger_least 0 x x (omega arith) (omega arith) in omega arith

    go : (b : Bool) → cond b (larger 0 x) (0 + x) ≡ x
    go true = top
    go false = omega arith

-- ---- the sixteen cells

pub joined_long : (a b : List ℕ) → length (joined a b) ≡ 16
unfolding joined
joined_long a b = row_long (λ (i : ℕ). join_cell i (figure a i) (figure b i))

pub joined_at : (a b : List ℕ) (i : ℕ) → i < 16 → figure (joined a b) i ≡ join_cell i (figure a i) (figure b i)
unfolding joined
joined_at a b i h = row_at (λ (k : ℕ). join_cell k (figure a k) (figure b k)) i h

pub joined_comm : (a b : List ℕ) → joined a b ≡ joined b a
joined_comm a b =
    same_row (joined a b) (joined b a) (joined_long a b) (joined_long b a)
    (λ i h. joined_at a b i h ∙ cell_comm i (figure a i) (figure b i) ∙ sym (joined_at b a i h))

pub joined_assoc : (a b c : List ℕ) → joined (joined a b) c ≡ joined a (joined b c)
joined_assoc a b c =
    same_row (joined (joined a b) c) (joined a (joined b c)) (joined_long (joined a b) c) (joined_long a (joined b c))
    (λ i h. joined_at (joined a b) c i h ∙ ap (λ (x : ℕ). join_cell i x (figure c i)) (joined_at a b i h)
    ∙ cell_assoc i (figure a i) (figure b i) (figure c i)
    ∙ ap (λ (x : ℕ). join_cell i (figure a i) x) (sym (joined_at b c i h)) ∙ sym (joined_at a (joined b c) i h))

zero_at : (n i : ℕ) → get_or (replicate {A = ℕ} n 0) i 0 ≡ 0
zero_at zero i = refl
zero_at (suc n) zero = refl
zero_at (suc n) (suc i) = zero_at n i

pub zeros_at : (i : ℕ) → figure zeros i ≡ 0
zeros_at i = zero_at 16 i

pub joined_zeros : (a : List ℕ) → length a ≡ 16 → joined zeros a ≡ a
joined_zeros a l =
    same_row (joined zeros a) a (joined_long zeros a) l
    (λ i h. joined_at zeros a i h ∙ ap (λ (x : ℕ). join_cell i x (figure a i)) (zeros_at i) ∙ cell_zero i (figure a i))
