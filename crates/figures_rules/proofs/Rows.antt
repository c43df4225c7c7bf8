-- Sixteen cells by their index, and a test over them. Assumes nothing.
use Prim.Native.Nat.{ℕ, zero, suc, ◌+◌, ◌<◌}
use native.Mathlib.Omega.{arith}
use native.Mathlib.Decide.{dec_lt}
use mathlib.Core.Path.{◌≡◌, refl, sym, ◌∙◌, ap}
use mathlib.Core.Bool.{Bool, true, false, true≢false, ◌||◌}
use mathlib.Core.List.{List, [], ◌∷◌}
use lib.ListN.{length, get_or}
use lib.Seq.{ext_get_or}
use Rattle.figures_rules.specs.Figures.{figure, row_from, row, some}

-- ---- cells

from_long : (f : ℕ → ℕ) (n i : ℕ) → length (row_from f n i) ≡ n
unfolding row_from
from_long f zero i = refl
from_long f (suc n) i = ap suc (from_long f n (suc i))

from_at : (f : ℕ → ℕ) (n i k : ℕ) → k < n → get_or (row_from f n i) k 0 ≡ f (i + k)
unfolding row_from
from_at f zero i k h = absurd (omega arith)
from_at f (suc n) i zero h = ap f (let z : i ≡ i + 0 = omega arith in z)
from_at f (suc n) i (suc k) h = from_at f n (suc i) k (omega arith) ∙ ap f (let z : suc i + k ≡ i + suc k = omega arith in z)

pub row_long : (f : ℕ → ℕ) → length (row f) ≡ 16
row_long f = from_long f 16 0

pub row_at : (f : ℕ → ℕ) (i : ℕ) → i < 16 → figure (row f) i ≡ f i
row_at f i h = from_at f 16 0 i h ∙ ap f (let z : 0 + i ≡ i = omega arith in z)

-- two rows with the same cells are the same
pub same_row : (a b : List ℕ) → length a ≡ 16 → length b ≡ 16 → ((i : ℕ) → i < 16 → figure a i ≡ figure b i) → a ≡ b
same_row a b l m h = ext_get_or 0 a b (l ∙ sym m) (λ i k. h i (omega arith))

-- ---- some index passes a test

pub some_one : (f : ℕ → Bool) (n i : ℕ) → i < n → f i ≡ true → some f n ≡ true
unfolding some
some_one f zero i h t = absurd (omega arith)
some_one f (suc n) i h t = go (λ l. some_one f n i l t) (dec_lt i n)
  where
    later : (b : Bool) → some f n ≡ true → (b || some f n) ≡ true
    later true e = refl
    later false e = e

    go : (i < n → some f n ≡ true) → Dec (i < n) → (f n || some f n) ≡ true
    go ih (yes l) = later (f n) (ih l)
    go ih (no l) = let q : n ≡ i = omega arith in ap (λ (x : Bool). x || some f n) (ap f q ∙ t)

pub some_none : (f : ℕ → Bool) (n : ℕ) → ((i : ℕ) → i < n → f i ≡ false) → some f n ≡ false
unfolding some
some_none f zero h = refl
some_none f (suc n) h = ap (λ (x : Bool). x || some f n) (h n (omega arith)) ∙ some_none f n (λ i l. h i (omega arith))

pub none_of : (f : ℕ → Bool) (n : ℕ) → some f n ≡ false → (i : ℕ) → i < n → f i ≡ false
none_of f n e i h = go (f i) refl
  where
    go : (b : Bool) → f i ≡ b → f i ≡ false
    go false q = q
    go true q = absurd (true≢false (sym (some_one f n i h q) ∙ e))
