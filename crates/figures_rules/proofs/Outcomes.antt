-- The figures of one text. Assumes nothing.
use Prim.Native.Nat.{ℕ, zero, suc, ◌+◌, ◌*◌, ◌≤◌, ◌<◌}
use native.Mathlib.Omega.{arith}
use mathlib.Core.Path.{◌≡◌, refl, sym, ◌∙◌, ap}
use mathlib.Core.Bool.{Bool, true, false, cond}
use mathlib.Core.List.{List, [], ◌∷◌}
use lib.ListN.{length, get_or, replicate}
use lib.Dec.{eqb}
use Rattle.figures_rules.specs.Figures.{figure, texts}
use Rattle.figures_rules.specs.Outcomes.{Outcome, cut, refused, how_often, of_cut, given, of_refused, of_outcome, Reason, Reasons, OfText}
use Rattle.figures_rules.specs.Runs.{Balanced}
use Rattle.figures_rules.proofs.Filling.{Bounded}

-- ---- sixteen cells, one text

pub outcome_long : (o : Outcome) → length (of_outcome o) ≡ 16
unfolding of_cut of_refused
outcome_long (cut n rs e) = refl
outcome_long (refused r) = refl

pub outcome_texts : (o : Outcome) → figure (of_outcome o) texts ≡ 1
unfolding of_cut of_refused
outcome_texts (cut n rs e) = refl
outcome_texts (refused r) = refl

-- ---- no figure of a text is large

-- every cell of a list is at most m
abbrev All : ℕ → List ℕ → Type 0
All m [] = Unit {0}
All m (x ∷ xs) = (x ≤ m) × All m xs

all_at : (m : ℕ) (l : List ℕ) → All m l → (i : ℕ) → get_or l i 0 ≤ m
all_at m [] h i = omega arith
all_at m (x ∷ l) h zero = h.0
all_at m (x ∷ l) h (suc i) = all_at m l h.1 i

bit_small : (t : Bool) → cond t 1 0 ≤ 1
bit_small true = omega arith
bit_small false = omega arith

often_small : (x : ℕ) (l : List ℕ) → how_often x l ≤ length l
unfolding how_often
often_small x [] = omega arith
often_small x (y ∷ l) = omega (arith, bit_small (eqb y x), often_small x l)

all_zero : (m n : ℕ) → All m (replicate {A = ℕ} n 0)
all_zero m zero = tt
all_zero m (suc n) = (omega arith, all_zero m n)

cells_small : (o : Outcome) → OfText o → All 4294967296 (of_outcome o)
unfolding of_cut of_refused
cells_small (cut n rs e) h =
    let few : length rs ≤ 65535 = omega (arith, h.0, h.1) in
    (omega arith, (omega (arith, h.0), (omega arith, (omega (arith, few, often_small 1 rs), (omega (arith, few, often_small 2 rs), (omega (arith, few, often_small 3 rs), (omega (arith, few, often_small 4 rs), (omega (arith, few, often_small 5 rs), (h.2, (h.2, all_zero 4294967296 6))))))))))
cells_small (refused r) h =
    (omega arith, (omega arith, (omega arith, (omega arith, (omega arith, (omega arith, (omega arith, (omega arith, (omega arith, (omega arith, (omega (arith, bit_small (eqb r 1)), (omega (arith, bit_small (eqb r 2)), (omega (arith, bit_small (eqb r 3)), (omega (arith, bit_small (eqb r 4)), (omega (arith, bit_small (eqb r 5)), (omega (arith, bit_small (eqb r 6)), tt))))))))))))))))

pub outcome_bounded : (o : Outcome) → OfText o → Bounded (of_outcome o)
outcome_bounded o h = record { each = λ i l. omega (arith, outcome_texts o, all_at 4294967296 (of_outcome o) (cells_small o h) i) }

-- ---- reasons sum to tokens

-- a reason is counted once
counted_once : (r : ℕ) → Reason r → cond (eqb r 1) 1 0 + cond (eqb r 2) 1 0 + cond (eqb r 3) 1 0 + cond (eqb r 4) 1 0 + cond (eqb r 5) 1 0 ≡ 1
counted_once zero h = absurd (omega (arith, h.least))
counted_once (suc zero) h = refl
counted_once (suc (suc zero)) h = refl
counted_once (suc (suc (suc zero))) h = refl
counted_once (suc (suc (suc (suc zero)))) h = refl
counted_once (suc (suc (suc (suc (suc zero))))) h = refl
counted_once (suc (suc (suc (suc (suc (suc r)))))) h = absurd (omega (arith, h.most))

often_all : (rs : List ℕ) → Reasons rs → how_often 1 rs + how_often 2 rs + how_often 3 rs + how_often 4 rs + how_often 5 rs ≡ length rs
unfolding how_often
often_all [] h = refl
often_all (r ∷ rs) h = omega (arith, counted_once r h.0, often_all rs h.1)

pub outcome_balanced : (o : Outcome) → OfText o → Balanced (of_outcome o)
unfolding of_cut of_refused
outcome_balanced (cut n rs e) h = often_all rs h.3
outcome_balanced (refused r) h = refl
