-- The fewest digits that hold a number are those of its text. Assumes nothing.
use Prim.Native.Nat.{ℕ, zero, suc, ◌+◌, ◌-◌, ◌/◌, ◌%◌, ◌^◌, ◌≤◌, ◌<◌}
use native.Mathlib.Omega.{arith}
use native.Mathlib.Nat.{pow-suc, pow-le-pow_right}
use native.Mathlib.Decide.{dec_lt}
use mathlib.Core.Path.{◌≡◌, refl, sym, ◌∙◌, ap, subst}
use mathlib.Core.Bool.{Bool, cond}
use mathlib.Core.List.{List, [], ◌∷◌, ◌++◌}
use borrow.Author.Tests.{lt-ltb, le-ltb}
use Rattle.io.specs.Digits.{hex_digit_ascii, last_digits, IsDigitCount}
use Rattle.sheet_texts.specs.Texts.{decimal_in}

glyph_is : (n : ℕ) → hex_digit_ascii (n % 10) ≡ 48 + n % 10
glyph_is n = simp (lt-ltb (n % 10) 10 (omega arith))

one_digit : (most n : ℕ) → n < 10 → (hex_digit_ascii (n % 10) ∷ []) ≡ decimal_in (suc most) n
unfolding decimal_in
one_digit most n h =
    ap (λ (d : ℕ). d ∷ []) (glyph_is n ∙ (let e : 48 + n % 10 ≡ 48 + n = omega arith in e))
    ∙ sym (ap (λ (b : Bool). cond b ((48 + n) ∷ []) (decimal_in most (n / 10) ++ ((48 + n % 10) ∷ []))) (lt-ltb n 10 h))

more_digits : (most n : ℕ) → 10 ≤ n → decimal_in most (n / 10) ++ (hex_digit_ascii (n % 10) ∷ []) ≡ decimal_in (suc most) n
unfolding decimal_in
more_digits most n h =
    ap (λ (d : ℕ). decimal_in most (n / 10) ++ (d ∷ [])) (glyph_is n)
    ∙ sym (ap (λ (b : Bool). cond b ((48 + n) ∷ []) (decimal_in most (n / 10) ++ ((48 + n % 10) ∷ []))) (le-ltb n 10 h))

positive : (k : ℕ) → 1 ≤ 10 ^ k
positive zero = omega arith
positive (suc k) = omega (arith, positive k, pow-suc 10 k)

pub decimal_is : (most k n : ℕ) → IsDigitCount 10 1 n k → k ≤ most → last_digits 10 k n ≡ decimal_in most n
decimal_is most zero n w h = absurd (omega (arith, w.0))
decimal_is zero (suc k) n w h = absurd (omega arith)
decimal_is (suc most) (suc zero) n w h =
    let e : 10 ^ 1 ≡ 10 = refl in
    one_digit most n (omega (arith, w.1))
decimal_is (suc most) (suc (suc k)) n w h =
    let big : 10 ^ suc k ≤ n = subst (λ (j : ℕ). 10 ^ j ≤ n) (less (suc k)) (w.2 (omega arith)) in
    let low : 10 ^ k ≤ n / 10 = omega (arith, pow-suc 10 k) in
    let rest : IsDigitCount 10 1 (n / 10) (suc k) = (omega arith, (omega (arith, w.1, pow-suc 10 (suc k))), (λ m. subst (λ (j : ℕ). 10 ^ j ≤ n / 10) (sym (less k)) low)) in
    ap (λ (l : List ℕ). l ++ (hex_digit_ascii (n % 10) ∷ [])) (decimal_is most (suc k) (n / 10) rest (omega arith)) ∙ more_digits most n (omega (arith, pow-suc 10 k, positive k))
  where
    less : (j : ℕ) → suc j - 1 ≡ j
    less j = omega arith

-- a number of 64 bits has at most twenty digits
pub few : (k n : ℕ) → IsDigitCount 10 1 n k → n < 2 ^ 64 → k ≤ 20
few k n w h = elim (dec_lt 20 k) [ yes l ↦ absurd (long l) | no m ↦ omega arith ]
  where
    long : 20 < k → ⊥
    long l =
        let low : 10 ^ (k - 1) ≤ n = w.2 (omega arith) in
        let ten : 0 < 10 = omega arith in
        let places : 20 ≤ k - 1 = omega arith in
        let high : 10 ^ 20 ≤ 10 ^ (k - 1) = pow-le-pow_right ten places in
        omega arith
