-- Cells that are all below the surrogates are scalar values. Assumes nothing.
use mathlib.Core.Path.{◌≡◌, ap, sym, ◌∙◌}
use mathlib.Core.Bool.{true}
use mathlib.Core.List.{List, [], ◌∷◌}
use Prim.Native.Nat.{ℕ, suc, ◌+◌, ◌≤◌, ◌<◌}
use native.Mathlib.Omega.{arith}
use native.Mathlib.Decide.{dec_lt}
use lib.ListN.{length, get_or, get_or-eq_default}
use borrow.Author.Tests.{lt-ltb}
use Rattle.lists.specs.Scans.{leading}
use Rattle.lists.proofs.Scans.{leading_nil, leading_yes}
use Rattle.char_string_scalars.specs.Scalars.{is_scalar}

-- one cell more, or all, below the highest
pub more : (p : List ℕ) (i m r : ℕ) → ((a : ℕ) → a < i → get_or p a 0 ≤ m) → m ≤ r → get_or p i 0 ≤ r → (a : ℕ) → a < i + 1 → get_or p a 0 ≤ r
more p i m r f l e a h = pick (dec_lt a i)
  where
    pick : Dec (a < i) → get_or p a 0 ≤ r
    pick (yes q) = omega (arith, f a q)
    pick (no q) = let z : a ≡ i = omega arith in let w : get_or p a 0 ≡ get_or p i 0 = ap (λ (t : ℕ). get_or p t 0) z in omega (arith, w)

pub all : (p : List ℕ) (i m : ℕ) → ((a : ℕ) → a < i → get_or p a 0 ≤ m) → length p ≤ i → (a : ℕ) → get_or p a 0 ≤ m
all p i m f h a = pick (dec_lt a i)
  where
    pick : Dec (a < i) → get_or p a 0 ≤ m
    pick (yes q) = f a q
    pick (no q) = let z : length p ≤ a = omega arith in let w : get_or p a 0 ≡ 0 = get_or-eq_default p 0 z in omega (arith, w)

low_scalar : (x : ℕ) → x < 0xD800 → is_scalar x ≡ true
unfolding is_scalar
low_scalar x l = simp (lt-ltb x 0xD800 l)

pub low : (s : List ℕ) → ((a : ℕ) → get_or s a 0 < 0xD800) → length s ≡ leading is_scalar s
low [] f = sym (leading_nil is_scalar)
low (x ∷ s) f = ap suc (low s (λ a. f (suc a))) ∙ sym (leading_yes is_scalar x s (low_scalar x (f 0)))
