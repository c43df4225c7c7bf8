-- The bits of a cell: one by one, counted, looked for and set. Assumes nothing.
use Rattle.std.specs.Prelude.{Some}
use Prim.Native.Nat.{ℕ, zero, suc, ◌+◌, ◌*◌, ◌-◌, ◌/◌, ◌%◌, ◌^◌, ◌≤◌, ◌<◌, max}
use native.Mathlib.Omega.{arith}
use native.Mathlib.Decide.{dec_lt}
use native.Mathlib.Nat.{pow-suc, div-one, mul-mod_left, max-zero, one-mul, zero-lt-suc}
use mathlib.Core.Path.{◌≡◌, refl, sym, ◌∙◌, ap, ap₂}
use mathlib.Core.Bool.{Bool, true, false}
use mathlib.Core.List.{[]}
use lib.ListN.{length}
use lib.Arith.{mod-mul}
use lib.Pow.{pow_pos, shr-shr, shl-shr, shl_exact, mod-pow-add}
use lib.Bits.{bit_or, or_step, or_zero_r}
use lib.Count.{ones, ones_step, ones_cat, ones-le, count_trailing_zeros, under}
use Rattle.newmm_rules.specs.Positions.{up_from, keep, those, how_many}
use Rattle.break_map_rules.specs.Maps.{bit, word}
use Rattle.break_map_rules.specs.Answers.{first_of}

bit_small : (b : Bool) → bit b ≤ 1
bit_small true = omega arith
bit_small false = omega arith

low : (b : Bool) (w : ℕ) → (bit b + 2 * w) % 2 ≡ bit b
low b w = let i = bit_small b in omega arith

high : (b : Bool) (w : ℕ) → (bit b + 2 * w) / 2 ≡ w
high b w = let i = bit_small b in omega arith

module _ (f : ℕ → Bool) where
  pub word_small : (d p : ℕ) → word f d p < 2 ^ d
  unfolding word
  word_small zero p = omega arith
  word_small (suc d) p = let i = bit_small (f p) in let j = word_small d (suc p) in let e = pow-suc 2 d in omega arith

  -- ---- one by one

  -- the bits above the lowest k
  pub word_shift : (k D d p : ℕ) → D ≡ k + d → word f D p / 2 ^ k ≡ word f d (p + k)
  unfolding word
  word_shift zero D d p e =
      let i : D ≡ d = omega arith in
      let j : p ≡ p + 0 = omega arith in
      div-one (word f D p) ∙ ap₂ (word f) i j
  word_shift (suc k) zero d p e = absurd (omega arith)
  word_shift (suc k) (suc D) d p e =
      let i : suc k ≡ 1 + k = omega arith in
      let j : suc p + k ≡ p + suc k = omega arith in
      ap (λ (z : ℕ). word f (suc D) p / 2 ^ z) i
      ∙ sym (shr-shr (word f (suc D) p) 1 k)
      ∙ ap (λ (w : ℕ). w / 2 ^ k) (high (f p) (word f D (suc p)))
      ∙ word_shift k D d (suc p) (omega arith)
      ∙ ap (word f d) j

  -- the lowest a bits
  word_low : (a D p : ℕ) → a ≤ D → word f D p % 2 ^ a ≡ word f a p
  unfolding word
  word_low zero D p h = omega arith
  word_low (suc a) zero p h = absurd (omega arith)
  word_low (suc a) (suc D) p h =
      let n = word f (suc D) p in
      let q : n % 2 ^ suc a ≡ n / 2 % 2 ^ a * 2 + n % 2 = ap (λ (m : ℕ). n % m) (pow-suc 2 a) ∙ mod-mul n (pow_pos a) (zero-lt-suc 1) in
      let r : n / 2 % 2 ^ a ≡ word f a (suc p) = ap (λ (w : ℕ). w % 2 ^ a) (high (f p) (word f D (suc p))) ∙ word_low a D (suc p) (omega arith) in
      let s : n % 2 ≡ bit (f p) = low (f p) (word f D (suc p)) in
      omega (arith, q, r, s)

  pub word_bit : (j d p : ℕ) → j < d → word f d p / 2 ^ j % 2 ≡ bit (f (p + j))
  unfolding word
  word_bit j d p h =
      ap (λ (w : ℕ). w % 2) (word_shift j d (suc (d - suc j)) p (omega arith)) ∙ low (f (p + j)) (word f (d - suc j) (suc (p + j)))

  -- ---- a number is the word of its bits

  pub word_back : (x d p : ℕ) → ((i : ℕ) → i < d → bit (f (p + i)) ≡ x / 2 ^ i % 2) → x < 2 ^ d → x ≡ word f d p
  unfolding word
  word_back x zero p h l = omega arith
  word_back x (suc d) p h l =
      let z : p + 0 ≡ p = omega arith in
      let b : bit (f p) ≡ x % 2 = ap (λ (q : ℕ). bit (f q)) (sym z) ∙ h 0 (omega arith) ∙ ap (λ (y : ℕ). y % 2) (div-one x) in
      let e = pow-suc 2 d in
      let w = word_back (x / 2) d (suc p) (λ i k. next i k) (omega arith) in
      omega (arith, b, w)
    where
      next : (i : ℕ) → i < d → bit (f (suc p + i)) ≡ x / 2 / 2 ^ i % 2
      next i k =
          let y : suc p + i ≡ p + suc i = omega arith in
          let j : suc i ≡ 1 + i = omega arith in
          ap (λ (q : ℕ). bit (f q)) y ∙ h (suc i) (omega arith) ∙ ap (λ (m : ℕ). x / 2 ^ m % 2) j ∙ ap (λ (m : ℕ). m % 2) (sym (shr-shr x 1 i))

  -- ---- counted

  -- the number of breaks is the number of ones
  pub ones_are : (d p : ℕ) → ones (word f d p) ≡ how_many f d p
  unfolding word how_many up_from those ones
  ones_are zero p = refl
  ones_are (suc d) p =
      ones_step (bit (f p) + 2 * word f d (suc p))
      ∙ ap₂ (λ (a b : ℕ). a + ones b) (low (f p) (word f d (suc p))) (high (f p) (word f d (suc p)))
      ∙ ap (λ (n : ℕ). bit (f p) + n) (ones_are d (suc p))
      ∙ kept (f p)
    where
      kept : (b : Bool) → bit b + length (those f (up_from d (suc p))) ≡ length (keep b p (those f (up_from d (suc p))))
      kept true = omega arith
      kept false = omega arith

  -- those up to bit k stay where the others are shifted out
  pub ones_upto : (k p : ℕ) → k < 64 → ones (word f 64 p * 2 ^ (63 - k) % 2 ^ 64) ≡ how_many f (suc k) p
  ones_upto k p h =
      let e : 64 ≡ suc k + (63 - k) = omega arith in
      ap (λ (i : ℕ). ones (word f 64 p * 2 ^ (63 - k) % 2 ^ i)) e
      ∙ shifted (word f 64 p) (suc k) (63 - k)
      ∙ ap ones (word_low (suc k) 64 p (omega arith))
      ∙ ones_are (suc k) p
    where
      none : ones 0 ≡ 0
      none = let i = ones-le 0 0 (zero-lt-suc 0) in omega arith

      shifted : (x i j : ℕ) → ones (x * 2 ^ j % 2 ^ (i + j)) ≡ ones (x % 2 ^ i)
      shifted x i j =
          ap ones (mod-pow-add (x * 2 ^ j) i j
          ∙ ap₂ (λ (a b : ℕ). a % 2 ^ i * 2 ^ j + b) (shl-shr x j) (mul-mod_left x (2 ^ j)))
          ∙ ones_cat j (x % 2 ^ i) 0 (pow_pos j)
          ∙ (let z = none in omega arith)

  -- ---- looked for

  pub none_are : (d p : ℕ) → word f d p ≡ 0 → those f (up_from d p) ≡ []
  unfolding word up_from those
  none_are zero p h = refl
  none_are (suc d) p h = go (f p) h (λ e. none_are d (suc p) e)
    where
      go : (b : Bool) → bit b + 2 * word f d (suc p) ≡ 0 → (word f d (suc p) ≡ 0 → those f (up_from d (suc p)) ≡ []) → keep b p (those f (up_from d (suc p))) ≡ []
      go true e ih = absurd (omega arith)
      go false e ih = ih (omega arith)

  -- trailing zeros find the first break
  pub first_is : (D d p : ℕ) → d ≤ D → 0 < word f d p → first_of (those f (up_from d p)) ≡ Some (p + count_trailing_zeros D (word f d p))
  unfolding word up_from those count_trailing_zeros
  first_is D zero p h l = absurd (omega arith)
  first_is zero (suc d) p h l = absurd (omega arith)
  first_is (suc D) (suc d) p h l =
      go (f p) l (first_is D d (suc p) (omega arith))
      ∙ ap₂ (λ (a b : ℕ). Some (p + under a (count_trailing_zeros D b))) (sym (low (f p) (word f d (suc p)))) (sym (high (f p) (word f d (suc p))))
    where
      w : ℕ
      w = word f d (suc p)

      go : (b : Bool) → 0 < bit b + 2 * w → (0 < w → first_of (those f (up_from d (suc p))) ≡ Some (suc p + count_trailing_zeros D w))
          → first_of (keep b p (those f (up_from d (suc p)))) ≡ Some (p + under (bit b) (count_trailing_zeros D w))
      go true k ih = let z : p ≡ p + 0 = omega arith in ap Some z
      go false k ih = let z : suc p + count_trailing_zeros D w ≡ p + suc (count_trailing_zeros D w) = omega arith in ih (omega arith) ∙ ap Some z

-- ---- equal tests, equal bits

pub word_same : (f g : ℕ → Bool) (d p : ℕ) → ((x : ℕ) → p ≤ x → x < p + d → g x ≡ f x) → word g d p ≡ word f d p
unfolding word
word_same f g zero p h = refl
word_same f g (suc d) p h =
    ap₂ (λ (b : Bool) (w : ℕ). bit b + 2 * w) (h p (omega arith) (omega arith)) (word_same f g d (suc p) (λ x l k. h x (omega arith) (omega arith)))

pub word_none : (f : ℕ → Bool) (d p : ℕ) → ((x : ℕ) → f x ≡ false) → word f d p ≡ 0
unfolding word
word_none f zero p h = refl
word_none f (suc d) p h = ap₂ (λ (b : Bool) (w : ℕ). bit b + 2 * w) (h p) (word_none f d (suc p) h)

-- ---- one break more: its bit is set

pub word_set : (f g : ℕ → Bool) (e d p : ℕ) → g e ≡ true → ((x : ℕ) → (x ≡ e → ⊥) → g x ≡ f x) → p ≤ e → e < p + d → bit_or (word f d p) (2 ^ (e - p)) ≡ word g d p
unfolding word
word_set f g e zero p y o l h = absurd (omega arith)
word_set f g e (suc d) p y o l h = go (dec_lt p e) (λ m. word_set f g e d (suc p) y o (omega arith) (omega arith))
  where
    n : ℕ
    n = bit (f p) + 2 * word f d (suc p)

    -- the lowest bit, and the others
    halves : (m a b : ℕ) → m / 2 ≡ a → m % 2 ≡ b → bit_or n m ≡ bit_or (word f d (suc p)) a * 2 + max (bit (f p)) b
    halves m a b i j =
        or_step n m
        ∙ (λ k. bit_or (high (f p) (word f d (suc p)) k) (i k) * 2 + max (low (f p) (word f d (suc p)) k) (j k))

    set : (b : Bool) → max (bit b) 1 ≡ 1
    set true = refl
    set false = refl

    go : Dec (p < e) → (p < e → bit_or (word f d (suc p)) (2 ^ (e - suc p)) ≡ word g d (suc p)) → bit_or n (2 ^ (e - p)) ≡ bit (g p) + 2 * word g d (suc p)
    go (yes m) ih =
        let k : e - p ≡ suc (e - suc p) = omega arith in
        let q : 2 ^ (e - p) ≡ 2 ^ (e - suc p) * 2 = ap (λ (i : ℕ). 2 ^ i) k ∙ pow-suc 2 (e - suc p) in
        let r : bit (g p) ≡ bit (f p) = ap bit (o p (λ z. omega arith)) in
        let s = halves (2 ^ (e - p)) (2 ^ (e - suc p)) 0 (omega (arith, q)) (omega (arith, q)) in
        omega (arith, s, ih m, r, max-zero (bit (f p)))
    go (no m) ih =
        let z : p ≡ e = omega arith in
        let r : bit (g p) ≡ 1 = ap bit (ap g z ∙ y) in
        let k : e - p ≡ 0 = omega arith in
        let q : 2 ^ (e - p) ≡ 1 = ap (λ (i : ℕ). 2 ^ i) k in
        let s = halves (2 ^ (e - p)) 0 1 (omega (arith, q)) (omega (arith, q)) in
        let w = word_same f g d (suc p) (λ x u v. o x (λ t. omega arith)) in
        omega (arith, s, or_zero_r (word f d (suc p)), set (f p), r, w)

-- ---- the number with bit k alone

pub one_bit : (k : ℕ) → k < 64 → 1 * 2 ^ k % 2 ^ 64 ≡ 2 ^ k
one_bit k h = shl_exact {a = 1} 1 k 64 (omega arith) (omega arith) ∙ one-mul (2 ^ k)
