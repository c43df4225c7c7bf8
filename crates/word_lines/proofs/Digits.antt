-- A class in decimal, digit by digit. Assumes nothing.
use Prim.Native.Nat.{ℕ, suc, ◌+◌, ◌*◌, ◌-◌, ◌≤◌, ◌<◌}
use native.Mathlib.Omega.{arith}
use native.Mathlib.Numerals.{add-one}
use mathlib.Core.Path.{◌≡◌, refl, sym, ◌∙◌, ap}
use mathlib.Core.List.{List, [], ◌∷◌}
use lib.ListN.{length, get_or, take, drop, drop_of_length-le}
use lib.Seq.{drop-cons}
use borrow.Author.Tests.{le-leb, lt-leb, eq-eqb, ne_eqb}
use Rattle.lists.proofs.Parts.{tail_drop}
use Rattle.word_lines.specs.Lines.{no_class, with_digit, digits_from, number_in, class_behind}

-- ---- one digit more

pub digit_low : (n b : ℕ) → b < 48 → no_class ≡ with_digit n b
unfolding with_digit
digit_low n b h = simp (lt-leb 48 b h)

pub digit_high : (n b : ℕ) → 48 ≤ b → 57 < b → no_class ≡ with_digit n b
unfolding with_digit
digit_high n b l h = simp (le-leb 48 b l, lt-leb b 57 h)

pub digit_over : (n b : ℕ) → 48 ≤ b → b ≤ 57 → 65535 < 10 * n + (b - 48) → no_class ≡ with_digit n b
unfolding with_digit
digit_over n b l k h = simp (le-leb 48 b l, le-leb b 57 k, lt-leb (10 * n + (b - 48)) 65535 h)

pub digit_is : (n b : ℕ) → 48 ≤ b → b ≤ 57 → 10 * n + (b - 48) ≤ 65535 → 10 * n + (b - 48) ≡ with_digit n b
unfolding with_digit
digit_is n b l k h = simp (le-leb 48 b l, le-leb b 57 k, le-leb (10 * n + (b - 48)) 65535 h)

-- ---- all of them

-- the first i digits are n
pub record Digits (text : List ℕ) (n i : ℕ) : Type 0 where
  pub rest : digits_from 0 text ≡ digits_from n (drop i text)

pub digits_none : (text : List ℕ) → Digits text 0 0
digits_none text = record { rest = refl }

digits_step : (n b : ℕ) (bytes : List ℕ) → digits_from n (b ∷ bytes) ≡ digits_from (with_digit n b) bytes
unfolding digits_from
digits_step n b bytes = refl

digits_end : (n : ℕ) → digits_from n [] ≡ n
unfolding digits_from
digits_end n = refl

pub digits_more : {text : List ℕ} {n i m : ℕ} → Digits text n i → i < length text → m ≡ with_digit n (get_or text i 0) → Digits text m (i + 1)
digits_more {text} {n} {i} {m} v k e =
    record {
      rest =
          v.rest ∙ ap (λ (l : List ℕ). digits_from n l) (drop-cons text i 0 k)
          ∙ digits_step n (get_or text i 0) (drop (suc i) text)
          ∙ ap (λ (x : ℕ). digits_from x (drop (suc i) text)) (sym e)
          ∙ ap (λ (j : ℕ). digits_from m (drop j text)) (sym (add-one i));
    }

pub number_none : (text : List ℕ) → length text ≡ 0 → no_class ≡ number_in text
unfolding number_in
number_none text h = simp (eq-eqb (length text) 0 h)

number_some : (text : List ℕ) → (length text ≡ 0 → ⊥) → number_in text ≡ digits_from 0 text
unfolding number_in
number_some text h = simp (ne_eqb (length text) 0 h)

pub digits_done : {text : List ℕ} {n i : ℕ} → Digits text n i → length text ≤ i → (length text ≡ 0 → ⊥) → n ≡ number_in text
digits_done {text} {n} {i} v k h =
    sym (number_some text h ∙ v.rest ∙ ap (λ (l : List ℕ). digits_from n l) (drop_of_length-le text k) ∙ digits_end n)

-- ---- behind a tab

pub class_none : (line : List ℕ) (tab : ℕ) → length line ≤ tab → 0 ≡ class_behind line tab
unfolding class_behind
class_none line tab h = simp (le-leb (length line) tab h)

class_some : (line : List ℕ) (tab : ℕ) → tab < length line → class_behind line tab ≡ number_in (drop (suc tab) line)
unfolding class_behind
class_some line tab h = simp (lt-leb (length line) tab h)

pub class_is : (line : List ℕ) (tab : ℕ) {n : ℕ} → tab < length line → n ≡ number_in (take (length line - (tab + 1)) (drop (tab + 1) line)) → n ≡ class_behind line tab
class_is line tab h e =
    e ∙ ap number_in (tail_drop line (tab + 1)) ∙ ap (λ (j : ℕ). number_in (drop j line)) (add-one tab) ∙ sym (class_some line tab h)
