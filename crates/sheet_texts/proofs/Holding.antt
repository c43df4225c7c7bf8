-- A text at the front of a row, and what is added to it. Assumes nothing.
use Prim.Native.Nat.{ℕ, ◌+◌, ◌-◌, ◌≤◌}
use native.Mathlib.Omega.{arith}
use native.Mathlib.Decide.{dec_lt}
use mathlib.Core.Path.{◌≡◌, sym, ◌∙◌, ap, subst}
use mathlib.Core.List.{List, [], ◌++◌}
use lib.ListN.{length, take, drop, length-append, length-take, length-drop}
use lib.Seq.{take_all, take_at, take-append-le, drop-append-add, drop-drop, length-take-le}
use Rattle.sheet_bytes.specs.Lines.{kept, laid}
use Rattle.sheet_texts.specs.Texts.{written, amount}

-- `used` bytes of the row are those of the text that it has room for
pub record Holds (row₀ text row : List ℕ) (used : ℕ) : Type 0 where
  pub size : used ≡ amount text row₀
  pub is : row ≡ written text row₀

pub holds_none : (row : List ℕ) → Holds row [] row 0
holds_none row = record { size = refl_size; is = refl_row }
  where
    nothing : take {A = ℕ} (length row) [] ≡ []
    nothing = take_all (length row) [] (omega arith)

    refl_size : 0 ≡ amount [] row
    refl_size = sym (ap length nothing)

    refl_row : row ≡ written [] row
    refl_row = sym (ap (λ (l : List ℕ). laid l row) nothing)

-- what is behind a text in a row is behind it once it is longer
pub behind : (a row : List ℕ) (k : ℕ) → length a ≤ k → drop k (a ++ drop (length a) row) ≡ drop k row
behind a row k h =
    let e : k ≡ length a + (k - length a) = omega arith in
    ap (λ (i : ℕ). drop i (a ++ drop (length a) row)) e ∙ drop-append-add a (drop (length a) row) (k - length a) ∙ drop-drop (k - length a) (length a) row ∙ ap (λ (i : ℕ). drop i row) (sym e)

pub length_laid : (a row : List ℕ) → length a ≤ length row → length (laid a row) ≡ length row
length_laid a row h = omega (arith, length-append a (drop (length a) row), length-drop (length a) row)

pub cut_twice : (n : ℕ) (a b : List ℕ) → take n (take n a ++ b) ≡ take n (a ++ b)
cut_twice n a b =
    elim (dec_lt n (length a)) [
      | yes l ↦ take_at (take n a) b n (length-take-le n a (omega arith)) ∙ sym (take-append-le n a b (omega arith))
      | no m ↦ ap (λ (l : List ℕ). take n (l ++ b)) (take_all n a (omega arith))
    ]

module _ {row₀ text row : List ℕ} {used : ℕ} (v : Holds row₀ text row used) where
  front : List ℕ
  front = take (length row₀) text

  short : length front ≤ length row₀
  unfolding front
  short = omega (arith, length-take (length row₀) text)

  pub same : length row ≡ length row₀
  unfolding front
  same = ap length v.is ∙ length_laid front row₀ short

  used_front : take used row ≡ front
  unfolding front
  used_front = ap (take used) v.is ∙ take_at front (drop (length front) row₀) used (sym v.size)

  kept_is : (part : List ℕ) → kept row used part ≡ take (length row₀) (text ++ part)
  unfolding front
  kept_is part = ap (λ (l : List ℕ). take (length row) (l ++ part)) used_front ∙ ap (λ (k : ℕ). take k (front ++ part)) same ∙ cut_twice (length row₀) text part

  grown : (part : List ℕ) → length front ≤ length (take (length row₀) (text ++ part))
  unfolding front
  grown part = omega (arith, length-take (length row₀) text, length-take (length row₀) (text ++ part), length-append text part)

  pub holds_more : (part : List ℕ) {row₁ : List ℕ} {used₁ : ℕ} → used₁ ≡ length (kept row used part) → row₁ ≡ laid (kept row used part) row → Holds row₀ (text ++ part) row₁ used₁
  unfolding front
  holds_more part e f =
      record {
        size = e ∙ ap length (kept_is part);
        is =
            f ∙ ap (λ (l : List ℕ). laid l row) (kept_is part)
            ∙ ap (λ (l : List ℕ). take (length row₀) (text ++ part) ++ l)
            (ap (drop (length (take (length row₀) (text ++ part)))) v.is ∙ behind front row₀ (length (take (length row₀) (text ++ part))) (grown part));
      }

-- from the start
pub holds_first : (row part : List ℕ) {row₁ : List ℕ} {used₁ : ℕ} → used₁ ≡ length (kept row 0 part) → row₁ ≡ laid (kept row 0 part) row → Holds row part row₁ used₁
holds_first row part e f = holds_more (holds_none row) part e f

-- as a contract says it
pub both : {row₀ text row : List ℕ} {used : ℕ} → Holds row₀ text row used → (used ≡ amount text row₀) × (row ≡ written text row₀)
both v = (v.size, v.is)

pub same_text : {row₀ text text₁ row : List ℕ} {used : ℕ} → text ≡ text₁ → Holds row₀ text row used → Holds row₀ text₁ row used
same_text {row₀} {text} {text₁} {row} {used} e v = subst (λ (t : List ℕ). Holds row₀ t row used) e v
