-- Bytes that are added behind the used ones of a row, part by part. Assumes nothing.
use Prim.Native.Nat.{ℕ, ◌≤◌}
use native.Mathlib.Omega.{arith}
use mathlib.Core.Path.{◌≡◌, sym, ◌∙◌, ap, subst}
use mathlib.Core.List.{List, [], ◌++◌, append_assoc}
use lib.ListN.{length, take, drop, length-append, length-take}
use lib.Seq.{take_all, take_at}
use Rattle.sheet_bytes.specs.Lines.{kept, laid}
use Rattle.sheet_texts.specs.Texts.{written, amount}
use Rattle.sheet_texts.proofs.Holding.{behind, length_laid, cut_twice}

pub record Added (row : List ℕ) (used : ℕ) (part row₁ : List ℕ) (used₁ : ℕ) : Type 0 where
  pub size : used₁ ≡ length (kept row used part)
  pub is : row₁ ≡ laid (kept row used part) row

pub added : (row : List ℕ) (used : ℕ) (part : List ℕ) {row₁ : List ℕ} {used₁ : ℕ} → used₁ ≡ length (kept row used part) → row₁ ≡ laid (kept row used part) row → Added row used part row₁ used₁
added row used part e f = record { size = e; is = f }

pub added_none : (row : List ℕ) → Added row 0 [] row 0
added_none row = record { size = sym (ap length nothing); is = sym (ap (λ (l : List ℕ). laid l row) nothing) }
  where
    nothing : take {A = ℕ} (length row) [] ≡ []
    nothing = take_all (length row) [] (omega arith)

module _ {row a row₁ : List ℕ} {used used₁ : ℕ} (v : Added row used a row₁ used₁) where
  front : List ℕ
  front = kept row used a

  short : length front ≤ length row
  unfolding front
  short = omega (arith, length-take (length row) (take used row ++ a))

  pub added_length : length row₁ ≡ length row
  unfolding front
  added_length = ap length v.is ∙ length_laid front row short

  used_front : take used₁ row₁ ≡ front
  unfolding front
  used_front = ap (take used₁) v.is ∙ take_at front (drop (length front) row) used₁ (sym v.size)

  kept_is : (b : List ℕ) → kept row₁ used₁ b ≡ kept row used (a ++ b)
  unfolding front
  kept_is b =
      ap (λ (l : List ℕ). take (length row₁) (l ++ b)) used_front ∙ ap (λ (k : ℕ). take k (front ++ b)) added_length ∙ cut_twice (length row) (take used row ++ a) b
      ∙ ap (take (length row)) (append_assoc (take used row) a b)

  grown : (b : List ℕ) → length front ≤ length (kept row used (a ++ b))
  unfolding front
  grown b =
      omega
      (arith, length-take (length row) (take used row ++ a), length-take (length row) (take used row ++ (a ++ b)), length-append (take used row) a, length-append (take used row) (a ++ b), length-append a b)

  -- a part more, behind those before it
  pub added_more : (b : List ℕ) {row₂ : List ℕ} {used₂ : ℕ} → used₂ ≡ length (kept row₁ used₁ b) → row₂ ≡ laid (kept row₁ used₁ b) row₁ → Added row used (a ++ b) row₂ used₂
  unfolding front
  added_more b e f =
      record {
        size = e ∙ ap length (kept_is b);
        is =
            f ∙ ap (λ (l : List ℕ). laid l row₁) (kept_is b)
            ∙ ap (λ (l : List ℕ). kept row used (a ++ b) ++ l) (ap (drop (length (kept row used (a ++ b)))) v.is ∙ behind front row (length (kept row used (a ++ b))) (grown b));
      }

pub added_same : {row part part₁ row₁ : List ℕ} {used used₁ : ℕ} → part ≡ part₁ → Added row used part row₁ used₁ → Added row used part₁ row₁ used₁
added_same {row} {part} {part₁} {row₁} {used} {used₁} e v = subst (λ (p : List ℕ). Added row used p row₁ used₁) e v

-- as a contract says it
pub both : {row part row₁ : List ℕ} {used used₁ : ℕ} → Added row used part row₁ used₁ → (used₁ ≡ length (kept row used part)) × (row₁ ≡ laid (kept row used part) row)
both v = (v.size, v.is)

pub all_added : {row text row₁ : List ℕ} {used₁ : ℕ} → Added row 0 text row₁ used₁ → (used₁ ≡ amount text row) × (row₁ ≡ written text row)
all_added v = (v.size, v.is)
