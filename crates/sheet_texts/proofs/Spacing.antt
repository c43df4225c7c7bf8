-- Ends with single spaces, one after the other. Assumes nothing.
use Prim.Native.Nat.{ℕ, ◌+◌, ◌≤◌, ◌<◌}
use native.Mathlib.Omega.{arith}
use native.Mathlib.Numerals.{add-one}
use mathlib.Core.Path.{◌≡◌, refl, sym, ◌∙◌, ap, subst}
use mathlib.Core.List.{List, [], ◌∷◌, ◌++◌, append-nil, append_assoc}
use lib.ListN.{length, get_or, take}
use lib.Seq.{take-suc, take_all, length-take-le}
use Rattle.refusal.specs.declared.Refusal.{Refusal}
use Rattle.refusal.specs.Numbers.{number_of, detail_of}
use Rattle.sheet_texts.specs.declared.Reply.{Reply}
use Rattle.sheet_texts.specs.declared.Reply.TheVariants.{Refused}
use Rattle.sheet_bytes.specs.Lines.{kept, laid}
use Rattle.sheet_texts.specs.Texts.{decimal, behind_other, spaced, text_of_reply, amount, written}
use Rattle.sheet_texts.proofs.Holding.{Holds, holds_none, holds_first, holds_more, same_text}

behind_more : (es : List ℕ) (e : ℕ) → behind_other (es ++ (e ∷ [])) ≡ (behind_other es ++ (32 ∷ [])) ++ decimal e
behind_more [] e = append-nil (32 ∷ decimal e)
behind_more (x ∷ es) e =
    ap (λ (l : List ℕ). (32 ∷ decimal x) ++ l) (behind_more es e) ∙ sym (append_assoc (32 ∷ decimal x) (behind_other es ++ (32 ∷ [])) (decimal e))
    ∙ ap (λ (l : List ℕ). l ++ decimal e) (sym (append_assoc (32 ∷ decimal x) (behind_other es) (32 ∷ [])))

-- one end more, behind a space
spaced_more : (es : List ℕ) (e : ℕ) → 0 < length es → (spaced es ++ (32 ∷ [])) ++ decimal e ≡ spaced (es ++ (e ∷ []))
spaced_more [] e h = absurd (omega arith)
spaced_more (x ∷ es) e h =
    sym
    (ap (λ (l : List ℕ). decimal x ++ l) (behind_more es e) ∙ sym (append_assoc (decimal x) (behind_other es ++ (32 ∷ [])) (decimal e))
    ∙ ap (λ (l : List ℕ). l ++ decimal e) (sym (append_assoc (decimal x) (behind_other es) (32 ∷ []))))

-- the first i ends are written
pub record Spaced (out₀ row out : List ℕ) (used i : ℕ) : Type 0 where
  pub some : 1 ≤ i
  pub inside : i ≤ length row
  pub text : Holds out₀ (spaced (take i row)) out used

pub spaced_none : (out row : List ℕ) → length row ≡ 0 → Holds out (spaced row) out 0
spaced_none out [] h = holds_none out
spaced_none out (x ∷ row) h = absurd (omega arith)

pub spaced_one : (out row : List ℕ) {out₁ : List ℕ} {used x : ℕ} → (length row ≡ 0 → ⊥) → x ≡ get_or row 0 0 → used ≡ length (kept out 0 (decimal x)) → out₁ ≡ laid (kept out 0 (decimal x)) out
    → Spaced out row out₁ used 1
spaced_one out [] h w e f = absurd (h refl)
spaced_one out (y ∷ row) {out₁} {used} {x} h w e f =
    record {
      some = omega arith;
      inside = omega arith;
      text = same_text (ap decimal w ∙ sym (append-nil (decimal y))) (holds_first out (decimal x) e f);
    }

pub spaced_next : {out₀ row out out₁ out₂ : List ℕ} {used n used₂ i x : ℕ} → Spaced out₀ row out used i → i < length row → n ≡ length (kept out used (32 ∷ [])) → out₁ ≡ laid (kept out used (32 ∷ [])) out
    → x ≡ get_or row i 0 → used₂ ≡ length (kept out₁ n (decimal x)) → out₂ ≡ laid (kept out₁ n (decimal x)) out₁ → Spaced out₀ row out₂ used₂ (i + 1)
spaced_next {out₀} {row} {out} {out₁} {out₂} {used} {n} {used₂} {i} {x} v h e f w g k =
    record {
      some = omega arith;
      inside = omega arith;
      text =
          same_text
          (ap (λ (y : ℕ). (spaced (take i row) ++ (32 ∷ [])) ++ decimal y) w ∙ spaced_more (take i row) (get_or row i 0) (omega (arith, length_front, v.some))
          ∙ ap spaced (sym (take-suc row i 0 h) ∙ ap (λ (j : ℕ). take j row) (sym (add-one i))))
          (holds_more (holds_more v.text (32 ∷ []) e f) (decimal x) g k);
    }
  where
    length_front : length (take i row) ≡ i
    length_front = length-take-le i row v.inside

pub spaced_all : {out₀ row out : List ℕ} {used i : ℕ} → Spaced out₀ row out used i → length row ≤ i → Holds out₀ (spaced row) out used
spaced_all {out₀} {row} {out} {used} {i} v h = subst (λ (l : List ℕ). Holds out₀ (spaced l) out used) (take_all i row h) v.text

-- the text of each kind of reply
pub refusal_text : (r : Refusal) {out out₁ : List ℕ} {used n d : ℕ} → n ≡ number_of r → d ≡ detail_of r → Holds out ((((33 ∷ 32 ∷ []) ++ decimal n) ++ (32 ∷ [])) ++ decimal d) out₁ used
    → Holds out (text_of_reply (Refused r) []) out₁ used
refusal_text r {out} {out₁} {used} {n} {d} e f v =
    same_text
    (ap (λ (k : ℕ). (((33 ∷ 32 ∷ []) ++ decimal k) ++ (32 ∷ [])) ++ decimal d) e ∙ ap (λ (k : ℕ). (((33 ∷ 32 ∷ []) ++ decimal (number_of r)) ++ (32 ∷ [])) ++ decimal k) f)
    v

pub text_by : {reply k : Reply} (ends : List ℕ) {out out₁ : List ℕ} {used : ℕ} → reply ≡ k → Holds out (text_of_reply k ends) out₁ used → Holds out (text_of_reply reply ends) out₁ used
text_by ends e v = same_text (sym (ap (λ (x : Reply). text_of_reply x ends) e)) v

pub ends_text : {row row₁ : List ℕ} {out out₁ : List ℕ} {used : ℕ} → row ≡ row₁ → used ≡ amount (spaced row) out → out₁ ≡ written (spaced row) out → Holds out (spaced row₁) out₁ used
ends_text e f g = same_text (ap spaced e) (record { size = f; is = g })
