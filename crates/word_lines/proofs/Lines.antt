-- The line of a word. Assumes nothing.
use Prim.Native.Nat.{ℕ}
use mathlib.Core.Path.{◌≡◌, sym, ◌∙◌, ap}
use mathlib.Core.Bool.{Bool}
use mathlib.Core.List.{List, [], ◌∷◌, ◌++◌, append-nil, append_assoc}
use borrow.Author.Tests.{eq-eqb, ne_eqb}
use Rattle.sheet_texts.specs.Texts.{decimal}
use Rattle.word_lines.specs.Lines.{class_part, term_line}

pub line_plain : (word : List ℕ) (class : ℕ) → class ≡ 0 → word ++ (10 ∷ []) ≡ term_line word class
unfolding term_line
line_plain word class h =
    ap (λ (l : List ℕ). l ++ (10 ∷ [])) (sym (append-nil word))
    ∙ ap (λ (b : Bool). (word ++ class_part b class) ++ (10 ∷ [])) (sym (eq-eqb class 0 h))

pub line_classed : (word : List ℕ) (class : ℕ) → (class ≡ 0 → ⊥) → ((word ++ (9 ∷ [])) ++ decimal class) ++ (10 ∷ []) ≡ term_line word class
unfolding term_line
line_classed word class h =
    ap (λ (l : List ℕ). l ++ (10 ∷ [])) (append_assoc word (9 ∷ []) (decimal class))
    ∙ ap (λ (b : Bool). (word ++ class_part b class) ++ (10 ∷ [])) (sym (ne_eqb class 0 h))
