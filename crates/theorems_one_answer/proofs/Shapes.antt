-- The shapes of our contracts, each with one answer. Assumes nothing.
use Rattle.std.specs.Prelude.{Result}
use Rattle.refusal.specs.declared.Refusal.{Refusal}
use Prim.Native.Nat.{ℕ}
use mathlib.Core.Path.{◌≡◌, sym, ◌∙◌, ap, subst}
use mathlib.Core.List.{List}
use lib.ListN.{length}
use Rattle.refusal.specs.Answers.{output}
use Rattle.trie_pool.specs.Meaning.{Terms}
use Rattle.trie_char_answers.specs.Changes.{After}
use Rattle.trie_char_answers.proofs.One.{one_after}

-- an answer by an equation
pub answer : {A : Type 0} {x y a : A} → x ≡ a → y ≡ a → x ≡ y
answer p q = p ∙ sym q

pub both : {A R : Type 0} {x y : A} {u v : R} → x ≡ y → u ≡ v → ◌≡◌ {A = A × R} (x, u) (y, v)
both {A} {R} {x} {y} {u} {v} same row = subst (λ (z : A). ◌≡◌ {A = A × R} (x, u) (z, v)) same (ap (λ (w : R). (x, w)) row)

-- an answer by an equation, and the output by the answer
pub answer_and_output : {x y a : Result ℕ Refusal} {u v : List ℕ} (new old : List ℕ) → x ≡ a → u ≡ output x new old → y ≡ a → v ≡ output y new old → ◌≡◌ {A = Result ℕ Refusal × List ℕ} (x, u) (y, v)
answer_and_output new old p c q d = both (p ∙ sym q) (c ∙ ap (λ (r : Result ℕ Refusal). output r new old) (p ∙ sym q) ∙ sym d)

-- an answer by an equation, and what became of the pool by the answer; a lent row keeps its length
pub answer_and_pool : {x y a : Result ℕ Refusal} (u v old : List ℕ) (held : Terms) → x ≡ a → After x old u held → y ≡ a → After y old v held
    → ◌≡◌ {A = Result ℕ Refusal × List ℕ} (x, u) (y, v)
answer_and_pool {x} {y} {a} u v old held p c q d =
    both (p ∙ sym q) (one_after a old u v held (subst (λ (r : Result ℕ Refusal). After r old u held) p c) (subst (λ (r : Result ℕ Refusal). After r old v held) q d))

-- an answer and two rows, each by an equation
pub answer_and_two_rows : {A R S : Type 0} {x y a : A} {u v f : R} {k l g : S} → x ≡ a → u ≡ f → k ≡ g → y ≡ a → v ≡ f → l ≡ g → ◌≡◌ {A = A × R × S} (x, u, k) (y, v, l)
answer_and_two_rows {A} {R} {S} {x} {y} {a} {u} {v} {f} {k} {l} {g} p c e q d h =
    subst (λ (z : A). ◌≡◌ {A = A × R × S} (x, u, k) (z, v, l)) (p ∙ sym q)
    (subst (λ (w : R). ◌≡◌ {A = A × R × S} (x, u, k) (x, w, l)) (c ∙ sym d) (ap (λ (m : S). (x, u, m)) (e ∙ sym h)))
