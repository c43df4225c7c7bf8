-- The reason of a token, by the tests of its start and its end. Assumes nothing.
use Prim.Native.Nat.{ℕ, ◌-◌, ◌<◌}
use native.Mathlib.Omega.{arith}
use mathlib.Core.Path.{◌≡◌, sym, ◌∙◌, ap, subst}
use mathlib.Core.Bool.{Bool, true, false}
use mathlib.Core.List.Memᴰ
use mathlib.Core.List.{List, []}
use lib.ListN.{length, take, drop}
use lib.Dec.{ltb}
use borrow.Author.Tests.{ltb-true, ltb-false}
use Rattle.lists.proofs.Parts.{tail_drop}
use Rattle.newmm_rules.specs.Positions.{In, member}
use Rattle.newmm_rules.specs.NonThai.{non_thai}
use Rattle.newmm_rules.specs.Words.{Given, size, word_ends}
use Rattle.newmm_rules.specs.NonDictionary.{non_thai_at, starts_word, skip_end, token_end}
use Rattle.newmm_rules.specs.Tokens.{Token, word, other}
use Rattle.newmm_rules.specs.Claims.{is_nil}
use Rattle.newmm_rules.proofs.Positions.{member_in}
use Rattle.newmm_rules.proofs.Tokens as tokens
use Rattle.newmm_reason_rules.specs.Reasons.{reason_at}
use Rattle.newmm_reason_rules.proofs.Reasons.{reason_word, reason_run, skips, reason_to_word, reason_to_run, reason_to_end}
use Rattle.newmm_reason_rules.proofs.Why.{not_none}
use Rattle.newmm_word_step.specs.inner.Places.{Place}
use Rattle.newmm_word_step.specs.inner.Walks.{given_by}
use Rattle.newmm_words_at.specs.declared.Found.{Found}
use Rattle.newmm_words_at.specs.declared.Found.TheVariants.{Here, Elsewhere, Nowhere}
use Rattle.newmm_words_at.specs.inner.Finding.{FoundIs}

-- ---- a word starts there

module _ (g : Given) (b e : ℕ) {f : Found} (is : FoundIs f g b e) where
  pub word_here : f ≡ Here → 1 ≡ reason_at g b
  word_here q = sym (reason_word g b (not_none (word_ends g b) (member_in e (word_ends g b) (subst (λ (x : Found). FoundIs x g b e) q is))))

  pub word_elsewhere : f ≡ Elsewhere → 1 ≡ reason_at g b
  word_elsewhere q = let n : FoundIs Elsewhere g b e = subst (λ (x : Found). FoundIs x g b e) q is in sym (reason_word g b n.0)

  pub no_word : f ≡ Nowhere → word_ends g b ≡ []
  no_word q = subst (λ (x : Found). FoundIs x g b e) q is

-- ---- none does

module _ (text pool : List ℕ) {b e : ℕ} (token : Token (given_by text pool) b e) (none : word_ends (given_by text pool) b ≡ []) where
  abbrev g : Given
  g = given_by text pool

  other_end : e ≡ token_end g b
  other_end = go token
    where
      go : Token g b e → e ≡ token_end g b
      go (word m) = absurd (Memᴰ.not-nil (subst (In e) none m))
      go (other n h q) = q

  module _ {r : Bool} (m : r ≡ ltb 0 (non_thai (take (length text - b) (drop b text)))) where
    at_b : r ≡ ltb 0 (non_thai_at g b)
    at_b = m ∙ ap (λ (l : List ℕ). ltb 0 (non_thai l)) (tail_drop text b)

    pub run_here : r ≡ true → 2 ≡ reason_at g b
    run_here t = sym (reason_run g b none (λ z. omega (arith, ltb-true 0 (non_thai_at g b) (sym at_b ∙ t))))

    module _ (no_run : r ≡ false) where
      zero_here : non_thai_at g b ≡ 0
      zero_here = omega (arith, ltb-false 0 (non_thai_at g b) (sym at_b ∙ no_run))

      at_skip : e ≡ skip_end g b
      at_skip = other_end ∙ skips g b none zero_here

      pub to_end : e ≡ length text → 5 ≡ reason_at g b
      to_end h = sym (reason_to_end g b none zero_here at_skip h)

      module _ (more : e ≡ length text → ⊥) where
        below : e < length text
        below = omega (arith, (tokens.spans token).1)

        pub to_word : {s : Bool} → s ≡ starts_word g e → s ≡ true → 3 ≡ reason_at g b
        to_word h t = sym (reason_to_word g b none zero_here at_skip below (sym h ∙ t))

        pub to_run : {s : Bool} → s ≡ starts_word g e → s ≡ false → 4 ≡ reason_at g b
        to_run h t = sym (reason_to_run g b none zero_here at_skip below (sym h ∙ t))

-- the token's end is a place of the text
pub place_behind : {text pool flags : List ℕ} {b e : ℕ} → Place text pool flags b → Token (given_by text pool) b e → (e ≡ length text → ⊥) → Place text pool flags e
place_behind p t n = record { inside = omega (arith, (tokens.spans t).1); root_is = p.root_is; flags_are = p.flags_are }
