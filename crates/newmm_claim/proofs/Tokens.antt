-- Whether a token is right, by what was found of it. Assumes nothing.
use Prim.Native.Nat.{ℕ, ◌<◌}
use mathlib.Core.Path.{◌≡◌, refl, sym, ◌∙◌, ap, subst}
use mathlib.Core.Bool.{Bool, true, false, ◌&&◌}
use mathlib.Core.List.{[]}
use lib.Dec.{ltb, leb, eqb}
use borrow.Author.Tests.{eqb-true}
use Rattle.newmm_rules.specs.Positions.{any, member}
use Rattle.newmm_rules.specs.Words.{Given, size, word_ends}
use Rattle.newmm_rules.specs.NonDictionary.{token_end}
use Rattle.newmm_rules.specs.Tokens.{word, other}
use Rattle.newmm_rules.specs.Claims.{is_nil, token_right}
use Rattle.newmm_rules.proofs.Positions.{member_in}
use Rattle.newmm_rules.proofs.Claims.{tested, token_right_holds}
use Rattle.newmm_words_at.specs.declared.Found.{Found}
use Rattle.newmm_words_at.specs.declared.Found.TheVariants.{Here, Elsewhere, Nowhere}
use Rattle.newmm_words_at.specs.inner.Finding.{FoundIs}

module _ (g : Given) (b e : ℕ) where
  no_test : (a : Bool) → (a && false) ≡ false
  no_test true = refl
  no_test false = refl

  -- words start at b, and none ends at e
  not_found : member e (word_ends g b) ≡ false → is_nil (word_ends g b) ≡ false → token_right g b e ≡ false
  not_found m n = tested g b e refl refl m n refl ∙ no_test (ltb b e && leb e (size g))

  -- no word ends at e, nor does the span of the non-dictionary rule
  no_span : member e (word_ends g b) ≡ false → eqb e (token_end g b) ≡ false → token_right g b e ≡ false
  no_span m t =
      tested g b e refl refl m refl t
      ∙ ap (λ (u : Bool). (ltb b e && leb e (size g)) && u) (no_test (is_nil (word_ends g b))) ∙ no_test (ltb b e && leb e (size g))

module _ (g : Given) (b e : ℕ) {f : Found} (is : FoundIs f g b e) where
  pub word_here : f ≡ Here → true ≡ token_right g b e
  word_here q = sym (token_right_holds g b e (word (member_in e (word_ends g b) (subst (λ (x : Found). FoundIs x g b e) q is))))

  pub word_elsewhere : f ≡ Elsewhere → false ≡ token_right g b e
  word_elsewhere q =
      let n : FoundIs Elsewhere g b e = subst (λ (x : Found). FoundIs x g b e) q is in
      sym (not_found g b e n.1 n.0)

  -- no word starts there: the span decides
  pub no_word : {t : ℕ} → b < size g → f ≡ Nowhere → t ≡ token_end g b → eqb e t ≡ token_right g b e
  unfolding any
  no_word {t} inside q h = go (eqb e t) refl
    where
      none : word_ends g b ≡ []
      none = subst (λ (x : Found). FoundIs x g b e) q is

      go : (r : Bool) → eqb e t ≡ r → r ≡ token_right g b e
      go true p = sym (token_right_holds g b e (other none inside (eqb-true e t p ∙ h)))
      go false p = sym (no_span g b e (ap (member e) none) (ap (λ (k : ℕ). eqb e k) (sym h) ∙ p))
