-- What the verdict on a claim says of its tokens. Assumes nothing.
use Prim.Native.Nat.{ℕ, zero, suc, ◌≤◌, ◌<◌}
use native.Mathlib.Omega.{arith}
use mathlib.Core.Path.{◌≡◌, refl, sym, ◌∙◌, ap, subst}
use mathlib.Core.Bool.{Bool, true, false, cond, ◌&&◌, ◌||◌}
use mathlib.Core.List.{List, [], ◌∷◌}
use lib.ListN.{length}
use lib.Dec.{ltb, leb, eqb}
use borrow.Author.Tests.{lt-ltb, ltb-true, le-leb, leb-true, eq-eqb, eqb-true}
use Rattle.newmm_rules.specs.Positions.{any, member}
use Rattle.newmm_rules.specs.Words.{Given, size, word_ends}
use Rattle.newmm_rules.specs.NonDictionary.{token_end}
use Rattle.newmm_rules.specs.Tokens.{Token, word, other, Tokens, stop, then}
use Rattle.newmm_rules.specs.Claims.{is_nil, token_right, Verdict, right, wrong, verdict_from}
use Rattle.newmm_rules.proofs.Positions.{member_in, in_member}
use Rattle.newmm_rules.proofs.Tokens.{spans}

-- ---- one token

-- whether it is right, by its tests
abbrev pub all_tests : (rises inside held none span : Bool) → Bool
all_tests rises inside held none span = (rises && inside) && (held || (none && span))

module _ (g : Given) (b e : ℕ) where
  pub tested : {rises inside held none span : Bool} → ltb b e ≡ rises → leb e (size g) ≡ inside → member e (word_ends g b) ≡ held → is_nil (word_ends g b) ≡ none → eqb e (token_end g b) ≡ span
      → token_right g b e ≡ all_tests rises inside held none span
  unfolding token_right
  tested p q r s t = λ i. all_tests (p i) (q i) (r i) (s i) (t i)

  no_cell : (l : List ℕ) → is_nil l ≡ true → l ≡ []
  no_cell [] h = refl
  no_cell (x ∷ l) h = absurd (let z : ◌≡◌ {A = ℕ} 0 1 = cc in omega arith)

  pub right_token : token_right g b e ≡ true → Token g b e
  right_token h = go (ltb b e) (leb e (size g)) (member e (word_ends g b)) (is_nil (word_ends g b)) (eqb e (token_end g b)) refl refl refl refl refl (sym (tested refl refl refl refl refl) ∙ h)
    where
      clash : false ≡ true → Token g b e
      clash q = absurd (let z : ◌≡◌ {A = ℕ} 0 1 = cc in omega arith)

      go : (r i w n s : Bool) → ltb b e ≡ r → leb e (size g) ≡ i → member e (word_ends g b) ≡ w → is_nil (word_ends g b) ≡ n → eqb e (token_end g b) ≡ s → all_tests r i w n s ≡ true → Token g b e
      go false i w n s p q t u v z = clash z
      go true false w n s p q t u v z = clash z
      go true true true n s p q t u v z = word (member_in e (word_ends g b) t)
      go true true false false s p q t u v z = clash z
      go true true false true false p q t u v z = clash z
      go true true false true true p q t u v z = other (no_cell (word_ends g b) u) (omega (arith, ltb-true b e p, leb-true e (size g) q)) (eqb-true e (token_end g b) v)

  or_true : (t : Bool) → (t || true) ≡ true
  or_true true = refl
  or_true false = refl

  pub token_right_holds : Token g b e → token_right g b e ≡ true
  token_right_holds t = go t
    where
      rises : ltb b e ≡ true
      rises = lt-ltb b e (spans t).0

      inside : leb e (size g) ≡ true
      inside = le-leb e (size g) (spans t).1

      go : Token g b e → token_right g b e ≡ true
      go (word m) = tested rises inside (in_member e (word_ends g b) m) refl refl
      go (other n h q) = tested rises inside refl (ap is_nil n) (eq-eqb e (token_end g b) q) ∙ or_true (member e (word_ends g b))

-- ---- a claim

module _ (g : Given) where
  not_right : {k : ℕ} {A : Type 0} → wrong k ≡ right → A
  not_right h = absurd (let z : ◌≡◌ {A = ℕ} 0 1 = cc in omega arith)

  pub tokens_of : (k b : ℕ) (es : List ℕ) → verdict_from g k b es ≡ right → Tokens g b es (size g)
  unfolding verdict_from
  tokens_of k b [] h = go (eqb b (size g)) refl h
    where
      go : (t : Bool) → eqb b (size g) ≡ t → cond t right (wrong k) ≡ right → Tokens g b [] (size g)
      go true e q = ends (eqb-true b (size g) e)
        where
          ends : b ≡ size g → Tokens g b [] (size g)
          ends d = subst (λ (z : ℕ). Tokens g b [] z) d stop
      go false e q = not_right q
  tokens_of k b (e ∷ es) h = go (λ q. tokens_of (suc k) e es q) (token_right g b e) refl h
    where
      go : (verdict_from g (suc k) e es ≡ right → Tokens g e es (size g)) → (t : Bool) → token_right g b e ≡ t → cond t (verdict_from g (suc k) e es) (wrong k) ≡ right → Tokens g b (e ∷ es) (size g)
      go ih true d q = then (right_token g b e d) (ih q)
      go ih false d q = not_right q

  pub of_tokens : (k : ℕ) {b z : ℕ} {es : List ℕ} → Tokens g b es z → z ≡ size g → verdict_from g k b es ≡ right
  unfolding verdict_from
  of_tokens k {b} stop h = ap (λ (t : Bool). cond t right (wrong k)) (eq-eqb b (size g) h)
  of_tokens k {b} (then {e = e} {es = es} t r) h = ap (λ (u : Bool). cond u (verdict_from g (suc k) e es) (wrong k)) (token_right_holds g b e t) ∙ of_tokens (suc k) r h
