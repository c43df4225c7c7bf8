-- A pool of words that were all added without a class: it is what its words are. Assumes nothing.
use Prim.Native.Nat.{ℕ}
use mathlib.Core.Path.{◌≡◌, refl, sym, ◌∙◌, ap}
use mathlib.Core.Bool.{Bool, true, false, cond}
use mathlib.Core.List.{List}
use mathlib.Core.Option.{some}
use mathlib.Core.Option as option
use Rattle.trie_pool.specs.Meaning.{Words, Terms, is_some, words_in, meaning, terms, with_term, without_term, report_term, with_word, without_word, report, classless}
use Rattle.trie_pool.proofs.Sets.{classless_with, classless_without, classless_report}
use Rattle.trie_pool.proofs.Terms.{means_of}
use Rattle.trie_check.specs.Refusals.{held_terms}
use Rattle.trie_char_answers.specs.Answers.{terms_of}

same_words : (f : Words) (v : List ℕ) → words_in (classless f) v ≡ f v
same_words f v = go (f v)
  where
    go : (b : Bool) → is_some (cond b (some 0) option.none) ≡ b
    go true = refl
    go false = refl

module _ (pool : List ℕ) (f : Words) (m : terms pool ≡ some (classless f)) where
  pub means_words : meaning pool ≡ some f
  means_words = means_of pool (classless f) m ∙ (λ i. some (λ (v : List ℕ). same_words f v i))

  pub terms_are : terms_of pool ≡ classless f
  terms_are = ap held_terms m

  -- one word more
  pub more_are : (w : List ℕ) → with_term w 0 (terms_of pool) ≡ classless (with_word w f)
  more_are w = ap (with_term w 0) terms_are ∙ (λ i v. classless_with w f v i)

  pub more_told : (w : List ℕ) → report_term w (terms_of pool) (with_term w 0 (terms_of pool)) ≡ report w f (with_word w f)
  more_told w = (λ i. report_term w (terms_are i) (more_are w i)) ∙ classless_report w f (with_word w f)

  -- one word less
  pub less_are : (w : List ℕ) → without_term w (terms_of pool) ≡ classless (without_word w f)
  less_are w = ap (without_term w) terms_are ∙ (λ i v. classless_without w f v i)

  pub less_told : (w : List ℕ) → report_term w (terms_of pool) (without_term w (terms_of pool)) ≡ report w f (without_word w f)
  less_told w = (λ i. report_term w (terms_are i) (less_are w i)) ∙ classless_report w f (without_word w f)
