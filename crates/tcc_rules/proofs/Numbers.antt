-- The numbers of the alternatives are 1 to 29, and the first alternative that matches is the one
-- that `winner` names. Assumes nothing.
use Prim.Native.Nat.{ℕ, zero, suc, ◌+◌, ◌≤◌, ◌<◌}
use native.Mathlib.Omega.{arith}
use mathlib.Core.Path.{◌≡◌, refl, sym, ◌∙◌, ap}
use mathlib.Core.Bool.{Bool, true, false, cond, ◌&&◌}
use mathlib.Core.Logic.{◌⊎◌, inl, inr}
use mathlib.Core.List.{List, [], ◌∷◌}
use lib.Dec.{T, ltb, eqb}
use borrow.Author.Tests.{lt-ltb, eqb-true, eq-eqb, ne_eqb}
use Rattle.tcc_rules.specs.Patterns.{Pattern, fail, either, Match, none, upto, or_else, match, is_match, Alternative, pattern, first_of, winner}
use Rattle.tcc_rules.specs.Rules.{alternatives}
use Rattle.tcc_rules.specs.Numbers.{Numbered, with_number, MatchIfWinner, MatchOfWinner}
use Rattle.tcc_rules.proofs.Known.{T_left, T_right}

pub numbered : Numbered
numbered = refl

-- the numbers are k, k + 1, and so on
abbrev numbered_from : ℕ → List Alternative → Bool
numbered_from k [] = true
numbered_from k (a ∷ rest) = eqb a.number k && numbered_from (suc k) rest

true_of : (b : Bool) → T b → b ≡ true
true_of true t = refl
true_of false t = absurd t

module _ (text : List ℕ) (p : ℕ) where
  -- 0, or k or more
  winner_is : (k : ℕ) (as' : List Alternative) → T (numbered_from k as') → (winner as' text p ≡ 0) ⊎ (k ≤ winner as' text p)
  unfolding winner
  winner_is k [] t = inl refl
  winner_is k (a ∷ rest) t = go (winner_is (suc k) rest (T_right (eqb a.number k) (numbered_from (suc k) rest) t)) (is_match (match (pattern a) text p))
    where
      number_is : a.number ≡ k
      number_is = eqb-true a.number k (true_of (eqb a.number k) (T_left (eqb a.number k) (numbered_from (suc k) rest) t))

      go : (winner rest text p ≡ 0) ⊎ (suc k ≤ winner rest text p) → (b : Bool) → (cond b a.number (winner rest text p) ≡ 0) ⊎ (k ≤ cond b a.number (winner rest text p))
      go ih true = inr (omega (arith, number_is))
      go (inl e) false = inl e
      go (inr l) false = inr (omega arith)

  if_winner : (k : ℕ) (as' : List Alternative) → 0 < k → T (numbered_from k as') → is_match (match (first_of as') text p) ≡ ltb 0 (winner as' text p)
  unfolding match winner
  if_winner k [] h t = refl
  if_winner k (a ∷ rest) h t = go (if_winner (suc k) rest (omega arith) (T_right (eqb a.number k) (numbered_from (suc k) rest) t)) (match (pattern a) text p)
    where
      number_is : a.number ≡ k
      number_is = eqb-true a.number k (true_of (eqb a.number k) (T_left (eqb a.number k) (numbered_from (suc k) rest) t))

      go : is_match (match (first_of rest) text p) ≡ ltb 0 (winner rest text p) → (m : Match)
          → is_match (or_else m (match (first_of rest) text p)) ≡ ltb 0 (cond (is_match m) a.number (winner rest text p))
      go ih none = ih
      go ih (upto e) = sym (lt-ltb 0 a.number (omega (arith, number_is)))

  of_winner : (k : ℕ) (as' : List Alternative) → 0 < k → T (numbered_from k as') → match (first_of as') text p ≡ match (with_number (winner as' text p) as') text p
  unfolding match winner with_number
  of_winner k [] h t = refl
  of_winner k (a ∷ rest) h t =
      go (of_winner (suc k) rest (omega arith) (T_right (eqb a.number k) (numbered_from (suc k) rest) t)) (winner_is (suc k) rest (T_right (eqb a.number k) (numbered_from (suc k) rest) t))
      (match (pattern a) text p) refl
    where
      number_is : a.number ≡ k
      number_is = eqb-true a.number k (true_of (eqb a.number k) (T_left (eqb a.number k) (numbered_from (suc k) rest) t))

      other : (winner rest text p ≡ 0) ⊎ (suc k ≤ winner rest text p) → a.number ≡ winner rest text p → ⊥
      other (inl e) q = omega (arith, number_is)
      other (inr l) q = omega (arith, number_is)

      go : match (first_of rest) text p ≡ match (with_number (winner rest text p) rest) text p → (winner rest text p ≡ 0) ⊎ (suc k ≤ winner rest text p) → (m : Match) → match (pattern a) text p ≡ m
          → or_else m (match (first_of rest) text p) ≡ match (cond (eqb a.number (cond (is_match m) a.number (winner rest text p))) (pattern a) (with_number (cond (is_match m) a.number (winner rest text p)) rest)) text p
      go ih w none e = ih ∙ sym (ap (λ (b : Bool). match (cond b (pattern a) (with_number (winner rest text p) rest)) text p) (ne_eqb a.number (winner rest text p) (other w)))
      go ih w (upto q) e = sym e ∙ sym (ap (λ (b : Bool). match (cond b (pattern a) (with_number a.number rest)) text p) (eq-eqb a.number a.number refl))

pub match_if_winner : MatchIfWinner
match_if_winner text p = if_winner text p 1 alternatives (omega arith) tt

pub match_of_winner : MatchOfWinner
match_of_winner text p = of_winner text p 1 alternatives (omega arith) tt
