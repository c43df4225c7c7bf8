-- Whose matches are ever made shorter. That no text has a match of one pattern, and within it one
-- of another, is a test on the two patterns. Assumes nothing.
use Prim.Native.Nat.{ℕ, ◌+◌, ◌-◌, ◌≤◌, ◌<◌}
use native.Mathlib.Omega.{arith}
use mathlib.Core.Path.{◌≡◌, refl, sym, ◌∙◌, ap}
use mathlib.Core.Bool.{Bool, true, false, cond, ◌&&◌, ◌||◌}
use mathlib.Core.Logic.{◌⊎◌, inl, inr}
use mathlib.Core.List.{List, [], ◌∷◌}
use lib.ListN.{length, get_or, take, length-take}
use lib.Seq.{get_or-take}
use lib.Dec.{T, eqb}
use borrow.Author.Tests.{eqb-true}
use Rattle.tcc_rules.specs.Patterns.{Range, holds, holds_at, Pattern, end, fail, then, either, Match, none, upto, or_else, match, is_match, Alternative, pattern, first_of, winner}
use Rattle.tcc_rules.specs.Rules.{alternatives, lookahead}
use Rattle.tcc_rules.specs.Clusters.{ended, cluster_end}
use Rattle.tcc_rules.proofs.Known.{T_left, T_right, T_or, T_true, not_both, ruled_out, ruled_out_not_held, at_inside}
use Rattle.theorems_winners.specs.Winning.{OnlySixAndSeven, LastTwo}
use Rattle.tcc_engine.proofs.Classes.{only_there}
use Rattle.tcc_engine.proofs.Telling.{differ}
use Rattle.theorems_winners.proofs.Never.{never_win}

-- each way through the pattern takes a character
abbrev needs_one : Pattern → Bool
needs_one end = false
needs_one fail = true
needs_one (then cl r) = true
needs_one (either a b) = needs_one a && needs_one b

-- a character of the class clashes with the pattern's first, or what follows them does
abbrev clash_then : List Range → (Pattern → Bool) → Pattern → Bool
clash_then cl rest end = false
clash_then cl rest fail = true
clash_then cl rest (then dl s) = ruled_out cl [] dl || rest s
clash_then cl rest (either a b) = clash_then cl rest a && clash_then cl rest b

-- no text has a match of the first, and within it one of the second
abbrev clash : Pattern → Pattern → Bool
clash end b = needs_one b
clash fail b = true
clash (then cl r) b = clash_then cl (λ (s : Pattern). clash r s) b
clash (either a c) b = clash a b && clash c b

-- what a match of a choice says
one_of : {P : Type 0} {e : ℕ} (m n : Match) → or_else m n ≡ upto e → (m ≡ upto e → P) → (n ≡ upto e → P) → P
one_of none n h f g = g h
one_of (upto d) n h f g = f h

-- and of a character and the rest
then_both : {P : Type 0} {e : ℕ} (b : Bool) (m : Match) → cond b m none ≡ upto e → (b ≡ true → m ≡ upto e → P) → P
then_both true m h f = f refl h
then_both false m h f = differ h

module _ (text : List ℕ) (d : ℕ) where
  none_left : (b : Pattern) (p : ℕ) → T (needs_one b) → match b (take p text) p ≡ upto d → ⊥
  unfolding match
  none_left end p t h = t
  none_left fail p t h = differ h
  none_left (then dl s) p t h =
      then_both (holds_at dl (take p text) p) (match s (take p text) (p + 1)) h
      (λ q k. let l = only_there dl (take p text) p (sym q) refl in omega (arith, length-take p text))
  none_left (either a b) p t h =
      one_of (match a (take p text) p) (match b (take p text) p) h (λ k. none_left a p (T_left (needs_one a) (needs_one b) t) k)
      (λ k. none_left b p (T_right (needs_one a) (needs_one b) t) k)

  module _ (e : ℕ) where
    -- a character is in two classes
    in_both : (cl dl : List Range) (p : ℕ) → T (ruled_out cl [] dl) → holds_at cl text p ≡ true → holds_at dl (take e text) p ≡ true → ⊥
    in_both cl dl p t h k =
        let l = only_there dl (take e text) p (sym k) refl in
        let i : p < e = omega (arith, length-take e text) in
        let j : p < length text = omega (arith, length-take e text) in
        let x : holds cl (get_or text p 0) ≡ true = sym (at_inside cl text p j) ∙ h in
        let y : holds dl (get_or text p 0) ≡ true = ap (holds dl) (sym (get_or-take e text p 0 i)) ∙ sym (at_inside dl (take e text) p l) ∙ k in
        not_both y (ruled_out_not_held (get_or text p 0) cl [] dl t x refl)

    first_clash : (cl : List Range) (rest : Pattern → Bool) (b : Pattern) (p : ℕ) → T (clash_then cl rest b) → holds_at cl text p ≡ true
        → ((s : Pattern) → T (rest s) → match s (take e text) (p + 1) ≡ upto d → ⊥) → match b (take e text) p ≡ upto d → ⊥
    unfolding match
    first_clash cl rest end p t h ih k = t
    first_clash cl rest fail p t h ih k = differ k
    first_clash cl rest (then dl s) p t h ih k =
        then_both (holds_at dl (take e text) p) (match s (take e text) (p + 1)) k
        (λ q m. T_or (ruled_out cl [] dl) (rest s) t (λ u. in_both cl dl p u h q) (λ u. ih s u m))
    first_clash cl rest (either a b) p t h ih k =
        one_of (match a (take e text) p) (match b (take e text) p) k
        (λ m. first_clash cl rest a p (T_left (clash_then cl rest a) (clash_then cl rest b) t) h ih m)
        (λ m. first_clash cl rest b p (T_right (clash_then cl rest a) (clash_then cl rest b) t) h ih m)

    clashes : (a b : Pattern) (p : ℕ) → T (clash a b) → match a text p ≡ upto e → match b (take e text) p ≡ upto d → ⊥
    unfolding match
    clashes end b p t h k =
        let z : p ≡ e = cc in
        none_left b p t (ap (λ (q : ℕ). match b (take q text) p) z ∙ k)
    clashes fail b p t h k = differ h
    clashes (then cl r) b p t h k =
        then_both (holds_at cl text p) (match r text (p + 1)) h
        (λ q m. first_clash cl (λ (s : Pattern). clash r s) b p t q (λ s u l. clashes r s (p + 1) u m l) k)
    clashes (either a c) b p t h k =
        one_of (match a text p) (match c text p) h (λ m. clashes a b p (T_left (clash a b) (clash c b) t) m k)
        (λ m. clashes c b p (T_right (clash a b) (clash c b) t) m k)

-- ---- the alternatives

-- those that are looked at by other means
abbrev left_out : ℕ → Bool
left_out n = eqb n 6 || (eqb n 7 || (eqb n 28 || eqb n 29))

abbrev others_clash : Pattern → List Alternative → Bool
others_clash b [] = true
others_clash b (a ∷ rest) = (left_out a.number || clash (pattern a) b) && others_clash b rest

module _ (text : List ℕ) (p e d : ℕ) (b : Pattern) (k : match b (take e text) p ≡ upto d) where
  won_by : (as' : List Alternative) → T (others_clash b as') → match (first_of as') text p ≡ upto e → T (left_out (winner as' text p))
  unfolding match winner
  won_by [] t h = differ h
  won_by (a ∷ rest) t h = go (match (pattern a) text p) refl h (λ q. won_by rest (T_right (left_out a.number || clash (pattern a) b) (others_clash b rest) t) q)
    where
      here : T (left_out a.number || clash (pattern a) b)
      here = T_left (left_out a.number || clash (pattern a) b) (others_clash b rest) t

      go : (m : Match) → match (pattern a) text p ≡ m → or_else m (match (first_of rest) text p) ≡ upto e
          → (match (first_of rest) text p ≡ upto e → T (left_out (winner rest text p))) → T (left_out (cond (is_match m) a.number (winner rest text p)))
      go none q l ih = ih l
      go (upto f) q l ih = T_or (left_out a.number) (clash (pattern a) b) here (λ u. u) (λ u. absurd (clashes text d e (pattern a) b p u (q ∙ l) k))

six_or_seven : (n : ℕ) → T (left_out n) → (n ≡ 28 → ⊥) → (n ≡ 29 → ⊥) → (n ≡ 6) ⊎ (n ≡ 7)
six_or_seven n t f g =
    T_or (eqb n 6) (eqb n 7 || (eqb n 28 || eqb n 29)) t (λ u. inl (eqb-true n 6 (T_true (eqb n 6) u)))
    (λ r. T_or (eqb n 7) (eqb n 28 || eqb n 29) r (λ u. inr (eqb-true n 7 (T_true (eqb n 7) u)))
    (λ s. T_or (eqb n 28) (eqb n 29) s (λ u. absurd (f (eqb-true n 28 (T_true (eqb n 28) u)))) (λ u. absurd (g (eqb-true n 29 (T_true (eqb n 29) u))))))

pub only_six_and_seven : OnlySixAndSeven
unfolding cluster_end
only_six_and_seven text p e h other = go (match (first_of lookahead) (take e text) p) refl
  where
    is : (m : Match) → match (first_of lookahead) (take e text) p ≡ m → ended (first_of lookahead) text p (p + 1) (match (first_of alternatives) text p) ≡ cond (is_match m) (e - 1) e
    is m q = ap (ended (first_of lookahead) text p (p + 1)) h ∙ ap (λ (x : Match). cond (is_match x) (e - 1) e) q

    go : (m : Match) → match (first_of lookahead) (take e text) p ≡ m → (winner alternatives text p ≡ 6) ⊎ (winner alternatives text p ≡ 7)
    go none q = absurd (other (is none q))
    go (upto d) q =
        six_or_seven (winner alternatives text p) (won_by text p e d (first_of lookahead) q alternatives tt h)
        (never_win.1.1.1.1.0 text p) (never_win.1.1.1.1.1.0 text p)

pub last_two : LastTwo
last_two = refl
