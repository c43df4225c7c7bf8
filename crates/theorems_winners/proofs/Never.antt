-- Alternatives that never win: an earlier one matches wherever they do. Nothing about texts is gone
-- through: that one pattern matches wherever another does is a test on the two patterns. Assumes
-- nothing.
use Prim.Native.Nat.{ℕ, ◌+◌}
use mathlib.Core.Path.{◌≡◌, refl, sym}
use mathlib.Core.Bool.{Bool, true, false, cond, not, ◌&&◌, ◌||◌}
use mathlib.Core.List.{List, [], ◌∷◌}
use lib.ListN.{length, get_or}
use lib.Dec.{T, ltb, eqb}
use borrow.Author.Tests.{eqb-false}
use Rattle.tcc_rules.specs.Patterns.{Range, holds, holds_at, Pattern, end, fail, then, either, Match, none, upto, or_else, match, is_match, Alternative, pattern, winner}
use Rattle.tcc_rules.specs.Rules.{alternatives}
use Rattle.tcc_rules.specs.Clusters.{cluster_ends}
use Rattle.tcc_rules.proofs.Known.{T_left, T_right, T_not, not_both, and_left, and_right, covered, covered_yes}
use Rattle.tcc_tables.specs.Answers.{winners_from, winners_of}
use Rattle.tcc_engine.specs.inner.Trying.{each}
use Rattle.theorems_winners.specs.Winning.{All, NeverWins, losers, NeverWin, NeverTold}

as_T : (x : Bool) → x ≡ true → T x
as_T true h = tt
as_T false h = not_both h refl

no_match : {P : Type 0} → is_match none ≡ true → P
no_match h = not_both h refl

-- a pattern that matches everywhere
abbrev always : Pattern → Bool
always end = true
always fail = false
always (then cl r) = false
always (either a b) = always a || always b

always_matches : (a : Pattern) (text : List ℕ) (p : ℕ) → T (always a) → is_match (match a text p) ≡ true
unfolding match
always_matches end text p t = refl
always_matches fail text p t = absurd t
always_matches (then cl r) text p t = absurd t
always_matches (either a b) text p t = go (always a) refl t (λ u. always_matches a text p u) (λ u. always_matches b text p u)
  where
    first : (m n : Match) → is_match m ≡ true → is_match (or_else m n) ≡ true
    first none n h = not_both h refl
    first (upto e) n h = refl

    second : (m n : Match) → is_match n ≡ true → is_match (or_else m n) ≡ true
    second none n h = h
    second (upto e) n h = refl

    go : (x : Bool) → always a ≡ x → T (x || always b) → (T (always a) → is_match (match a text p) ≡ true) → (T (always b) → is_match (match b text p) ≡ true)
        → is_match (or_else (match a text p) (match b text p)) ≡ true
    go true q u f g = first (match a text p) (match b text p) (f (as_T (always a) q))
    go false q u f g = second (match a text p) (match b text p) (g u)

-- the first pattern matches wherever the second does: each character that it needs is one that the
-- second needs there, and then it matches everywhere
abbrev shadows : Pattern → Pattern → Bool
shadows (then cl r) (then dl s) = covered dl cl && shadows r s
shadows (then cl r) end = false
shadows (then cl r) fail = true
shadows (then cl r) (either a b) = false
shadows end s = true
shadows fail s = false
shadows (either a b) s = always a || always b

covered_at : (dl cl : List Range) (text : List ℕ) (p : ℕ) → T (covered dl cl) → holds_at dl text p ≡ true → holds_at cl text p ≡ true
unfolding holds_at
covered_at dl cl text p t h =
    let i = and_left (ltb p (length text)) (holds dl (get_or text p 0)) h in
    let k = and_right (ltb p (length text)) (holds dl (get_or text p 0)) h in
    rw i (covered_yes (get_or text p 0) dl cl t k)

shadowed : (a b : Pattern) (text : List ℕ) (p : ℕ) → T (shadows a b) → is_match (match b text p) ≡ true → is_match (match a text p) ≡ true
unfolding match
shadowed (then cl r) (then dl s) text p t h = go (holds_at dl text p) refl h (λ k. shadowed r s text (p + 1) (T_right (covered dl cl) (shadows r s) t) k)
  where
    go : (x : Bool) → holds_at dl text p ≡ x → is_match (cond x (match s text (p + 1)) none) ≡ true → (is_match (match s text (p + 1)) ≡ true → is_match (match r text (p + 1)) ≡ true)
        → is_match (cond (holds_at cl text p) (match r text (p + 1)) none) ≡ true
    go true q k ih = rw (covered_at dl cl text p (T_left (covered dl cl) (shadows r s) t) q) (ih k)
    go false q k ih = no_match k
shadowed (then cl r) end text p t h = absurd t
shadowed (then cl r) fail text p t h = no_match h
shadowed (then cl r) (either a b) text p t h = absurd t
shadowed end s text p t h = refl
shadowed fail s text p t h = absurd t
shadowed (either a b) s text p t h = always_matches (either a b) text p t

-- one of these matches wherever the pattern does
abbrev any_shadows : List Alternative → Pattern → Bool
any_shadows [] b = false
any_shadows (a ∷ as') b = shadows (pattern a) b || any_shadows as' b

-- none of these matches at p
abbrev NoneMatches : List Alternative → List ℕ → ℕ → Type 0
NoneMatches [] text p = Unit
NoneMatches (a ∷ as') text p = (is_match (match (pattern a) text p) ≡ false) × NoneMatches as' text p

not_then : (before : List Alternative) (b : Pattern) (text : List ℕ) (p : ℕ) → T (any_shadows before b) → NoneMatches before text p → is_match (match b text p) ≡ true → ⊥
not_then [] b text p t f h = t
not_then (a ∷ as') b text p t f h = go (shadows (pattern a) b) refl t (λ u. not_then as' b text p u f.1 h)
  where
    go : (x : Bool) → shadows (pattern a) b ≡ x → T (x || any_shadows as' b) → (T (any_shadows as' b) → ⊥) → ⊥
    go true q u ih = not_both (shadowed (pattern a) b text p (as_T (shadows (pattern a) b) q) h) f.0
    go false q u ih = ih u

-- wherever the alternative with this number matches, one before it does
abbrev never : ℕ → List Alternative → List Alternative → Bool
never n before [] = not (eqb n 0)
never n before (a ∷ rest) = cond (eqb a.number n) (any_shadows before (pattern a)) true && never n (a ∷ before) rest

beaten : (n : ℕ) (before rest : List Alternative) (text : List ℕ) (p : ℕ) → T (never n before rest) → NoneMatches before text p → winner rest text p ≡ n → ⊥
unfolding winner
beaten n before [] text p t f h = eqb-false n 0 (T_not (eqb n 0) t) (sym h)
beaten n before (a ∷ rest) text p t f h = go (is_match (match (pattern a) text p)) refl h (λ g k. beaten n (a ∷ before) rest text p (T_right (cond (eqb a.number n) (any_shadows before (pattern a)) true) (never n (a ∷ before) rest) t) g k)
  where
    here : (x : Bool) → eqb a.number n ≡ x → T (cond x (any_shadows before (pattern a)) true) → a.number ≡ n → T (any_shadows before (pattern a))
    here true q u e = u
    here false q u e = absurd (eqb-false a.number n q e)

    go : (x : Bool) → is_match (match (pattern a) text p) ≡ x → cond x a.number (winner rest text p) ≡ n → (NoneMatches (a ∷ before) text p → winner rest text p ≡ n → ⊥) → ⊥
    go true q k ih = not_then before (pattern a) text p (here (eqb a.number n) refl (T_left (cond (eqb a.number n) (any_shadows before (pattern a)) true) (never n (a ∷ before) rest) t) k) f q
    go false q k ih = ih (q, f) k

-- ---- what is claimed

abbrev never_any : ℕ → Bool
never_any n = never n [] alternatives

all_never : (ns : List ℕ) → T (each never_any ns) → All NeverWins ns
all_never [] t = tt
all_never (n ∷ ns) t = (λ text p. beaten n [] alternatives text p (T_left (never_any n) (each never_any ns) t) tt, all_never ns (T_right (never_any n) (each never_any ns) t))

pub never_win : NeverWin
never_win = all_never losers tt

not_at : (ns : List ℕ) → All NeverWins ns → (text : List ℕ) (p : ℕ) → All (λ (n : ℕ). winner alternatives text p ≡ n → ⊥) ns
not_at [] f text p = tt
not_at (n ∷ ns) f text p = (f.0 text p, not_at ns f.1 text p)

not_told : (text : List ℕ) (p : ℕ) (ends : List ℕ) → All (λ (w : ℕ). All (λ (n : ℕ). w ≡ n → ⊥) losers) (winners_from text p ends)
not_told text p [] = tt
not_told text p (e ∷ ends) = (not_at losers never_win text p, not_told text e ends)

pub never_told : NeverTold
unfolding winners_of
never_told text = not_told text 0 (cluster_ends text)
