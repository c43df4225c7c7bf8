-- What is left of the alternatives behind a row of known characters. Assumes nothing.
use Prim.Native.Nat.{ℕ, zero, suc, ◌+◌}
use native.Mathlib.Omega.{arith}
use mathlib.Core.Path.{◌≡◌, refl, ◌∙◌, ap}
use mathlib.Core.Bool.{Bool, false, cond, not, ◌&&◌}
use mathlib.Core.List.{List, [], ◌∷◌, ◌++◌}
use lib.ListN.{get_or}
use lib.Dec.{T}
use Rattle.tcc_rules.specs.Patterns.{Range, holds, Pattern, first_of}
use Rattle.tcc_rules.specs.Rules.{alternatives, lookahead}
use Rattle.tcc_rules.specs.Clusters.{cluster_end}
use Rattle.tcc_rules.specs.inner.Optional.{Known, Fact, place, KnownFrom, Begins}
use Rattle.tcc_rules.proofs.Known.{T_left, T_right, real}
use Rattle.tcc_rules.proofs.Steps.{stops, next, asked, prune, end_by, step, stay}

-- so much is known of the characters from the i-th behind p on, and the one behind them is in none
-- of the classes
abbrev pub Path : List Known → List Range → List ℕ → ℕ → ℕ → Type 0
Path [] outs text p i = holds outs (get_or text (place p i) 0) ≡ false
Path (k ∷ ks) outs text p i = Fact k (get_or text (place p i) 0) × Path ks outs text p (suc i)

abbrev pub left : List Known → List Range → Pattern → Pattern
left [] outs a = prune outs a
left (k ∷ ks) outs a = left ks outs (next k a)

abbrev pub count : List Known → ℕ → ℕ
count [] i = i
count (k ∷ ks) i = count ks (suc i)

-- the end that is given where the rest doesn't match
abbrev pub other : List Known → Pattern → ℕ → ℕ → ℕ → ℕ
other [] a p i e = e
other (k ∷ ks) a p i e = other ks (next k a) p (suc i) (cond (stops a) (place p i) e)

-- each class that is asked about is decided, and the look-ahead isn't satisfied on the way
abbrev pub clear : List Known → List Range → Pattern → Pattern → Bool
clear [] outs a l = not (holds outs 0)
clear (k ∷ ks) outs a l = real k && (asked k a && (asked k l && (not (stops l) && clear ks outs (next k a) (next k l))))

place_next : (p i : ℕ) → place p i + 1 ≡ place p (suc i)
place_next p zero = refl
place_next p (suc i) = omega arith

pub along : (ks : List Known) (outs : List Range) (a l : Pattern) (text : List ℕ) (p i e : ℕ) → Path ks outs text p i → T (clear ks outs a l)
    → end_by a l text (place p i) e ≡ end_by (left ks outs a) (left ks outs l) text (place p (count ks i)) (other ks a p i e)
along [] outs a l text p i e f t = stay outs a l text (place p i) e f t
along (k ∷ ks) outs a l text p i e f t =
    let ta = T_right (real k) (asked k a && (asked k l && (not (stops l) && clear ks outs (next k a) (next k l)))) t in
    let tl = T_right (asked k a) (asked k l && (not (stops l) && clear ks outs (next k a) (next k l))) ta in
    let tn = T_right (asked k l) (not (stops l) && clear ks outs (next k a) (next k l)) tl in
    let tr = T_right (not (stops l)) (clear ks outs (next k a) (next k l)) tn in
    step k a l text (place p i) e f.0 (T_left (real k) (asked k a && (asked k l && (not (stops l) && clear ks outs (next k a) (next k l)))) t)
    (T_left (asked k a) (asked k l && (not (stops l) && clear ks outs (next k a) (next k l))) ta)
    (T_left (asked k l) (not (stops l) && clear ks outs (next k a) (next k l)) tl)
    (T_left (not (stops l)) (clear ks outs (next k a) (next k l)) tn)
    ∙ ap (λ (q : ℕ). end_by (next k a) (next k l) text q (cond (stops a) (place p i) e)) (place_next p i)
    ∙ along ks outs (next k a) (next k l) text p (suc i) (cond (stops a) (place p i) e) f.1 tr

-- the row of what is known goes on
joined : (ks more : List Known) (outs : List Range) (text : List ℕ) (p i : ℕ) → KnownFrom i ks text p → Path more outs text p (count ks i) → Path (ks ++ more) outs text p i
joined [] more outs text p i f g = g
joined (k ∷ ks) more outs text p i f g = (f.0, joined ks more outs text p (suc i) f.1 g)

-- what is left of a cluster that starts with the known characters
pub arrive : (ks more : List Known) (outs : List Range) (text : List ℕ) (p : ℕ) → Begins ks text p → Path more outs text p (count ks 0)
    → T (clear (ks ++ more) outs (first_of alternatives) (first_of lookahead))
    → cluster_end text p
    ≡ end_by (left (ks ++ more) outs (first_of alternatives)) (left (ks ++ more) outs (first_of lookahead)) text (place p (count (ks ++ more) 0)) (other (ks ++ more) (first_of alternatives) p 0 (p + 1))
unfolding cluster_end end_by
arrive ks more outs text p f g t = along (ks ++ more) outs (first_of alternatives) (first_of lookahead) text p 0 (p + 1) (joined ks more outs text p 0 f.1 g) t
