-- A cluster has a character or more, and ends within the text. Assumes nothing.
use Prim.Native.Nat.{ℕ, zero, suc, ◌+◌, ◌-◌, ◌≤◌, ◌<◌}
use native.Mathlib.Omega.{arith}
use mathlib.Core.Path.{◌≡◌, refl, ◌∙◌}
use mathlib.Core.Bool.{Bool, true, false, cond, ◌&&◌}
use mathlib.Core.List.{List}
use lib.ListN.{length, get_or, take, length-take}
use lib.Dec.{T, ltb}
use borrow.Author.Tests.{ltb-true}
use Rattle.tcc_rules.specs.Patterns.{Range, holds, holds_at, Pattern, end, fail, then, either, Match, none, upto, or_else, match, is_match, first_of}
use Rattle.tcc_rules.specs.Rules.{alternatives, lookahead}
use Rattle.tcc_rules.specs.Clusters.{ended, cluster_end}
use Rattle.tcc_rules.proofs.Known.{T_left, T_right, and_left}

-- each way through the pattern takes so many characters
abbrev takes : ℕ → Pattern → Bool
takes zero a = true
takes (suc m) end = false
takes (suc m) fail = true
takes (suc m) (then cl r) = takes m r
takes (suc m) (either a b) = takes (suc m) a && takes (suc m) b

-- where a match from p can end
record Spans (text : List ℕ) (p m e : ℕ) : Type 0 where
  past : p + m ≤ e
  inside : e ≤ length text

no_match : {P : Type 0} {e : ℕ} → none ≡ upto e → P
no_match h = absurd (let z : ◌≡◌ {A = ℕ} 0 1 = cc in omega arith)

there : (cl : List Range) (text : List ℕ) (p : ℕ) → holds_at cl text p ≡ true → p + 1 ≤ length text
unfolding holds_at
there cl text p h = let i = ltb-true p (length text) (and_left (ltb p (length text)) (holds cl (get_or text p 0)) h) in omega arith

spans : (a : Pattern) (m : ℕ) (text : List ℕ) (p e : ℕ) → T (takes m a) → p ≤ length text → match a text p ≡ upto e → Spans text p m e
unfolding match
spans end zero text p e t i h = let z : p ≡ e = cc in record { past = omega arith; inside = omega arith }
spans end (suc m) text p e t i h = absurd t
spans fail m text p e t i h = no_match h
spans (then cl r) m text p e t i h = go m t (holds_at cl text p) refl h (λ n u j. spans r n text (p + 1) e u j)
  where
    go : (m : ℕ) → T (takes m (then cl r)) → (b : Bool) → holds_at cl text p ≡ b → cond b (match r text (p + 1)) none ≡ upto e
        → ((n : ℕ) → T (takes n r) → p + 1 ≤ length text → match r text (p + 1) ≡ upto e → Spans text (p + 1) n e) → Spans text p m e
    go zero u true q k ih = let s = ih 0 tt (there cl text p q) k in record { past = omega (arith, s.past); inside = s.inside }
    go (suc n) u true q k ih = let s = ih n u (there cl text p q) k in record { past = omega (arith, s.past); inside = s.inside }
    go m u false q k ih = no_match k
spans (either a b) m text p e t i h = go m t (match a text p) refl h (λ n u k. spans a n text p e u i k) (λ n u k. spans b n text p e u i k)
  where
    go : (m : ℕ) → T (takes m (either a b)) → (x : Match) → match a text p ≡ x → or_else x (match b text p) ≡ upto e
        → ((n : ℕ) → T (takes n a) → match a text p ≡ upto e → Spans text p n e) → ((n : ℕ) → T (takes n b) → match b text p ≡ upto e → Spans text p n e) → Spans text p m e
    go zero u none q k f g = g 0 tt k
    go (suc n) u none q k f g = g (suc n) (T_right (takes (suc n) a) (takes (suc n) b) u) k
    go zero u (upto d) q k f g = f 0 tt (q ∙ k)
    go (suc n) u (upto d) q k f g = f (suc n) (T_left (takes (suc n) a) (takes (suc n) b) u) (q ∙ k)

-- a cluster from p ends at e
pub record Cluster (text : List ℕ) (p e : ℕ) : Type 0 where
  pub past : p < e
  pub inside : e ≤ length text

pub cluster : (text : List ℕ) (p : ℕ) → p < length text → Cluster text p (cluster_end text p)
unfolding cluster_end
cluster text p i = go (match (first_of alternatives) text p) refl
  where
    shorter : (e : ℕ) → Spans text p 1 e → (m : Match) → match (first_of lookahead) (take e text) p ≡ m → Cluster text p (cond (is_match m) (e - 1) e)
    shorter e s none q = record { past = omega (arith, s.past); inside = s.inside }
    shorter e s (upto d) q =
        let l : length (take e text) ≤ e = omega (arith, length-take e text) in
        let n : p ≤ length (take e text) = omega (arith, s.past, s.inside, length-take e text) in
        let z = spans (first_of lookahead) 2 (take e text) p d tt n q in
        record { past = omega (arith, z.past, z.inside); inside = omega (arith, s.inside) }

    go : (m : Match) → match (first_of alternatives) text p ≡ m → Cluster text p (ended (first_of lookahead) text p (p + 1) m)
    go none q = record { past = omega arith; inside = omega arith }
    go (upto e) q = shorter e (spans (first_of alternatives) 1 text p e tt (omega arith) q) (match (first_of lookahead) (take e text) p) refl
