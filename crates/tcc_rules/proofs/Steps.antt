-- What is left of a pattern once a character is known: a step over it, or a stay before it. Assumes
-- nothing.
use Prim.Native.Nat.{ℕ, ◌+◌, ◌≤◌}
use native.Mathlib.Omega.{arith}
use mathlib.Core.Path.{◌≡◌, refl, sym, ◌∙◌, ap}
use mathlib.Core.Bool.{Bool, true, false, cond, not, ◌&&◌, ◌||◌}
use mathlib.Core.List.{List}
use lib.ListN.{length, get_or, take, length-take, get_or-eq_default}
use lib.Seq.{get_or-take}
use lib.Dec.{T, ltb}
use borrow.Author.Tests.{ltb-true, ltb-false}
use Rattle.tcc_rules.specs.Patterns.{Range, holds, holds_at, Pattern, end, fail, then, either, Match, none, upto, or_else, match, is_match}
use Rattle.tcc_rules.specs.Clusters.{ended}
use Rattle.tcc_rules.specs.inner.Optional.{Known, Fact}
use Rattle.tcc_rules.proofs.Known.{T_left, T_right, T_or, T_not, not_both, covered, covered_no, real, settled, gives, at_known, at_outside, at_not}

-- ---- matches

or_else_none : (m : Match) → or_else m none ≡ m
or_else_none none = refl
or_else_none (upto e) = refl

or_else_assoc : (a b m : Match) → or_else (or_else a b) m ≡ or_else a (or_else b m)
or_else_assoc none b m = refl
or_else_assoc (upto e) b m = refl

-- a match hides what stands behind it
or_else_first : (a m : Match) → is_match a ≡ true → or_else a m ≡ a
or_else_first none m h = not_both h refl
or_else_first (upto e) m h = refl

-- ---- patterns

-- the pattern matches without a character
abbrev pub stops : Pattern → Bool
stops end = true
stops fail = false
stops (then cl r) = false
stops (either a b) = stops a || stops b

abbrev glue : Pattern → Pattern → Pattern
glue fail b = b
glue end b = end
glue (then cl r) fail = then cl r
glue (then cl r) end = either (then cl r) end
glue (then cl r) (then dl q) = either (then cl r) (then dl q)
glue (then cl r) (either x y) = either (then cl r) (either x y)
glue (either u v) fail = either u v
glue (either u v) end = either (either u v) end
glue (either u v) (then dl q) = either (either u v) (then dl q)
glue (either u v) (either x y) = either (either u v) (either x y)

-- a choice of two, without what cannot match or is never tried
abbrev pub join : Pattern → Pattern → Pattern
join a b = cond (stops a) a (glue a b)

-- what is left once a character is taken of which so much is known
abbrev pub next : Known → Pattern → Pattern
next k end = fail
next k fail = fail
next k (then cl r) = cond (gives k cl) r fail
next k (either a b) = cond (stops a) (next k a) (join (next k a) (next k b))

-- each class that is asked about the character is decided
abbrev pub asked : Known → Pattern → Bool
asked k end = true
asked k fail = true
asked k (then cl r) = settled k cl
asked k (either a b) = asked k a && (stops a || stops (next k a) || asked k b)

-- what is left where the character is in none of these classes
abbrev pub prune : List Range → Pattern → Pattern
prune outs end = end
prune outs fail = fail
prune outs (then cl r) = cond (covered cl outs) fail (then cl r)
prune outs (either a b) = join (prune outs a) (prune outs b)

module _ (text : List ℕ) (p : ℕ) where
  or_true : (a b : Bool) → b ≡ true → (a || b) ≡ true
  or_true true b h = refl
  or_true false b h = h

  pub sure : (a : Pattern) → T (stops a) → is_match (match a text p) ≡ true
  unfolding match
  sure end t = refl
  sure fail t = absurd t
  sure (then cl r) t = absurd t
  sure (either a b) t = T_or (stops a) (stops b) t (λ u. first (match a text p) (sure a u)) (λ u. second (match a text p) (sure b u))
    where
      first : (m : Match) → is_match m ≡ true → is_match (or_else m (match b text p)) ≡ true
      first m h = ap is_match (or_else_first m _ h) ∙ h

      second : (m : Match) → is_match (match b text p) ≡ true → is_match (or_else m (match b text p)) ≡ true
      second none h = h
      second (upto e) h = refl

  match_glue : (a b : Pattern) → match (glue a b) text p ≡ or_else (match a text p) (match b text p)
  unfolding match
  match_glue fail b = refl
  match_glue end b = refl
  match_glue (then cl r) fail = sym (or_else_none _)
  match_glue (then cl r) end = refl
  match_glue (then cl r) (then dl q) = refl
  match_glue (then cl r) (either x y) = refl
  match_glue (either u v) fail = sym (or_else_none _)
  match_glue (either u v) end = refl
  match_glue (either u v) (then dl q) = refl
  match_glue (either u v) (either x y) = refl

  match_join : (a b : Pattern) → match (join a b) text p ≡ or_else (match a text p) (match b text p)
  match_join a b = go (stops a) refl
    where
      go : (s : Bool) → stops a ≡ s → match (cond s a (glue a b)) text p ≡ or_else (match a text p) (match b text p)
      go true e = sym (or_else_first (match a text p) _ (sure a (rw e tt)))
      go false e = match_glue a b

  -- past the end only what needs no character matches
  pub match_over : (a : Pattern) → length text ≤ p → match a text p ≡ cond (stops a) (upto p) none
  unfolding match
  match_over end h = refl
  match_over fail h = refl
  match_over (then cl r) h = rw (at_outside cl text p h)
  match_over (either a b) h = rw (match_over a h, match_over b h) (go (stops a) (stops b))
    where
      go : (x y : Bool) → or_else (cond x (upto p) none) (cond y (upto p) none) ≡ cond (x || y) (upto p) none
      go true y = refl
      go false y = refl

-- a match ends at its start or behind it
pub match_past : (a : Pattern) (text : List ℕ) (p e : ℕ) → match a text p ≡ upto e → p ≤ e
unfolding match
match_past end text p e h = let z : p ≡ e = cc in omega arith
match_past fail text p e h = absurd (let z : ◌≡◌ {A = ℕ} 0 1 = cc in omega arith)
match_past (then cl r) text p e h = go (holds_at cl text p) h (match_past r text (p + 1) e)
  where
    go : (b : Bool) → cond b (match r text (p + 1)) none ≡ upto e → (match r text (p + 1) ≡ upto e → p + 1 ≤ e) → p ≤ e
    go true k ih = let z = ih k in omega arith
    go false k ih = absurd (let z : ◌≡◌ {A = ℕ} 0 1 = cc in omega arith)
match_past (either a b) text p e h = go (match a text p) refl h (match_past a text p e) (match_past b text p e)
  where
    go : (m : Match) → match a text p ≡ m → or_else m (match b text p) ≡ upto e → (match a text p ≡ upto e → p ≤ e) → (match b text p ≡ upto e → p ≤ e) → p ≤ e
    go none q k ia ib = ib k
    go (upto d) q k ia ib = ia (q ∙ k)

-- a step: the character at p is taken
module _ (k : Known) (text : List ℕ) (p : ℕ) (f : Fact k (get_or text p 0)) (r : T (real k)) where
  match_step : (a : Pattern) → T (asked k a) → match a text p ≡ or_else (match (next k a) text (p + 1)) (cond (stops a) (upto p) none)
  unfolding match
  match_step end t = refl
  match_step fail t = refl
  match_step (then cl q) t = rw (at_known k cl text p f r t) (go (gives k cl))
    where
      go : (b : Bool) → cond b (match q text (p + 1)) none ≡ or_else (match (cond b q fail) text (p + 1)) none
      go true = sym (or_else_none _)
      go false = refl
  match_step (either a b) t = go (stops a) (stops (next k a)) refl refl (T_right (asked k a) (stops a || stops (next k a) || asked k b) t) (match_step a (T_left (asked k a) (stops a || stops (next k a) || asked k b) t)) (match_step b)
    where
      A : Match
      A = match (next k a) text (p + 1)

      B : Match
      B = match b text p

      go : (x y : Bool) → stops a ≡ x → stops (next k a) ≡ y → T (x || y || asked k b)
          → match a text p ≡ or_else (match (next k a) text (p + 1)) (cond x (upto p) none)
          → (T (asked k b) → match b text p ≡ or_else (match (next k b) text (p + 1)) (cond (stops b) (upto p) none))
          → or_else (match a text p) (match b text p) ≡ or_else (match (cond x (next k a) (cond y (next k a) (glue (next k a) (next k b)))) text (p + 1)) (cond (x || stops b) (upto p) none)
      go true y ex ey u ia ib = ap (λ (m : Match). or_else m B) ia ∙ or_else_assoc A (upto p) B
      go false true ex ey u ia ib =
          let s : is_match A ≡ true = sure text (p + 1) (next k a) (rw ey tt) in
          ap (λ (m : Match). or_else m B) (ia ∙ or_else_none A) ∙ or_else_first A B s ∙ sym (or_else_first A (cond (stops b) (upto p) none) s)
      go false false ex ey u ia ib =
          ap (λ (m : Match). or_else m B) (ia ∙ or_else_none A)
          ∙ ap (or_else A) (ib u)
          ∙ sym (or_else_assoc A (match (next k b) text (p + 1)) (cond (stops b) (upto p) none))
          ∙ ap (λ (m : Match). or_else m (cond (stops b) (upto p) none)) (sym (match_glue text (p + 1) (next k a) (next k b)))

-- a stay: the character at p, if any, is in none of the classes
match_prune : (outs : List Range) (text : List ℕ) (p : ℕ) → holds outs (get_or text p 0) ≡ false → (a : Pattern) → match a text p ≡ match (prune outs a) text p
unfolding match
match_prune outs text p f end = refl
match_prune outs text p f fail = refl
match_prune outs text p f (then cl r) = go (covered cl outs) refl
  where
    go : (b : Bool) → covered cl outs ≡ b → cond (holds_at cl text p) (match r text (p + 1)) none ≡ match (cond b fail (then cl r)) text p
    go true e = rw (at_not cl text p (covered_no (get_or text p 0) cl outs (rw e tt) f))
    go false e = refl
match_prune outs text p f (either a b) = rw (match_prune outs text p f a, match_prune outs text p f b) (sym (match_join text p (prune outs a) (prune outs b)))

-- ---- the end of a cluster

-- where the cluster ends if `a` is left of the alternatives at p and `l` of the look-ahead; e where
-- `a` doesn't match
unfoldable pub end_by : Pattern → Pattern → List ℕ → ℕ → ℕ → ℕ
end_by a l text p e = ended l text p e (match a text p)

pub end_fail : (l : Pattern) (text : List ℕ) (p e : ℕ) → end_by fail l text p e ≡ e
unfolding end_by match
end_fail l text p e = refl

not_ahead : (l : Pattern) (text : List ℕ) (p : ℕ) → T (not (stops l)) → is_match (match l (take p text) p) ≡ false
not_ahead l text p t =
    let h : length (take p text) ≤ p = omega (arith, length-take p text) in
    ap is_match (match_over (take p text) p l h) ∙ ap (λ (b : Bool). is_match (cond b (upto p) none)) (T_not (stops l) t)

pub end_end : (l : Pattern) (text : List ℕ) (p e : ℕ) → T (not (stops l)) → end_by end l text p e ≡ p
unfolding end_by match
end_end l text p e t = rw (not_ahead l text p t)

-- where the pattern matches in any case, the other end is never given
pub end_sure : (a l : Pattern) (text : List ℕ) (p e e' : ℕ) → T (stops a) → end_by a l text p e ≡ end_by a l text p e'
unfolding end_by
end_sure a l text p e e' t = go (match a text p) (sure text p a t)
  where
    go : (m : Match) → is_match m ≡ true → ended l text p e m ≡ ended l text p e' m
    go none h = not_both h refl
    go (upto d) h = refl

-- with no look-ahead, the second of two is what is given where the first fails
pub end_either : (a b : Pattern) (text : List ℕ) (p e : ℕ) → end_by (either a b) fail text p e ≡ end_by a fail text p (end_by b fail text p e)
unfolding end_by match
end_either a b text p e = go (match a text p)
  where
    go : (m : Match) → ended fail text p e (or_else m (match b text p)) ≡ ended fail text p (ended fail text p e (match b text p)) m
    go none = refl
    go (upto q) = refl

pub step : (k : Known) (a l : Pattern) (text : List ℕ) (p e : ℕ) → Fact k (get_or text p 0) → T (real k) → T (asked k a) → T (asked k l) → T (not (stops l))
    → end_by a l text p e ≡ end_by (next k a) (next k l) text (p + 1) (cond (stops a) p e)
unfolding end_by
step k a l text p e f r ta tl tn = ap (ended l text p e) (match_step k text p f r a ta) ∙ go (match (next k a) text (p + 1)) refl (stops a)
  where
    cut : (q : ℕ) → p + 1 ≤ q → match l (take q text) p ≡ match (next k l) (take q text) (p + 1)
    cut q h =
        let x : get_or (take q text) p 0 ≡ get_or text p 0 = get_or-take q text p 0 (omega arith) in
        let y : Fact k (get_or (take q text) p 0) = rw x f in
        match_step k (take q text) p y r l tl ∙ ap (λ (b : Bool). or_else (match (next k l) (take q text) (p + 1)) (cond b (upto p) none)) (T_not (stops l) tn) ∙ or_else_none _

    go : (m : Match) → match (next k a) text (p + 1) ≡ m → (s : Bool) → ended l text p e (or_else m (cond s (upto p) none)) ≡ ended (next k l) text (p + 1) (cond s p e) m
    go none q true = rw (not_ahead l text p tn)
    go none q false = refl
    go (upto d) q s = rw (cut d (match_past (next k a) text (p + 1) d q))

pub stay : (outs : List Range) (a l : Pattern) (text : List ℕ) (p e : ℕ) → holds outs (get_or text p 0) ≡ false → T (not (holds outs 0)) → end_by a l text p e ≡ end_by (prune outs a) (prune outs l) text p e
unfolding end_by
stay outs a l text p e f t = ap (ended l text p e) (match_prune outs text p f a) ∙ go (match (prune outs a) text p)
  where
    front : (q : ℕ) (b : Bool) → ltb p q ≡ b → holds outs (get_or (take q text) p 0) ≡ false
    front q true h = ap (holds outs) (get_or-take q text p 0 (ltb-true p q h)) ∙ f
    front q false h =
        let i = ltb-false p q h in
        ap (holds outs) (get_or-eq_default (take q text) 0 (omega (arith, length-take q text))) ∙ T_not _ t

    go : (m : Match) → ended l text p e m ≡ ended (prune outs l) text p e m
    go none = refl
    go (upto q) = rw (match_prune outs (take q text) p (front q (ltb p q) refl) l)
