-- What is known of a character decides which classes it is in. Assumes nothing.
use Prim.Native.Nat.{ℕ, ◌≤◌, ◌<◌}
use native.Mathlib.Omega.{arith}
use mathlib.Core.Path.{◌≡◌, refl, sym, ◌∙◌, ap}
use mathlib.Core.Bool.{Bool, true, false, not, ◌&&◌, ◌||◌}
use mathlib.Core.List.{List, [], ◌∷◌}
use lib.ListN.{length, get_or, get_or-eq_default}
use lib.Dec.{T, ltb, leb}
use borrow.Author.Tests.{ltb-true, ltb-false, leb-true, lt-ltb, le-ltb}
use Rattle.lists.specs.Scans.{within}
use Rattle.lists.proofs.Ranges.{within_yes, within_no}
use Rattle.tcc_rules.specs.Patterns.{Range, holds, holds_at}
use Rattle.tcc_rules.specs.inner.Optional.{Known, exact, among, Fact}

-- ---- tests

pub T_left : (a b : Bool) → T (a && b) → T a
T_left true b t = tt
T_left false b t = t

pub T_right : (a b : Bool) → T (a && b) → T b
T_right true b t = t
T_right false b t = absurd t

pub T_or : {P : Type 0} (a b : Bool) → T (a || b) → (T a → P) → (T b → P) → P
T_or true b t f g = f tt
T_or false b t f g = g t

pub T_true : (a : Bool) → T a → a ≡ true
T_true true t = refl
T_true false t = absurd t

pub T_not : (a : Bool) → T (not a) → a ≡ false
T_not true t = absurd t
T_not false t = refl

pub not_both : {P : Type 0} {a : Bool} → a ≡ true → a ≡ false → P
not_both h k = absurd (let z : ◌≡◌ {A = ℕ} 0 1 = cc in omega arith)

pub and_left : (a b : Bool) → (a && b) ≡ true → a ≡ true
and_left true b h = refl
and_left false b h = h

pub and_right : (a b : Bool) → (a && b) ≡ true → b ≡ true
and_right true b h = h
and_right false b h = not_both h refl

pub and_none : (a : Bool) → (a && false) ≡ false
and_none true = refl
and_none false = refl

pub or_yes : (a b : Bool) → (a || b) ≡ true → (b ≡ true → a ≡ true) → a ≡ true
or_yes true b h f = refl
or_yes false b h f = f h

pub or_both : (a b : Bool) → a ≡ false → b ≡ false → (a || b) ≡ false
or_both true b h k = h
or_both false b h k = k

pub or_left : (a b : Bool) → (a || b) ≡ false → a ≡ false
or_left true b h = h
or_left false b h = refl

pub or_right : (a b : Bool) → (a || b) ≡ false → b ≡ false
or_right true b h = not_both refl h
or_right false b h = h

-- ---- ranges

within_low : (lo hi x : ℕ) → within lo hi x ≡ true → lo ≤ x
within_low lo hi x h = leb-true lo x (and_left (leb lo x) (leb x hi) h)

within_high : (lo hi x : ℕ) → within lo hi x ≡ true → x ≤ hi
within_high lo hi x h = leb-true x hi (and_right (leb lo x) (leb x hi) h)

-- the range lies in one of the class
abbrev inside : Range → List Range → Bool
inside r [] = false
inside r (q ∷ qs) = (leb q.lo r.lo && leb r.hi q.hi) || inside r qs

-- each range of the first class lies in one of the second
abbrev pub covered : List Range → List Range → Bool
covered [] cl = true
covered (r ∷ rs) cl = inside r cl && covered rs cl

-- the range meets none of the class
abbrev apart : Range → List Range → Bool
apart r [] = true
apart r (q ∷ qs) = (ltb r.hi q.lo || ltb q.hi r.lo) && apart r qs

-- each range of the third class meets none of the first or lies in one of the second
abbrev pub ruled_out : List Range → List Range → List Range → Bool
ruled_out ins outs [] = true
ruled_out ins outs (r ∷ rs) = (apart r ins || inside r outs) && ruled_out ins outs rs

module _ (x : ℕ) where
  holds_first : (q : Range) (qs : List Range) → within q.lo q.hi x ≡ true → holds (q ∷ qs) x ≡ true
  holds_first q qs h = rw h

  holds_later : (b : Bool) (qs : List Range) → holds qs x ≡ true → (b || holds qs x) ≡ true
  holds_later true qs h = refl
  holds_later false qs h = h

  inside_yes : (r : Range) (cl : List Range) → T (inside r cl) → r.lo ≤ x → x ≤ r.hi → holds cl x ≡ true
  inside_yes r [] t l h = absurd t
  inside_yes r (q ∷ qs) t l h =
      T_or (leb q.lo r.lo && leb r.hi q.hi) (inside r qs) t
      (λ u.
      let a = leb-true q.lo r.lo (T_true _ (T_left (leb q.lo r.lo) (leb r.hi q.hi) u)) in
      let b = leb-true r.hi q.hi (T_true _ (T_right (leb q.lo r.lo) (leb r.hi q.hi) u)) in
      holds_first q qs (within_yes q.lo q.hi x (omega arith) (omega arith)))
      (λ u. holds_later (within q.lo q.hi x) qs (inside_yes r qs u l h))

  pub covered_yes : (ins cl : List Range) → T (covered ins cl) → holds ins x ≡ true → holds cl x ≡ true
  covered_yes [] cl t h = not_both h refl
  covered_yes (r ∷ rs) cl t h = go (within r.lo r.hi x) refl h (covered_yes rs cl (T_right (inside r cl) (covered rs cl) t))
    where
      go : (b : Bool) → within r.lo r.hi x ≡ b → (b || holds rs x) ≡ true → (holds rs x ≡ true → holds cl x ≡ true) → holds cl x ≡ true
      go true e k ih = inside_yes r cl (T_left (inside r cl) (covered rs cl) t) (within_low r.lo r.hi x e) (within_high r.lo r.hi x e)
      go false e k ih = ih k

  inside_no : (r : Range) (outs : List Range) → T (inside r outs) → holds outs x ≡ false → within r.lo r.hi x ≡ false
  inside_no r outs t h = within_no r.lo r.hi x (λ l k. not_both (inside_yes r outs t l k) h)

  pub covered_no : (cl outs : List Range) → T (covered cl outs) → holds outs x ≡ false → holds cl x ≡ false
  covered_no [] outs t h = refl
  covered_no (r ∷ rs) outs t h = or_both (within r.lo r.hi x) (holds rs x) (inside_no r outs (T_left (inside r outs) (covered rs outs) t) h) (covered_no rs outs (T_right (inside r outs) (covered rs outs) t) h)

  apart_no : (r : Range) (ins : List Range) → T (apart r ins) → holds ins x ≡ true → r.lo ≤ x → x ≤ r.hi → ⊥
  apart_no r [] t h l k = not_both h refl
  apart_no r (q ∷ qs) t h l k = go (within q.lo q.hi x) refl h (λ e. apart_no r qs (T_right (ltb r.hi q.lo || ltb q.hi r.lo) (apart r qs) t) e l k)
    where
      go : (b : Bool) → within q.lo q.hi x ≡ b → (b || holds qs x) ≡ true → (holds qs x ≡ true → ⊥) → ⊥
      go true e u ih =
          let low = within_low q.lo q.hi x e in
          let high = within_high q.lo q.hi x e in
          T_or (ltb r.hi q.lo) (ltb q.hi r.lo) (T_left (ltb r.hi q.lo || ltb q.hi r.lo) (apart r qs) t)
          (λ v. let a = ltb-true r.hi q.lo (T_true _ v) in omega arith)
          (λ v. let a = ltb-true q.hi r.lo (T_true _ v) in omega arith)
      go false e u ih = ih u

  pub ruled_out_not_held : (ins outs cl : List Range) → T (ruled_out ins outs cl) → holds ins x ≡ true → holds outs x ≡ false → holds cl x ≡ false
  ruled_out_not_held ins outs [] t h k = refl
  ruled_out_not_held ins outs (r ∷ rs) t h k =
      or_both (within r.lo r.hi x) (holds rs x)
      (T_or (apart r ins) (inside r outs) (T_left (apart r ins || inside r outs) (ruled_out ins outs rs) t)
      (λ u. within_no r.lo r.hi x (apart_no r ins u h))
      (λ u. inside_no r outs u k))
      (ruled_out_not_held ins outs rs (T_right (apart r ins || inside r outs) (ruled_out ins outs rs) t) h k)

-- ---- what is known of a character

-- the end of a text, which reads as 0, is outs such character
abbrev pub real : Known → Bool
real (exact v) = ltb 0 v
real (among ins outs) = not (holds ins 0)

-- the class's test is known, and what it gives
abbrev pub settled : Known → List Range → Bool
settled (exact v) cl = true
settled (among ins outs) cl = covered ins cl || ruled_out ins outs cl

abbrev pub gives : Known → List Range → Bool
gives (exact v) cl = holds cl v
gives (among ins outs) cl = covered ins cl

gives_is : (k : Known) (cl : List Range) (x : ℕ) → Fact k x → T (settled k cl) → holds cl x ≡ gives k cl
gives_is (exact v) cl x f t = ap (holds cl) f
gives_is (among ins outs) cl x f t = go (covered ins cl) refl t
  where
    go : (b : Bool) → covered ins cl ≡ b → T (b || ruled_out ins outs cl) → holds cl x ≡ b
    go true e u = covered_yes x ins cl (rw e tt) f.0
    go false e u = ruled_out_not_held x ins outs cl u f.0 f.1

pub there : (k : Known) (text : List ℕ) (p : ℕ) → Fact k (get_or text p 0) → T (real k) → p < length text
there k text p f t = go k f t (ltb p (length text)) refl
  where
    past : length text ≤ p → get_or text p 0 ≡ 0
    past h = get_or-eq_default text 0 h

    go : (k : Known) → Fact k (get_or text p 0) → T (real k) → (b : Bool) → ltb p (length text) ≡ b → p < length text
    go k f t true e = ltb-true p (length text) e
    go (exact v) f t false e =
        let z = past (ltb-false p (length text) e) in
        let y = ltb-true 0 v (T_true _ t) in
        absurd (omega arith)
    go (among ins outs) f t false e = not_both (ap (holds ins) (sym (past (ltb-false p (length text) e))) ∙ f.0) (T_not _ t)

pub at_inside : (cl : List Range) (text : List ℕ) (p : ℕ) → p < length text → holds_at cl text p ≡ holds cl (get_or text p 0)
unfolding holds_at
at_inside cl text p h = simp (lt-ltb p (length text) h)

pub at_outside : (cl : List Range) (text : List ℕ) (p : ℕ) → length text ≤ p → holds_at cl text p ≡ false
unfolding holds_at
at_outside cl text p h = simp (le-ltb p (length text) h)

pub at_known : (k : Known) (cl : List Range) (text : List ℕ) (p : ℕ) → Fact k (get_or text p 0) → T (real k) → T (settled k cl) → holds_at cl text p ≡ gives k cl
at_known k cl text p f r t = at_inside cl text p (there k text p f r) ∙ gives_is k cl _ f t

pub at_not : (cl : List Range) (text : List ℕ) (p : ℕ) → holds cl (get_or text p 0) ≡ false → holds_at cl text p ≡ false
unfolding holds_at
at_not cl text p h = rw h (and_none (ltb p (length text)))
