-- Every token has a reason, and one only. Assumes nothing.
use Prim.Native.Nat.{ℕ, suc, ◌+◌, ◌-◌, ◌≤◌, ◌<◌}
use native.Mathlib.Omega.{arith}
use native.Mathlib.Decide.{dec_lt}
use mathlib.Core.Path.{◌≡◌, refl, sym, ◌∙◌, ap, subst}
use mathlib.Core.Bool.{Bool, true, false, ◌&&◌, ◌||◌}
use mathlib.Core.Logic.{◌⊎◌, inl, inr, ⊎_elim}
use mathlib.Core.List.Memᴰ
use mathlib.Core.List.{List, [], ◌∷◌}
use lib.Dec.{ltb, eqb}
use borrow.Author.Tests.{lt-ltb, ltb-true, eqb-true, eqb-false}
use Rattle.newmm_rules.specs.Positions.{up_from, In}
use Rattle.newmm_rules.specs.Words.{Given, size, word_ends}
use Rattle.newmm_rules.specs.NonDictionary.{non_thai_at, starts_word, stops_at, skip_end, token_end}
use Rattle.newmm_rules.specs.Tokens.{Token, Tokens}
use Rattle.newmm_rules.specs.Tokens as tokens
use Rattle.newmm_rules.specs.Claims.{is_nil}
use Rattle.newmm_rules.proofs.Positions.{first_in, up_in}
use Rattle.newmm_rules.proofs.Spans.{skip_spans}
use Rattle.newmm_reason_rules.specs.Reasons.{reason_at, Told, told_from}
use Rattle.newmm_reason_rules.specs.Why.{Skipped, Why, word, run, skip_to_word, skip_to_run, skip_to_end, HasReason, OneReason, Reasoned, stop, then}
use Rattle.newmm_reason_rules.proofs.Firsts.{first_none, first_is, first_past}
use Rattle.newmm_reason_rules.proofs.Reasons.{reason_word, reason_run, matches, skips, reason_to_word, reason_to_run, reason_to_end}

-- ---- where the search stops

module _ (g : Given) (p : ℕ) where
  -- a place where it stops is a cluster end, and has a word or a run
  stop_end : stops_at g p ≡ true → g.is_end p ≡ true
  unfolding stops_at
  stop_end h = go (g.is_end p) refl h
    where
      go : (t : Bool) → g.is_end p ≡ t → (t && (starts_word g p || ltb 0 (non_thai_at g p))) ≡ true → g.is_end p ≡ true
      go true e q = e
      go false e q = absurd (let z : ◌≡◌ {A = ℕ} 0 1 = cc in omega arith)

  stop_run : stops_at g p ≡ true → starts_word g p ≡ false → 0 < non_thai_at g p
  unfolding stops_at
  stop_run h n = go (g.is_end p) (ltb 0 (non_thai_at g p)) refl (sym (ap (λ (t : Bool). g.is_end p && (t || ltb 0 (non_thai_at g p))) n) ∙ h)
    where
      go : (t u : Bool) → ltb 0 (non_thai_at g p) ≡ u → (t && u) ≡ true → 0 < non_thai_at g p
      go true true e q = ltb-true 0 (non_thai_at g p) e
      go true false e q = absurd (let z : ◌≡◌ {A = ℕ} 0 1 = cc in omega arith)
      go false u e q = absurd (let z : ◌≡◌ {A = ℕ} 0 1 = cc in omega arith)

  stops : g.is_end p ≡ true → {t u : Bool} → starts_word g p ≡ t → ltb 0 (non_thai_at g p) ≡ u → stops_at g p ≡ (t || u)
  unfolding stops_at
  stops e q r = λ i. e i && (q i || r i)

module _ (g : Given) (b : ℕ) where
  -- below n the search stops where it ends, and nowhere before
  skip_stops : skip_end g b < size g → stops_at g (skip_end g b) ≡ true
  unfolding skip_end
  skip_stops h = ⊎_elim (λ e. absurd (omega arith)) (λ m. m.1) (first_in (stops_at g) (size g) (up_from (size g - suc b) (suc b)))

  past : (p : ℕ) → b < p → p < size g → p < skip_end g b → stops_at g p ≡ false
  unfolding skip_end
  past p h l o = first_past (size g) (stops_at g) (size g - suc b) (suc b) p (omega arith) (omega arith) o

  skip_past : b < size g → (p : ℕ) → b < p → p < skip_end g b → stops_at g p ≡ false
  skip_past inside p h l = past p h (omega (arith, (skip_spans g b inside).1)) l

  module _ {e : ℕ} (s : Skipped g b e) where
    skip_here : e < size g → stops_at g e ≡ true → e ≡ skip_end g b
    unfolding skip_end
    skip_here h t =
        sym (first_is (size g) (stops_at g) (size g - suc b) (suc b) e (let o = s.on in omega arith) (let o = s.on in omega arith) t
        (λ q c d. s.past q (omega arith) d))

    skip_all : e ≡ size g → e ≡ skip_end g b
    unfolding skip_end
    skip_all h = h ∙ sym (first_none (size g) (stops_at g) (size g - suc b) (suc b) (λ q c d. s.past q (omega arith) (let o = s.on in omega arith)))

-- ---- the reason of a token

pub not_none : {b : ℕ} (l : List ℕ) → In b l → is_nil l ≡ false
not_none [] m = absurd (Memᴰ.not-nil m)
not_none (x ∷ l) m = refl

pub has_reason : HasReason
has_reason g b e (tokens.word m) = subst (Why g b e) (sym (reason_word g b (not_none (word_ends g b) m))) (word m)
has_reason g b e (tokens.other none inside is) = go (eqb (non_thai_at g b) 0) refl
  where
    told : {r : ℕ} → reason_at g b ≡ r → Why g b e r → Why g b e (reason_at g b)
    told q w = subst (Why g b e) (sym q) w

    skipped : non_thai_at g b ≡ 0 → Why g b e (reason_at g b)
    skipped z = stopped (dec_lt e (size g))
      where
        at : e ≡ skip_end g b
        at = is ∙ skips g b none z

        span : (b < skip_end g b) × (skip_end g b ≤ size g)
        span = skip_spans g b inside

        s : Skipped g b e
        s = record { no_word = none; no_run = z; on = omega (arith, at, span.0); past = λ p h l. skip_past g b inside p h (omega (arith, at)) }

        stopped : Dec (e < size g) → Why g b e (reason_at g b)
        stopped (no n) = let end : e ≡ size g = omega (arith, at, span.1) in told (reason_to_end g b none z at end) (skip_to_end s end)
        stopped (yes l) = found (starts_word g e) refl
          where
            here : stops_at g e ≡ true
            here = ap (stops_at g) at ∙ skip_stops g b (omega (arith, at))

            found : (t : Bool) → starts_word g e ≡ t → Why g b e (reason_at g b)
            found true h = told (reason_to_word g b none z at l h) (skip_to_word s l (stop_end g e here) h)
            found false h = told (reason_to_run g b none z at l h) (skip_to_run s l (stop_end g e here) h (stop_run g e here h))

    go : (t : Bool) → eqb (non_thai_at g b) 0 ≡ t → Why g b e (reason_at g b)
    go true h = skipped (eqb-true (non_thai_at g b) 0 h)
    go false h = matched (eqb-false (non_thai_at g b) 0 h)
      where
        matched : (non_thai_at g b ≡ 0 → ⊥) → Why g b e (reason_at g b)
        matched n = told (reason_run g b none n) (run none (omega arith) (is ∙ matches g b none n))

pub reason_is : {g : Given} {b e r : ℕ} → Why g b e r → r ≡ reason_at g b
reason_is {g} {b} {e} (word m) = sym (reason_word g b (not_none (word_ends g b) m))
reason_is {g} {b} {e} (run none some is) = sym (reason_run g b none (λ z. omega arith))
reason_is {g} {b} {e} (skip_to_word s l end h) = sym (reason_to_word g b s.no_word s.no_run (skip_here g b s l (stops g e end h refl)) l h)
reason_is {g} {b} {e} (skip_to_run s l end h m) = sym (reason_to_run g b s.no_word s.no_run (skip_here g b s l (stops g e end h (lt-ltb 0 (non_thai_at g e) m))) l h)
reason_is {g} {b} {e} (skip_to_end s is) = sym (reason_to_end g b s.no_word s.no_run (skip_all g b s is) is)

pub one_reason : OneReason
one_reason g b e e' r r' w w' = reason_is w ∙ sym (reason_is w')

-- ---- tokens one behind the other

pub reasoned : {g : Given} {a z : ℕ} {es : List ℕ} → Tokens g a es z → Reasoned g a (told_from g a es) z
unfolding told_from
reasoned tokens.stop = stop
reasoned {g} {a} (tokens.then {e = e} t r) = then (has_reason g a e t) (reasoned r)
