-- The longest token, met from the left, and the ends that are cleared on the way. Assumes nothing.
use Prim.Native.Nat.{ℕ, zero, suc, ◌+◌, ◌-◌, ◌≤◌, ◌<◌, max}
use native.Mathlib.Omega.{arith}
use mathlib.Core.Path.{◌≡◌, refl, sym, ◌∙◌, ap, subst}
use mathlib.Core.Bool.{Bool, true, false, cond}
use mathlib.Core.List.{List, [], ◌∷◌, ◌++◌}
use lib.ListN.{length, get_or, set, take, drop, replicate, drop_of_length-le, length-replicate, get_or-replicate}
use lib.Seq.{drop-cons, get_or-take, length-take-le, take-length}
use lib.Dec.{leb}
use borrow.Author.Tests.{leb-true, leb-false, le-leb, lt-leb}
use Rattle.cells.proofs.Filling.{Filled, filled_none, filled_more, unmoved}
use Rattle.newmm_rules.specs.inner.Climbing.{Climbs, there, up}
use Rattle.newmm_rules.specs.Longest.{lengths, longest, before_longest}
use Rattle.newmm_segment.specs.inner.Written.{Rising}

-- the start of the longest of the tokens so far, which start before `from`, and of those still to
-- come
unfoldable pub best : ℕ → ℕ → ℕ → List ℕ → ℕ
best start most from es = cond (leb most (longest (lengths from es))) (from + before_longest (lengths from es)) start

all_best : (ends : List ℕ) → best 0 0 0 ends ≡ before_longest (lengths 0 ends)
unfolding best
all_best ends = rw (le-leb 0 (longest (lengths 0 ends)) (omega arith)) (omega arith)

module _ (start most from e : ℕ) (es : List ℕ) (h : from < e) where
  abbrev later : ℕ
  later = longest (lengths e es)

  abbrev rest : ℕ
  rest = before_longest (lengths e es)

  -- a token that is as long as the longest so far takes its place
  best_yes : most ≤ e - from → best start most from (e ∷ es) ≡ best from (e - from) e es
  unfolding best lengths longest before_longest
  best_yes k = rw (le-leb most (max (e - from) later) (omega arith)) (go (leb (e - from) later))
    where
      go : (b : Bool) → from + cond b ((e - from) + rest) 0 ≡ cond b (e + rest) from
      go true = omega arith
      go false = omega arith

  best_no : e - from < most → best start most from (e ∷ es) ≡ best start most e es
  unfolding best lengths longest before_longest
  best_no k = go (leb most later) refl
    where
      go : (b : Bool) → leb most later ≡ b → cond (leb most (max (e - from) later)) (from + cond (leb (e - from) later) ((e - from) + rest) 0) start ≡ cond b (e + rest) start
      go true t =
          let l = leb-true most later t in
          rw (le-leb most (max (e - from) later) (omega arith)) (rw (le-leb (e - from) later (omega arith)) (omega arith))
      go false t = let l = leb-false most later t in rw (lt-leb most (max (e - from) later) (omega arith)) refl

-- the first i tokens have been met
pub record Met (ends : List ℕ) (start most from i : ℕ) : Type 0 where
  pub inside : i ≤ length ends
  pub last : ℕ
  pub climbs : Climbs from (drop i ends) last
  pub same : before_longest (lengths 0 ends) ≡ best start most from (drop i ends)
  pub first : most ≡ 0 → start ≡ from

pub met_none : (ends : List ℕ) → Rising ends → Met ends 0 0 0 0
met_none ends r = record { inside = omega arith; last = r.last; climbs = r.climbs; same = sym (all_best ends); first = λ e. refl }

climbs_more : {from e z : ℕ} {es : List ℕ} → Climbs from (e ∷ es) z → (from < e) × Climbs e es z
climbs_more (up h r) = (h, r)

module _ {ends : List ℕ} {start most from i : ℕ} (m : Met ends start most from i) (l : i < length ends) where
  next : drop i ends ≡ get_or ends i 0 ∷ drop (i + 1) ends
  next = drop-cons ends i 0 l ∙ (let z : suc i ≡ i + 1 = omega arith in ap (λ (k : ℕ). get_or ends i 0 ∷ drop k ends) z)

  split : (from < get_or ends i 0) × Climbs (get_or ends i 0) (drop (i + 1) ends) m.last
  split = climbs_more (subst (λ (es : List ℕ). Climbs from es m.last) next m.climbs)

  pub above : from < get_or ends i 0
  above = split.0

  pub met_yes : most ≤ get_or ends i 0 - from → Met ends from (get_or ends i 0 - from) (get_or ends i 0) (i + 1)
  met_yes k =
      record {
        inside = omega arith;
        last = m.last;
        climbs = split.1;
        same = m.same ∙ ap (best start most from) next ∙ best_yes start most from (get_or ends i 0) (drop (i + 1) ends) above k;
        first = λ e. absurd (omega (arith, above));
      }

  pub met_no : get_or ends i 0 - from < most → Met ends start most (get_or ends i 0) (i + 1)
  met_no k =
      record {
        inside = omega arith;
        last = m.last;
        climbs = split.1;
        same = m.same ∙ ap (best start most from) next ∙ best_no start most from (get_or ends i 0) (drop (i + 1) ends) above k;
        first = λ e. absurd (omega arith);
      }

none_left : (start most from : ℕ) → (most ≡ 0 → start ≡ from) → best start most from [] ≡ start
unfolding best lengths longest before_longest
none_left start zero from h = let e = h refl in omega arith
none_left start (suc most) from h = rw (lt-leb (suc most) 0 (omega arith)) refl

pub met_all : {ends : List ℕ} {start most from i : ℕ} → Met ends start most from i → length ends ≤ i → start ≡ before_longest (lengths 0 ends)
met_all {ends} {start} {most} {from} m l = sym (m.same ∙ ap (best start most from) (drop_of_length-le ends l) ∙ none_left start most from m.first)

-- the first i of the ends at the front of a row have been met, and cleared
pub record Meeting (old row : List ℕ) (count start most from i : ℕ) : Type 0 where
  pub met : Met (take count old) start most from i
  pub cleared : Filled (replicate {A = ℕ} count 0) old row count i

meeting_none : (row : List ℕ) (count : ℕ) → count ≤ length row → Rising (take count row) → Meeting row row count 0 0 0 0
meeting_none row count h r =
    record {
      met = met_none (take count row) r;
      cleared = filled_none (replicate {A = ℕ} count 0) row count (omega (arith, length-replicate {A = ℕ} count 0)) h;
    }

module _ {old row : List ℕ} {count start most from i : ℕ} (m : Meeting old row count start most from i) (l : i < count) where
  front_long : length (take count old) ≡ count
  front_long = length-take-le count old m.cleared.fits

  -- the end that is read
  pub end_is : get_or row i 0 ≡ get_or (take count old) i 0
  end_is = unmoved m.cleared l ∙ sym (get_or-take count old i 0 l)

  pub end_above : from < get_or row i 0
  end_above = omega (arith, end_is, above m.met (omega (arith, front_long)))

  zero_next : Filled (replicate {A = ℕ} count 0) old (set row i 0) count (i + 1)
  zero_next = filled_more m.cleared 0 l (sym (get_or-replicate {A = ℕ} count i 0 0 l))

  module _ (e : ℕ) (is : e ≡ get_or row i 0) where
    same_end : e ≡ get_or (take count old) i 0
    same_end = is ∙ end_is

    pub meeting_yes : most ≤ e - from → Meeting old (set row i 0) count from (e - from) e (i + 1)
    meeting_yes k =
        record {
          met = subst (λ (z : ℕ). Met (take count old) from (z - from) z (i + 1)) (sym same_end) (met_yes m.met (omega (arith, front_long)) (omega (arith, same_end)));
          cleared = zero_next;
        }

    pub meeting_no : e - from < most → Meeting old (set row i 0) count start most e (i + 1)
    meeting_no k =
        record {
          met = subst (λ (z : ℕ). Met (take count old) start most z (i + 1)) (sym same_end) (met_no m.met (omega (arith, front_long)) (omega (arith, same_end)));
          cleared = zero_next;
        }

module _ {old row : List ℕ} {count start most from i : ℕ} (m : Meeting old row count start most from i) (l : count ≤ i) where
  start_is : start ≡ before_longest (lengths 0 (take count old))
  start_is = met_all m.met (omega (arith, length-take-le count old m.cleared.fits))

-- all ends of a row
pub meeting_first : (row : List ℕ) → Rising row → Meeting row row (length row) 0 0 0 0
meeting_first row r = meeting_none row (length row) (omega arith) (subst (λ (es : List ℕ). Rising es) (sym (take-length row)) r)

pub all_start_is : {old row : List ℕ} {start most from i : ℕ} → Meeting old row (length old) start most from i → length old ≤ i
    → start ≡ before_longest (lengths 0 old)
all_start_is {old} m l = start_is m l ∙ ap (λ (es : List ℕ). before_longest (lengths 0 es)) (take-length old)
