-- Right ends: they rise strictly from above 0, and none is over n. Assumes nothing.
use Prim.Native.Nat.{ℕ, zero, suc, ◌≤◌, ◌<◌}
use native.Mathlib.Omega.{arith}
use native.Mathlib.Decide.{dec_lt}
use mathlib.Core.Path.{◌≡◌, refl, ◌∙◌, ap}
use mathlib.Core.Bool.{Bool, true, false, cond}
use mathlib.Core.Logic.{⊎_elim}
use mathlib.Core.List.Memᴰ
use mathlib.Core.List.{List, [], ◌∷◌}
use lib.ListN.{length, get_or}
use Rattle.lists.specs.Scans.{within}
use Rattle.lists.proofs.Ranges.{within_yes, within_no}
use Rattle.newmm_rules.specs.Positions.{In, Rises, none, next}
use Rattle.break_map_rules.specs.Ends.{right_from, first_wrong, AllRight}

pub right_nil : (n before : ℕ) → right_from n before [] ≡ 0
unfolding right_from
right_nil n before = refl

pub right_yes : (n before e : ℕ) (es : List ℕ) → before < e → e ≤ n → right_from n before (e ∷ es) ≡ suc (right_from n e es)
unfolding right_from
right_yes n before e es h k = ap (λ (b : Bool). cond b (suc (right_from n e es)) 0) (within_yes (suc before) n e h k)

pub right_no : (n before e : ℕ) (es : List ℕ) → (before < e → e ≤ n → ⊥) → right_from n before (e ∷ es) ≡ 0
unfolding right_from
right_no n before e es h = ap (λ (b : Bool). cond b (suc (right_from n e es)) 0) (within_no (suc before) n e h)

most_right : (n before : ℕ) (es : List ℕ) → right_from n before es ≤ length es
unfolding right_from
most_right n before [] = omega arith
most_right n before (e ∷ es) = go (within (suc before) n e) (most_right n e es)
  where
    go : (b : Bool) → right_from n e es ≤ length es → cond b (suc (right_from n e es)) 0 ≤ suc (length es)
    go true h = omega arith
    go false h = omega arith

pub right_most : (n : ℕ) (ends : List ℕ) → first_wrong n ends ≤ length ends
right_most n ends = most_right n 0 ends

-- the first of right ends, and the others
right_first : (n before e : ℕ) (es : List ℕ) → right_from n before (e ∷ es) ≡ suc (length es) → (before < e) × (e ≤ n) × (right_from n e es ≡ length es)
right_first n before e es h = go (dec_lt before e) (dec_lt n e)
  where
    go : Dec (before < e) → Dec (n < e) → (before < e) × (e ≤ n) × (right_from n e es ≡ length es)
    go (no l) d = absurd (let z = right_no n before e es (λ a b. l a) in omega arith)
    go (yes l) (yes k) = absurd (let z = right_no n before e es (λ a b. omega arith) in omega arith)
    go (yes l) (no k) = (l, omega arith, let z = right_yes n before e es l (omega arith) in omega arith)

-- right ends rise from above the end before them
right_rises : (n before : ℕ) (es : List ℕ) → right_from n before es ≡ length es → Rises (suc before) es
right_rises n before [] h = none
right_rises n before (e ∷ es) h = let z = right_first n before e es h in next z.0 (right_rises n e es z.2)

right_within : (n before x : ℕ) (es : List ℕ) → right_from n before es ≡ length es → In x es → x ≤ n
right_within n before x [] h m = absurd (Memᴰ.not-nil m)
right_within n before x (e ∷ es) h m =
    let z = right_first n before e es h in ⊎_elim (λ q. omega (arith, z.1)) (λ k. right_within n e x es z.2 k) (Memᴰ.cases_cons m)

right_at : (n before i : ℕ) (es : List ℕ) → right_from n before es ≡ length es → i < length es → get_or es i 0 ≤ n
right_at n before i [] h l = absurd (omega arith)
right_at n before zero (e ∷ es) h l = (right_first n before e es h).1
right_at n before (suc i) (e ∷ es) h l = right_at n e i es (right_first n before e es h).2 (omega arith)

pub end_at : (n : ℕ) (ends : List ℕ) → AllRight n ends → (i : ℕ) → i < length ends → get_or ends i 0 ≤ n
end_at n ends h i l = right_at n 0 i ends h l

pub ends_rise : (n : ℕ) (ends : List ℕ) → AllRight n ends → Rises 1 ends
ends_rise n ends h = right_rises n 0 ends h

pub ends_within : (n : ℕ) (ends : List ℕ) → AllRight n ends → (x : ℕ) → In x ends → x ≤ n
ends_within n ends h x m = right_within n 0 x ends h m

-- and such ends are right
rises_right : (n before : ℕ) (es : List ℕ) → Rises (suc before) es → ((x : ℕ) → In x es → x ≤ n) → right_from n before es ≡ length es
rises_right n before [] r h = right_nil n before
rises_right n before (e ∷ es) (next l r) h =
    right_yes n before e es l (h e (Memᴰ.head refl)) ∙ ap suc (rises_right n e es r (λ x m. h x (Memᴰ.tail m)))

pub all_right : (n : ℕ) (ends : List ℕ) → Rises 1 ends → ((x : ℕ) → In x ends → x ≤ n) → AllRight n ends
all_right n ends r h = rises_right n 0 ends r h
