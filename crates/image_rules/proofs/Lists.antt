-- The words of a rising list: each stands once. Assumes nothing.
use mathlib.Core.Path.{◌≡◌, refl, sym, ap, subst, ◌∙◌}
use mathlib.Core.Bool.{Bool, true, false, cond}
use mathlib.Core.List.{List, [], ◌∷◌}
use mathlib.Core.Option.{Option, none, some}
use Prim.Native.Nat.{ℕ, zero, suc, ◌+◌, ◌-◌, ◌≤◌, ◌<◌}
use native.Mathlib.Omega.{arith}
use lib.ListN.{length}
use Rattle.trie_pool.specs.Meaning.{Terms, same, with_term}
use Rattle.trie_pool.proofs.Rules.{clash}
use Rattle.trie_pool.proofs.Sets.{same_true}
use Rattle.image_rules.specs.Records.{Term}
use Rattle.image_rules.specs.Order.{below}
use Rattle.image_rules.specs.Lists.{Next, Rising, terms_in}
use Rattle.image_rules.proofs.Order.{below_self, below_trans}

pub no_term : (v : List ℕ) → terms_in [] v ≡ none
unfolding terms_in
no_term v = refl

pub terms_first : (t : Term) (ts : List Term) (v : List ℕ) → terms_in (t ∷ ts) v ≡ cond (same v t.word) (some t.class) (terms_in ts v)
unfolding terms_in
terms_first t ts v = refl

-- each word is above the one before it
abbrev pub Climbs : List ℕ → List Term → Type 0
Climbs before [] = Unit {0}
Climbs before (t ∷ ts) = (below before t.word ≡ true) × Climbs t.word ts

climbing : (before : List ℕ) (ts : List Term) → Rising before ts → Climbs before ts
climbing before [] r = tt
climbing before (t ∷ ts) r = (r.0.above, climbing t.word ts r.1)

-- a word below the first isn't among them
absent : (before v : List ℕ) (ts : List Term) → Climbs before ts → ((w : List ℕ) → below before w ≡ true → below v w ≡ true) → terms_in ts v ≡ none
absent before v [] r h = no_term v
absent before v (t ∷ ts) r h =
    terms_first t ts v ∙ ap (λ (b : Bool). cond b (some t.class) (terms_in ts v)) (apart (same v t.word) refl)
    ∙ absent t.word v ts r.1 (λ w k. below_trans v t.word w (h t.word r.0) k)
  where
    apart : (b : Bool) → same v t.word ≡ b → same v t.word ≡ false
    apart false e = e
    apart true e =
        let z : v ≡ t.word = same_true v t.word e in
        clash (sym (below_self v) ∙ ap (below v) z ∙ h t.word r.0)

pub absent_before : (w : List ℕ) (ts : List Term) → Rising w ts → terms_in ts w ≡ none
absent_before w ts r = absent w w ts (climbing w ts r) (λ u k. k)

-- What a list has, and what is held beside it: the list's class where it has the word.
abbrev pub over : Option ℕ → Option ℕ → Option ℕ
over none b = b
over (some c) b = some c

pub over_none : (a : Option ℕ) → over a none ≡ a
over_none none = refl
over_none (some c) = refl

-- the first word of the list goes over to what is held
pub hand_over : (t : Term) (ts : List Term) (held : Terms) (v : List ℕ) → 1 ≤ length t.word → Climbs t.word ts
    → over (terms_in ts v) (with_term t.word t.class held v) ≡ over (terms_in (t ∷ ts) v) (held v)
hand_over t ts held v l r =
    ap (over (terms_in ts v)) (with_is t.word l) ∙ go (same v t.word) refl ∙ ap (λ (z : Option ℕ). over z (held v)) (sym (terms_first t ts v))
  where
    with_is : (w : List ℕ) → 1 ≤ length w → with_term w t.class held v ≡ cond (same v w) (some t.class) (held v)
    with_is [] h = absurd (omega arith)
    with_is (x ∷ w) h = refl

    go : (b : Bool) → same v t.word ≡ b → over (terms_in ts v) (cond (same v t.word) (some t.class) (held v)) ≡ over (cond (same v t.word) (some t.class) (terms_in ts v)) (held v)
    go true e =
        let z : v ≡ t.word = same_true v t.word e in
        let n : terms_in ts v ≡ none = ap (terms_in ts) z ∙ absent t.word t.word ts r (λ u k. k) in
        ap (λ (q : Option ℕ). over q (cond (same v t.word) (some t.class) (held v))) n
        ∙ ap (λ (b : Bool). cond b (some t.class) (held v)) e
        ∙ sym (ap (λ (b : Bool). over (cond b (some t.class) (terms_in ts v)) (held v)) e)
    go false e =
        ap (λ (b : Bool). over (terms_in ts v) (cond b (some t.class) (held v))) e
        ∙ sym (ap (λ (b : Bool). over (cond b (some t.class) (terms_in ts v)) (held v)) e)

pub over_end : (held : Terms) (v : List ℕ) → over (terms_in [] v) (held v) ≡ held v
over_end held v = ap (λ (z : Option ℕ). over z (held v)) (no_term v)
