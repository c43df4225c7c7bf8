-- Words and their classes have one list. Assumes nothing.
use Prim.Native.Nat.{ℕ}
use native.Mathlib.Omega.{arith}
use mathlib.Core.Path.{◌≡◌, refl, sym, ap, ◌∙◌}
use mathlib.Core.Bool.{Bool, true, false, cond}
use mathlib.Core.List.{List, [], ◌∷◌}
use mathlib.Core.Logic.{◌⊎◌, inl, inr, ⊎_elim}
use mathlib.Core.Option.{Option, none, some}
use Rattle.trie_pool.specs.Meaning.{Terms, same}
use Rattle.trie_pool.proofs.Sets.{same_true, same_self}
use Rattle.image_rules.specs.Records.{Term}
use Rattle.image_rules.specs.Order.{below}
use Rattle.image_rules.specs.Lists.{Next, Rising, terms_in, Lists}
use Rattle.image_rules.proofs.Lists.{absent_before}
use Rattle.image_list.proofs.Order.{Ordered, before, behind, ordered}
use Rattle.image_list.proofs.Order as order

none_some : {P : Type 0} {c : ℕ} → none ≡ some c → P
none_some e = absurd (let z : ◌≡◌ {A = ℕ} 0 1 = cc in omega arith)

empty : (w : List ℕ) → terms_in [] w ≡ none
unfolding terms_in
empty w = refl

-- the first word is there
first : (t : Term) (ts : List Term) → terms_in (t ∷ ts) t.word ≡ some t.class
unfolding terms_in
first t ts = ap (λ (b : Bool). cond b (some t.class) (terms_in ts t.word)) (same_self t.word)

-- the others are in the rest
later : (t : Term) (ts : List Term) (v : List ℕ) → same v t.word ≡ false → terms_in (t ∷ ts) v ≡ terms_in ts v
unfolding terms_in
later t ts v e = ap (λ (b : Bool). cond b (some t.class) (terms_in ts v)) e

some_inj : {a b : ℕ} → some a ≡ some b → a ≡ b
some_inj e = cc

one : (u v : List ℕ) (ts us : List Term) → Rising u ts → Rising v us → ((w : List ℕ) → terms_in ts w ≡ terms_in us w) → ts ≡ us
one u v [] [] r s h = refl
one u v [] (t ∷ us) r s h = none_some (sym (empty t.word) ∙ h t.word ∙ first t us)
one u v (t ∷ ts) [] r s h = none_some (sym (empty t.word) ∙ sym (h t.word) ∙ first t ts)
one u v (t ∷ ts) (x ∷ us) r s h = go (ordered t.word x.word) (one t.word x.word ts us r.1 s.1)
  where
    -- a word below the first of a list is not in it
    not_in : (y z : Term) (zs : List Term) → below y.word z.word ≡ true → Next v z ⊎ Next u z → Rising z.word zs → terms_in (z ∷ zs) y.word ≡ none
    not_in y z zs l n q = absent_before y.word (z ∷ zs) (⊎_elim (λ m. record { word = m.word; class = m.class; above = l }) (λ m. record { word = m.word; class = m.class; above = l }) n, q)

    -- behind equal first words the rest is the same
    rest : t.word ≡ x.word → (w : List ℕ) (b : Bool) → same w t.word ≡ b → terms_in ts w ≡ terms_in us w
    rest e w true q =
        let i : w ≡ t.word = same_true w t.word q in
        ap (terms_in ts) i ∙ absent_before t.word ts r.1
        ∙ sym (ap (terms_in us) (i ∙ e) ∙ absent_before x.word us s.1)
    rest e w false q = sym (later t ts w q) ∙ h w ∙ later x us w (sym (ap (same w) e) ∙ q)

    go : Ordered t.word x.word → (((w : List ℕ) → terms_in ts w ≡ terms_in us w) → ts ≡ us) → t ∷ ts ≡ x ∷ us
    go (before l) ih = none_some (sym (not_in t x us l (inl s.0) s.1) ∙ sym (h t.word) ∙ first t ts)
    go (behind l) ih = none_some (sym (not_in x t ts l (inr r.0) r.1) ∙ h x.word ∙ first x us)
    go (order.same e) ih =
        let c : t.class ≡ x.class = some_inj (sym (first t ts) ∙ h t.word ∙ ap (terms_in (x ∷ us)) e ∙ first x us) in
        let d : ts ≡ us = ih (λ w. rest e w (same w t.word) refl) in
        λ i. record { word = e i; class = c i } ∷ d i

pub one_list : (held : Terms) (ts us : List Term) → Lists held ts → Lists held us → ts ≡ us
one_list held ts us a b = one [] [] ts us a.good.rising b.good.rising (λ w. a.is w ∙ sym (b.is w))
