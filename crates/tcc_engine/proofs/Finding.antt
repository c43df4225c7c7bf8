-- The first alternative that matches, over plain values. Assumes nothing.
use Rattle.std.specs.Prelude.{Option, Some, None}
use Prim.Native.Nat.{ℕ, suc, ◌+◌, ◌≤◌, ◌<◌}
use native.Mathlib.Omega.{arith}
use native.Mathlib.Numerals.{add-one}
use mathlib.Core.Path.{◌≡◌, refl, sym, ◌∙◌, ap}
use mathlib.Core.Bool.{cond}
use mathlib.Core.List.{List, [], ◌∷◌}
use lib.ListN.{get_or, drop}
use Rattle.tcc_rules.specs.Patterns.{Match, none, upto, or_else, match, is_match, Alternative, pattern, first_of, winner}
use Rattle.tcc_rules.specs.Rules.{alternatives}
use Rattle.tcc_engine.specs.inner.Trying.{Tables, stretch, group_start, tried_at, matched, found, found_in}
use Rattle.tcc_engine.proofs.Items.{is_none, is_upto}
use Rattle.tcc_engine.proofs.Reading.{behind_is, none_behind}

-- what `match_items` gives is the match of the alternative
pub tried_by : (classes row starts text : List ℕ) (k p : ℕ) {a g e : ℕ} {r : Option ℕ} → a ≡ get_or starts k 0 → e ≡ get_or starts (k + 1) 0 → g ≡ group_start row a e
    → r ≡ matched (match (stretch classes row a g e) text p) → r ≡ matched (match (pattern (tried_at classes row starts k)) text p)
unfolding stretch tried_at
tried_by classes row starts text k p {a} {g} {e} starts_at es gs is =
    let f : e ≡ get_or starts (suc k) 0 = es ∙ ap (λ (i : ℕ). get_or starts i 0) (let z : k + 1 ≡ suc k = omega arith in z) in
    is
    ∙ ap (λ (z : ℕ). matched (match (stretch classes row a z e) text p)) gs
    ∙ ap (λ (z : ℕ). matched (match (stretch classes row z (group_start row z e) e) text p)) starts_at
    ∙ ap (λ (z : ℕ). matched (match (stretch classes row (get_or starts k 0) (group_start row (get_or starts k 0) z) z) text p)) f

module _ (text : List ℕ) (p : ℕ) where
  past : (a : Alternative) (rest : List Alternative) → match (pattern a) text p ≡ none → found_in (a ∷ rest) text p ≡ found_in rest text p
  unfolding found_in winner match
  past a rest h = ap (λ (m : Match). found (cond (is_match m) a.number (winner rest text p)) (or_else m (match (first_of rest) text p))) h

  hit : (a : Alternative) (rest : List Alternative) {e : ℕ} → match (pattern a) text p ≡ upto e → found_in (a ∷ rest) text p ≡ Some (record { number = a.number; end = e })
  unfolding found_in winner match
  hit a rest h = ap (λ (m : Match). found (cond (is_match m) a.number (winner rest text p)) (or_else m (match (first_of rest) text p))) h

  nobody : found_in [] text p ≡ None
  unfolding found_in winner match
  nobody = refl

  -- none of the alternatives up to k matches, but for the first `from`
  pub record Trying (from k : ℕ) : Type 0 where
    pub same : found_in (drop from alternatives) text p ≡ found_in (drop k alternatives) text p

  pub trying_none : (from : ℕ) → Trying from from
  trying_none from = record { same = refl }

  module _ {classes row starts : List ℕ} {from k : ℕ} (v : Tables classes row starts) (t : Trying from k) where
    module _ (h : k < 29) {r : Option ℕ} (is : r ≡ matched (match (pattern (tried_at classes row starts k)) text p)) where
      pub trying_next : r ≡ None → Trying from (k + 1)
      trying_next e =
          let m = is_none (match (pattern (tried_at classes row starts k)) text p) is e in
          record {
            same =
                t.same ∙ ap (λ (l : List Alternative). found_in l text p) (behind_is v k h)
                ∙ past (tried_at classes row starts k) (drop (suc k) alternatives) m
                ∙ ap (λ (i : ℕ). found_in (drop i alternatives) text p) (sym (add-one k));
          }

      pub trying_hit : {n e : ℕ} → n ≡ k + 1 → r ≡ Some e → Some (record { number = n; end = e }) ≡ found_in (drop from alternatives) text p
      unfolding tried_at
      trying_hit {n} {e} ns q =
          let m = is_upto (match (pattern (tried_at classes row starts k)) text p) is q in
          ap (λ (z : ℕ). Some (record { number = z; end = e })) (ns ∙ add-one k)
          ∙ sym
          (t.same ∙ ap (λ (l : List Alternative). found_in l text p) (behind_is v k h)
          ∙ hit (tried_at classes row starts k) (drop (suc k) alternatives) m)

    pub trying_all : 29 ≤ k → None ≡ found_in (drop from alternatives) text p
    trying_all h = sym (t.same ∙ ap (λ (l : List Alternative). found_in l text p) (none_behind v k h) ∙ nobody)
