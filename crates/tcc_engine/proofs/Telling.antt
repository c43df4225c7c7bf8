-- A cluster as it is told, over plain values. Assumes nothing.
use Rattle.std.specs.Prelude.{Option, Some, None}
use Prim.Native.Nat.{ℕ, ◌+◌, ◌-◌, ◌≤◌, ◌<◌}
use native.Mathlib.Omega.{arith}
use mathlib.Core.Path.{◌≡◌, refl, sym, ◌∙◌, ap}
use mathlib.Core.Bool.{Bool, true, false, cond}
use mathlib.Core.List.{List}
use lib.ListN.{length, take, drop}
use borrow.Author.Tests.{ltb-false}
use Rattle.tcc_rules.specs.Patterns.{holds_at, Pattern, end, fail, then, either, Match, none, upto, or_else, match, is_match, first_of, winner}
use Rattle.tcc_rules.specs.Rules.{alternatives, lookahead}
use Rattle.tcc_rules.specs.Clusters.{ended, cluster_end}
use Rattle.tcc_rules.proofs.Bounds.{cluster}
use Rattle.tcc_rules.proofs.Numbers.{match_if_winner}
use Rattle.tcc_engine.specs.declared.Won.{Won}
use Rattle.tcc_engine.specs.inner.Trying.{found, found_in, told_at}
use Rattle.tcc_engine.proofs.Classes.{only_there}

-- ---- a match ends within the text

pub differ : {P : Type 0} {e : ℕ} → none ≡ upto e → P
differ h = absurd (let z : ◌≡◌ {A = ℕ} 0 1 = cc in omega arith)

pub ends_inside : (a : Pattern) (text : List ℕ) (p e : ℕ) → p ≤ length text → match a text p ≡ upto e → e ≤ length text
unfolding match
ends_inside end text p e i h = let z : p ≡ e = cc in omega arith
ends_inside fail text p e i h = differ h
ends_inside (then cl r) text p e i h = go (holds_at cl text p) refl h (λ j k. ends_inside r text (p + 1) e j k)
  where
    go : (b : Bool) → holds_at cl text p ≡ b → cond b (match r text (p + 1)) none ≡ upto e → (p + 1 ≤ length text → match r text (p + 1) ≡ upto e → e ≤ length text) → e ≤ length text
    go true q k ih = let t = only_there cl text p (sym q) refl in ih (omega arith) k
    go false q k ih = differ k
ends_inside (either a b) text p e i h = go (match a text p) refl h (λ k. ends_inside a text p e i k) (λ k. ends_inside b text p e i k)
  where
    go : (m : Match) → match a text p ≡ m → or_else m (match b text p) ≡ upto e → (match a text p ≡ upto e → e ≤ length text) → (match b text p ≡ upto e → e ≤ length text) → e ≤ length text
    go none q k f g = g k
    go (upto d) q k f g = f (q ∙ k)

-- ---- what was found says what the match is

apart : {P : Type 0} {w : Won} → None ≡ Some w → P
apart h = absurd (let z : ◌≡◌ {A = ℕ} 0 1 = cc in omega arith)

not_found : (n : ℕ) (m : Match) {r : Option Won} → r ≡ found n m → r ≡ None → m ≡ none
not_found n none h k = refl
not_found n (upto e) h k = apart (sym k ∙ h)

same_won : {w v : Won} → Some w ≡ Some v → v ≡ w
same_won e = cc

was_found : (n : ℕ) (m : Match) {r : Option Won} {w : Won} → r ≡ found n m → r ≡ Some w → (w.number ≡ n) × (m ≡ upto w.end)
was_found n none h q = apart (sym h ∙ q)
was_found n (upto d) {r} {w} h q =
    let z = same_won (sym h ∙ q) in
    (ap (λ (x : Won). x.number) z, ap upto (sym (ap (λ (x : Won). x.end) z)))

won : {n m e d : ℕ} → n ≡ m → e ≡ d → ◌≡◌ {A = Won} (record { number = n; end = e }) (record { number = m; end = d })
won h k = λ i. record { number = h i; end = k i }

-- ---- the cluster at a place

module _ (text : List ℕ) (p : ℕ) {r : Option Won} (is : r ≡ found_in alternatives text p) where
  pub told_none : r ≡ None → record { number = 0; end = p + 1 } ≡ told_at text p
  unfolding found_in told_at cluster_end
  told_none h =
      let m = not_found (winner alternatives text p) (match (first_of alternatives) text p) is h in
      let w = ltb-false 0 (winner alternatives text p) (sym (match_if_winner text p) ∙ ap is_match m) in
      won (omega arith) (sym (ap (ended (first_of lookahead) text p (p + 1)) m))

  module _ {v : Won} (h : r ≡ Some v) where
    number_is : v.number ≡ winner alternatives text p
    unfolding found_in
    number_is = (was_found (winner alternatives text p) (match (first_of alternatives) text p) is h).0

    match_is : match (first_of alternatives) text p ≡ upto v.end
    unfolding found_in
    match_is = (was_found (winner alternatives text p) (match (first_of alternatives) text p) is h).1

    pub end_inside : p ≤ length text → v.end ≤ length text
    end_inside i = ends_inside (first_of alternatives) text p v.end i match_is

    end_is : (m : Match) → match (first_of lookahead) (take v.end text) p ≡ m → cluster_end text p ≡ cond (is_match m) (v.end - 1) v.end
    unfolding cluster_end
    end_is m q = ap (ended (first_of lookahead) text p (p + 1)) match_is ∙ ap (λ (x : Match). cond (is_match x) (v.end - 1) v.end) q

    module _ {s : Option Won} (ahead : s ≡ found_in (drop 27 alternatives) (take v.end text) p) where
      pub told_whole : s ≡ None → v ≡ told_at text p
      unfolding found_in told_at
      told_whole k = won number_is (sym (end_is none (not_found (winner lookahead (take v.end text) p) (match (first_of lookahead) (take v.end text) p) ahead k)))

      module _ {u : Won} (k : s ≡ Some u) where
        shorter : cluster_end text p ≡ v.end - 1
        unfolding found_in
        shorter = end_is (upto u.end) (was_found (winner lookahead (take v.end text) p) (match (first_of lookahead) (take v.end text) p) ahead k).1

        pub told_shorter : record { number = v.number; end = v.end - 1 } ≡ told_at text p
        unfolding told_at
        told_shorter = won number_is (sym shorter)

        pub some_left : p < length text → 1 ≤ v.end
        some_left i = omega (arith, shorter, (cluster text p i).past)

-- ---- what a cluster that was told has

module _ (text : List ℕ) (p : ℕ) {w : Won} (is : w ≡ told_at text p) where
  pub told_number : w.number ≡ winner alternatives text p
  unfolding told_at
  told_number = ap (λ (x : Won). x.number) is

  pub told_end : w.end ≡ cluster_end text p
  unfolding told_at
  told_end = ap (λ (x : Won). x.end) is
