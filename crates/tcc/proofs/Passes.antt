-- The passes over a text's clusters. Assumes nothing.
use Prim.Native.Nat.{ℕ, suc, ◌+◌, ◌≤◌, ◌<◌}
use native.Mathlib.Omega.{arith}
use native.Mathlib.Numerals.{add-one}
use mathlib.Core.Path.{◌≡◌, refl, sym, ◌∙◌, ap}
use mathlib.Core.List.{List, ◌∷◌, ◌++◌}
use lib.ListN.{length, get_or, set, take, drop, length-set}
use lib.Seq.{drop-cons, take-length}
use Rattle.lists.proofs.Rows.{store}
use Rattle.tcc_rules.specs.Clusters.{cluster_end, cluster_ends}
use Rattle.tcc_rules.proofs.Bounds.{Cluster, cluster}
use Rattle.tcc_rules.proofs.Ends.{rest, rest_all, rest_next, rest_over}

-- the cluster that the pass has just matched
pub matched : {text : List ℕ} {p e : ℕ} → p < length text → e ≡ cluster_end text p → Cluster text p e
matched {text} {p} {e} i h = rw h (cluster text p i)

-- n clusters end at p or before it
pub record Counted (text : List ℕ) (p n : ℕ) : Type 0 where
  pub inside : p ≤ length text
  pub few : n ≤ p
  pub left : length (cluster_ends text) ≡ n + length (rest text p)

pub counted_none : (text : List ℕ) → Counted text 0 0
counted_none text = record { inside = omega arith; few = omega arith; left = omega (arith, ap length (rest_all text)) }

pub counted_next : {text : List ℕ} {p n e : ℕ} → Counted text p n → p < length text → e ≡ cluster_end text p → Counted text e (n + 1)
counted_next {text} {p} {n} {e} c i h =
    let m = matched i h in
    record {
      inside = m.inside;
      few = omega (arith, c.few, m.past);
      left = omega (arith, c.left, ap length (rest_next text p i), ap (λ (q : ℕ). length (rest text q)) h);
    }

pub counted_all : {text : List ℕ} {p n : ℕ} → Counted text p n → length text ≤ p → n ≡ length (cluster_ends text)
counted_all {text} {p} {n} c i = omega (arith, c.left, ap length (rest_over text p i))

-- and stand in the first cells of the output
pub record Written (text old out : List ℕ) (p n : ℕ) : Type 0 where
  pub counted : Counted text p n
  pub behind : drop n (cluster_ends text) ≡ rest text p
  pub front : out ≡ take n (cluster_ends text) ++ drop n old
  pub long : length out ≡ length old

pub written_none : (text out : List ℕ) → Written text out out 0 0
written_none text out = record { counted = counted_none text; behind = rest_all text; front = refl; long = refl }

pub written_room : {text old out : List ℕ} {p n : ℕ} → Written text old out p n → p < length text → n < length (cluster_ends text)
written_room {text} {old} {out} {p} {n} w i = omega (arith, w.counted.left, ap length (rest_next text p i))

pub written_next : {text old out : List ℕ} {p n e : ℕ} → length (cluster_ends text) ≤ length old → Written text old out p n → p < length text → e ≡ cluster_end text p
    → Written text old (set out n e) e (n + 1)
written_next {text} {old} {out} {p} {n} {e} room w i h =
    let ends = cluster_ends text in
    let j : n < length ends = written_room w i in
    let d : drop n ends ≡ e ∷ rest text e = w.behind ∙ rest_next text p i ∙ ap (λ (q : ℕ). q ∷ rest text q) (sym h) in
    let c : get_or ends n 0 ∷ drop (suc n) ends ≡ e ∷ rest text e = sym (drop-cons ends n 0 j) ∙ d in
    let x : get_or ends n 0 ≡ e = cc in
    let y : drop (suc n) ends ≡ rest text e = cc in
    record {
      counted = counted_next w.counted i h;
      behind = ap (λ (q : ℕ). drop q ends) (add-one n) ∙ y;
      front =
          ap (λ (l : List ℕ). set l n e) w.front
          ∙ ap (λ (v : ℕ). set (take n ends ++ drop n old) n v) (sym x)
          ∙ store ends old n j (omega arith);
      long = length-set out n e ∙ w.long;
    }

pub written_all : {text old out : List ℕ} {p n : ℕ} → Written text old out p n → length text ≤ p → out ≡ cluster_ends text ++ drop (length (cluster_ends text)) old
written_all {text} {old} {out} {p} {n} w i =
    let t : n ≡ length (cluster_ends text) = counted_all w.counted i in
    w.front ∙ rw (t, take-length)
