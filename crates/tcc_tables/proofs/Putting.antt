-- The pass that writes both rows, and the answers of the call. Assumes nothing.
use Rattle.std.specs.Prelude.{Result, Ok, Err}
use Rattle.refusal.specs.declared.Refusal.{Refusal}
use Prim.Native.Nat.{ℕ, suc, ◌+◌, ◌≤◌, ◌<◌, min}
use native.Mathlib.Omega.{arith}
use native.Mathlib.Numerals.{add-one}
use mathlib.Core.Path.{◌≡◌, refl, sym, ◌∙◌, ap}
use mathlib.Core.List.{List, [], ◌∷◌, ◌++◌}
use lib.ListN.{length, get_or, set, take, drop, length-set}
use lib.Seq.{drop-cons, take-length}
use Rattle.refusal.specs.declared.Refusal.TheVariants.{OutputTooShort}
use Rattle.char_string_scalars.specs.Scalars.{checked}
use Rattle.lists.proofs.Rows.{store}
use Rattle.tcc_rules.specs.Patterns.{winner}
use Rattle.tcc_rules.specs.Rules.{alternatives}
use Rattle.tcc_rules.specs.Clusters.{cluster_end, cluster_ends}
use Rattle.tcc_rules.proofs.Ends.{rest, rest_all, rest_next}
use Rattle.tcc.proofs.Passes.{Written, written_none, written_room, written_next, counted_all}
use Rattle.tcc.proofs.Deciding.{right, short, fitting}
use Rattle.tcc_tables.specs.Answers.{winners_from, winners_of, winners_answer}

from_long : (text : List ℕ) (p : ℕ) (ends : List ℕ) → length (winners_from text p ends) ≡ length ends
from_long text p [] = refl
from_long text p (e ∷ ends) = ap suc (from_long text e ends)

-- a winner for each cluster
pub as_many : (text : List ℕ) → length (winners_of text) ≡ length (cluster_ends text)
unfolding winners_of
as_many text = from_long text 0 (cluster_ends text)

all_winners : (text : List ℕ) → winners_of text ≡ winners_from text 0 (rest text 0)
unfolding winners_of
all_winners text = ap (winners_from text 0) (rest_all text)

-- n clusters end at p or before it; their ends and winners stand in the rows' first cells
pub record Putting (text old old' ends winners : List ℕ) (p n : ℕ) : Type 0 where
  pub written : Written text old ends p n
  pub behind : drop n (winners_of text) ≡ winners_from text p (rest text p)
  pub front : winners ≡ take n (winners_of text) ++ drop n old'
  pub long : length winners ≡ length old'

pub putting_none : (text ends winners : List ℕ) → Putting text ends winners ends winners 0 0
putting_none text ends winners = record { written = written_none text ends; behind = all_winners text; front = refl; long = refl }

module _ {text old old' ends winners : List ℕ} {p n : ℕ} (v : Putting text old old' ends winners p n) where
  module _ (i : p < length text) where
    pub room_left : n < length (cluster_ends text)
    room_left = written_room v.written i

    pub putting_next : {e w : ℕ} → length (cluster_ends text) ≤ length old → length (cluster_ends text) ≤ length old' → e ≡ cluster_end text p → w ≡ winner alternatives text p
        → Putting text old old' (set ends n e) (set winners n w) e (n + 1)
    putting_next {e} {w} room room' h k =
        let all = winners_of text in
        let j : n < length all = omega (arith, room_left, as_many text) in
        let d : drop n all ≡ w ∷ winners_from text e (rest text e) =
        v.behind ∙ ap (winners_from text p) (rest_next text p i)
        ∙ ap (λ (x : ℕ). x ∷ winners_from text (cluster_end text p) (rest text (cluster_end text p))) (sym k)
        ∙ ap (λ (q : ℕ). w ∷ winners_from text q (rest text q)) (sym h)
        in
        let c : get_or all n 0 ∷ drop (suc n) all ≡ w ∷ winners_from text e (rest text e) = sym (drop-cons all n 0 j) ∙ d in
        let x : get_or all n 0 ≡ w = cc in
        let y : drop (suc n) all ≡ winners_from text e (rest text e) = cc in
        record {
          written = written_next room v.written i h;
          behind = ap (λ (q : ℕ). drop q all) (add-one n) ∙ y;
          front =
              ap (λ (l : List ℕ). set l n w) v.front
              ∙ ap (λ (z : ℕ). set (take n all ++ drop n old') n z) (sym x)
              ∙ store all old' n j (omega (arith, room_left));
          long = length-set winners n w ∙ v.long;
        }

  pub putting_all : length text ≤ p → winners ≡ winners_of text ++ drop (length (winners_of text)) old'
  putting_all i =
      let t : n ≡ length (winners_of text) = counted_all v.written.counted i ∙ sym (as_many text) in
      v.front ∙ rw (t, take-length)

-- ---- the answers

-- a text that is accepted is accepted with its length
pub passed : (text : List ℕ) {a : Result ℕ Refusal} {n : ℕ} → a ≡ checked text → a ≡ Ok n → checked text ≡ Ok (length text)
passed text is e = sym is ∙ e ∙ ap Ok (right text (sym is ∙ e)).whole

module _ (text ends winners : List ℕ) (ok : checked text ≡ Ok (length text)) {k : ℕ} (is : k ≡ length (cluster_ends text)) where
  pub ends_short : length ends < k → Err (OutputTooShort k) ≡ winners_answer text (length ends) (length winners)
  ends_short h = short text (min (length ends) (length winners)) ok is (omega arith)

  pub winners_short : length winners < k → Err (OutputTooShort k) ≡ winners_answer text (length ends) (length winners)
  winners_short h = short text (min (length ends) (length winners)) ok is (omega arith)

  pub both_fit : k ≤ length ends → k ≤ length winners → Ok k ≡ winners_answer text (length ends) (length winners)
  both_fit h l = fitting text (min (length ends) (length winners)) ok is (omega arith)
