-- Demand 3 holds, by one proof for all cutting calls. Assumes nothing.
use Rattle.std.specs.Prelude.{Result, Ok, Err}
use Prim.Native.Nat.{ℕ, ◌+◌, ◌*◌, ◌≤◌}
use native.Mathlib.Omega.{arith}
use mathlib.Core.Path.{◌≡◌, refl, sym, ◌∙◌, ap, subst}
use mathlib.Core.Bool.{Bool, true, false, cond}
use mathlib.Core.List.{List, [], ◌∷◌, ◌++◌}
use mathlib.Core.Option.{Option, some}
use lib.ListN.{length, take, drop}
use lib.Seq.{take_at}
use lib.Dec.{ltb}
use borrow.Author.Tests.{le-ltb}
use Rattle.refusal.specs.declared.Refusal.{Refusal}
use Rattle.refusal.specs.Answers.{Cause, answer, output}
use Rattle.trie_pool.specs.Meaning.{Words, words_in, meaning}
use Rattle.trie_pool.proofs.Terms.{means_of}
use Rattle.trie_check.specs.Refusals.{held}
use Rattle.refusal.proofs.Causes.{None, none_of}
use Rattle.newmm_rules.specs.declared.Mode.{Mode}
use Rattle.newmm_answers.specs.Answers.{accepted_with, cut_of, cut_causes, accepts, told, cut_answer, out_after}
use Rattle.newmm_answers.specs.Calls.{Call, answer_of, out_of}
use Rattle.newmm_answers.proofs.Told.{told_ends, accepted_is}
use Rattle.theorems_demands.specs.Demand3.{Operation, SameAnswerFor, Demand3AnyFor, Demand3For, cutting, Demand3Any, Demand3}
use Rattle.theorems_demands.proofs.Reaching.{means}

pub all_pass : (rs : List Cause) (n : ℕ) → None rs → answer rs n ≡ Ok n
all_pass [] n t = refl
all_pass (r ∷ rs) n t = ap (λ (b : Bool). cond b (Err r.refusal) (answer rs n)) t.0 ∙ all_pass rs n t.1

-- the ends of an accepted call stand at the front of its output
pub front_of : (mode : Mode) (text : List ℕ) (pool : Option Words) (n cells : ℕ) (out : List ℕ) → accepts mode text pool cells (length out) ≡ Ok n
    → take n (out_after mode text pool cells out) ≡ (cut_of mode (held pool) text).ends
front_of mode text pool n cells out h =
    ap (λ (r : Result ℕ Refusal). take n (output r (cut_of mode (held pool) text).ends out)) h
    ∙ take_at (cut_of mode (held pool) text).ends (drop (length (cut_of mode (held pool) text).ends) out) n (accepted_is (cut_causes mode text pool cells (length out)) _ n h)

module _ (mode : Mode) (text : List ℕ) (words : Words) (n : ℕ) where
  pub front_is : (cells : ℕ) (out : List ℕ) → accepts mode text (some words) cells (length out) ≡ Ok n → take n (out_after mode text (some words) cells out) ≡ (cut_of mode words text).ends
  front_is cells out h = front_of mode text (some words) n cells out h

  -- with scratch and room enough, one accepted call makes the other accepted
  other_accepted : (cells cells' room room' : ℕ) → accepts mode text (some words) cells room ≡ Ok n → 9 * length text + 128 ≤ cells' → n ≤ room'
      → accepts mode text (some words) cells' room' ≡ Ok n
  other_accepted cells cells' room room' h s o =
      let r = none_of (cut_causes mode text (some words) cells room) (length (cut_of mode words text).ends) n h in
      let e = accepted_is (cut_causes mode text (some words) cells room) (length (cut_of mode words text).ends) n h in
      all_pass (cut_causes mode text (some words) cells' room') (length (cut_of mode words text).ends)
      (r.0, (r.1.0, (refl, (le-ltb cells' (9 * length text + 128) s, (le-ltb room' (length (cut_of mode words text).ends) (omega arith), tt)))))
      ∙ ap Ok e

-- what a cutting call has that demand 3 stands on, with the words that it goes by: its answer is
-- that of a cut with room for so many ends, and an accepted call writes what the mode, the words
-- and the text make
pub record Cuts (o : Operation) (words : o.Asked → Option Words) : Type 0 where
  pub room : o.Asked → ℕ
  pub made : Mode → Words → List ℕ → List o.Cell
  pub enough : (c : o.Asked) (n : ℕ) → o.cells n ≤ length (o.out c) → n ≤ room c
  pub answered : (c : o.Asked) → o.answer c ≡ cut_answer (o.mode c) (o.text c) (words c) (length (o.scratch c)) (room c)
  pub wrote : (c : o.Asked) (n : ℕ) → accepts (o.mode c) (o.text c) (words c) (length (o.scratch c)) (room c) ≡ Ok n
      → take (o.cells n) (o.after c) ≡ made (o.mode c) (held (words c)) (o.text c)

-- any two calls that go by the same words
pub same_answer_for : (o : Operation) (words : o.Asked → Option Words) → Cuts o words → (a b : o.Asked) (v w : Words) → words a ≡ some v → words b ≡ some w → ((x : List ℕ) → v x ≡ w x) → SameAnswerFor o a b
same_answer_for o words k a b v w pa pb same text mode n edges h s r =
    let ma : words a ≡ some w = pa ∙ (λ i. some (λ (x : List ℕ). same x i)) in
    let ha : cut_answer (o.mode b) (o.text b) (some w) (length (o.scratch a)) (k.room a) ≡ accepted_with n edges =
    sym (λ i. cut_answer (mode i) (text i) (ma i) (length (o.scratch a)) (k.room a)) ∙ sym (k.answered a) ∙ h in
    let t = told_ends (accepts (o.mode b) (o.text b) (some w) (length (o.scratch a)) (k.room a)) (cut_of (o.mode b) w (o.text b)).edges n edges ha in
    let q = other_accepted (o.mode b) (o.text b) w n (length (o.scratch a)) (length (o.scratch b)) (k.room a) (k.room b) t.0 s (k.enough b n r) in
    let accepted_a : accepts (o.mode a) (o.text a) (words a) (length (o.scratch a)) (k.room a) ≡ Ok n =
    (λ i. accepts (mode i) (text i) (ma i) (length (o.scratch a)) (k.room a)) ∙ t.0 in
    let accepted_b : accepts (o.mode b) (o.text b) (words b) (length (o.scratch b)) (k.room b) ≡ Ok n =
    ap (λ (m : Option Words). accepts (o.mode b) (o.text b) m (length (o.scratch b)) (k.room b)) pb ∙ q in (
      k.answered b
          ∙ ap (λ (m : Option Words). cut_answer (o.mode b) (o.text b) m (length (o.scratch b)) (k.room b)) pb
          ∙ ap (λ (x : Result ℕ Refusal). told x (cut_of (o.mode b) w (o.text b)).edges) q
          ∙ ap (λ (j : ℕ). accepted_with n j) t.1,
      k.wrote b n accepted_b
          ∙ ap (λ (m : Option Words). k.made (o.mode b) (held m) (o.text b)) pb
          ∙ sym (λ i. k.made (mode i) (held (ma i)) (text i))
          ∙ sym (k.wrote a n accepted_a),
    )

-- the words of its pool
abbrev pub words_of : (o : Operation) → o.Asked → Option Words
words_of o c = meaning (o.pool c)

-- any two pools that pass and hold the same words
pub demand_3_any_for : (o : Operation) → Cuts o (words_of o) → Demand3AnyFor o
demand_3_any_for o k = same_answer_for o (words_of o) k

-- two pools that were reached from fresh ones, with whatever classes
pub demand_3_for : (o : Operation) → Cuts o (words_of o) → Demand3For o
demand_3_for o k a b v w ra rb =
    demand_3_any_for o k a b (words_in v) (words_in w) (means_of (o.pool a) v (means ra)) (means_of (o.pool b) w (means rb))

-- ---- the cut

the_cut : Cuts cutting (words_of cutting)
the_cut =
    record {
      room = λ c. length c.out;
      made = λ mode words text. (cut_of mode words text).ends;
      enough = λ c n h. h;
      answered = λ c. refl;
      wrote = λ c n h. front_of c.mode c.text (meaning c.pool) n (length c.scratch) c.out h;
    }

pub demand_3_any : Demand3Any
demand_3_any = demand_3_any_for cutting the_cut

pub demand_3 : Demand3
demand_3 = demand_3_for cutting the_cut
