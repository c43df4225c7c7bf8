-- The single calls that calls with many texts stand for: the cut and the cut with reasons have one
-- shape. Assumes nothing.
use Rattle.std.specs.Prelude.{Result, Ok, Err}
use Rattle.newmm_rules.specs.declared.Ends.{Ends}
use Rattle.refusal.specs.declared.Refusal.{Refusal}
use Prim.Native.Nat.{ℕ, ◌+◌, ◌*◌, ◌/◌, ◌≤◌}
use native.Mathlib.Omega.{arith}
use mathlib.Core.Path.{◌≡◌, refl, sym, ◌∙◌, ap}
use mathlib.Core.List.{List}
use mathlib.Core.Option.{Option}
use lib.ListN.{length, take, drop}
use lib.Seq.{drop_at, length-take-le}
use Rattle.refusal.specs.Answers.{output}
use Rattle.trie_pool.specs.Meaning.{Words}
use Rattle.trie_check.specs.Refusals.{held}
use Rattle.newmm_rules.specs.declared.Mode.{Mode}
use Rattle.newmm_answers.specs.Answers.{cut_of, accepts, told, cut_answer, scratch_after}
use Rattle.newmm_reasons_answers.specs.Told.{told_of}
use Rattle.newmm_reasons_answers.specs.Answers.{pairs}
use Rattle.newmm_reasons_answers.proofs.Told.{as_many}
use Rattle.newmm_reasons_answers.proofs.Cells.{pairs_long}
use Rattle.newmm_many_answers.specs.Turns.{Singly, ends_told}
use Rattle.newmm_many_answers.proofs.Answered.{accepted_fits, told_fits, written_as_long}
use Rattle.theorems_demands.specs.ManyTexts.{Form}

-- an output of so many cells has room for so many tokens, and what is made of a text takes so many
-- cells for its tokens
pub record Shape : Type 0 where
  pub room : ℕ → ℕ
  pub made : Mode → Words → List ℕ → List ℕ
  pub cells : ℕ → ℕ
  pub sums : (n k : ℕ) → cells (n + k) ≡ cells n + cells k
  pub long : (mode : Mode) (words : Words) (text : List ℕ) → length (made mode words text) ≡ cells (length (cut_of mode words text).ends)
  pub enough : (n k : ℕ) → cells n ≤ k → n ≤ room k
  pub fits : (n k : ℕ) → n ≤ room k → cells n ≤ k

abbrev pub ends_shape : Shape
ends_shape =
    record {
      room = λ k. k;
      made = λ mode words text. (cut_of mode words text).ends;
      cells = λ n. n;
      sums = λ n k. refl;
      long = λ mode words text. refl;
      enough = λ n k h. h;
      fits = λ n k h. h;
    }

abbrev pub pairs_shape : Shape
pairs_shape =
    record {
      room = λ k. k / 2;
      made = λ mode words text. pairs (told_of mode words text);
      cells = λ n. 2 * n;
      sums = λ n k. omega arith;
      long = λ mode words text. pairs_long (told_of mode words text) ∙ ap (λ (k : ℕ). 2 * k) (as_many words text mode);
      enough = λ n k h. omega arith;
      fits = λ n k h. omega arith;
    }

module _ (s : Shape) where
  pub no_cells : s.cells 0 ≡ 0
  no_cells = let e : s.cells 0 ≡ s.cells 0 + s.cells 0 = s.sums 0 0 in omega arith

-- a text in a mode, the pool having this meaning, by so many cells of scratch
module _ (s : Shape) (mode : Mode) (m : Option Words) (cells : ℕ) (text out : List ℕ) where
  abbrev accepted : Result ℕ Refusal
  accepted = accepts mode text m cells (s.room (length out))

  abbrev made : List ℕ
  made = s.made mode (held m) text

  -- what is told, how many cells it takes, what stands in the output, and what was written
  abbrev pub telling : Result Ends Refusal
  telling = cut_answer mode text m cells (s.room (length out))

  abbrev pub taking : ℕ
  taking = s.cells (ends_told telling)

  abbrev pub leaving : List ℕ
  leaving = output accepted made out

  abbrev pub writing : List ℕ
  writing = take taking leaving

  pub taking_fits : taking ≤ length out
  taking_fits = s.fits (ends_told telling) (length out) (told_fits mode text m cells (s.room (length out)))

  pub writing_long : length writing ≡ taking
  writing_long =
      let e = written_as_long mode text m cells (s.room (length out)) made out
      (λ h. omega (arith, s.long mode (held m) text, s.fits (length (cut_of mode (held m) text).ends) (length out) h)) in
      length-take-le taking leaving (omega (arith, e, taking_fits))

  -- behind what was written the output is as it was
  pub rest_is : drop taking leaving ≡ drop taking out
  rest_is = go accepted refl
    where
      go : (x : Result ℕ Refusal) → accepted ≡ x
          → drop (s.cells (ends_told (told x (cut_of mode (held m) text).edges))) (output x made out) ≡ drop (s.cells (ends_told (told x (cut_of mode (held m) text).edges))) out
      go (Ok n) h =
          let q = accepted_fits mode text m cells (s.room (length out)) n h in
          let e : length made ≡ s.cells n = s.long mode (held m) text ∙ ap s.cells (sym q.0) in
          drop_at made (drop (length made) out) (s.cells n) e ∙ ap (λ (k : ℕ). drop k out) e
      go (Err r) h = refl

-- the single call
abbrev pub shaped : Shape → Mode → Option Words → Singly
shaped s mode m text out scratch =
    record {
      told = telling s mode m (length scratch) text out;
      out = leaving s mode m (length scratch) text out;
      scratch = scratch_after text m scratch;
      cells = taking s mode m (length scratch) text out;
    }

-- calls with many texts of this shape, with pools of this meaning
abbrev pub form : Shape → (List ℕ → Option Words) → Form
form s means =
    record {
      one = λ c. shaped s c.mode (means c.pool);
      answer = λ c. telling s c.mode (means c.pool) (length c.scratch) c.text c.out;
      after = λ c. leaving s c.mode (means c.pool) (length c.scratch) c.text c.out;
      means = means;
      cells = s.cells;
    }
