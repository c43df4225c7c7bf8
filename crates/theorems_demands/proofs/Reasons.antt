-- What is told of a text, and of a call that answered. Assumes nothing.
use Rattle.std.specs.Prelude.{Result, Ok}
use Rattle.refusal.specs.declared.Refusal.{Refusal}
use Prim.Native.Nat.{ℕ, ◌+◌, ◌*◌, ◌/◌, ◌≤◌}
use native.Mathlib.Omega.{arith}
use mathlib.Core.Path.{◌≡◌, refl, sym, ◌∙◌, ap}
use mathlib.Core.Bool.{Bool, true, false, cond}
use mathlib.Core.List.{List, [], ◌∷◌, ◌++◌, map, append-nil}
use mathlib.Core.Option.{Option, some}
use lib.ListN.{length, take, drop, length-map}
use lib.Seq.{take_at}
use lib.Dec.{ltb}
use Rattle.refusal.specs.Answers.{output}
use Rattle.refusal.proofs.Causes.{none_of}
use Rattle.trie_pool.specs.Words.{holds}
use Rattle.trie_pool.specs.Rules.{cells_of}
use Rattle.trie_pool.specs.Meaning.{Words, meaning}
use Rattle.trie_check.specs.Refusals.{held}
use Rattle.trie_check.proofs.Parts.{known_is, meaning_yes}
use Rattle.newmm_rules.specs.declared.Mode.{Mode}
use Rattle.newmm_rules.specs.declared.Mode.TheVariants.{Plain, Safe, Sheet}
use Rattle.newmm_rules.specs.Parts.{last_part, runs_of}
use Rattle.newmm_rules.specs.Modes.{unshifted, behind_space}
use Rattle.newmm_rules.proofs.Parts.{made_up}
use Rattle.newmm_rules.proofs.Samples.{Fits}
use Rattle.newmm_rules.proofs.Modes.{unshifted_fits, behind_space_fits}
use Rattle.newmm_reason_rules.proofs.Why.{reasoned}
use Rattle.newmm_answers.specs.Answers.{accepted_with, plain_cut, cut_of, cut_causes, accepts, cut_answer}
use Rattle.newmm_answers.proofs.Plain.{plain_right, plain_tokens}
use Rattle.newmm_answers.proofs.Told.{told_ends, accepted_is}
use Rattle.newmm_reasons_answers.specs.Told.{parts_of, parts_by, told_part, told_parts, told_of}
use Rattle.newmm_reasons_answers.specs.Answers.{pairs, pair_room, pairs_after}
use Rattle.newmm_reasons_answers.proofs.Told.{same_ends, as_many}
use Rattle.newmm_reasons_answers.proofs.Cells.{pairs_long}
use Rattle.newmm_records.specs.Calls.{RecordsCall, record_told, record_rows, records_of}
use Rattle.theorems_demands.specs.Reasons.{SameTokens, ReasonedParts, none, one, whole, TrueReasons, AnswersAsCut, ReasonsWrote, telling, Demand3AnyReasons, Demand3Reasons, RecordsWrote, recording, Demand3AnyRecords, Demand3Records}
use Rattle.theorems_demands.proofs.Demand3.{Cuts, words_of, demand_3_any_for, demand_3_for}

pub same_tokens : SameTokens
same_tokens mode words text = same_ends words text mode

-- ---- the true reasons

module _ (words : Words) where
  parts_reasoned : (start : ℕ) (parts : List (List ℕ)) → ReasonedParts words start parts (told_parts words start parts)
  unfolding told_parts told_part
  parts_reasoned start [] = none
  parts_reasoned start (part ∷ parts) = one (reasoned (plain_tokens words part)) (parts_reasoned (start + length part) parts)

  module _ (text : List ℕ) where
    last_whole : (l : List ℕ) → whole (last_part l) ≡ l
    last_whole [] = refl
    last_whole (x ∷ l) = append-nil (x ∷ l)

    by_whole : (space : ℕ → ℕ) → Fits space → whole (parts_by space (plain_cut words) text) ≡ text
    by_whole space f = go (ltb (length text) 140)
      where
        go : (b : Bool) → whole (cond b (last_part text) (runs_of (length text) space (plain_cut words) text).parts) ≡ text
        go true = last_whole text
        go false = (made_up space (plain_cut words) f (plain_right words) (length text) text (omega arith)).whole

    parts_whole : (mode : Mode) → whole (parts_of mode (plain_cut words) text) ≡ text
    parts_whole Plain = last_whole text
    parts_whole Safe = by_whole unshifted unshifted_fits
    parts_whole Sheet = by_whole behind_space behind_space_fits

pub true_reasons : TrueReasons
unfolding told_of
true_reasons mode words text = (parts_reasoned words 0 (parts_of mode (plain_cut words) text), parts_whole words text mode)

-- ---- calls

pub answers_as_cut : AnswersAsCut
answers_as_cut c out e = ap (cut_answer c.mode c.text (meaning c.pool) (length c.scratch)) (sym e)

-- as many tokens as the answer says
many_of : (mode : Mode) (text : List ℕ) (pool : Option Words) (n cells room : ℕ) → accepts mode text pool cells room ≡ Ok n → length (told_of mode (held pool) text) ≡ n
many_of mode text pool n cells room h = as_many (held pool) text mode ∙ accepted_is (cut_causes mode text pool cells room) _ n h

-- the pairs of an accepted call stand at the front of its output
pub pairs_of : (mode : Mode) (text : List ℕ) (pool : Option Words) (n cells : ℕ) (out : List ℕ) → accepts mode text pool cells (pair_room out) ≡ Ok n
    → take (2 * n) (pairs_after mode text pool cells out) ≡ pairs (told_of mode (held pool) text)
pairs_of mode text pool n cells out h =
    let ts = told_of mode (held pool) text in
    ap (λ (r : Result ℕ Refusal). take (2 * n) (output r (pairs ts) out)) h
    ∙ take_at (pairs ts) (drop (length (pairs ts)) out) (2 * n) (pairs_long ts ∙ ap (λ (k : ℕ). 2 * k) (many_of mode text pool n cells (pair_room out) h))

-- and so do the records
records_told : (c : RecordsCall) (n : ℕ) → accepts c.mode c.text (meaning c.pool) (length c.scratch) (length c.records) ≡ Ok n
    → take n (records_of c) ≡ map record_told (told_of c.mode (held (meaning c.pool)) c.text)
records_told c n h =
    let ts = told_of c.mode (held (meaning c.pool)) c.text in
    ap (λ (r : Result ℕ Refusal). take n (record_rows r (map record_told ts) c.records)) h
    ∙ take_at (map record_told ts) (drop (length (map record_told ts)) c.records) n
    (length-map ts record_told ∙ many_of c.mode c.text (meaning c.pool) n (length c.scratch) (length c.records) h)

-- a call that answered had a pool that passes, and told each token as the cut ends it
module _ (mode : Mode) (text pool : List ℕ) (cells room n edges : ℕ) (h : cut_answer mode text (meaning pool) cells room ≡ accepted_with n edges) where
  abbrev the_words : Words
  the_words = holds (cells_of pool)

  accepted : accepts mode text (meaning pool) cells room ≡ Ok n
  accepted = (told_ends (accepts mode text (meaning pool) cells room) (cut_of mode (held (meaning pool)) text).edges n edges h).0

  passes : meaning pool ≡ some the_words
  passes =
      let due = none_of (cut_causes mode text (meaning pool) cells room) (length (cut_of mode (held (meaning pool)) text).ends) n accepted in
      meaning_yes pool (known_is pool due.1.1.0)

  told_many : length (told_of mode the_words text) ≡ n
  told_many = many_of mode text (some the_words) n cells room (sym (ap (λ (m : Option Words). accepts mode text m cells room) passes) ∙ accepted)

  edges_told : (cut_of mode the_words text).edges ≡ edges
  edges_told =
      sym (ap (λ (m : Option Words). (cut_of mode (held m) text).edges) passes)
      ∙ (told_ends (accepts mode text (meaning pool) cells room) (cut_of mode (held (meaning pool)) text).edges n edges h).1

pub reasons_wrote : ReasonsWrote
reasons_wrote c n edges h =
    let words = the_words c.mode c.text c.pool (length c.scratch) (pair_room c.out) n edges h in
    let means = passes c.mode c.text c.pool (length c.scratch) (pair_room c.out) n edges h in
    record {
      words = words;
      means = means;
      told = told_of c.mode words c.text;
      many = told_many c.mode c.text c.pool (length c.scratch) (pair_room c.out) n edges h;
      wrote = pairs_of c.mode c.text (meaning c.pool) n (length c.scratch) c.out (accepted c.mode c.text c.pool (length c.scratch) (pair_room c.out) n edges h)
          ∙ ap (λ (m : Option Words). pairs (told_of c.mode (held m) c.text)) means;
      same_ends = same_tokens c.mode words c.text;
      same_edges = edges_told c.mode c.text c.pool (length c.scratch) (pair_room c.out) n edges h;
      reasons = (true_reasons c.mode words c.text).0;
    }

pub records_wrote : RecordsWrote
records_wrote c n edges h =
    let words = the_words c.mode c.text c.pool (length c.scratch) (length c.records) n edges h in
    let means = passes c.mode c.text c.pool (length c.scratch) (length c.records) n edges h in
    record {
      words = words;
      means = means;
      told = told_of c.mode words c.text;
      many = told_many c.mode c.text c.pool (length c.scratch) (length c.records) n edges h;
      wrote = records_told c n (accepted c.mode c.text c.pool (length c.scratch) (length c.records) n edges h)
          ∙ ap (λ (m : Option Words). map record_told (told_of c.mode (held m) c.text)) means;
      same_ends = same_tokens c.mode words c.text;
      same_edges = edges_told c.mode c.text c.pool (length c.scratch) (length c.records) n edges h;
      reasons = (true_reasons c.mode words c.text).0;
    }

-- ---- demand 3

the_reasons : Cuts telling (words_of telling)
the_reasons =
    record {
      room = λ c. pair_room c.out;
      made = λ mode words text. pairs (told_of mode words text);
      enough = λ c n h. omega arith;
      answered = λ c. refl;
      wrote = λ c n h. pairs_of c.mode c.text (meaning c.pool) n (length c.scratch) c.out h;
    }

pub demand_3_any_reasons : Demand3AnyReasons
demand_3_any_reasons = demand_3_any_for telling the_reasons

pub demand_3_reasons : Demand3Reasons
demand_3_reasons = demand_3_for telling the_reasons

the_records : Cuts recording (words_of recording)
the_records =
    record {
      room = λ c. length c.records;
      made = λ mode words text. map record_told (told_of mode words text);
      enough = λ c n h. h;
      answered = λ c. refl;
      wrote = records_told;
    }

pub demand_3_any_records : Demand3AnyRecords
demand_3_any_records = demand_3_any_for recording the_records

pub demand_3_records : Demand3Records
demand_3_records = demand_3_for recording the_records
