-- What the ends of every answer are. Assumes nothing.
use Rattle.std.specs.Prelude.{Ok}
use Prim.Native.Nat.{ℕ, suc, ◌+◌, ◌-◌, ◌≤◌, ◌<◌, min}
use native.Mathlib.Omega.{arith}
use native.Mathlib.Decide.{dec_lt}
use mathlib.Core.Path.{◌≡◌, refl, sym, ◌∙◌, ap, subst}
use mathlib.Core.Bool.{Bool, true, ◌&&◌}
use mathlib.Core.List.{List, [], ◌∷◌}
use mathlib.Core.Option.{Option, some}
use lib.ListN.{length, get_or, take, drop, length-drop}
use lib.Seq.{get_or-take, length-take-le}
use Rattle.refusal.proofs.Causes.{none_of}
use Rattle.trie_pool.specs.Words.{Word, holds}
use Rattle.trie_pool.specs.Rules.{cells_of}
use Rattle.trie_pool.specs.Meaning.{Words, meaning}
use Rattle.trie_check.specs.Refusals.{held}
use Rattle.trie_check.proofs.Parts.{known_is, meaning_yes}
use Rattle.tcc.specs.Flags.{is_end}
use Rattle.newmm_rules.specs.Positions.{up_from, In, Rises}
use Rattle.newmm_rules.specs.Words.{size, span, is_word, word_ends}
use Rattle.newmm_rules.specs.Tokens.{Tokens}
use Rattle.newmm_rules.specs.inner.Climbing.{Climbs}
use Rattle.newmm_rules.specs.declared.Mode.{Mode}
use Rattle.newmm_rules.specs.declared.Mode.TheVariants.{Plain}
use Rattle.newmm_rules.proofs.Positions.{in_those, in_up}
use Rattle.newmm_rules.proofs.Climbing.{rises, last_is, no_ends}
use Rattle.newmm_answers.specs.Answers.{accepted_with, given, cut_of, cut_causes, accepts, out_after}
use Rattle.newmm_answers.specs.Calls.{Call, answer_of, out_of}
use Rattle.newmm_answers.proofs.Cuts.{cut_climbs}
use Rattle.newmm_answers.proofs.Cuts as cuts
use Rattle.newmm_answers.proofs.Told.{told_ends, accepted_is}
use Rattle.newmm_answers.proofs.Plain as plain
use Rattle.theorems_demands.specs.Ends.{EndsRise, LastEnd, NoneForEmpty, FewEnds, PlainTokens, EveryWord, Wrote, EndsWrote}
use Rattle.theorems_demands.proofs.Reaching.{each_word}
use Rattle.theorems_demands.proofs.Demand3.{front_is}

-- ---- every mode

pub ends_rise : EndsRise
ends_rise mode words text = rises (cut_climbs mode words text)

pub last_end : LastEnd
last_end mode words text h = last_is (cut_climbs mode words text) h

pub none_for_empty : NoneForEmpty
none_for_empty mode words text h = no_ends (cut_climbs mode words text) h

pub few_ends : FewEnds
few_ends mode words text = cuts.few_ends mode words text

-- ---- plain mode

pub plain_tokens : PlainTokens
unfolding cut_of
plain_tokens words text = plain.plain_tokens words text

-- no word of a pool that passes is longer than 255
pub every_word : EveryWord
unfolding word_ends
every_word pool words means text b e inside h ends =
    let w : Word (span (given words text) b e) = each_word pool words means (span (given words text) b e) h in
    let long : length (span (given words text) b e) ≡ e - b = length-take-le (e - b) (drop b text) (omega (arith, length-drop b text)) in
    in_those (is_word (given words text) b) e (up_from (min 255 (length text - b)) (suc b))
    (in_up (min 255 (length text - b)) (suc b) e (omega (arith, w.some)) (omega (arith, w.some, w.short)))
    (λ i. h i && ends i)

-- ---- what an accepted call wrote

-- the words of its pool, which passes; the ends and the edge count are those of the definition
pub record Told (c : Call) (n edges : ℕ) : Type 0 where
  pub words : Words
  pub means : meaning c.pool ≡ some words
  pub front : take n (out_of c) ≡ (cut_of c.mode words c.text).ends
  pub many : length (cut_of c.mode words c.text).ends ≡ n
  pub counted : (cut_of c.mode words c.text).edges ≡ edges

pub told : (c : Call) (n edges : ℕ) → answer_of c ≡ accepted_with n edges → Told c n edges
told c n edges h =
    let mode = c.mode in
    let text = c.text in
    let cells = length c.scratch in
    let room = length c.out in
    let t = told_ends (accepts mode text (meaning c.pool) cells room) (cut_of mode (held (meaning c.pool)) text).edges n edges h in
    let none = none_of (cut_causes mode text (meaning c.pool) cells room) (length (cut_of mode (held (meaning c.pool)) text).ends) n t.0 in
    let words = holds (cells_of c.pool) in
    let means : meaning c.pool ≡ some words = meaning_yes c.pool (known_is c.pool none.1.1.0) in
    let a : accepts mode text (some words) cells room ≡ Ok n = sym (ap (λ (m : Option Words). accepts mode text m cells room) means) ∙ t.0 in
    record {
      words = words;
      means = means;
      front = ap (λ (m : Option Words). take n (out_after mode text m cells c.out)) means ∙ front_is mode text words n cells c.out a;
      many = accepted_is (cut_causes mode text (some words) cells room) (length (cut_of mode words text).ends) n a;
      counted = sym (ap (λ (m : Option Words). (cut_of mode (held m) text).edges) means) ∙ t.1;
    }

pub ends_wrote : EndsWrote
ends_wrote c n edges h =
    let mode = c.mode in
    let text = c.text in
    let t = told c n edges h in
    let words = t.words in
    let means = t.means in
    let front = t.front in
    let many = t.many in
    record {
      words = words;
      means = means;
      rise = subst (Rises 1) (sym front) (ends_rise mode words text);
      last = λ long. last_written text n (out_of c) (cut_of mode words text).ends front many long (last_end mode words text long);
      none_for_empty = λ empty. omega (arith, ap length (none_for_empty mode words text empty));
      plain_tokens = λ e. subst (λ (ends : List ℕ). Tokens (given words text) 0 ends (length text)) (sym front)
          (subst (λ (m : Mode). Tokens (given words text) 0 (cut_of m words text).ends (length text)) (sym e) (plain_tokens words text));
    }
  where
    last_written : (text : List ℕ) (n : ℕ) (out ends : List ℕ) → take n out ≡ ends → length ends ≡ n → 0 < length text → get_or ends (length ends - 1) 0 ≡ length text → get_or out (n - 1) 0 ≡ length text
    last_written text n out ends front many long last = go (dec_lt 0 n)
      where
        at : get_or (take n out) (n - 1) 0 ≡ length text
        at = ap (λ (l : List ℕ). get_or l (n - 1) 0) front ∙ ap (λ (k : ℕ). get_or ends (k - 1) 0) (sym many) ∙ last

        go : Dec (0 < n) → get_or out (n - 1) 0 ≡ length text
        go (yes l) = sym (get_or-take n out (n - 1) 0 (omega arith)) ∙ at
        go (no l) = absurd (none_there ends (omega arith) last)
          where
            none_there : (ends : List ℕ) → length ends ≡ 0 → get_or ends (length ends - 1) 0 ≡ length text → ⊥
            none_there [] e q = omega arith
            none_there (x ∷ ends) e q = omega arith
