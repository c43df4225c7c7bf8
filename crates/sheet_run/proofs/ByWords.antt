-- With the rows of a run, and a pool of 2,048 nodes that holds the words, a line is answered by the
-- words alone. Assumes nothing.
use Rattle.std.specs.Prelude.{Result, Ok, Err}
use Prim.Native.Nat.{ℕ, suc, ◌+◌, ◌-◌, ◌*◌, ◌/◌, ◌≤◌, ◌<◌, min}
use native.Mathlib.Omega.{arith}
use native.Mathlib.Decide.{dec_lt}
use mathlib.Core.Path.{◌≡◌, refl, sym, ◌∙◌, ap, subst}
use mathlib.Core.Bool.{Bool, true, false, not, cond, ◌&&◌, ◌||◌}
use mathlib.Core.List.{List, [], ◌∷◌, ◌++◌}
use mathlib.Core.Option.{Option, some}
use lib.Dec.{ltb}
use lib.ListN.{length, take, drop, length-append, length-drop}
use lib.Seq.{take-append_seam, take_all}
use borrow.Author.Tests.{lt-ltb, le-ltb}
use Rattle.refusal.specs.declared.Refusal.{Refusal}
use Rattle.refusal.specs.declared.Refusal.TheVariants.{IllFormed, TooManyScalars, OutputTooShort, WordTooLong, TooFewNodes}
use Rattle.refusal.specs.Answers.{output}
use Rattle.utf8_sequences.specs.Utf8.{Utf8, empty, next}
use Rattle.utf8.specs.Decoding.{run_all, scalars_of, Room, decoded}
use Rattle.char_string_scalars.specs.Scalars.{first_non_scalar}
use Rattle.char_string_trim.specs.Trimming.{trimmed_of}
use Rattle.theorems_unicode.proofs.Standard.{accepted, sequence_size}
use Rattle.theorems_unicode.proofs.Encoding.{all_scalars}
use Rattle.trie_pool.specs.Rules.{capacity}
use Rattle.trie_pool.specs.Meaning.{Words, meaning, terms, same, with_term, without_term, report_term, with_word, without_word, report, classless}
use Rattle.trie_pool.proofs.Rules.{clash}
use Rattle.trie_pool.proofs.Sets.{same_true, same_self, same_false}
use Rattle.trie_check.specs.Refusals.{is_none, held}
use Rattle.trie_char_answers.specs.Refusals.{nodes_with}
use Rattle.trie_char_answers.specs.Answers.{added, removed, add_answer, remove_answer, words_of, terms_of}
use Rattle.trie_char_answers.specs.Changes.{Became, After}
use Rattle.newmm_rules.specs.declared.Mode.{Mode}
use Rattle.newmm_rules.specs.inner.Climbing.{Climbs}
use Rattle.newmm_rules.proofs.Climbing.{few}
use Rattle.newmm_rules.proofs.Modes.{modes_climb}
use Rattle.newmm_answers.specs.Answers.{plain_cut, cut_of, accepts}
use Rattle.newmm_answers.proofs.Plain.{plain_right}
use Rattle.sheet_replies.specs.declared.Asked.{Asked}
use Rattle.sheet_replies.specs.declared.Asked.TheVariants.{Nothing, Add, Remove, Cut}
use Rattle.sheet_texts.specs.declared.Reply.{Reply}
use Rattle.sheet_texts.specs.declared.Reply.TheVariants.{Unknown}
use Rattle.sheet_replies.specs.Replies as replies'
use Rattle.sheet_replies.specs.Replies.{asked, text_of, add_text, remove_text, cut_text, reported, ended, reply_to, ends_after, PoolAfter}
use Rattle.sheet_texts.specs.Texts.{line_of, text_of_reply, spaced}
use Rattle.sheet_input.specs.Feeding.{told}
use Rattle.sheet_replies.proofs.Asking.{asked_long}
use Rattle.sheet_run.specs.Program.{among, including, excluding, nodes, word_of, added_in, removed_in, ends_in, cut_in, reply_in, told_ends, if_accepted, words_in, words_behind, told_for}
use Rattle.sheet_run.proofs.Classless.{means_words, more_told, less_told}
use Rattle.sheet_run.proofs.Counting.{among_more, nodes_are}

-- ---- the words behind an addition or a removal

pub among_with : (w : List ℕ) (words : List (List ℕ)) → among (including w words) ≡ with_word w (among words)
among_with [] words = refl
among_with (x ∷ w) words = among_more x w words

without : (w : List ℕ) (words : List (List ℕ)) (v : List ℕ) → among (excluding w words) v ≡ without_word w (among words) v
unfolding among
without w [] v = go (same v w)
  where
    go : (b : Bool) → false ≡ not b && false
    go true = refl
    go false = refl
without w (u ∷ words) v = go (same u w) refl (same v w) refl (same v u) refl (without w words v)
  where
    go : (a : Bool) → same u w ≡ a → (b : Bool) → same v w ≡ b → (d : Bool) → same v u ≡ d → among (excluding w words) v ≡ not (same v w) && among words v
        → among (cond a (excluding w words) (u ∷ excluding w words)) v ≡ not b && (d || among words v)
    go true e true f d g ih = ih ∙ ap (λ (z : Bool). not z && among words v) f
    go true e false f true g ih = absurd (same_false v w f (same_true v u g ∙ same_true u w e))
    go true e false f false g ih = ih ∙ ap (λ (z : Bool). not z && among words v) f
    go false e true f true g ih = absurd (same_false u w e (sym (same_true v u g) ∙ same_true v w f))
    go false e true f false g ih = ap (λ (z : Bool). z || among (excluding w words) v) g ∙ ih ∙ ap (λ (z : Bool). not z && among words v) f
    go false e false f d g ih = ap (λ (z : Bool). z || among (excluding w words) v) g ∙ ap (λ (z : Bool). d || z) (ih ∙ ap (λ (z : Bool). not z && among words v) f)

pub among_without : (w : List ℕ) (words : List (List ℕ)) → among (excluding w words) ≡ without_word w (among words)
among_without w words = λ i v. without w words v i

-- ---- no more scalars than bytes

fewer : {bytes scalars : List ℕ} → Utf8 bytes scalars → length scalars ≤ length bytes
fewer empty = omega arith
fewer (next q {bytes} {scalars} t u) = omega (arith, fewer u, length-append q bytes, (sequence_size q bytes t).1)

-- ---- the ends climb from 0 to the text's length

pub climbs : (text : List ℕ) (words : List (List ℕ)) (mode : Mode) → Climbs 0 (ends_in mode text words) (length (scalars_of text))
unfolding cut_of
climbs text words mode = modes_climb (plain_cut (among words)) (plain_right (among words)) (scalars_of text) mode

-- ---- causes that don't hold

two_no : {a b : Bool} (r s : Refusal) (rest : Result ℕ Refusal) → a ≡ false → b ≡ false → cond a (Err r) (cond b (Err s) rest) ≡ rest
two_no {a} {b} r s rest e f = ap (λ (x : Bool). cond x (Err r) (cond b (Err s) rest)) e ∙ ap (λ (x : Bool). cond x (Err s) rest) f

three_no : {a b c : Bool} (r s t : Refusal) (rest : Result ℕ Refusal) → a ≡ false → b ≡ false → c ≡ false
    → cond a (Err r) (cond b (Err s) (cond c (Err t) rest)) ≡ rest
three_no {a} {b} {c} r s t rest e f g = two_no r s (cond c (Err t) rest) e f ∙ ap (λ (x : Bool). cond x (Err t) rest) g

-- ---- a text of at most 1,023 bytes

-- the rows of a run that it is decoded to
abbrev pub lent : Room
lent = record { scalars = 1023; positions = 1024 }

module _ (text : List ℕ) (short : length text ≤ 1023) where
  module _ (whole : (run_all text).whole ≡ true) where
    u : Utf8 text (scalars_of text)
    u = accepted text whole

    pub few_scalars : length (scalars_of text) ≤ 1023
    few_scalars = omega (arith, fewer u, short)

    no_two : ltb 65535 (length (scalars_of text)) ≡ false
    no_two = le-ltb 65535 (length (scalars_of text)) (omega (arith, few_scalars))

    no_three : ltb (first_non_scalar (scalars_of text)) (length (scalars_of text)) ≡ false
    no_three = le-ltb (first_non_scalar (scalars_of text)) (length (scalars_of text)) (omega (arith, all_scalars u))

  abbrev many : ℕ
  many = length (scalars_of text)

  decodes : (a : Result ℕ Refusal) → replies'.next (decoded text lent) a ≡ cond (not (run_all text).whole) (Err (IllFormed (run_all text).taken)) a
  decodes a = go (run_all text).whole refl
    where
      go : (b : Bool) → (run_all text).whole ≡ b
          → replies'.next (cond (not b) (Err (IllFormed (run_all text).taken)) (cond (ltb 65535 many) (Err (TooManyScalars many)) (cond (ltb 1023 many) (Err (OutputTooShort many)) (cond (ltb 1024 (many + 1)) (Err (OutputTooShort (many + 1))) (Ok many))))) a ≡ cond (not b) (Err (IllFormed (run_all text).taken)) a
      go true e =
          let k = few_scalars e in
          ap (λ (x : Result ℕ Refusal). replies'.next x a) (three_no _ _ _ _ (no_two e) (le-ltb 1023 many (omega arith)) (le-ltb 1024 (many + 1) (omega arith)))
      go false e = refl

  -- the causes before a word's own don't hold, where the text is decoded
  goes_on : (rest rest' : Result ℕ Refusal) → ((run_all text).whole ≡ true → rest ≡ rest')
      → cond (not (run_all text).whole) (Err (IllFormed (run_all text).taken)) rest ≡ cond (not (run_all text).whole) (Err (IllFormed (run_all text).taken)) rest'
  goes_on rest rest' f = go (run_all text).whole refl
    where
      go : (b : Bool) → (run_all text).whole ≡ b → cond (not b) (Err (IllFormed (run_all text).taken)) rest ≡ cond (not b) (Err (IllFormed (run_all text).taken)) rest'
      go true e = f e
      go false e = refl

  module _ (pool : List ℕ) (words : List (List ℕ)) (m : terms pool ≡ some (classless (among words))) (size : length pool ≡ 16384) where
    means : meaning pool ≡ some (among words)
    means = means_words pool (among words) m

    pub words_are : words_of pool ≡ among words
    words_are = ap held means

    no_four : is_none (meaning pool) ≡ false
    no_four = ap is_none means

    cap : capacity pool ≡ 2048
    cap = ap (λ (n : ℕ). min (n / 8) 1048576) size

    pub add_is : add_text text pool lent ≡ added_in text words
    add_is = decodes (add_answer (scalars_of text) 0 pool) ∙ goes_on _ _ here
      where
        w : List ℕ
        w = word_of text

        late : ℕ → ℕ → ℕ → Result ℕ Refusal
        late k c n = cond (ltb 255 (length w)) (Err (WordTooLong (length w))) (cond (ltb c k) (Err (TooFewNodes (k - c))) (Ok n))

        old : ℕ
        old = report_term w (terms_of pool) (with_term w 0 (terms_of pool))

        told' : old ≡ report w (among words) (among (including w words))
        told' = more_told pool (among words) m w ∙ ap (report w (among words)) (sym (among_with w words))

        here : (run_all text).whole ≡ true → add_answer (scalars_of text) 0 pool ≡ late (nodes (including w words)) 2048 (report w (among words) (among (including w words)))
        here e =
            three_no _ _ _ _ (no_two e) (no_three e) no_four ∙ ap (λ (k : ℕ). late k (capacity pool) old) (nodes_are pool words means w) ∙ ap (λ (c : ℕ). late (nodes (including w words)) c old) cap
            ∙ ap (late (nodes (including w words)) 2048) told'

    pub remove_is : remove_text text pool lent ≡ removed_in text words
    remove_is = decodes (remove_answer (scalars_of text) pool) ∙ goes_on _ _ here
      where
        w : List ℕ
        w = word_of text

        late : ℕ → Result ℕ Refusal
        late n = cond (ltb 255 (length w)) (Err (WordTooLong (length w))) (Ok n)

        told' : report_term w (terms_of pool) (without_term w (terms_of pool)) ≡ report w (among words) (among (excluding w words))
        told' = less_told pool (among words) m w ∙ ap (report w (among words)) (sym (among_without w words))

        here : (run_all text).whole ≡ true → remove_answer (scalars_of text) pool ≡ late (report w (among words) (among (excluding w words)))
        here e = three_no _ _ _ _ (no_two e) (no_three e) no_four ∙ ap late told'

    pub cut_is : (mode : Mode) → cut_text mode text pool lent 9335 1023 ≡ cut_in mode text words
    cut_is mode = decodes (accepts mode (scalars_of text) (meaning pool) 9335 1023) ∙ goes_on _ _ here
      where
        ends_are : (cut_of mode (held (meaning pool)) (scalars_of text)).ends ≡ ends_in mode text words
        ends_are = ap (λ (f : Words). (cut_of mode f (scalars_of text)).ends) words_are

        here : (run_all text).whole ≡ true → accepts mode (scalars_of text) (meaning pool) 9335 1023 ≡ Ok (length (ends_in mode text words))
        here e =
            let n = few_scalars e in
            let k = few (climbs text words mode) in
            three_no _ _ _ _ (no_two e) (no_three e) no_four
            ∙ two_no _ _ _ (le-ltb 9335 (9 * length (scalars_of text) + 128) (omega arith)) (le-ltb 1023 (length (cut_of mode (held (meaning pool)) (scalars_of text)).ends) (omega (arith, n, k, ap length ends_are)))
            ∙ ap (λ (l : List ℕ). Ok (length l)) ends_are
