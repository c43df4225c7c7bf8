-- What is written for a line, and the words behind it, with the rows of a run. Assumes nothing.
use Rattle.std.specs.Prelude.{Result, Ok, Err}
use Prim.Native.Nat.{ℕ, zero, suc, ◌+◌, ◌-◌, ◌*◌, ◌/◌, ◌%◌, ◌^◌, ◌≤◌, ◌<◌}
use native.Mathlib.Omega.{arith}
use native.Mathlib.Nat.{pow-suc}
use native.Mathlib.Decide.{dec_lt}
use mathlib.Core.Path.{◌≡◌, refl, sym, ◌∙◌, ap, subst}
use mathlib.Core.Bool.{Bool, true, false, not, cond}
use mathlib.Core.List.{List, [], ◌∷◌, ◌++◌}
use mathlib.Core.Logic.{◌⊎◌, inl, inr}
use mathlib.Core.Option.{some}
use lib.Dec.{ltb}
use lib.ListN.{length, take, drop, length-append, length-drop}
use lib.Seq.{take-append_seam, take_all, length-take-le}
use borrow.Author.Tests.{ltb-true, ltb-false}
use Rattle.refusal.specs.declared.Refusal.{Refusal}
use Rattle.refusal.specs.declared.Refusal.TheVariants.{IllFormed, WordTooLong, TooFewNodes}
use Rattle.refusal.specs.Numbers.{number_of, detail_of}
use Rattle.refusal.specs.Answers.{output}
use Rattle.utf8.specs.Decoding.{run_all, scalars_of}
use Rattle.trie_pool.specs.Meaning.{Words, Terms, meaning, terms, report, classless}
use Rattle.sheet_run.proofs.Classless.{more_are, less_are}
use Rattle.trie_check.specs.Refusals.{held}
use Rattle.trie_char_answers.specs.Answers.{added, removed, words_of}
use Rattle.trie_char_answers.specs.Changes.{Became, After}
use Rattle.newmm_rules.specs.declared.Mode.{Mode}
use Rattle.newmm_rules.specs.inner.Climbing.{Climbs, there, up}
use Rattle.newmm_rules.proofs.Climbing.{few, onward}
use Rattle.newmm_answers.specs.Answers.{cut_of}
use Rattle.sheet_replies.specs.declared.Asked.{Asked}
use Rattle.sheet_replies.specs.declared.Asked.TheVariants.{Nothing, Add, Remove, Cut}
use Rattle.sheet_texts.specs.declared.Reply.{Reply}
use Rattle.sheet_texts.specs.declared.Reply.TheVariants.{Unknown, Report, Ends, Refused}
use Rattle.sheet_replies.specs.Replies.{asked, text_of, add_text, remove_text, cut_text, reported, ended, reply_to, ends_after, PoolAfter}
use Rattle.sheet_texts.specs.Texts.{decimal_in, decimal, behind_other, line_of, text_of_reply, spaced}
use Rattle.sheet_input.specs.Feeding.{told}
use Rattle.sheet_replies.proofs.Asking.{asked_long}
use Rattle.sheet_run.specs.Program.{among, including, excluding, nodes, word_of, added_in, removed_in, ends_in, cut_in, reply_in, told_ends, if_accepted, words_in, words_behind, told_for, Possible, one, seven, eight, OnlyThese}
use Rattle.sheet_run.proofs.ByWords.{lent, among_with, among_without, words_are, add_is, remove_is, cut_is, climbs, few_scalars}

-- ---- a line's text

report_told : (a : Result ℕ Refusal) (row : List ℕ) → line_of (reported a) row ≡ line_of (reported a) []
report_told (Ok n) row = refl
report_told (Err r) row = refl

-- the pool behind an answer
after_holds : (a : Result ℕ Refusal) (old new : List ℕ) (f : Terms) (more words : List (List ℕ)) → After a old new f → f ≡ classless (among more) → terms old ≡ some (classless (among words)) → length old ≡ 16384
    → (terms new ≡ some (classless (among (if_accepted a more words)))) × (length new ≡ 16384)
after_holds (Ok n) old new f more words b e m s = (b.means ∙ ap some e, b.kept ∙ s)
after_holds (Err r) old new f more words b e m s = (ap terms b ∙ m, ap length b ∙ s)

module _ (text : List ℕ) (short : length text ≤ 1023) (pool : List ℕ) (words : List (List ℕ)) (m : terms pool ≡ some (classless (among words))) (size : length pool ≡ 16384) where
  cut_told : (mode : Mode) (row : List ℕ) → length row ≡ 1023
      → line_of (ended (cut_text mode text pool lent 9335 (length row))) (output (cut_text mode text pool lent 9335 (length row)) (cut_of mode (held (meaning pool)) (scalars_of text)).ends row)
      ≡ line_of (ended (cut_in mode text words)) (ends_in mode text words)
  cut_told mode row r =
      ap (λ (a : Result ℕ Refusal). line_of (ended a) (output a (cut_of mode (held (meaning pool)) (scalars_of text)).ends row)) (ap (cut_text mode text pool lent 9335) r ∙ cut_is text short pool words m size mode)
      ∙ ap (λ (f : Words). line_of (ended (cut_in mode text words)) (output (cut_in mode text words) (cut_of mode f (scalars_of text)).ends row)) (words_are text short pool words m size)
      ∙ go (run_all text).whole
    where
      ends : List ℕ
      ends = ends_in mode text words

      go : (b : Bool) → let a = cond (not b) (Err (IllFormed (run_all text).taken)) (Ok (length ends)) in line_of (ended a) (output a ends row) ≡ line_of (ended a) ends
      go true = ap (λ (l : List ℕ). spaced l ++ (10 ∷ [])) (take-append_seam ends (drop (length ends) row) ∙ sym (take_all (length ends) ends (omega arith)))
      go false = refl

  text_told : (k : Asked) (row : List ℕ) → length row ≡ 1023
      → line_of (reply_to k text pool lent 9335 (length row)) (ends_after k text pool lent 9335 row) ≡ line_of (reply_in k text words) (told_ends k text words)
  unfolding reply_to ends_after reply_in told_ends
  text_told Nothing row r = refl
  text_told Add row r = report_told (add_text text pool lent) row ∙ ap (λ (a : Result ℕ Refusal). line_of (reported a) []) (add_is text short pool words m size)
  text_told Remove row r = report_told (remove_text text pool lent) row ∙ ap (λ (a : Result ℕ Refusal). line_of (reported a) []) (remove_is text short pool words m size)
  text_told (Cut mode) row r = cut_told mode row r

  text_pool : (k : Asked) (new : List ℕ) → PoolAfter k text pool new lent → (terms new ≡ some (classless (among (words_in k text words)))) × (length new ≡ 16384)
  unfolding PoolAfter words_in
  text_pool Nothing new e = (ap terms e ∙ m, ap length e ∙ size)
  text_pool (Cut mode) new e = (ap terms e ∙ m, ap length e ∙ size)
  text_pool Add new a =
      after_holds (added_in text words) pool new (added (scalars_of text) 0 pool) (including (word_of text) words) words
      (subst (λ (x : Result ℕ Refusal). After x pool new (added (scalars_of text) 0 pool)) (add_is text short pool words m size) a)
      (more_are pool (among words) m (word_of text) ∙ ap classless (sym (among_with (word_of text) words))) m size
  text_pool Remove new a =
      after_holds (removed_in text words) pool new (removed (scalars_of text) pool) (excluding (word_of text) words) words
      (subst (λ (x : Result ℕ Refusal). After x pool new (removed (scalars_of text) pool)) (remove_is text short pool words m size) a)
      (less_are pool (among words) m (word_of text) ∙ ap classless (sym (among_without (word_of text) words))) m size

-- a line that asks nothing is answered alike, whatever its text
nothing_line : (text pool : List ℕ) (words : List (List ℕ)) (row : List ℕ)
    → line_of (reply_to Nothing text pool lent 9335 (length row)) (ends_after Nothing text pool lent 9335 row) ≡ line_of (reply_in Nothing text words) (told_ends Nothing text words)
unfolding reply_to ends_after reply_in told_ends
nothing_line text pool words row = refl

pub nothing_pool : (text pool : List ℕ) (words : List (List ℕ)) → terms pool ≡ some (classless (among words)) → length pool ≡ 16384 → (new : List ℕ) → PoolAfter Nothing text pool new lent
    → (terms new ≡ some (classless (among (words_in Nothing text words)))) × (length new ≡ 16384)
unfolding PoolAfter words_in
nothing_pool text pool words m size new e = (ap terms e ∙ m, ap length e ∙ size)

nothing_told : (text other : List ℕ) (words : List (List ℕ)) → line_of (reply_in Nothing text words) (told_ends Nothing text words) ≡ line_of (reply_in Nothing other words) (told_ends Nothing other words)
unfolding reply_in told_ends
nothing_told text other words = refl

nothing_words : (text other : List ℕ) (words : List (List ℕ)) → words_in Nothing text words ≡ words_in Nothing other words
unfolding words_in
nothing_words text other words = refl

nothing_size : (text : List ℕ) (words : List (List ℕ)) → length (line_of (reply_in Nothing text words) (told_ends Nothing text words)) ≤ 5115
unfolding reply_in told_ends
nothing_size text words = omega arith

-- ---- how long a text is

short_number : (most k n : ℕ) → n < 10 ^ suc k → length (decimal_in most n) ≤ suc k
unfolding decimal_in
short_number zero k n h = omega arith
short_number (suc most) k n h = go (ltb n 10) refl k h (λ j i. short_number most j (n / 10) i)
  where
    go : (b : Bool) → ltb n 10 ≡ b → (k : ℕ) → n < 10 ^ suc k → ((j : ℕ) → n / 10 < 10 ^ suc j → length (decimal_in most (n / 10)) ≤ suc j)
        → length (cond b ((48 + n) ∷ []) (decimal_in most (n / 10) ++ ((48 + n % 10) ∷ []))) ≤ suc k
    go true e k h ih = omega arith
    go false e zero h ih = let z : 10 ^ 1 ≡ 10 = refl in absurd (omega (arith, ltb-false n 10 e, z))
    go false e (suc k) h ih =
        omega (arith, length-append (decimal_in most (n / 10)) ((48 + n % 10) ∷ []), ih k (let p = pow-suc 10 (suc k) in omega arith))

any_number : (most n : ℕ) → length (decimal_in most n) ≤ most
unfolding decimal_in
any_number zero n = omega arith
any_number (suc most) n = go (ltb n 10) (any_number most (n / 10))
  where
    go : (b : Bool) → length (decimal_in most (n / 10)) ≤ most → length (cond b ((48 + n) ∷ []) (decimal_in most (n / 10) ++ ((48 + n % 10) ∷ []))) ≤ suc most
    go true h = omega arith
    go false h = omega (arith, length-append (decimal_in most (n / 10)) ((48 + n % 10) ∷ []))

pub four : (e : ℕ) → e ≤ 1023 → length (decimal e) ≤ 4
four e h = let z : 10 ^ 4 ≡ 10000 = refl in short_number 20 3 e (omega arith)

other_ends : {a z : ℕ} (es : List ℕ) → Climbs a es z → z ≤ 1023 → length (behind_other es) ≤ 5 * length es
other_ends [] c h = omega arith
other_ends (e ∷ es) (up l r) h = omega (arith, length-append (32 ∷ decimal e) (behind_other es), other_ends es r h, four e (omega (arith, onward r)))

-- four digits and a space or a line feed for each end
ends_size : {z : ℕ} (es : List ℕ) → Climbs 0 es z → z ≤ 1023 → length (spaced es ++ (10 ∷ [])) ≤ 5115
ends_size [] c h = omega arith
ends_size (e ∷ es) (up l r) h =
    let n = few (up l r) in
    omega (arith, length-append (spaced (e ∷ es)) (10 ∷ []), length-append (decimal e) (behind_other es), other_ends es r h, four e (omega (arith, onward r)))

-- any other reply
number_size : (n : ℕ) → length (decimal n ++ (10 ∷ [])) ≤ 5115
number_size n = omega (arith, length-append (decimal n) (10 ∷ []), any_number 20 n)

pub refusal_size : (r : Refusal) (ends : List ℕ) → length (line_of (Refused r) ends) ≤ 5115
refusal_size r ends =
    let a = decimal (number_of r) in
    let b = decimal (detail_of r) in
    omega (
      arith,
      any_number 20 (number_of r),
      any_number 20 (detail_of r),
      length-append ((((33 ∷ 32 ∷ []) ++ a) ++ (32 ∷ [])) ++ b) (10 ∷ []),
      length-append (((33 ∷ 32 ∷ []) ++ a) ++ (32 ∷ [])) b,
      length-append ((33 ∷ 32 ∷ []) ++ a) (32 ∷ []),
      length-append (33 ∷ 32 ∷ []) a,
    )

pub report_size : (a : Result ℕ Refusal) → length (line_of (reported a) []) ≤ 5115
report_size (Ok n) = number_size n
report_size (Err r) = refusal_size r []

text_size : (text : List ℕ) → length text ≤ 1023 → (words : List (List ℕ)) (k : Asked) → length (line_of (reply_in k text words) (told_ends k text words)) ≤ 5115
unfolding reply_in told_ends
text_size text short words Nothing = omega arith
text_size text short words Add = report_size (added_in text words)
text_size text short words Remove = report_size (removed_in text words)
text_size text short words (Cut mode) = go (run_all text).whole refl
  where
    ends : List ℕ
    ends = ends_in mode text words

    go : (b : Bool) → (run_all text).whole ≡ b
        → length (line_of (ended (cond (not b) (Err (IllFormed (run_all text).taken)) (Ok (length ends)))) ends) ≤ 5115
    go true e =
        subst (λ (l : List ℕ). length (spaced l ++ (10 ∷ [])) ≤ 5115) (sym (take_all (length ends) ends (omega arith))) (ends_size ends (climbs text words mode) (few_scalars text short e))
    go false e = refusal_size (IllFormed (run_all text).taken) ends

-- ---- lines of any length

pub line_fits : (line : List ℕ) → length line ≤ 1024 → length (text_of line) ≤ 1023
line_fits line h = omega (arith, length-drop 1 line)

pub long : (line : List ℕ) → 1024 < length line → asked line ≡ Nothing
long line h = sym (asked_long line (λ e. omega arith) h)

-- With a pool of 2,048 nodes that holds the words, 1,023 cells for scalars and for ends, and 9,335
-- cells of scratch, a line is answered by the words alone.
module _ (line pool : List ℕ) (words : List (List ℕ)) (m : terms pool ≡ some (classless (among words))) (size : length pool ≡ 16384) where
  pub line_told : (row : List ℕ) → length row ≡ 1023 → told line pool lent 9335 row ≡ told_for line words
  line_told row r =
      elim (dec_lt 1024 (length line)) [
        | yes l ↦ nothing (asked line) (long line l)
        | no n ↦ text_told (text_of line) (line_fits line (omega arith)) pool words m size (asked line) row r
      ]
    where
      none' : line_of (reply_to Nothing (text_of line) pool lent 9335 (length row)) (ends_after Nothing (text_of line) pool lent 9335 row) ≡ line_of (reply_in Nothing (text_of line) words) (told_ends Nothing (text_of line) words)
      none' = nothing_line (text_of line) pool words row

      nothing : (k : Asked) → k ≡ Nothing
          → line_of (reply_to k (text_of line) pool lent 9335 (length row)) (ends_after k (text_of line) pool lent 9335 row) ≡ line_of (reply_in k (text_of line) words) (told_ends k (text_of line) words)
      nothing k e =
          ap (λ (j : Asked). line_of (reply_to j (text_of line) pool lent 9335 (length row)) (ends_after j (text_of line) pool lent 9335 row)) e ∙ none'
          ∙ sym (ap (λ (j : Asked). line_of (reply_in j (text_of line) words) (told_ends j (text_of line) words)) e)

  pub line_pool : (new : List ℕ) → PoolAfter (asked line) (text_of line) pool new lent → (terms new ≡ some (classless (among (words_behind line words)))) × (length new ≡ 16384)
  line_pool new a =
      elim (dec_lt 1024 (length line)) [
        | yes l ↦ subst (λ (k : Asked). (terms new ≡ some (classless (among (words_in k (text_of line) words)))) × (length new ≡ 16384)) (sym (long line l))
            (nothing_pool (text_of line) pool words m size new (subst (λ (k : Asked). PoolAfter k (text_of line) pool new lent) (long line l) a))
        | no n ↦ text_pool (text_of line) (line_fits line (omega arith)) pool words m size (asked line) new a
      ]

-- Each reply is whole: 5,115 bytes hold it.
pub line_size : (line : List ℕ) (words : List (List ℕ)) → length (told_for line words) ≤ 5115
line_size line words =
    elim (dec_lt 1024 (length line)) [
      | yes l ↦ subst (λ (k : Asked). length (line_of (reply_in k (text_of line) words) (told_ends k (text_of line) words)) ≤ 5115) (sym (long line l)) (nothing_size (text_of line) words)
      | no n ↦ text_size (text_of line) (line_fits line (omega arith)) words (asked line)
    ]

-- ---- the first bytes of a longer line

module _ (line : List ℕ) (words : List (List ℕ)) where
  pub front_told : told_for (take 1025 line) words ≡ told_for line words
  front_told =
      elim (dec_lt 1025 (length line)) [
        | yes l ↦ ap (λ (k : Asked). line_of (reply_in k (text_of (take 1025 line)) words) (told_ends k (text_of (take 1025 line)) words)) (long (take 1025 line) (omega (arith, length-take-le 1025 line (omega arith))))
            ∙ nothing_told (text_of (take 1025 line)) (text_of line) words
            ∙ sym (ap (λ (k : Asked). line_of (reply_in k (text_of line) words) (told_ends k (text_of line) words)) (long line (omega arith)))
        | no n ↦ ap (λ (l : List ℕ). told_for l words) (take_all 1025 line (omega arith))
      ]

  pub front_words : words_behind (take 1025 line) words ≡ words_behind line words
  front_words =
      elim (dec_lt 1025 (length line)) [
        | yes l ↦ ap (λ (k : Asked). words_in k (text_of (take 1025 line)) words) (long (take 1025 line) (omega (arith, length-take-le 1025 line (omega arith))))
            ∙ nothing_words (text_of (take 1025 line)) (text_of line) words
            ∙ sym (ap (λ (k : Asked). words_in k (text_of line) words) (long line (omega arith)))
        | no n ↦ ap (λ (l : List ℕ). words_behind l words) (take_all 1025 line (omega arith))
      ]

-- ---- the refusals of a run

refused_inj : {r s : Refusal} → Refused r ≡ Refused s → r ≡ s
refused_inj e = cc

pub only_these : OnlyThese
unfolding reply_in
only_these Nothing text words r e = absurd (let z : ◌≡◌ {A = ℕ} 0 1 = cc in omega arith)
only_these (Cut mode) text words r e = go (run_all text).whole e
  where
    go : (b : Bool) → ended (cond (not b) (Err (IllFormed (run_all text).taken)) (Ok (length (ends_in mode text words)))) ≡ Refused r → Possible (number_of r)
    go true e = absurd (let z : ◌≡◌ {A = ℕ} 0 1 = cc in omega arith)
    go false e = subst (λ (s : Refusal). Possible (number_of s)) (refused_inj e) one
only_these Remove text words r e = go (run_all text).whole (ltb 255 (length (word_of text))) e
  where
    go : (a b : Bool) → reported (cond (not a) (Err (IllFormed (run_all text).taken)) (cond b (Err (WordTooLong (length (word_of text)))) (Ok (report (word_of text) (among words) (among (excluding (word_of text) words)))))) ≡ Refused r
        → Possible (number_of r)
    go false b e = subst (λ (s : Refusal). Possible (number_of s)) (refused_inj e) one
    go true true e = subst (λ (s : Refusal). Possible (number_of s)) (refused_inj e) seven
    go true false e = absurd (let z : ◌≡◌ {A = ℕ} 0 1 = cc in omega arith)
only_these Add text words r e = go (run_all text).whole (ltb 255 (length (word_of text))) (ltb 2048 (nodes (including (word_of text) words))) e
  where
    go : (a b c : Bool)
        → reported (cond (not a) (Err (IllFormed (run_all text).taken)) (cond b (Err (WordTooLong (length (word_of text)))) (cond c (Err (TooFewNodes (nodes (including (word_of text) words) - 2048))) (Ok (report (word_of text) (among words) (among (including (word_of text) words))))))) ≡ Refused r
        → Possible (number_of r)
    go false b c e = subst (λ (s : Refusal). Possible (number_of s)) (refused_inj e) one
    go true true c e = subst (λ (s : Refusal). Possible (number_of s)) (refused_inj e) seven
    go true false true e = subst (λ (s : Refusal). Possible (number_of s)) (refused_inj e) eight
    go true false false e = absurd (let z : ◌≡◌ {A = ℕ} 0 1 = cc in omega arith)
