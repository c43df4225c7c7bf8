-- Calls with the rows of a run: what each takes of the run, and that any parts of the input give
-- the whole run. Assumes nothing.
use Prim.Native.Nat.{ℕ, zero, suc, ◌+◌, ◌≤◌, ◌<◌}
use native.Mathlib.Omega.{arith}
use native.Mathlib.Numerals.{add-one}
use mathlib.Core.Path.{◌≡◌, refl, sym, ◌∙◌, ap, subst}
use mathlib.Core.Bool.{Bool, true, false, not, cond}
use mathlib.Core.List.{List, [], ◌∷◌, ◌++◌}
use mathlib.Core.Option.{some}
use lib.Dec.{eqb, ltb}
use lib.ListN.{length, take, drop, length-append, drop_of_length-le}
use lib.Seq.{take-append_seam, take_all, length-take-le}
use borrow.Author.Tests.{ltb-true, ltb-false, eqb-true, eqb-false}
use Rattle.lists.specs.Scans.{leading}
use Rattle.lists.proofs.Scans.{leading_inside}
use Rattle.utf8.specs.Decoding.{Room, room_in}
use Rattle.trie_pool.specs.Meaning.{terms, no_term, classless}
use Rattle.sheet_input.specs.declared.Fed.{Fed}
use Rattle.sheet_replies.specs.declared.Asked.{Asked}
use Rattle.sheet_replies.specs.declared.Asked.TheVariants.{Nothing}
use Rattle.sheet_bytes.specs.Lines.{line_end, kept, laid}
use Rattle.sheet_replies.specs.Replies.{asked, text_of, PoolAfter, RowsAfter}
use Rattle.sheet_texts.specs.Texts.{written, amount}
use Rattle.sheet_input.specs.Feeding.{line_with, has_end, asked_if, told, fed_with}
use Rattle.sheet_run.specs.Program.{lines_from, among, replies, left, run, told_for, words_behind, Holds, Leaves, Stepped, Finished, Calls, step, last}
use Rattle.sheet_run.proofs.ByWords.{lent}
use Rattle.sheet_run.proofs.Telling.{line_told, line_pool, line_size, front_told, front_words, nothing_pool}

append_nil : (l : List ℕ) → l ++ [] ≡ l
append_nil [] = refl
append_nil (x ∷ l) = ap {B = List ℕ} (λ r. x ∷ r) (append_nil l)

append_two : (a b c : List ℕ) → (a ++ b) ++ c ≡ a ++ (b ++ c)
append_two [] b c = refl
append_two (x ∷ a) b c = ap {B = List ℕ} (λ r. x ∷ r) (append_two a b c)

-- ---- lines

lines_end : (begun bytes more : List ℕ) → line_end bytes < length bytes
    → lines_from begun (bytes ++ more) ≡ (begun ++ take (line_end bytes) bytes) ∷ lines_from [] (drop (suc (line_end bytes)) bytes ++ more)
unfolding lines_from leading
lines_end begun [] more h = absurd (omega arith)
lines_end begun (b ∷ bytes) more h = go (eqb b 10) h (λ g k. lines_end g bytes more k)
  where
    go : (t : Bool) → cond (not t) (suc (line_end bytes)) 0 < suc (length bytes)
        → ((g : List ℕ) → line_end bytes < length bytes → lines_from g (bytes ++ more) ≡ (g ++ take (line_end bytes) bytes) ∷ lines_from [] (drop (suc (line_end bytes)) bytes ++ more))
        → cond t (begun ∷ lines_from [] (bytes ++ more)) (lines_from (begun ++ (b ∷ [])) (bytes ++ more))
        ≡ (begun ++ take (cond (not t) (suc (line_end bytes)) 0) (b ∷ bytes)) ∷ lines_from [] (drop (suc (cond (not t) (suc (line_end bytes)) 0)) (b ∷ bytes) ++ more)
    go true k ih = ap (λ (l : List ℕ). l ∷ lines_from [] (bytes ++ more)) (sym (append_nil begun))
    go false k ih =
        ih (begun ++ (b ∷ [])) (omega arith) ∙ ap (λ (l : List ℕ). l ∷ lines_from [] (drop (suc (line_end bytes)) bytes ++ more)) (append_two begun (b ∷ []) (take (line_end bytes) bytes))

lines_on : (begun bytes more : List ℕ) → length bytes ≤ line_end bytes → lines_from begun (bytes ++ more) ≡ lines_from (begun ++ bytes) more
unfolding lines_from leading
lines_on begun [] more h = ap (λ (l : List ℕ). lines_from l more) (sym (append_nil begun))
lines_on begun (b ∷ bytes) more h = go (eqb b 10) h (λ g k. lines_on g bytes more k)
  where
    go : (t : Bool) → suc (length bytes) ≤ cond (not t) (suc (line_end bytes)) 0
        → ((g : List ℕ) → length bytes ≤ line_end bytes → lines_from g (bytes ++ more) ≡ lines_from (g ++ bytes) more)
        → cond t (begun ∷ lines_from [] (bytes ++ more)) (lines_from (begun ++ (b ∷ [])) (bytes ++ more)) ≡ lines_from (begun ++ (b ∷ bytes)) more
    go true k ih = absurd (omega arith)
    go false k ih = ih (begun ++ (b ∷ [])) (omega arith) ∙ ap (λ (l : List ℕ). lines_from l more) (append_two begun (b ∷ []) bytes)

left_none : (words : List (List ℕ)) (line : List ℕ) → 0 ≡ length (take 1025 line) → left words line [] ≡ []
unfolding replies lines_from
left_none words [] k = refl
left_none words (b ∷ line) k = absurd (omega arith)

left_one : (words : List (List ℕ)) (b : ℕ) (line : List ℕ) → left words (b ∷ line) [] ≡ told_for (b ∷ line) words
unfolding replies lines_from
left_one words b line = append_nil (told_for (b ∷ line) words)

-- ---- the first bytes of a line

take_front : (n : ℕ) (a b : List ℕ) → take n (take n a ++ b) ≡ take n (a ++ b)
take_front zero a b = refl
take_front (suc n) [] b = refl
take_front (suc n) (x ∷ a) b = ap (λ (l : List ℕ). x ∷ l) (take_front n a b)

unasked : (text pool pool₁ : List ℕ) (room : Room) → PoolAfter Nothing text pool pool₁ room → pool₁ ≡ pool
unfolding PoolAfter
unasked text pool pool₁ room e = e

-- ---- a text in a row that holds it

amount_whole : (text out : List ℕ) → length text ≤ length out → amount text out ≡ length text
amount_whole text out h = ap length (take_all (length out) text h)

written_whole : (text out : List ℕ) → length text ≤ length out → take (amount text out) (written text out) ≡ text
written_whole text out h =
    let e = take_all (length out) text h in
    ap (λ (n : ℕ). take n (written text out)) (amount_whole text out h) ∙ ap (λ (l : List ℕ). take (length text) (laid l out)) e ∙ take-append_seam text (drop (length text) out)

-- ---- a call, with 1,025 bytes for a line, 2,048 nodes, 1,023 cells for scalars and ends,
-- 1,024 for positions, 9,335 of scratch and 5,115 bytes for a reply

module _ (bytes row pool scalars positions ends scratch out : List ℕ) (used : ℕ)
    (line_long : length row ≡ 1025) (pool_long : length pool ≡ 16384) (scalars_long : length scalars ≡ 1023) (positions_long : length positions ≡ 1024) (ends_long : length ends ≡ 1023) (scratch_long : length scratch ≡ 9335) (out_long : length out ≡ 5115) where
  abbrev texts : List ℕ → List ℕ
  texts l = told l pool (room_in scalars positions) (length scratch) ends

  room_is : room_in scalars positions ≡ lent
  room_is = λ i. record { scalars = scalars_long i; positions = positions_long i }

  module _ (begun : List ℕ) (words : List (List ℕ)) (h : Holds row used pool begun words) where
    with_is : line_with bytes row used ≡ take 1025 (begun ++ take (line_end bytes) bytes)
    with_is =
        ap (λ (n : ℕ). take n (take used row ++ take (line_end bytes) bytes)) line_long ∙ ap (λ (l : List ℕ). take 1025 (l ++ take (line_end bytes) bytes)) h.bytes
        ∙ take_front 1025 begun (take (line_end bytes) bytes)

    -- a line is told by the words
    texts_are : (line : List ℕ) → texts line ≡ told_for line words
    texts_are line =
        ap (λ (r : Room). told line pool r (length scratch) ends) room_is ∙ ap (λ (n : ℕ). told line pool lent n ends) scratch_long
        ∙ line_told line pool words h.means pool_long ends ends_long

    texts_fit : (line : List ℕ) → length (texts line) ≤ length out
    texts_fit line = omega (arith, line_size line words, ap length (texts_are line), out_long)

    pub told_whole : (line : List ℕ) → take (amount (texts line) out) (written (texts line) out) ≡ told_for line words
    told_whole line = written_whole (texts line) out (texts_fit line) ∙ texts_are line

    -- the rest of the run, where the line ends in the bytes
    module _ (e : line_end bytes < length bytes) (row₁ pool₁ : List ℕ) (after : PoolAfter (asked (line_with bytes row used)) (text_of (line_with bytes row used)) pool pool₁ (room_in scalars positions)) where
      abbrev whole : List ℕ
      whole = begun ++ take (line_end bytes) bytes

      told_is : take (amount (texts (line_with bytes row used)) out) (written (texts (line_with bytes row used)) out) ≡ told_for whole words
      told_is = told_whole (line_with bytes row used) ∙ ap (λ (l : List ℕ). told_for l words) with_is ∙ front_told whole words

      pool_is : terms pool₁ ≡ some (classless (among (words_behind whole words)))
      pool_is =
          (line_pool (line_with bytes row used) pool words h.means pool_long pool₁ (subst (λ (r : Room). PoolAfter (asked (line_with bytes row used)) (text_of (line_with bytes row used)) pool pool₁ r) room_is after)).0
          ∙ ap (λ (l : List ℕ). some (classless (among (words_behind l words)))) with_is ∙ ap (λ (l : List (List ℕ)). some (classless (among l))) (front_words whole words)

      run_end : (more : List ℕ) → left words begun (bytes ++ more) ≡ told_for whole words ++ left (words_behind whole words) [] (drop (suc (line_end bytes)) bytes ++ more)
      unfolding replies
      run_end more = ap (replies words) (lines_end begun bytes more e)

      pub ended : Leaves bytes (line_end bytes + 1) (take (amount (texts (line_with bytes row used)) out) (written (texts (line_with bytes row used)) out)) row₁ 0 pool₁ begun words
      ended = record {
        begun₁ = [];
        words₁ = words_behind whole words;
        holds = record { bytes = refl; size = refl; means = pool_is };
        run_on = λ more.
            run_end more ∙ ap (λ (n : ℕ). told_for whole words ++ left (words_behind whole words) [] (drop n bytes ++ more)) (sym (add-one (line_end bytes)))
            ∙ ap (λ (l : List ℕ). l ++ left (words_behind whole words) [] (drop (line_end bytes + 1) bytes ++ more)) (sym told_is);
      }

    -- and where it goes on
    module _ (e : length bytes ≤ line_end bytes) (row₁ pool₁ out₁ : List ℕ) (is : row₁ ≡ laid (line_with bytes row used) row) (same : pool₁ ≡ pool) where
      all_bytes : take (line_end bytes) bytes ≡ bytes
      all_bytes = take_all (line_end bytes) bytes e

      kept_is : line_with bytes row used ≡ take 1025 (begun ++ bytes)
      kept_is = with_is ∙ ap (λ (l : List ℕ). take 1025 (begun ++ l)) all_bytes

      pub goes_on : Leaves bytes (line_end bytes) (take 0 out₁) row₁ (length (line_with bytes row used)) pool₁ begun words
      goes_on = record {
        begun₁ = begun ++ bytes;
        words₁ = words;
        holds = record {
          bytes = ap (take (length (line_with bytes row used))) is ∙ take-append_seam (line_with bytes row used) (drop (length (line_with bytes row used)) row) ∙ kept_is;
          size = ap length kept_is;
          means = ap terms same ∙ h.means;
        };
        run_on = λ more. ap (replies words) (lines_on begun bytes more e) ∙ ap (λ (l : List ℕ). left words (begun ++ bytes) (l ++ more)) (sym (drop_of_length-le bytes e));
      }

    -- the last line
    last_front : told_for (take used row) words ≡ told_for begun words
    last_front = ap (λ (l : List ℕ). told_for l words) h.bytes ∙ front_told begun words

    pub finished_none : used ≡ 0 → (out₁ : List ℕ) → left words begun [] ≡ take 0 out₁
    finished_none z out₁ = left_none words begun (sym z ∙ h.size)

    pub finished_some : (used ≡ 0 → ⊥) → left words begun [] ≡ take (amount (texts (take used row)) out) (written (texts (take used row)) out)
    finished_some z = go begun (λ e. z (h.size ∙ ap (λ (l : List ℕ). length (take 1025 l)) e)) ∙ sym last_front ∙ sym (told_whole (take used row))
      where
        go : (l : List ℕ) → (l ≡ [] → ⊥) → left words l [] ≡ told_for l words
        go [] k = absurd (k refl)
        go (b ∷ l) k = left_one words b l

  -- ---- what the contracts of feed and finish say, with these rows

  module _ (row₁ pool₁ scalars₁ positions₁ ends₁ scratch₁ out₁ : List ℕ) (r : Fed) (fed : r ≡ fed_with (has_end bytes) (line_end bytes) (length (line_with bytes row used)) (amount (texts (line_with bytes row used)) out))
      (line_is : row₁ ≡ laid (line_with bytes row used) row) (out_is : out₁ ≡ cond (has_end bytes) (written (texts (line_with bytes row used)) out) out)
      (rows : RowsAfter (asked_if (has_end bytes) (line_with bytes row used)) (text_of (line_with bytes row used)) pool pool₁ scalars scalars₁ positions positions₁ ends ends₁ scratch scratch₁) where
    pub stepped : Stepped bytes row used pool row₁ pool₁ out₁ r
    stepped begun words h = go (has_end bytes) refl fed out_is rows.pool_is
      where
        go : (b : Bool) → has_end bytes ≡ b → r ≡ fed_with b (line_end bytes) (length (line_with bytes row used)) (amount (texts (line_with bytes row used)) out)
            → out₁ ≡ cond b (written (texts (line_with bytes row used)) out) out → PoolAfter (asked_if b (line_with bytes row used)) (text_of (line_with bytes row used)) pool pool₁ (room_in scalars positions)
            → Leaves bytes r.taken (take r.written out₁) row₁ r.kept pool₁ begun words
        go true t e f a =
            subst (λ (x : Fed). Leaves bytes x.taken (take x.written out₁) row₁ x.kept pool₁ begun words) (sym e)
            (subst (λ (o : List ℕ). Leaves bytes (line_end bytes + 1) (take (amount (texts (line_with bytes row used)) out) o) row₁ 0 pool₁ begun words) (sym f)
            (ended begun words h (ltb-true (line_end bytes) (length bytes) t) row₁ pool₁ a))
        go false t e f a =
            subst (λ (x : Fed). Leaves bytes x.taken (take x.written out₁) row₁ x.kept pool₁ begun words) (sym e)
            (goes_on begun words h (ltb-false (line_end bytes) (length bytes) t) row₁ pool₁ out₁ line_is (unasked (text_of (line_with bytes row used)) pool pool₁ (room_in scalars positions) a))

  module _ (out₁ : List ℕ) (n : ℕ) (size : n ≡ cond (eqb used 0) 0 (amount (texts (take used row)) out)) (out_is : out₁ ≡ cond (eqb used 0) out (written (texts (take used row)) out)) where
    pub finished : Finished row used pool out₁ n
    finished begun words h = go (eqb used 0) refl size out_is
      where
        go : (b : Bool) → eqb used 0 ≡ b → n ≡ cond b 0 (amount (texts (take used row)) out) → out₁ ≡ cond b out (written (texts (take used row)) out) → left words begun [] ≡ take n out₁
        go true t e f = finished_none begun words h (eqb-true used 0 t) out₁ ∙ sym (ap (λ (k : ℕ). take k out₁) e)
        go false t e f =
            finished_some begun words h (eqb-false used 0 t) ∙ ap (take (amount (texts (take used row)) out)) (sym f) ∙ ap (λ (k : ℕ). take k out₁) (sym e)

-- ---- the run

-- Bytes that are handed over in any parts give what is left of the run.
pub any_parts : {row pool input output : List ℕ} {kept : ℕ} → Calls row kept pool input output → (begun : List ℕ) (words : List (List ℕ)) → Holds row kept pool begun words
    → output ≡ left words begun input
any_parts (step part more row₁ pool₁ out r s c) begun words h =
    let l = s begun words h in
    ap (λ (t : List ℕ). take r.written out ++ t) (any_parts c l.begun₁ l.words₁ l.holds) ∙ sym (l.run_on more)
any_parts (last out n f) begun words h = sym (f begun words h)

fresh_holds : (row pool : List ℕ) → terms pool ≡ some no_term → Holds row 0 pool [] []
unfolding among
fresh_holds row pool m = record { bytes = refl; size = refl; means = m }

-- From a fresh pool they give the run.
pub whole_run : {row pool input output : List ℕ} → terms pool ≡ some no_term → Calls row 0 pool input output → output ≡ run input
whole_run {row} {pool} m c = any_parts c [] [] (fresh_holds row pool m)
