-- What is told for a line takes at most 50,127 bytes. Assumes nothing.
use Rattle.std.specs.Prelude.{Result, Ok, Err}
use Rattle.refusal.specs.declared.Refusal.{Refusal}
use Prim.Native.Nat.{ℕ, zero, suc, ◌+◌, ◌-◌, ◌*◌, ◌/◌, ◌≤◌, ◌<◌}
use native.Mathlib.Omega.{arith}
use native.Mathlib.Decide.{dec_lt}
use mathlib.Core.Path.{◌≡◌, refl, sym, ◌∙◌, ap, subst}
use mathlib.Core.Bool.{Bool, true, false, cond}
use mathlib.Core.List.{List, [], ◌∷◌, ◌++◌, map}
use lib.Dec.{eqb}
use lib.ListN.{length, get_or, take, drop, length-append, length-take, length-map, get_or-append}
use lib.Seq.{take-append_seam, take_all}
use borrow.Author.Tests.{not-false}
use Rattle.refusal.specs.Answers.{output}
use Rattle.refusal.proofs.Causes.{none_of}
use Rattle.utf8.specs.Decoding.{run_all, scalars_of, Room, room_in, decode_causes, decoded}
use Rattle.utf8.specs.Positions.{positions_of}
use Rattle.theorems_unicode.proofs.Positions.{positions_right}
use Rattle.trie_pool.specs.Meaning.{Words, meaning}
use Rattle.trie_check.specs.Refusals.{held}
use Rattle.newmm_rules.specs.declared.Mode.{Mode}
use Rattle.newmm_rules.specs.inner.Climbing.{Climbs, there, up}
use Rattle.newmm_rules.proofs.Climbing.{few, onward}
use Rattle.newmm_reason_rules.specs.Reasons.{Told}
use Rattle.newmm_answers.specs.Answers.{cut_of, cut_causes, accepts}
use Rattle.newmm_answers.proofs.Cuts.{cut_climbs}
use Rattle.newmm_answers.proofs.Told.{accepted_is}
use Rattle.newmm_reasons_answers.specs.Told.{told_of}
use Rattle.newmm_reasons_answers.specs.Answers.{pairs as pairs_of}
use Rattle.newmm_reasons_answers.proofs.Told.{same_ends, as_many}
use Rattle.newmm_reasons_answers.proofs.Cells.{pairs_long}
use Rattle.sheet_bytes.specs.Lines.{laid}
use Rattle.sheet_texts.specs.Texts.{decimal, written, amount}
use Rattle.sheet_replies.specs.declared.Asked.{Asked}
use Rattle.sheet_replies.specs.declared.Asked.TheVariants.{Nothing, Add, Remove, Cut}
use Rattle.sheet_replies.specs.Replies.{next, add_text, remove_text, reported, ended, reply_to, text_of, decoded_after}
use Rattle.sheet_run.proofs.ByWords.{few_scalars}
use Rattle.sheet_run.proofs.Telling.{four, refusal_size, report_size, line_fits, long}
use Rattle.why_texts.specs.Texts.{word, run, to_the_word, to_the_run, to_the_end, why, bytes_in, token_line, token_lines, tokens_in, cut_lines, why_text}
use Rattle.why_replies.specs.Replies.{asked, pairs_after, explained_by, explained}
use Rattle.why_replies.proofs.Asking.{sheet_long, asks_other}

abbrev end_of : Told → ℕ
end_of t = t.end

-- ---- a token's line

-- 37 letters, and the four digits of an end
why_size : (end reason : ℕ) → end ≤ 1023 → length (why end reason) ≤ 41
unfolding why
why_size end reason h = go (eqb reason 1) (eqb reason 2) (eqb reason 3) (eqb reason 4)
  where
    go : (a b c d : Bool) → length (cond a word (cond b run (cond c (to_the_word ++ decimal end) (cond d (to_the_run ++ decimal end) to_the_end)))) ≤ 41
    go true b c d = omega arith
    go false true c d = omega arith
    go false false true d = omega (arith, length-append to_the_word (decimal end), four end h)
    go false false false true = omega (arith, length-append to_the_run (decimal end), four end h)
    go false false false false = omega arith

-- beside the token's own bytes two tabs, a line feed, its end and why
line_size : (text : List ℕ) (from to : ℕ) (t : Told) → t.end ≤ 1023 → from ≤ to → from + length (token_line text from to t) ≤ to + 48
unfolding token_line bytes_in
line_size text from to t h o =
    let a = take (to - from) (drop from text) in
    let b = decimal t.end in
    let w = why t.end t.reason in
    omega (
      arith,
      length-take (to - from) (drop from text),
      four t.end h,
      why_size t.end t.reason h,
      length-append ((((a ++ (9 ∷ [])) ++ b) ++ (9 ∷ [])) ++ w) (10 ∷ []),
      length-append (((a ++ (9 ∷ [])) ++ b) ++ (9 ∷ [])) w,
      length-append ((a ++ (9 ∷ [])) ++ b) (9 ∷ []),
      length-append (a ++ (9 ∷ [])) b,
      length-append a (9 ∷ []),
    )

-- ---- the lines of tokens whose ends rise to m, where positions rise with ends

module _ (text positions : List ℕ) (m : ℕ) (small : m ≤ 1023) (rise : (i j : ℕ) → i ≤ j → j ≤ m → get_or positions i 0 ≤ get_or positions j 0) where
  lines_size : (ts : List Told) (a : ℕ) → Climbs a (map end_of ts) m
      → get_or positions a 0 + length (token_lines text positions (get_or positions a 0) ts) ≤ get_or positions m 0 + 48 * length ts
  unfolding token_lines
  lines_size [] a c = omega (arith, rise a m (onward c) (omega arith))
  lines_size (t ∷ ts) a (up l c) =
      let from = get_or positions a 0 in
      let to = get_or positions t.end 0 in
      let o = onward c in
      omega (
        arith,
        length-append (token_line text from to t) (token_lines text positions to ts),
        line_size text from to t (omega arith) (rise a t.end (omega arith) o),
        lines_size ts t.end c,
      )

-- ---- a cut

tokens_back : (ts : List Told) → tokens_in (pairs_of ts) ≡ ts
unfolding tokens_in pairs_of
tokens_back [] = refl
tokens_back (t ∷ ts) = ap (λ (l : List Told). t ∷ l) (tokens_back ts)

module _ (text : List ℕ) (short : length text ≤ 1023) (whole : (run_all text).whole ≡ true) (rest : List ℕ) where
  abbrev row : List ℕ
  row = positions_of text ++ rest

  abbrev n : ℕ
  n = length (scalars_of text)

  place_is : (i : ℕ) → i ≤ n → get_or row i 0 ≡ get_or (positions_of text) i 0
  place_is i h = get_or-append (positions_of text) rest 0 i (omega (arith, (positions_right text whole).cells))

  up_to : (j i : ℕ) → i ≤ j → j ≤ n → get_or (positions_of text) i 0 ≤ get_or (positions_of text) j 0
  up_to zero i h o =
      let e : i ≡ 0 = omega arith in
      omega (arith, ap (λ (k : ℕ). get_or (positions_of text) k 0) e)
  up_to (suc j) i h o = go (dec_lt j i) (up_to j i)
    where
      go : Dec (j < i) → (i ≤ j → j ≤ n → get_or (positions_of text) i 0 ≤ get_or (positions_of text) j 0) → get_or (positions_of text) i 0 ≤ get_or (positions_of text) (suc j) 0
      go (yes l) ih =
          let e : i ≡ suc j = omega arith in
          omega (arith, ap (λ (k : ℕ). get_or (positions_of text) k 0) e)
      go (no l) ih = omega (arith, ih (omega arith) (omega arith), (positions_right text whole).steps j (omega arith))

  rise : (i j : ℕ) → i ≤ j → j ≤ n → get_or row i 0 ≤ get_or row j 0
  rise i j h o = omega (arith, place_is i (omega arith), place_is j o, up_to j i h o)

  -- 1,023 bytes of tokens, and 48 for each of as many
  module _ (ts : List Told) (c : Climbs 0 (map end_of ts) n) where
    tokens_size : length (token_lines text row 0 ts) ≤ 50127
    tokens_size =
        let p = positions_right text whole in
        let z : get_or row 0 0 ≡ 0 = place_is 0 (omega arith) ∙ p.first in
        let e : get_or row n 0 ≡ length text = place_is n (omega arith) ∙ p.last in
        let s : 0 + length (token_lines text row 0 ts) ≤ get_or row n 0 + 48 * length ts =
        subst (λ (x : ℕ). x + length (token_lines text row x ts) ≤ get_or row n 0 + 48 * length ts) z (lines_size text row n (few_scalars text short whole) rise ts 0 c) in
        omega (arith, few c, length-map ts end_of, few_scalars text short whole)

    cut_size : (more : List ℕ) (k : ℕ) → length ts ≡ k → length (cut_lines text row (pairs_of ts ++ more) k) ≤ 50127
    unfolding cut_lines
    cut_size more k e = go (eqb k 0)
      where
        size : 2 * k ≡ length (pairs_of ts)
        size = omega (arith, pairs_long ts)

        front : tokens_in (take (2 * k) (pairs_of ts ++ more)) ≡ ts
        front = ap (λ (j : ℕ). tokens_in (take j (pairs_of ts ++ more))) size ∙ ap tokens_in (take-append_seam (pairs_of ts) more) ∙ tokens_back ts

        go : (b : Bool) → length (cond b (10 ∷ []) (token_lines text row 0 (tokens_in (take (2 * k) (pairs_of ts ++ more))))) ≤ 50127
        go true = omega arith
        go false = subst (λ (l : List Told). length (token_lines text row 0 l) ≤ 50127) (sym front) tokens_size

-- ---- a line

-- any other reply
report_fits : (a : Result ℕ Refusal) (text positions pairs : List ℕ) → length (why_text (reported a) text positions pairs) ≤ 50127
report_fits (Ok n) text positions pairs = omega (arith, report_size (Ok n))
report_fits (Err r) text positions pairs = omega (arith, report_size (Err r))

nothing_fits : (text pool scalars positions pairs : List ℕ) (cells : ℕ) → length (explained_by Nothing text pool scalars positions pairs cells) ≤ 50127
unfolding explained_by reply_to
nothing_fits text pool scalars positions pairs cells = omega arith

module _ (text : List ℕ) (short : length text ≤ 1023) (pool scalars positions pairs : List ℕ) (cells : ℕ) where
  abbrev room : Room
  room = room_in scalars positions

  text_fits : (k : Asked) → length (explained_by k text pool scalars positions pairs cells) ≤ 50127
  unfolding explained_by reply_to decoded_after pairs_after
  text_fits Nothing = omega arith
  text_fits Add = report_fits (add_text text pool room) text _ _
  text_fits Remove = report_fits (remove_text text pool room) text _ _
  text_fits (Cut mode) = go (decoded text room) (accepts mode (scalars_of text) (meaning pool) cells (length pairs / 2)) refl refl
    where
      words : Words
      words = held (meaning pool)

      told : List Told
      told = told_of mode words (scalars_of text)

      climbs : Climbs 0 (map end_of told) (length (scalars_of text))
      climbs = subst (λ (l : List ℕ). Climbs 0 l (length (scalars_of text))) (sym (same_ends words (scalars_of text) mode)) (cut_climbs mode words (scalars_of text))

      go : (d a : Result ℕ Refusal) → decoded text room ≡ d → accepts mode (scalars_of text) (meaning pool) cells (length pairs / 2) ≡ a
          → length (why_text (ended (next d a)) text (output d (positions_of text) positions) (output (next d a) (pairs_of told) pairs)) ≤ 50127
      go (Err r) a e f = omega (arith, refusal_size r [])
      go (Ok n) (Err r) e f = omega (arith, refusal_size r [])
      go (Ok n) (Ok k) e f =
          let whole = not-false (run_all text).whole (none_of (decode_causes text room) (length (scalars_of text)) n e).0 in
          cut_size text short whole (drop (length (positions_of text)) positions) told climbs (drop (length (pairs_of told)) pairs) k
          (as_many words (scalars_of text) mode ∙ accepted_is (cut_causes mode (scalars_of text) (meaning pool) cells (length pairs / 2)) _ k f)

asks_nothing : (line : List ℕ) → 1024 < length line → asked line ≡ Nothing
asks_nothing line h = sym (asks_other line (sym (sheet_long line (λ e. omega arith) h))) ∙ long line h

-- WHAT IS TOLD FOR A LINE FITS, whatever line and whatever rows.
pub told_fits : (line pool scalars positions pairs : List ℕ) (cells : ℕ) → length (explained line pool scalars positions pairs cells) ≤ 50127
told_fits line pool scalars positions pairs cells =
    elim (dec_lt 1024 (length line)) [
      | yes l ↦ subst (λ (k : Asked). length (explained_by k (text_of line) pool scalars positions pairs cells) ≤ 50127) (sym (asks_nothing line l)) (nothing_fits (text_of line) pool scalars positions pairs cells)
      | no n ↦ text_fits (text_of line) (line_fits line (omega arith)) pool scalars positions pairs cells (asked line)
    ]

-- so in a row of 50,127 bytes it is whole
module _ (line pool scalars positions pairs : List ℕ) (cells : ℕ) (out : List ℕ) (size : length out ≡ 50127) where
  abbrev text : List ℕ
  text = explained line pool scalars positions pairs cells

  all : take (length out) text ≡ text
  all = take_all (length out) text (omega (arith, told_fits line pool scalars positions pairs cells))

  pub whole_amount : {k : ℕ} → k ≡ amount text out → k ≡ length text
  whole_amount e = e ∙ ap length all

  pub whole_written : {out₁ : List ℕ} → out₁ ≡ written text out → out₁ ≡ laid text out
  whole_written e = e ∙ ap (λ (l : List ℕ). laid l out) all
