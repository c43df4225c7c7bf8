-- The lines of a reply with reasons. Assumes nothing.
use Prim.Native.Nat.{ℕ, zero, suc, ◌+◌, ◌*◌, ◌-◌, ◌/◌, ◌≤◌, ◌<◌}
use native.Mathlib.Omega.{arith}
use native.Mathlib.Numerals.{add-one}
use mathlib.Core.Path.{◌≡◌, refl, sym, ◌∙◌, ap, subst}
use mathlib.Core.Bool.{Bool, true, false, cond}
use mathlib.Core.List.{List, [], ◌∷◌, ◌++◌, append-nil, append_assoc}
use lib.Dec.{eqb}
use lib.ListN.{length, get_or, take, drop, length-drop, drop_of_length-le}
use lib.Seq.{take_all, drop-cons}
use borrow.Author.Tests.{eq-eqb, ne_eqb}
use Rattle.newmm_reason_rules.specs.Reasons.{Told, dictionary_word, non_thai_run, to_word, to_non_thai}
use Rattle.sheet_bytes.specs.Lines.{kept, laid}
use Rattle.sheet_texts.specs.declared.Reply.{Reply}
use Rattle.sheet_texts.specs.Texts.{decimal, line_of, written, amount}
use Rattle.why_texts.specs.Texts.{word, run, to_the_word, to_the_run, to_the_end, why, bytes_in, token_line, token_lines, tokens_in, cut_lines, why_text}
use Rattle.why_texts.proofs.Adding.{Added, added_none, added_more, added_same}

-- ---- a cell

pub cell_none : (row : List ℕ) (i : ℕ) → length row ≤ i → 0 ≡ get_or row i 0
cell_none [] i h = refl
cell_none (x ∷ row) zero h = absurd (omega arith)
cell_none (x ∷ row) (suc i) h = cell_none row i (omega arith)

-- ---- a token's bytes

module _ (text : List ℕ) (from to : ℕ) where
  pub bytes_back : to < from → take 0 text ≡ bytes_in text from to
  unfolding bytes_in
  bytes_back h =
      let e : to - from ≡ 0 = omega arith in
      sym (ap (λ (k : ℕ). take k (drop from text)) e)

  pub bytes_behind : length text < from → take 0 text ≡ bytes_in text from to
  unfolding bytes_in
  bytes_behind h = sym (ap (take (to - from)) (drop_of_length-le text {i = from} (omega arith)) ∙ take_all {A = ℕ} (to - from) [] (omega arith))

  pub bytes_are : {rest part : List ℕ} → rest ≡ drop from text → part ≡ take (to - from) rest → part ≡ bytes_in text from to
  unfolding bytes_in
  bytes_are e h = h ∙ ap (take (to - from)) e

-- ---- why

here : {b : Bool} (x y : List ℕ) → b ≡ true → x ≡ cond b x y
here x y e = sym (ap (λ (b : Bool). cond b x y) e)

past : {b : Bool} (x y : List ℕ) → b ≡ false → y ≡ cond b x y
past x y e = sym (ap (λ (b : Bool). cond b x y) e)

module _ (end reason : ℕ) where
  skipped_run : List ℕ
  skipped_run = cond (eqb reason to_non_thai) (to_the_run ++ decimal end) to_the_end

  skipped : List ℕ
  skipped = cond (eqb reason to_word) (to_the_word ++ decimal end) skipped_run

  unless_word : List ℕ
  unless_word = cond (eqb reason non_thai_run) run skipped

  why_is : cond (eqb reason dictionary_word) word unless_word ≡ why end reason
  unfolding why skipped_run skipped unless_word
  why_is = refl

  pub why_word : reason ≡ dictionary_word → word ≡ why end reason
  why_word h = here word unless_word (eq-eqb reason 1 h) ∙ why_is

  module _ (a : reason ≡ dictionary_word → ⊥) where
    unless : unless_word ≡ why end reason
    unless = past word unless_word (ne_eqb reason 1 a) ∙ why_is

    pub why_run : reason ≡ non_thai_run → run ≡ why end reason
    unfolding unless_word
    why_run h = here run skipped (eq-eqb reason 2 h) ∙ unless

    module _ (b : reason ≡ non_thai_run → ⊥) where
      skips : skipped ≡ why end reason
      unfolding unless_word
      skips = past run skipped (ne_eqb reason 2 b) ∙ unless

      pub why_to_word : reason ≡ to_word → to_the_word ++ decimal end ≡ why end reason
      unfolding skipped
      why_to_word h = here (to_the_word ++ decimal end) skipped_run (eq-eqb reason 3 h) ∙ skips

      module _ (d : reason ≡ to_word → ⊥) where
        skips_on : skipped_run ≡ why end reason
        unfolding skipped
        skips_on = past (to_the_word ++ decimal end) skipped_run (ne_eqb reason 3 d) ∙ skips

        pub why_to_run : reason ≡ to_non_thai → to_the_run ++ decimal end ≡ why end reason
        unfolding skipped_run
        why_to_run h = here (to_the_run ++ decimal end) to_the_end (eq-eqb reason 4 h) ∙ skips_on

        pub why_to_end : (reason ≡ to_non_thai → ⊥) → to_the_end ≡ why end reason
        unfolding skipped_run
        why_to_end h = past (to_the_run ++ decimal end) to_the_end (ne_eqb reason 4 h) ∙ skips_on

-- ---- a token's line

pub line_is : (text : List ℕ) (from to end reason : ℕ) {part : List ℕ} → part ≡ bytes_in text from to
    → ((((part ++ (9 ∷ [])) ++ decimal end) ++ (9 ∷ [])) ++ why end reason) ++ (10 ∷ []) ≡ token_line text from to (record { end = end; reason = reason })
unfolding token_line
line_is text from to end reason h = ap (λ (l : List ℕ). ((((l ++ (9 ∷ [])) ++ decimal end) ++ (9 ∷ [])) ++ why end reason) ++ (10 ∷ [])) h

-- ---- the lines of tokens, one behind the other

abbrev all_lines : List ℕ → List ℕ → List ℕ → List ℕ
all_lines text positions pairs = token_lines text positions 0 (tokens_in pairs)

-- the tokens before the cell i are told
pub record Telling (out₀ text positions pairs out : List ℕ) (used from i : ℕ) : Type 0 where
  pub inside : i ≤ length pairs
  pub so_far : List ℕ
  pub added : Added out₀ 0 so_far out used
  pub rest : so_far ++ token_lines text positions from (tokens_in (drop i pairs)) ≡ all_lines text positions pairs

pub telling_none : (out text positions pairs : List ℕ) → Telling out text positions pairs out 0 0 0
telling_none out text positions pairs = record { inside = omega arith; so_far = []; added = added_none out; rest = refl }

two_more : (pairs : List ℕ) (i : ℕ) → i + 1 < length pairs → drop i pairs ≡ get_or pairs i 0 ∷ get_or pairs (i + 1) 0 ∷ drop (i + 2) pairs
two_more pairs i h =
    drop-cons pairs i 0 (omega arith)
    ∙ ap (λ (l : List ℕ). get_or pairs i 0 ∷ l) (ap (λ (k : ℕ). drop k pairs) (sym (add-one i)) ∙ drop-cons pairs (i + 1) 0 h ∙ ap (λ (k : ℕ). get_or pairs (i + 1) 0 ∷ drop k pairs) (let e : suc (i + 1) ≡ i + 2 = omega arith in e))

first_token : (e r : ℕ) (row : List ℕ) → tokens_in (e ∷ r ∷ row) ≡ record { end = e; reason = r } ∷ tokens_in row
unfolding tokens_in
first_token e r row = refl

first_line : (text positions : List ℕ) (from : ℕ) (t : Told) (ts : List Told)
    → token_line text from (get_or positions t.end 0) t ++ token_lines text positions (get_or positions t.end 0) ts ≡ token_lines text positions from (t ∷ ts)
unfolding token_lines
first_line text positions from t ts = refl

pub telling_next : {out₀ text positions pairs out out₁ : List ℕ} {used used₁ from i end reason to : ℕ} → Telling out₀ text positions pairs out used from i → i + 1 < length pairs → end ≡ get_or pairs i 0 → reason ≡ get_or pairs (i + 1) 0
    → to ≡ get_or positions end 0 → used₁ ≡ length (kept out used (token_line text from to (record { end = end; reason = reason }))) → out₁ ≡ laid (kept out used (token_line text from to (record { end = end; reason = reason }))) out
    → Telling out₀ text positions pairs out₁ used₁ to (i + 2)
telling_next {out₀} {text} {positions} {pairs} {out} {out₁} {used} {used₁} {from} {i} {end} {reason} {to} v h we wr wt e f =
    record {
      inside = omega arith;
      so_far = v.so_far ++ line;
      added = added_more v.added line e f;
      rest =
          append_assoc v.so_far line (token_lines text positions to (tokens_in (drop (i + 2) pairs)))
          ∙ ap (λ (l : List ℕ). v.so_far ++ l) (at_place ∙ ap (token_lines text positions from) (sym tokens))
          ∙ v.rest;
    }
  where
    t : Told
    t = record { end = end; reason = reason }

    line : List ℕ
    line = token_line text from to t

    at_place : line ++ token_lines text positions to (tokens_in (drop (i + 2) pairs)) ≡ token_lines text positions from (t ∷ tokens_in (drop (i + 2) pairs))
    at_place = ap (λ (k : ℕ). token_line text from k t ++ token_lines text positions k (tokens_in (drop (i + 2) pairs))) wt ∙ first_line text positions from t (tokens_in (drop (i + 2) pairs))

    tokens : tokens_in (drop i pairs) ≡ t ∷ tokens_in (drop (i + 2) pairs)
    tokens =
        ap tokens_in (two_more pairs i h) ∙ first_token (get_or pairs i 0) (get_or pairs (i + 1) 0) (drop (i + 2) pairs)
        ∙ (λ j. record { end = sym we j; reason = sym wr j } ∷ tokens_in (drop (i + 2) pairs))

none_left : (row : List ℕ) → length row ≤ 1 → tokens_in row ≡ []
unfolding tokens_in
none_left [] h = refl
none_left (e ∷ []) h = refl
none_left (e ∷ r ∷ row) h = absurd (omega arith)

no_lines : (text positions : List ℕ) (from : ℕ) → token_lines text positions from [] ≡ []
unfolding token_lines
no_lines text positions from = refl

pub telling_all : {out₀ text positions pairs out : List ℕ} {used from i : ℕ} → Telling out₀ text positions pairs out used from i → length pairs ≤ i + 1 → Added out₀ 0 (all_lines text positions pairs) out used
telling_all {out₀} {text} {positions} {pairs} {out} {used} {from} {i} v h =
    added_same
    (sym (append-nil v.so_far)
    ∙ ap (λ (l : List ℕ). v.so_far ++ l) (sym (ap (token_lines text positions from) (none_left (drop i pairs) (omega (arith, length-drop i pairs))) ∙ no_lines text positions from))
    ∙ v.rest) v.added

-- ---- the pairs of a cut

pub all_pairs : (row : List ℕ) (n : ℕ) → length row / 2 < n → row ≡ take (2 * n) row
all_pairs row n h = sym (take_all (2 * n) row (omega arith))

module _ (text positions pairs : List ℕ) (n : ℕ) where
  pub no_token : n ≡ 0 → (10 ∷ []) ≡ cut_lines text positions pairs n
  unfolding cut_lines
  no_token h = sym (ap (λ (b : Bool). cond b (10 ∷ []) (all_lines text positions (take (2 * n) pairs))) (eq-eqb n 0 h))

  pub some_tokens : (n ≡ 0 → ⊥) → {row : List ℕ} → row ≡ take (2 * n) pairs → all_lines text positions row ≡ cut_lines text positions pairs n
  unfolding cut_lines
  some_tokens h e = ap (all_lines text positions) e ∙ sym (ap (λ (b : Bool). cond b (10 ∷ []) (all_lines text positions (take (2 * n) pairs))) (ne_eqb n 0 h))

-- ---- what is written, as a contract says it

pub written_by : (out : List ℕ) {t t₁ out₁ : List ℕ} {n : ℕ} → t ≡ t₁ → n ≡ amount t out → out₁ ≡ written t out → (n ≡ amount t₁ out) × (out₁ ≡ written t₁ out)
written_by out e f g = (f ∙ ap (λ (x : List ℕ). amount x out) e, g ∙ ap (λ (x : List ℕ). written x out) e)

pub by_reply : {reply k : Reply} (text positions pairs : List ℕ) → reply ≡ k → why_text k text positions pairs ≡ why_text reply text positions pairs
by_reply text positions pairs e = sym (ap (λ (x : Reply). why_text x text positions pairs) e)

pub by_line : {reply k : Reply} (text positions pairs : List ℕ) → reply ≡ k → line_of k pairs ≡ why_text k text positions pairs → line_of reply pairs ≡ why_text reply text positions pairs
by_line text positions pairs e h = ap (λ (x : Reply). line_of x pairs) e ∙ h ∙ by_reply text positions pairs e
