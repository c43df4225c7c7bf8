-- What the tests on the bytes of a word tell. Assumes nothing.
use Rattle.std.specs.Prelude.{Result, Ok, Err, Option, None, Some}
use Rattle.std.specs.Result.{result_ok}
use mathlib.Core.Path.{◌≡◌, refl, sym, ap, subst, ◌∙◌}
use mathlib.Core.Bool.{Bool, true, false, not, ◌&&◌}
use mathlib.Core.List.{List, ◌++◌}
use Prim.Native.Nat.{ℕ, ◌+◌, ◌-◌, ◌≤◌, ◌<◌}
use native.Mathlib.Omega.{arith}
use native.Mathlib.Decide.{dec_lt}
use borrow.Author.Tests.{le-leb, lt-leb, le-ltb, ltb-false, not-false}
use lib.Dec.{leb}
use lib.ListN.{length, get_or, take, drop, get_or-append}
use lib.Seq.{take_at}
use Rattle.refusal.specs.declared.Refusal.{Refusal}
use Rattle.refusal.specs.Answers.{output}
use Rattle.refusal.proofs.Causes.{none_of, again}
use Rattle.refusal.proofs.Firsts.{accepted_if_none}
use Rattle.utf8.specs.Decoding.{run_all, scalars_of, room_in, decode_causes, decoded}
use Rattle.char_string_white_space.specs.Trimmed.{is_trimmed}
use Rattle.char_string_trim.specs.Trimming.{trimmed_of}
use Rattle.trie_pool.specs.Meaning.{same}
use Rattle.trie_pool.proofs.Edges.{Edges, edges_of, trimmed_is}
use Rattle.trie_pool.proofs.Sets.{same_true, same_self}
use Rattle.image_rules.specs.Order.{below, common}
use Rattle.image_rules.specs.Reading.{follows}
use Rattle.trie_pool.proofs.Rules.{clash}
use Rattle.image_word.specs.inner.Words.{is_next, Trimmed, Follows}

no_1 : (a b c d : Bool) → a ≡ false → ((a && b) && c) && d ≡ false
no_1 a b c d e = ap (λ (x : Bool). ((x && b) && c) && d) e

no_2 : (a b c d : Bool) → b ≡ false → ((a && b) && c) && d ≡ false
no_2 false b c d e = refl
no_2 true b c d e = ap (λ (x : Bool). (x && c) && d) e

no_3 : (a b c d : Bool) → c ≡ false → ((a && b) && c) && d ≡ false
no_3 false b c d e = refl
no_3 true false c d e = refl
no_3 true true c d e = ap (λ (x : Bool). x && d) e

no_4 : (a b c d : Bool) → d ≡ false → ((a && b) && c) && d ≡ false
no_4 false b c d e = refl
no_4 true false c d e = refl
no_4 true true false d e = refl
no_4 true true true d e = e

no_right : (a b : Bool) → b ≡ false → a && b ≡ false
no_right false b e = refl
no_right true b e = e

module _ (before w : List ℕ) where
  empty_no : length w ≡ 0 → follows before w ≡ false
  unfolding follows
  empty_no e = no_1 (leb 1 (length w)) (leb (length w) 255) (same (trimmed_of w) w) (below before w) (lt-leb 1 (length w) (omega arith))

  long_no : 255 < length w → follows before w ≡ false
  unfolding follows
  long_no e = no_2 (leb 1 (length w)) (leb (length w) 255) (same (trimmed_of w) w) (below before w) (lt-leb (length w) 255 (omega arith))

  edge_no : 1 ≤ length w → (Edges w → ⊥) → follows before w ≡ false
  unfolding follows
  edge_no l n = no_3 (leb 1 (length w)) (leb (length w) 255) (same (trimmed_of w) w) (below before w) (go (same (trimmed_of w) w) refl)
    where
      go : (b : Bool) → same (trimmed_of w) w ≡ b → same (trimmed_of w) w ≡ false
      go false e = e
      go true e = let z : trimmed_of w ≡ w = same_true (trimmed_of w) w e in absurd (n (subst Edges z (edges_of w (omega (arith, ap length z)))))

  below_no : below before w ≡ false → follows before w ≡ false
  unfolding follows
  below_no e = no_4 (leb 1 (length w)) (leb (length w) 255) (same (trimmed_of w) w) (below before w) e

  all_yes : 1 ≤ length w → length w ≤ 255 → Edges w → below before w ≡ true → follows before w ≡ true
  unfolding follows
  all_yes l m e b = simp (le-leb 1 (length w) l, le-leb (length w) 255 m, ap (λ (z : List ℕ). same z w) (trimmed_is w l e), same_self w, b)

-- ---- decoding

none_some : {n : ℕ} → ◌≡◌ {A = Option ℕ} None (Some n) → ⊥
none_some e = cc

-- what `ok` keeps
kept : (a : Result ℕ Refusal) (n : ℕ) → Some n ≡ result_ok a → a ≡ Ok n
kept (Ok m) n e = cc
kept (Err r) n e = absurd (none_some (sym e))

module _ (bytes row positions : List ℕ) (long : length row ≡ 255) (places : length positions ≡ 256) where
  -- bytes that aren't taken to the row aren't a word
  pub refused_no : {a : Result ℕ Refusal} → a ≡ decoded bytes (room_in row positions) → None ≡ result_ok a → (before : List ℕ) → is_next bytes before ≡ false
  refused_no {a} is e before = go before (run_all bytes).whole refl (dec_lt 255 (length (scalars_of bytes)))
    where
      go : (before : List ℕ) (b : Bool) → (run_all bytes).whole ≡ b → Dec (255 < length (scalars_of bytes)) → is_next bytes before ≡ false
      go before false g l = ap (λ (b : Bool). b && follows before (scalars_of bytes)) g
      go before true g (yes l) = no_right (run_all bytes).whole (follows before (scalars_of bytes)) (long_no before (scalars_of bytes) l)
      go before true g (no l) =
          let n = length (scalars_of bytes) in
          let q = accepted_if_none (decode_causes bytes (room_in row positions)) n (ap not g, (le-ltb 65535 n (omega arith), (le-ltb (length row) n (omega (arith, long)), (le-ltb (length positions) (n + 1) (omega (arith, places)), tt)))) in
          absurd (none_some (e ∙ ap result_ok (is ∙ q)))

  module _ {a : Result ℕ Refusal} {n : ℕ} {row' : List ℕ} (is : a ≡ decoded bytes (room_in row positions)) (some_n : Some n ≡ result_ok a) (f : row' ≡ output a (scalars_of bytes) row) where
    e : a ≡ Ok n
    e = kept a n some_n

    passed : decoded bytes (room_in row positions) ≡ Ok n
    passed = sym is ∙ e

    count : n ≡ length (scalars_of bytes)
    count =
        let z : ◌≡◌ {A = Result ℕ Refusal} (Ok n) (Ok (length (scalars_of bytes))) = sym passed ∙ sym (again (decode_causes bytes (room_in row positions)) (length (scalars_of bytes)) (length (scalars_of bytes)) passed) in
        cc

    good : (not (run_all bytes).whole ≡ false) × (length (scalars_of bytes) ≤ 255)
    good =
        let g = none_of (decode_causes bytes (room_in row positions)) (length (scalars_of bytes)) n passed in
        (g.0, omega (arith, long, ltb-false (length row) (length (scalars_of bytes)) g.1.1.0))

    pub few : n ≤ 255
    few = omega (arith, count, good.1)

    front : row' ≡ scalars_of bytes ++ drop (length (scalars_of bytes)) row
    front = f ∙ ap (λ (z : Result ℕ Refusal). output z (scalars_of bytes) row) e

    spelt : take n row' ≡ scalars_of bytes
    spelt = ap (take n) front ∙ take_at (scalars_of bytes) (drop (length (scalars_of bytes)) row) n (sym count)

    cell : (i : ℕ) → i < n → get_or row' i 0 ≡ get_or (scalars_of bytes) i 0
    cell i l = ap (λ (z : List ℕ). get_or z i 0) front ∙ get_or-append (scalars_of bytes) (drop (length (scalars_of bytes)) row) 0 i (omega (arith, count))

    nothing : ((before : List ℕ) → follows before (scalars_of bytes) ≡ false) → (before : List ℕ) → is_next bytes before ≡ false
    nothing g before = no_right (run_all bytes).whole (follows before (scalars_of bytes)) (g before)

    pub empty_nothing : n ≡ 0 → (before : List ℕ) → is_next bytes before ≡ false
    empty_nothing z = nothing (λ before. empty_no before (scalars_of bytes) (sym count ∙ z))

    module _ (some : n ≡ 0 → ⊥) where
      pub start_nothing : is_trimmed (get_or row' 0 0) ≡ true → (before : List ℕ) → is_next bytes before ≡ false
      start_nothing g = nothing (λ before. edge_no before (scalars_of bytes) (omega (arith, count)) (λ d. clash (sym d.start ∙ ap is_trimmed (sym (cell 0 (omega arith))) ∙ g)))

      last_cell : get_or row' (n - 1) 0 ≡ get_or (scalars_of bytes) (length (scalars_of bytes) - 1) 0
      last_cell = cell (n - 1) (omega arith) ∙ ap (λ (k : ℕ). get_or (scalars_of bytes) (k - 1) 0) count

      pub stop_nothing : is_trimmed (get_or row' (n - 1) 0) ≡ true → (before : List ℕ) → is_next bytes before ≡ false
      stop_nothing g = nothing (λ before. edge_no before (scalars_of bytes) (omega (arith, count)) (λ d. clash (sym d.stop ∙ ap is_trimmed (sym last_cell) ∙ g)))

      pub word_decodes : is_trimmed (get_or row' 0 0) ≡ false → is_trimmed (get_or row' (n - 1) 0) ≡ false → Trimmed bytes row' n
      word_decodes a z = record {
        some = omega (arith, some);
        short = few;
        good = not-false (run_all bytes).whole good.0;
        word = spelt;
        number = count;
        start = ap is_trimmed (sym (cell 0 (omega arith))) ∙ a;
        stop = ap is_trimmed (sym last_cell) ∙ z;
      }

-- ---- behind the word before it

module _ (before : List ℕ) {bytes row : List ℕ} {n : ℕ} (t : Trimmed bytes row n) where
  pub below_nothing : below before (take n row) ≡ false → is_next bytes before ≡ false
  below_nothing h = no_right (run_all bytes).whole (follows before (scalars_of bytes)) (below_no before (scalars_of bytes) (ap (below before) (sym t.word) ∙ h))

  pub word_follows : (prev : List ℕ) {prev' : List ℕ} {l : ℕ} → below before (take n row) ≡ true → l ≡ common before (take n row) → prev' ≡ take n row ++ drop (length (take n row)) prev → Follows bytes before prev' n l
  word_follows prev {prev'} {l} b s e = record {
    is =
        ap (λ (x : Bool). x && follows before (scalars_of bytes)) t.good
        ∙ all_yes before (scalars_of bytes) (omega (arith, t.some, t.number)) (omega (arith, t.short, t.number)) (record { start = t.start; stop = t.stop }) (ap (below before) (sym t.word) ∙ b);
    number = t.number;
    together = s ∙ ap (common before) t.word;
    word = ap (take n) e ∙ take_at (take n row) (drop (length (take n row)) prev) n (ap length t.word ∙ sym t.number) ∙ t.word;
    short = t.short;
  }
