-- What becomes of a line. Assumes nothing.
use Rattle.std.specs.Prelude.{Result, Ok, Err}
use Rattle.refusal.specs.declared.Refusal.{Refusal}
use Prim.Native.Nat.{ℕ, ◌≤◌, ◌<◌}
use mathlib.Core.Path.{◌≡◌, refl, sym, ◌∙◌, ap, subst}
use mathlib.Core.Bool.{Bool, true, false}
use mathlib.Core.List.{List}
use borrow.Author.Tests.{le-leb, lt-leb}
use lib.ListN.{take}
use Rattle.refusal.specs.Answers.{output}
use Rattle.utf8.specs.Decoding.{scalars_of, room_in, decoded}
use Rattle.utf8.specs.Positions.{positions_of}
use Rattle.trie_char_answers.specs.Answers.{added}
use Rattle.trie_char_answers.specs.Changes.{After}
use Rattle.sheet_texts.specs.declared.Reply.{Reply}
use Rattle.sheet_texts.specs.declared.Reply.TheVariants as replies
use Rattle.sheet_replies.specs.Replies.{next, reported}
use Rattle.sheet_replies.proofs.Replying.{reported_text}
use Rattle.word_lines.specs.declared.LineError.TheVariants.{NoClass}
use Rattle.word_lines.specs.Lines.{Taken, answered, tab_in, class_behind, class_of, word_of, is_term, add_term, taken_by, PoolBy, row_by}

-- the answer that a reply reports
answer_in : Reply → Result ℕ Refusal
answer_in replies.Unknown = Ok 0
answer_in (replies.Report n) = Ok n
answer_in (replies.Ends n) = Ok n
answer_in (replies.Refused r) = Err r

back : (a : Result ℕ Refusal) → answer_in (reported a) ≡ a
unfolding answer_in
back (Ok n) = refl
back (Err r) = refl

-- The answer for the scalars that are lent on is that for the text.
pub answered_text : (text scalars positions : List ℕ) {scalars₁ positions₁ : List ℕ} {d : Result ℕ Refusal}
    → (d ≡ decoded text (room_in scalars positions)) × ((scalars₁ ≡ output d (scalars_of text) scalars) × (positions₁ ≡ output d (positions_of text) positions))
    → {n : ℕ} → d ≡ Ok n → (f : List ℕ → Result ℕ Refusal) {a : Result ℕ Refusal} → a ≡ f (take n scalars₁) → a ≡ next (decoded text (room_in scalars positions)) (f (scalars_of text))
answered_text text scalars positions g y f {a} e =
    sym (back a) ∙ ap answer_in (reported_text text scalars positions g y f e refl) ∙ back (next (decoded text (room_in scalars positions)) (f (scalars_of text)))

-- what a line's contract says, by whether it says a word, its bytes and its class
abbrev pub Takes : (pool pool₁ scalars scalars₁ positions positions₁ : List ℕ) → Taken → Bool → List ℕ → ℕ → Type 0
Takes pool pool₁ scalars scalars₁ positions positions₁ r b w class =
    (r ≡ taken_by b (add_term w class pool (room_in scalars positions)))
    × (PoolBy b (add_term w class pool (room_in scalars positions)) pool pool₁ (added (scalars_of w) class pool)
    × ((scalars₁ ≡ row_by b (decoded w (room_in scalars positions)) (scalars_of w) scalars)
    × (positions₁ ≡ row_by b (decoded w (room_in scalars positions)) (positions_of w) positions)))

module _ (line pool scalars positions : List ℕ) {tab class : ℕ} (at_tab : tab ≡ tab_in line) (is : class ≡ class_behind line tab) where
  class_is : class ≡ class_of line
  class_is = is ∙ ap (class_behind line) at_tab

  -- something else than a class stands behind the tab
  pub no_class : 65535 < class → Takes pool pool scalars scalars positions positions (Err NoClass) (is_term line) (word_of line) (class_of line)
  no_class h =
      let no' : false ≡ is_term line = sym (lt-leb (class_of line) 65535 (subst (λ (x : ℕ). 65535 < x) class_is h)) in
      subst (λ (b : Bool). Takes pool pool scalars scalars positions positions (Err NoClass) b (word_of line) (class_of line)) no' (refl, (refl, (refl, refl)))

  -- the word before it is added
  pub word_added : class ≤ 65535 → {w : List ℕ} → w ≡ take tab line → (pool₁ : List ℕ) {scalars₁ positions₁ : List ℕ} {a : Result ℕ Refusal}
      → (a ≡ add_term w class pool (room_in scalars positions)) × (After (add_term w class pool (room_in scalars positions)) pool pool₁ (added (scalars_of w) class pool)
      × ((scalars₁ ≡ output (decoded w (room_in scalars positions)) (scalars_of w) scalars) × (positions₁ ≡ output (decoded w (room_in scalars positions)) (positions_of w) positions)))
      → Takes pool pool₁ scalars scalars₁ positions positions₁ (answered a) (is_term line) (word_of line) (class_of line)
  word_added h {w} e pool₁ {scalars₁} {positions₁} {a} g =
      let yes' : true ≡ is_term line = sym (le-leb (class_of line) 65535 (subst (λ (x : ℕ). x ≤ 65535) class_is h)) in
      let given : Takes pool pool₁ scalars scalars₁ positions positions₁ (answered a) true w class = (ap answered g.0, g.1) in
      subst (λ (b : Bool). Takes pool pool₁ scalars scalars₁ positions positions₁ (answered a) b (word_of line) (class_of line)) yes'
      (subst (λ (x : ℕ). Takes pool pool₁ scalars scalars₁ positions positions₁ (answered a) true (word_of line) x) class_is
      (subst (λ (v : List ℕ). Takes pool pool₁ scalars scalars₁ positions positions₁ (answered a) true v class) (e ∙ ap (λ (k : ℕ). take k line) at_tab) given))
