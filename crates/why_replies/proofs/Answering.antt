-- The reply to a line, and the rows, by what it asks. Assumes nothing.
use Prim.Native.Nat.{ℕ, ◌/◌}
use native.Mathlib.Omega.{arith}
use mathlib.Core.Path.{◌≡◌, refl, sym, ◌∙◌, ap, subst}
use mathlib.Core.List.{List}
use lib.ListN.{length}
use Rattle.utf8.specs.Decoding.{scalars_of, Room, room_in}
use Rattle.utf8.specs.Positions.{positions_of}
use Rattle.newmm_rules.specs.declared.Mode.{Mode}
use Rattle.sheet_replies.specs.declared.Asked.{Asked}
use Rattle.sheet_replies.specs.declared.Asked.TheVariants.{Nothing, Add, Remove, Cut}
use Rattle.sheet_replies.specs.Replies as lines
use Rattle.sheet_texts.specs.declared.Reply.{Reply}
use Rattle.sheet_texts.specs.Texts.{written, amount}
use Rattle.why_texts.specs.Texts.{why_text}
use Rattle.std.specs.Prelude.{Option, None, Some}
use Rattle.why_replies.specs.Replies.{Cutting, asked, cutting_by, pairs_after, RowsAfter, explained_by}
use Rattle.why_replies.proofs.Asking.{cut_is, not_cut_is}

-- ---- nothing is cut

same_reply : (k : Asked) → None ≡ cutting_by k → (text pool : List ℕ) (room : Room) (cells a b : ℕ) → lines.reply_to k text pool room cells a ≡ lines.reply_to k text pool room cells b
unfolding lines.reply_to
same_reply Nothing h text pool room cells a b = refl
same_reply Add h text pool room cells a b = refl
same_reply Remove h text pool room cells a b = refl
same_reply (Cut mode) h text pool room cells a b = absurd (let z : ◌≡◌ {A = ℕ} 0 1 = cc in omega arith)

same_ends : (k : Asked) → None ≡ cutting_by k → (text pool : List ℕ) (room : Room) (cells : ℕ) (row : List ℕ) → lines.ends_after k text pool room cells row ≡ pairs_after k text pool room cells row
unfolding lines.ends_after pairs_after
same_ends Nothing h text pool room cells row = refl
same_ends Add h text pool room cells row = refl
same_ends Remove h text pool room cells row = refl
same_ends (Cut mode) h text pool room cells row = absurd (let z : ◌≡◌ {A = ℕ} 0 1 = cc in omega arith)

module _ (line : List ℕ) {c : Cutting} (is : c ≡ cutting_by (asked line)) (h : c ≡ None) where
  none : None ≡ cutting_by (asked line)
  none = sym h ∙ is

  pub reply_other : (pool : List ℕ) (room : Room) (cells a b : ℕ) {r : Reply} → r ≡ lines.reply_of line pool room cells a → r ≡ lines.reply_to (asked line) (lines.text_of line) pool room cells b
  reply_other pool room cells a b e =
      e ∙ ap (λ (k : Asked). lines.reply_to k (lines.text_of line) pool room cells a) (not_cut_is line none) ∙ same_reply (asked line) none (lines.text_of line) pool room cells a b

  pub rows_other : {pool pool₁ scalars scalars₁ positions positions₁ pairs pairs₁ scratch scratch₁ : List ℕ}
      → lines.RowsAfter (lines.asked line) (lines.text_of line) pool pool₁ scalars scalars₁ positions positions₁ pairs pairs₁ scratch scratch₁
      → RowsAfter (asked line) (lines.text_of line) pool pool₁ scalars scalars₁ positions positions₁ pairs pairs₁ scratch scratch₁
  rows_other {pool} {pool₁} {scalars} {scalars₁} {positions} {positions₁} {pairs} {pairs₁} {scratch} {scratch₁} v =
      let w : lines.RowsAfter (asked line) (lines.text_of line) pool pool₁ scalars scalars₁ positions positions₁ pairs pairs₁ scratch scratch₁ =
      subst (λ (k : Asked). lines.RowsAfter k (lines.text_of line) pool pool₁ scalars scalars₁ positions positions₁ pairs pairs₁ scratch scratch₁) (not_cut_is line none) v in
      record {
        pool_is = w.pool_is;
        scalars_are = w.scalars_are;
        positions_are = w.positions_are;
        pairs_are = w.ends_are ∙ same_ends (asked line) none (lines.text_of line) pool (room_in scalars positions) (length scratch) pairs;
        scratch_is = w.scratch_is;
      }

-- ---- the text is cut

module _ (line : List ℕ) {c : Cutting} {mode : Mode} (is : c ≡ cutting_by (asked line)) (h : c ≡ Some mode) {text : List ℕ} (t : text ≡ lines.text_of line) where
  by : Cut mode ≡ asked line
  by = cut_is (asked line) mode (sym h ∙ is)

  pub reply_cut : (pool : List ℕ) (room : Room) (cells places : ℕ) {r : Reply} → r ≡ lines.reply_to (Cut mode) text pool room cells places → r ≡ lines.reply_to (asked line) (lines.text_of line) pool room cells places
  reply_cut pool room cells places e =
      e ∙ ap (λ (l : List ℕ). lines.reply_to (Cut mode) l pool room cells places) t ∙ ap (λ (k : Asked). lines.reply_to k (lines.text_of line) pool room cells places) by

  pub rows_cut : {pool pool₁ scalars scalars₁ positions positions₁ pairs pairs₁ scratch scratch₁ : List ℕ} → RowsAfter (Cut mode) text pool pool₁ scalars scalars₁ positions positions₁ pairs pairs₁ scratch scratch₁
      → RowsAfter (asked line) (lines.text_of line) pool pool₁ scalars scalars₁ positions positions₁ pairs pairs₁ scratch scratch₁
  rows_cut {pool} {pool₁} {scalars} {scalars₁} {positions} {positions₁} {pairs} {pairs₁} {scratch} {scratch₁} v =
      subst (λ (k : Asked). RowsAfter k (lines.text_of line) pool pool₁ scalars scalars₁ positions positions₁ pairs pairs₁ scratch scratch₁) by
      (subst (λ (l : List ℕ). RowsAfter (Cut mode) l pool pool₁ scalars scalars₁ positions positions₁ pairs pairs₁ scratch scratch₁) t v)

-- ---- what is written

module _ {what : Asked} {text pool pool₁ scalars scalars₁ positions positions₁ pairs pairs₁ scratch scratch₁ : List ℕ}
    (v : RowsAfter what text pool pool₁ scalars scalars₁ positions positions₁ pairs pairs₁ scratch scratch₁)
    {reply : Reply} (r : reply ≡ lines.reply_to what text pool (room_in scalars positions) (length scratch) (length pairs / 2)) {text₁ : List ℕ} (t : text₁ ≡ text) where
  abbrev answer : Reply
  answer = lines.reply_to what text pool (room_in scalars positions) (length scratch) (length pairs / 2)

  told_is : why_text reply text₁ positions₁ pairs₁ ≡ explained_by what text pool scalars positions pairs (length scratch)
  unfolding explained_by
  told_is =
      ap (λ (x : Reply). why_text x text₁ positions₁ pairs₁) r ∙ ap (λ (l : List ℕ). why_text answer l positions₁ pairs₁) t ∙ ap (λ (l : List ℕ). why_text answer text l pairs₁) v.positions_are
      ∙ ap (why_text answer text (lines.decoded_after what text (room_in scalars positions) (positions_of text) positions)) v.pairs_are

  pub explains : (out : List ℕ) {out₁ : List ℕ} {n : ℕ} → (n ≡ amount (why_text reply text₁ positions₁ pairs₁) out) × (out₁ ≡ written (why_text reply text₁ positions₁ pairs₁) out)
      → (n ≡ amount (explained_by what text pool scalars positions pairs (length scratch)) out) × (out₁ ≡ written (explained_by what text pool scalars positions pairs (length scratch)) out)
  explains out e = (e.0 ∙ ap (λ (x : List ℕ). amount x out) told_is, e.1 ∙ ap (λ (x : List ℕ). written x out) told_is)
