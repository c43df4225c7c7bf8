-- The reply to a line, by what it asks. Assumes nothing.
use Prim.Native.Nat.{ℕ, ◌-◌}
use mathlib.Core.Path.{◌≡◌, sym, ◌∙◌, ap, subst}
use mathlib.Core.List.{List}
use lib.ListN.{length, take, drop}
use Rattle.lists.proofs.Parts.{tail_drop}
use Rattle.utf8.specs.Decoding.{Room}
use Rattle.sheet_replies.specs.declared.Asked.{Asked}
use Rattle.sheet_texts.specs.declared.Reply.{Reply}
use Rattle.sheet_replies.specs.Replies.{asked, text_of, reply_to, reply_of, RowsAfter}

-- the line without its first byte, as it is lent
abbrev rest : List ℕ → List ℕ
rest line = take (length line - 1) (drop 1 line)

module _ (line : List ℕ) {a k : Asked} (is : a ≡ asked line) (h : a ≡ k) where
  by : k ≡ asked line
  by = sym h ∙ is

  pub reply_by : (pool : List ℕ) (room : Room) (cells places : ℕ) {r : Reply} → r ≡ reply_to k (rest line) pool room cells places → r ≡ reply_of line pool room cells places
  reply_by pool room cells places e =
      e ∙ ap (λ (t : List ℕ). reply_to k t pool room cells places) (tail_drop line 1) ∙ ap (λ (x : Asked). reply_to x (text_of line) pool room cells places) by

  pub rows_by : {pool pool₁ scalars scalars₁ positions positions₁ ends ends₁ scratch scratch₁ : List ℕ} → RowsAfter k (rest line) pool pool₁ scalars scalars₁ positions positions₁ ends ends₁ scratch scratch₁
      → RowsAfter (asked line) (text_of line) pool pool₁ scalars scalars₁ positions positions₁ ends ends₁ scratch scratch₁
  rows_by {pool} {pool₁} {scalars} {scalars₁} {positions} {positions₁} {ends} {ends₁} {scratch} {scratch₁} v =
      subst (λ (x : Asked). RowsAfter x (text_of line) pool pool₁ scalars scalars₁ positions positions₁ ends ends₁ scratch scratch₁) by
      (subst (λ (t : List ℕ). RowsAfter k t pool pool₁ scalars scalars₁ positions positions₁ ends ends₁ scratch scratch₁) (tail_drop line 1) v)
