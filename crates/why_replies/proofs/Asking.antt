-- What a line asks, and how its text is cut. Assumes nothing.
use Prim.Native.Nat.{ℕ, ◌-◌, ◌≤◌, ◌<◌}
use native.Mathlib.Omega.{arith}
use mathlib.Core.Path.{◌≡◌, refl, sym, ◌∙◌, ap}
use mathlib.Core.Bool.{Bool, true, false, cond}
use mathlib.Core.List.{List, [], ◌∷◌}
use lib.Dec.{eqb}
use lib.ListN.{length, get_or, take, drop}
use borrow.Author.Tests.{eq-eqb, ne_eqb, lt-ltb, le-ltb}
use Rattle.lists.proofs.Parts.{tail_drop}
use Rattle.newmm_rules.specs.declared.Mode.{Mode}
use Rattle.newmm_rules.specs.declared.Mode.TheVariants.{Sheet}
use Rattle.sheet_replies.specs.declared.Asked.{Asked}
use Rattle.sheet_replies.specs.declared.Asked.TheVariants.{Nothing, Add, Remove, Cut}
use Rattle.sheet_replies.specs.Replies as lines
use Rattle.std.specs.Prelude.{Option, None, Some}
use Rattle.why_replies.specs.Replies.{Cutting, asks_sheet, asked, cutting_by}

-- ---- `#`, test by test

module _ (line : List ℕ) where
  pub sheet_empty : length line ≡ 0 → false ≡ asks_sheet line
  sheet_empty h = simp (eq-eqb (length line) 0 h)

  module _ (a : length line ≡ 0 → ⊥) where
    pub sheet_long : 1024 < length line → false ≡ asks_sheet line
    sheet_long h = simp (ne_eqb (length line) 0 a, lt-ltb 1024 (length line) h)

    module _ (b : length line ≤ 1024) where
      pub sheet_yes : get_or line 0 0 ≡ 35 → true ≡ asks_sheet line
      sheet_yes h = simp (ne_eqb (length line) 0 a, le-ltb 1024 (length line) b, eq-eqb (get_or line 0 0) 35 h)

      pub sheet_no : (get_or line 0 0 ≡ 35 → ⊥) → false ≡ asks_sheet line
      sheet_no h = simp (ne_eqb (length line) 0 a, le-ltb 1024 (length line) b, ne_eqb (get_or line 0 0) 35 h)

-- ---- what is asked

pub asked_sheet : (line : List ℕ) → asks_sheet line ≡ true → Cut Sheet ≡ asked line
unfolding asked
asked_sheet line h = sym (ap (λ (b : Bool). cond b (Cut Sheet) (lines.asked line)) h)

pub asks_other : (line : List ℕ) → asks_sheet line ≡ false → lines.asked line ≡ asked line
unfolding asked
asks_other line h = sym (ap (λ (b : Bool). cond b (Cut Sheet) (lines.asked line)) h)

-- by the mode of `#`, or by what the line program's line asks
module _ (line : List ℕ) {b : Bool} (is : b ≡ asks_sheet line) where
  pub cut_sheet : b ≡ true → Some Sheet ≡ cutting_by (asked line)
  cut_sheet h = ap cutting_by (asked_sheet line (sym is ∙ h))

  pub cut_other : b ≡ false → {a k : Asked} → a ≡ lines.asked line → a ≡ k → cutting_by k ≡ cutting_by (asked line)
  cut_other h e f = ap cutting_by (sym f ∙ e ∙ asks_other line (sym is ∙ h))

no_mode : (mode : Mode) → ◌≡◌ {A = Cutting} None (Some mode) → ⊥
no_mode mode h = let z : ◌≡◌ {A = ℕ} 0 1 = cc in omega arith

same_mode : (mode other : Mode) → ◌≡◌ {A = Cutting} (Some mode) (Some other) → mode ≡ other
same_mode mode other h = cc

-- the text is cut in a mode
pub cut_is : (k : Asked) (mode : Mode) → Some mode ≡ cutting_by k → Cut mode ≡ k
cut_is Nothing mode h = absurd (no_mode mode (sym h))
cut_is Add mode h = absurd (no_mode mode (sym h))
cut_is Remove mode h = absurd (no_mode mode (sym h))
cut_is (Cut other) mode h = ap Cut (same_mode mode other h)

-- the text isn't cut: the line asks what it asks the line program
pub not_cut_is : (line : List ℕ) → None ≡ cutting_by (asked line) → lines.asked line ≡ asked line
not_cut_is line h = go (asks_sheet line) refl
  where
    go : (b : Bool) → asks_sheet line ≡ b → lines.asked line ≡ asked line
    go true e = absurd (no_mode Sheet (h ∙ sym (ap cutting_by (asked_sheet line e))))
    go false e = asks_other line e

-- ---- the line without its first byte

pub no_text : (line : List ℕ) → length line ≡ 0 → line ≡ lines.text_of line
no_text [] h = refl
no_text (b ∷ line) h = absurd (omega arith)

pub some_text : (line : List ℕ) → take (length line - 1) (drop 1 line) ≡ lines.text_of line
some_text line = tail_drop line 1
