-- What a line asks, test by test. Assumes nothing.
use Prim.Native.Nat.{ℕ, ◌≤◌, ◌<◌}
use native.Mathlib.Omega.{arith}
use mathlib.Core.Path.{◌≡◌, sym, ◌∙◌}
use mathlib.Core.List.{List, [], ◌∷◌}
use lib.ListN.{length, get_or}
use borrow.Author.Tests.{eq-eqb, ne_eqb, lt-ltb, le-ltb}
use Rattle.newmm_rules.specs.declared.Mode.{Mode}
use Rattle.newmm_rules.specs.declared.Mode.TheVariants.{Plain, Safe}
use Rattle.sheet_replies.specs.declared.Asked.{Asked}
use Rattle.sheet_replies.specs.declared.Asked.TheVariants.{Nothing, Add, Remove, Cut}
use Rattle.sheet_replies.specs.Replies.{asked, asked_by}

pub asked_empty : (line : List ℕ) → length line ≡ 0 → Nothing ≡ asked line
asked_empty line h = simp (eq-eqb (length line) 0 h)

pub asked_long : (line : List ℕ) → (length line ≡ 0 → ⊥) → 1024 < length line → Nothing ≡ asked line
asked_long line h k = simp (ne_eqb (length line) 0 h, lt-ltb 1024 (length line) k)

pub asked_short : (line : List ℕ) → (length line ≡ 0 → ⊥) → length line ≤ 1024 → {a : Asked} → a ≡ asked_by (get_or line 0 0) → a ≡ asked line
asked_short line h k {a} e = e ∙ simp (ne_eqb (length line) 0 h, le-ltb 1024 (length line) k)

module _ (op : ℕ) where
  pub by_add : op ≡ 43 → Add ≡ asked_by op
  by_add h = simp (eq-eqb op 43 h)

  module _ (a : op ≡ 43 → ⊥) where
    pub by_remove : op ≡ 45 → Remove ≡ asked_by op
    by_remove h = simp (ne_eqb op 43 a, eq-eqb op 45 h)

    module _ (b : op ≡ 45 → ⊥) where
      pub by_cut : op ≡ 61 → Cut Plain ≡ asked_by op
      by_cut h = simp (ne_eqb op 43 a, ne_eqb op 45 b, eq-eqb op 61 h)

      module _ (d : op ≡ 61 → ⊥) where
        pub by_safe : op ≡ 126 → Cut Safe ≡ asked_by op
        by_safe h = simp (ne_eqb op 43 a, ne_eqb op 45 b, ne_eqb op 61 d, eq-eqb op 126 h)

        pub by_none : (op ≡ 126 → ⊥) → Nothing ≡ asked_by op
        by_none h = simp (ne_eqb op 43 a, ne_eqb op 45 b, ne_eqb op 61 d, ne_eqb op 126 h)

-- a line that asks something has a first byte
pub asked_some : (line : List ℕ) {a k : Asked} → a ≡ asked line → a ≡ k → (Nothing ≡ k → ⊥) → 1 ≤ length line
asked_some [] e h no' = absurd (no' (sym e ∙ h))
asked_some (b ∷ line) e h no' = omega arith

pub not_add : Nothing ≡ Add → ⊥
not_add h = let z : ◌≡◌ {A = ℕ} 0 1 = cc in omega arith

pub not_remove : Nothing ≡ Remove → ⊥
not_remove h = let z : ◌≡◌ {A = ℕ} 0 1 = cc in omega arith

pub not_cut : (mode : Mode) → Nothing ≡ Cut mode → ⊥
not_cut mode h = let z : ◌≡◌ {A = ℕ} 0 1 = cc in omega arith
