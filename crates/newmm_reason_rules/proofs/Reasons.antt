-- What the reason of a place is. Assumes nothing.
use Prim.Native.Nat.{ℕ, suc, ◌+◌, ◌-◌, ◌≤◌, ◌<◌}
use native.Mathlib.Omega.{arith}
use mathlib.Core.Path.{◌≡◌, refl, sym, ◌∙◌, ap}
use mathlib.Core.Bool.{Bool, true, false, cond}
use mathlib.Core.List.{List, [], ◌∷◌, map}
use lib.ListN.{length}
use lib.Dec.{ltb, eqb}
use borrow.Author.Tests.{lt-ltb, le-ltb, eq-eqb, ne_eqb}
use Rattle.newmm_rules.specs.Words.{Given, size, word_ends}
use Rattle.newmm_rules.specs.NonDictionary.{non_thai_at, starts_word, skip_end, token_end}
use Rattle.newmm_rules.specs.Claims.{is_nil}
use Rattle.newmm_reason_rules.specs.Reasons.{skip_reason, reason_at, Told, told_from}

module _ (g : Given) (b : ℕ) where
  -- by its tests
  abbrev picked : (none no_run below word : Bool) → ℕ
  picked none no_run below word = cond none (cond no_run (cond below (cond word 3 4) 5) 2) 1

  tested : {none no_run below word : Bool} → is_nil (word_ends g b) ≡ none → eqb (non_thai_at g b) 0 ≡ no_run → ltb (skip_end g b) (size g) ≡ below → starts_word g (skip_end g b) ≡ word
      → reason_at g b ≡ picked none no_run below word
  unfolding reason_at skip_reason
  tested p q r s = λ i. picked (p i) (q i) (r i) (s i)

  pub small : reason_at g b ≤ 5
  small = go (is_nil (word_ends g b)) (eqb (non_thai_at g b) 0) (ltb (skip_end g b) (size g)) (starts_word g (skip_end g b)) (tested refl refl refl refl)
    where
      go : (n r l w : Bool) → reason_at g b ≡ picked n r l w → reason_at g b ≤ 5
      go false r l w e = omega arith
      go true false l w e = omega arith
      go true true false w e = omega arith
      go true true true false e = omega arith
      go true true true true e = omega arith

  -- a word starts at b
  pub reason_word : is_nil (word_ends g b) ≡ false → reason_at g b ≡ 1
  reason_word h = tested h refl refl refl

  module _ (none : word_ends g b ≡ []) where
    -- none does, and NON_THAI_PATTERN matches
    pub reason_run : (non_thai_at g b ≡ 0 → ⊥) → reason_at g b ≡ 2
    reason_run n = tested (ap is_nil none) (ne_eqb (non_thai_at g b) 0 n) refl refl

    pub matches : (non_thai_at g b ≡ 0 → ⊥) → token_end g b ≡ b + non_thai_at g b
    unfolding token_end
    matches n = ap (λ (t : Bool). cond t (skip_end g b) (b + non_thai_at g b)) (ne_eqb (non_thai_at g b) 0 n)

    module _ (no_run : non_thai_at g b ≡ 0) where
      -- it doesn't: the token is skipped
      pub skips : token_end g b ≡ skip_end g b
      unfolding token_end
      skips = ap (λ (t : Bool). cond t (skip_end g b) (b + non_thai_at g b)) (eq-eqb (non_thai_at g b) 0 no_run)

      module _ {e : ℕ} (is : e ≡ skip_end g b) where
        skipped : {below word : Bool} → ltb e (size g) ≡ below → starts_word g e ≡ word → reason_at g b ≡ picked true true below word
        skipped p q =
            tested (ap is_nil none) (eq-eqb (non_thai_at g b) 0 no_run) (ap (λ (k : ℕ). ltb k (size g)) (sym is) ∙ p)
            (ap (starts_word g) (sym is) ∙ q)

        pub reason_to_word : e < size g → starts_word g e ≡ true → reason_at g b ≡ 3
        reason_to_word h s = skipped (lt-ltb e (size g) h) s

        pub reason_to_run : e < size g → starts_word g e ≡ false → reason_at g b ≡ 4
        reason_to_run h s = skipped (lt-ltb e (size g) h) s

        pub reason_to_end : e ≡ size g → reason_at g b ≡ 5
        reason_to_end h = skipped (le-ltb e (size g) (omega arith)) refl

-- ---- what is told of tokens

module _ (g : Given) where
  -- it has their ends
  pub told_ends : (b : ℕ) (es : List ℕ) → map (λ (t : Told). t.end) (told_from g b es) ≡ es
  unfolding told_from
  told_ends b [] = refl
  told_ends b (e ∷ es) = ap (λ (l : List ℕ). e ∷ l) (told_ends e es)
