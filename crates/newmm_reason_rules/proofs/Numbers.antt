-- A number and the reason that it stands for. Assumes nothing.
use Prim.Native.Nat.{ℕ}
use native.Mathlib.Omega.{arith}
use mathlib.Core.Path.{◌≡◌, refl, sym, ◌∙◌, ap}
use mathlib.Core.Bool.{Bool, true, false, cond}
use lib.Dec.{eqb}
use borrow.Author.Tests.{eqb-true, eqb-false}
use Rattle.std.specs.Prelude.{Option, Some, None, ◌⊎◌}
use Rattle.std.proofs.Common.{inl, inr}
use Rattle.newmm_reason_rules.specs.declared.Reason.{Reason}
use Rattle.newmm_reason_rules.specs.declared.Reason.TheVariants.{DictionaryWord, NonThaiRun, ToWord, ToNonThai, ToEnd}
use Rattle.newmm_reason_rules.specs.Numbers.{number_of, numbered}

module _ (n : ℕ) (q : Reason) (rest : Option Reason) where
  some_of : (r : Reason) → cond (eqb n (number_of q)) (Some q) rest ≡ Some r → (n ≡ number_of r) ⊎ (rest ≡ Some r)
  some_of r h = go (eqb n (number_of q)) refl h
    where
      go : (b : Bool) → eqb n (number_of q) ≡ b → cond b (Some q) rest ≡ Some r → (n ≡ number_of r) ⊎ (rest ≡ Some r)
      go true e h = let s : q ≡ r = cc in inl (eqb-true n (number_of q) e ∙ ap number_of s)
      go false e h = inr h

  none_of : cond (eqb n (number_of q)) (Some q) rest ≡ None → (n ≡ number_of q → ⊥) × (rest ≡ None)
  none_of h = go (eqb n (number_of q)) refl h
    where
      go : (b : Bool) → eqb n (number_of q) ≡ b → cond b (Some q) rest ≡ None → (n ≡ number_of q → ⊥) × (rest ≡ None)
      go true e h = cc
      go false e h = (eqb-false n (number_of q) e, h)

-- the number of the reason that is found by it
pub number_back : (n : ℕ) (r : Reason) → numbered n ≡ Some r → n ≡ number_of r
number_back n r h =
    elim (some_of n DictionaryWord _ r h) [
      | inl e ↦ e
      | inr h ↦ elim (some_of n NonThaiRun _ r h) [
        | inl e ↦ e
        | inr h ↦ elim (some_of n ToWord _ r h) [
          | inl e ↦ e
          | inr h ↦ elim (some_of n ToNonThai _ r h) [
            | inl e ↦ e
            | inr h ↦ elim (some_of n ToEnd _ r h) [ inl e ↦ e | inr h ↦ cc ]
          ]
        ]
      ]
    ]

-- no reason has another number
pub unnumbered : (n : ℕ) → numbered n ≡ None → (n ≡ 1 → ⊥) × (n ≡ 2 → ⊥) × (n ≡ 3 → ⊥) × (n ≡ 4 → ⊥)
unnumbered n h =
    let a = none_of n DictionaryWord _ h in
    let b = none_of n NonThaiRun _ a.1 in
    let c = none_of n ToWord _ b.1 in
    let d = none_of n ToNonThai _ c.1 in
    (a.0, b.0, c.0, d.0)
