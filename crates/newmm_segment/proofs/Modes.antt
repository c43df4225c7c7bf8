-- A text in a mode. Assumes nothing.
use Prim.Native.Nat.{ℕ, ◌+◌, ◌≤◌, ◌<◌}
use native.Mathlib.Omega.{arith}
use mathlib.Core.Path.{◌≡◌, refl, sym, ◌∙◌, ap, subst}
use mathlib.Core.Bool.{Bool, cond}
use mathlib.Core.List.{List}
use lib.ListN.{length}
use lib.Dec.{ltb}
use borrow.Author.Tests.{lt-ltb}
use Rattle.std.specs.Prelude.{Option, Some, None}
use Rattle.trie_pool.specs.Meaning.{Words}
use Rattle.newmm_rules.specs.Cutting.{Cut}
use Rattle.newmm_rules.specs.declared.Ends.{Ends}
use Rattle.newmm_rules.specs.declared.Mode.{Mode}
use Rattle.newmm_rules.specs.declared.Mode.TheVariants.{Plain, Safe, Sheet}
use Rattle.newmm_rules.specs.Parts.{runs_of}
use Rattle.newmm_rules.specs.Modes.{joined, in_parts, unshifted, behind_space, segmented}
use Rattle.newmm_answers.specs.Answers.{plain_cut, cut_of}
use Rattle.newmm_segment.specs.inner.Written.{Written, space_cut_of}

module _ (words : Words) (text : List ℕ) (mode : Mode) where
  pub plain_is : mode ≡ Plain → plain_cut words text ≡ cut_of mode words text
  unfolding cut_of
  plain_is e = sym (ap (λ (m : Mode). segmented m (plain_cut words) text) e)

  -- where a space cuts, for a mode with parts
  pub record Chosen (by : ℕ) : Type 0 where
    pub some : 1 ≤ by
    pub most : by ≤ 101
    pub is : in_parts (λ (i : ℕ). i + by) (plain_cut words) text ≡ cut_of mode words text

-- a mode that cuts at no space is the plain one
pub whole_is : (mode : Mode) → space_cut_of mode ≡ None → mode ≡ Plain
whole_is Plain h = refl
whole_is Safe h = cc
whole_is Sheet h = cc

pub chosen : (words : Words) (text : List ℕ) (mode : Mode) (by : ℕ) → space_cut_of mode ≡ Some by → Chosen words text mode by
unfolding cut_of
chosen words text Plain by h = cc
chosen words text Safe by h =
    let e : 1 ≡ by = cc in
    subst (λ (k : ℕ). Chosen words text Safe k) e (record { some = omega arith; most = omega arith; is = refl })
chosen words text Sheet by h =
    let e : 101 ≡ by = cc in
    subst (λ (k : ℕ). Chosen words text Sheet k) e (record { some = omega arith; most = omega arith; is = refl })

parts_short : (space : ℕ → ℕ) (words : Words) (text : List ℕ) → length text < 140 → plain_cut words text ≡ in_parts space (plain_cut words) text
unfolding in_parts
parts_short space words text h = sym (ap (λ (b : Bool). cond b (plain_cut words text) (joined (plain_cut words) (runs_of (length text) space (plain_cut words) text))) (lt-ltb (length text) 140 h))

-- Below 140 characters every mode is plain.
pub short_is : (words : Words) (text : List ℕ) (mode : Mode) → length text < 140 → plain_cut words text ≡ cut_of mode words text
unfolding cut_of
short_is words text Plain h = refl
short_is words text Safe h = parts_short unshifted words text h
short_is words text Sheet h = parts_short behind_space words text h

pub as_cut : {c d : Cut} {row row' : List ℕ} {r : Ends} → c ≡ d → Written c row row' r → Written d row row' r
as_cut {c} {d} {row} {row'} {r} e w = subst (λ (x : Cut). Written x row row' r) e w
