-- Tests of a character against a class. Assumes nothing.
use Prim.Native.Nat.{ℕ, ◌≤◌, ◌<◌}
use native.Mathlib.Omega.{arith}
use mathlib.Core.Path.{◌≡◌, refl, sym, ◌∙◌, ap}
use mathlib.Core.Bool.{Bool, true, false, ◌&&◌, ◌||◌}
use mathlib.Core.List.{List, [], ◌∷◌, ◌++◌}
use lib.ListN.{length, get_or, get_or-eq_default}
use lib.Dec.{leb, eqb}
use borrow.Author.Tests.{eqb-true, eqb-false, le-leb}
use Rattle.lists.specs.Scans.{within}
use Rattle.tcc_rules.specs.Patterns.{Range, holds}
use Rattle.tcc_rules.specs.Rules.{is, up_to}
use Rattle.lists.proofs.Ranges.{within_yes, within_no}

-- past the end
pub nothing : (text : List ℕ) (p : ℕ) → length text ≤ p → 0 ≡ get_or text p 0
nothing text p h = sym (get_or-eq_default text 0 h)

or_none : (b : Bool) → (b || false) ≡ b
or_none true = refl
or_none false = refl

module _ (x : ℕ) where
  pub low : (lo hi : ℕ) → x < lo → false ≡ holds (up_to lo hi) x
  low lo hi h = sym (or_none _ ∙ within_no lo hi x (λ l k. omega arith))

  pub high : (lo hi : ℕ) → lo ≤ x → leb x hi ≡ holds (up_to lo hi) x
  high lo hi h = sym (or_none (within lo hi x) ∙ ap (λ (b : Bool). b && leb x hi) (le-leb lo x h))

  pub is_yes : (v : ℕ) → x ≡ v → holds (is v) x ≡ true
  is_yes v h = or_none _ ∙ within_yes v v x (omega arith) (omega arith)

  pub is_no : (v : ℕ) → (x ≡ v → ⊥) → holds (is v) x ≡ false
  is_no v f = or_none _ ∙ within_no v v x (λ l h. f (omega arith))

  pub is_last : (v : ℕ) → eqb x v ≡ holds (is v) x
  is_last v = go (eqb x v) refl
    where
      go : (b : Bool) → eqb x v ≡ b → b ≡ holds (is v) x
      go true e = sym (is_yes v (eqb-true x v e))
      go false e = sym (is_no v (eqb-false x v e))

  pub is_first : (v : ℕ) (cl : List Range) → x ≡ v → true ≡ holds (is v ++ cl) x
  is_first v cl h = sym (ap (λ (b : Bool). b || holds cl x) (within_yes v v x (omega arith) (omega arith)))

  pub is_later : (v : ℕ) (cl : List Range) (b : Bool) → (x ≡ v → ⊥) → b ≡ holds cl x → b ≡ holds (is v ++ cl) x
  is_later v cl b f h = h ∙ sym (ap (λ (a : Bool). a || holds cl x) (within_no v v x (λ l k. f (omega arith))))

  -- in neither of two classes
  neither : (a b : List Range) → holds a x ≡ false → holds b x ≡ false → holds (a ++ b) x ≡ false
  neither [] b h k = k
  neither (r ∷ rs) b h k = go (within r.lo r.hi x) h (λ e. neither rs b e k)
    where
      go : (t : Bool) → (t || holds rs x) ≡ false → (holds rs x ≡ false → holds (rs ++ b) x ≡ false) → (t || holds (rs ++ b) x) ≡ false
      go true e ih = e
      go false e ih = ih e

-- the character is in none of these classes
abbrev pub NoneOf : List (List Range) → ℕ → Type 0
NoneOf [] x = Unit
NoneOf (cl ∷ cls) x = (holds cl x ≡ false) × NoneOf cls x

abbrev pub all : List (List Range) → List Range
all [] = []
all (cl ∷ cls) = cl ++ all cls

pub none_of : (cls : List (List Range)) (x : ℕ) → NoneOf cls x → holds (all cls) x ≡ false
none_of [] x f = refl
none_of (cl ∷ cls) x f = neither x cl (all cls) f.0 (none_of cls x f.1)

-- a test of what was read is a test of what stands there
pub seen : (cl : List Range) {x y : ℕ} {a b : Bool} → x ≡ y → a ≡ holds cl x → a ≡ b → holds cl y ≡ b
seen cl e h t = ap (holds cl) (sym e) ∙ sym h ∙ t

pub unlike : (v : ℕ) {x y : ℕ} → x ≡ y → (x ≡ v → ⊥) → holds (is v) y ≡ false
unlike v {x} {y} e f = is_no y v (λ h. f (e ∙ h))
