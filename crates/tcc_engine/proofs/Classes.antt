-- Whether a class of the tables has a character. Assumes nothing.
use Prim.Native.Nat.{ℕ, ◌+◌, ◌*◌, ◌/◌, ◌%◌, ◌≤◌, ◌<◌}
use native.Mathlib.Omega.{arith}
use native.Mathlib.Decide.{dec_lt}
use mathlib.Core.Path.{◌≡◌, refl, sym, ◌∙◌, ap}
use mathlib.Core.Bool.{Bool, true, false, cond, ◌||◌}
use mathlib.Core.List.{List, [], ◌∷◌}
use lib.ListN.{length, get_or}
use lib.Dec.{leb}
use borrow.Author.Tests.{leb-false}
use Rattle.lists.specs.Scans.{within}
use Rattle.lists.proofs.Ranges.{within_no}
use Rattle.tcc_rules.specs.Patterns.{Range, holds, holds_at}
use Rattle.tcc_rules.proofs.Known.{at_inside, at_outside, not_both}
use Rattle.tcc_engine.specs.Tables.{range, class_in}

-- a range, lo and hi in one number, has the character
abbrev pub has : ℕ → ℕ → Bool
has r x = within (r / 65536) (r % 65536) x

range_holds : (r x : ℕ) (more : List Range) → holds (range r more) x ≡ (has r x || holds more x)
range_holds r x more = go (leb (r / 65536) (r % 65536)) refl
  where
    go : (b : Bool) → leb (r / 65536) (r % 65536) ≡ b
        → holds (cond b (record { lo = r / 65536; hi = r % 65536 } ∷ more) more) x ≡ (has r x || holds more x)
    go true e = refl
    go false e =
        let h = leb-false (r / 65536) (r % 65536) e in
        sym (ap (λ (t : Bool). t || holds more x) (within_no (r / 65536) (r % 65536) x (λ l k. omega arith)))

or_none : (t : Bool) → (t || false) ≡ t
or_none true = refl
or_none false = refl

three : (a b c x : ℕ) → holds (range a (range b (range c []))) x ≡ (has a x || (has b x || has c x))
three a b c x =
    range_holds a x (range b (range c []))
    ∙ ap (λ (t : Bool). has a x || t) (range_holds b x (range c []) ∙ ap (λ (t : Bool). has b x || t) (range_holds c x [] ∙ or_none (has c x)))

module _ (classes : List ℕ) (number : ℕ) (text : List ℕ) (p : ℕ) where
  pub none_there : length text ≤ p → false ≡ holds_at (class_in classes number) text p
  none_there h = sym (at_outside (class_in classes number) text p h)

  module _ (there : p < length text) where
    is : holds_at (class_in classes number) text p
        ≡ (has (get_or classes (3 * number) 0) (get_or text p 0) || (has (get_or classes (3 * number + 1) 0) (get_or text p 0) || has (get_or classes (3 * number + 2) 0) (get_or text p 0)))
    is = at_inside (class_in classes number) text p there
        ∙ three (get_or classes (3 * number) 0) (get_or classes (3 * number + 1) 0) (get_or classes (3 * number + 2) 0) (get_or text p 0)

    pub by_first : {a : Bool} → a ≡ has (get_or classes (3 * number) 0) (get_or text p 0) → a ≡ true → true ≡ holds_at (class_in classes number) text p
    by_first e h = sym (is ∙ rw (sym e ∙ h))

    pub by_second : {a b : Bool} → a ≡ has (get_or classes (3 * number) 0) (get_or text p 0) → a ≡ false
        → b ≡ has (get_or classes (3 * number + 1) 0) (get_or text p 0) → b ≡ true → true ≡ holds_at (class_in classes number) text p
    by_second e h f k = sym (is ∙ rw (sym e ∙ h, sym f ∙ k))

    pub by_third : {a b c : Bool} → a ≡ has (get_or classes (3 * number) 0) (get_or text p 0) → a ≡ false
        → b ≡ has (get_or classes (3 * number + 1) 0) (get_or text p 0) → b ≡ false → c ≡ has (get_or classes (3 * number + 2) 0) (get_or text p 0)
        → c ≡ holds_at (class_in classes number) text p
    by_third e h f k g = g ∙ sym (is ∙ rw (sym e ∙ h, sym f ∙ k))

-- a character of a class stands at p only where the text has one
pub only_there : (cl : List Range) (text : List ℕ) (p : ℕ) {a : Bool} → a ≡ holds_at cl text p → a ≡ true → p < length text
only_there cl text p e h = go (dec_lt p (length text))
  where
    go : Dec (p < length text) → p < length text
    go (yes l) = l
    go (no l) = not_both (sym e ∙ h) (at_outside cl text p (omega arith))
