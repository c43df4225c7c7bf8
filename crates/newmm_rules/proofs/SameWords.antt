-- Equal words, equal answers: a cut depends on the dictionary only through which words it holds.
-- Assumes nothing.
use Prim.Native.Nat.{ℕ}
use mathlib.Core.Path.{◌≡◌}
use mathlib.Core.Bool.{Bool}
use mathlib.Core.List.{List}
use Rattle.newmm_rules.specs.Cutting.{cut}

pub same_words : (text : List ℕ) (is_end : ℕ → Bool) (held held' : List ℕ → Bool) → ((w : List ℕ) → held w ≡ held' w)
    → cut (record { text = text; is_end = is_end; held = held }) ≡ cut (record { text = text; is_end = is_end; held = held' })
same_words text is_end held held' same = λ i. cut (record { text = text; is_end = is_end; held = λ (w : List ℕ). same w i })
