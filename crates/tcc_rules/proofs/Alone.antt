-- A character that no alternative takes. Assumes nothing.
use Prim.Native.Nat.{ℕ, ◌+◌, ◌≤◌, ◌<◌}
use native.Mathlib.Omega.{arith}
use mathlib.Core.Path.{◌≡◌, refl, sym, ◌∙◌}
use mathlib.Core.Bool.{true, false}
use mathlib.Core.List.{List, [], ◌∷◌}
use lib.ListN.{length, get_or}
use Rattle.tcc_rules.specs.Patterns.{holds}
use Rattle.tcc_rules.specs.Rules.{up_to, consonant, leading}
use Rattle.tcc_rules.specs.Clusters.{cluster_end}
use Rattle.lists.proofs.Ranges.{within_yes, within_no}
use Rattle.tcc_rules.proofs.Known.{not_both, or_both}
use Rattle.tcc_rules.proofs.Classes.{all, none_of}
use Rattle.tcc_rules.proofs.Steps.{end_fail}
use Rattle.tcc_rules.proofs.Paths.{arrive}

not_leading : (x : ℕ) → (x ≡ 0xE40 → ⊥) → (x ≡ 0xE41 → ⊥) → (x ≡ 0xE42 → ⊥) → holds (up_to 0xE43 0xE44) x ≡ false → holds leading x ≡ false
not_leading x e ae o ai = or_both _ _ (within_no 0xE40 0xE44 x (λ l h. not_both (both_ends (omega arith) h) ai)) refl
  where
    both_ends : 0xE43 ≤ x → x ≤ 0xE44 → holds (up_to 0xE43 0xE44) x ≡ true
    both_ends l h = rw (within_yes 0xE43 0xE44 x l h)

pub alone : (text : List ℕ) (p : ℕ) → p < length text → holds consonant (get_or text p 0) ≡ false
    → (get_or text p 0 ≡ 0xE40 → ⊥) → (get_or text p 0 ≡ 0xE41 → ⊥) → (get_or text p 0 ≡ 0xE42 → ⊥) → holds (up_to 0xE43 0xE44) (get_or text p 0) ≡ false
    → p + 1 ≡ cluster_end text p
alone text p i c e ae o ai =
    sym (arrive [] [] (all (consonant ∷ leading ∷ [])) text p (i, tt) (none_of (consonant ∷ leading ∷ []) (get_or text p 0) (c, (not_leading (get_or text p 0) e ae o ai, tt))) tt ∙ end_fail _ _ _ _)
