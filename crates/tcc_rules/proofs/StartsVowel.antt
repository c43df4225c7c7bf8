-- Clusters that start with แ, โ, ใ or ไ. Assumes nothing.
use Prim.Native.Nat.{ℕ, ◌+◌}
use mathlib.Core.Path.{◌≡◌, refl, sym, ◌∙◌, ap}
use mathlib.Core.Bool.{true, false}
use mathlib.Core.List.{List, [], ◌∷◌}
use lib.ListN.{get_or}
use Rattle.tcc_rules.specs.Patterns.{holds, fail}
use Rattle.tcc_rules.specs.Rules.{is, up_to, consonant, tone}
use Rattle.tcc_rules.specs.Clusters.{cluster_end}
use Rattle.tcc_rules.specs.inner.Optional.{exact, some, Begins, skipped}
use Rattle.tcc_rules.proofs.Classes.{NoneOf, all, none_of}
use Rattle.tcc_rules.proofs.Steps.{end_fail, end_end}
use Rattle.tcc_rules.proofs.Skips.{skip}
use Rattle.tcc_rules.proofs.Paths.{arrive}

module _ (text : List ℕ) (p : ℕ) where
  module _ (b : Begins (exact 0xE41 ∷ []) text p) where
    pub ae_alone : holds consonant (get_or text (p + 1) 0) ≡ false → p + 1 ≡ cluster_end text p
    ae_alone h = sym (arrive (exact 0xE41 ∷ []) [] consonant text p b h tt ∙ end_fail _ _ _ _)

    pub ae_open : {q r : ℕ} → holds consonant (get_or text (p + 1) 0) ≡ true → NoneOf (consonant ∷ is 0xE47 ∷ []) (get_or text (p + 2) 0)
        → q ≡ skipped tone text (p + 2) → r ≡ skipped (is 0xE30) text q → r ≡ cluster_end text p
    ae_open h g e f =
        f ∙ ap (skipped (is 0xE30) text) e
        ∙ sym (arrive (exact 0xE41 ∷ []) (some consonant ∷ []) (all (consonant ∷ is 0xE47 ∷ [])) text p b ((h, refl), none_of (consonant ∷ is 0xE47 ∷ []) (get_or text (p + 2) 0) g) tt ∙ skip tone _ fail text (p + 2) _ tt refl refl ∙ skip (is 0xE30) _ fail text _ _ tt refl refl ∙ end_end fail text _ _ tt)

  module _ (b : Begins (exact 0xE41 ∷ some consonant ∷ exact 0xE47 ∷ []) text p) where
    pub ae_short_yes : holds consonant (get_or text (p + 3) 0) ≡ true → p + 4 ≡ cluster_end text p
    ae_short_yes h = sym (arrive (exact 0xE41 ∷ some consonant ∷ exact 0xE47 ∷ []) (some consonant ∷ []) [] text p b ((h, refl), refl) tt ∙ end_end fail text _ _ tt)

    pub ae_short_no : holds consonant (get_or text (p + 3) 0) ≡ false → p + 2 ≡ cluster_end text p
    ae_short_no h = sym (arrive (exact 0xE41 ∷ some consonant ∷ exact 0xE47 ∷ []) [] consonant text p b h tt ∙ end_fail _ _ _ _)

  module _ (b : Begins (exact 0xE41 ∷ some consonant ∷ some consonant ∷ []) text p) where
    pub ae_two_mark : get_or text (p + 3) 0 ≡ 0xE4C → p + 4 ≡ cluster_end text p
    ae_two_mark h = sym (arrive (exact 0xE41 ∷ some consonant ∷ some consonant ∷ []) (exact 0xE4C ∷ []) [] text p b (h, refl) tt ∙ end_end fail text _ _ tt)

    pub ae_two_short : get_or text (p + 3) 0 ≡ 0xE47 → holds consonant (get_or text (p + 4) 0) ≡ true → p + 5 ≡ cluster_end text p
    ae_two_short h g = sym (arrive (exact 0xE41 ∷ some consonant ∷ some consonant ∷ []) (exact 0xE47 ∷ some consonant ∷ []) [] text p b (h, ((g, refl), refl)) tt ∙ end_end fail text _ _ tt)

    pub ae_two_short_no : get_or text (p + 3) 0 ≡ 0xE47 → holds consonant (get_or text (p + 4) 0) ≡ false → p + 2 ≡ cluster_end text p
    ae_two_short_no h g = sym (arrive (exact 0xE41 ∷ some consonant ∷ some consonant ∷ []) (exact 0xE47 ∷ []) consonant text p b (h, g) tt ∙ end_fail _ _ _ _)

    pub ae_two_none : NoneOf (is 0xE4C ∷ is 0xE47 ∷ consonant ∷ []) (get_or text (p + 3) 0) → p + 2 ≡ cluster_end text p
    ae_two_none h = sym (arrive (exact 0xE41 ∷ some consonant ∷ some consonant ∷ []) [] (all (is 0xE4C ∷ is 0xE47 ∷ consonant ∷ [])) text p b (none_of (is 0xE4C ∷ is 0xE47 ∷ consonant ∷ []) (get_or text (p + 3) 0) h) tt ∙ end_fail _ _ _ _)

    pub ae_three : holds consonant (get_or text (p + 3) 0) ≡ true → get_or text (p + 4) 0 ≡ 0xE4C → p + 5 ≡ cluster_end text p
    ae_three h g = sym (arrive (exact 0xE41 ∷ some consonant ∷ some consonant ∷ []) (some consonant ∷ exact 0xE4C ∷ []) [] text p b ((h, refl), (g, refl)) tt ∙ end_end fail text _ _ tt)

    pub ae_three_no : holds consonant (get_or text (p + 3) 0) ≡ true → holds (is 0xE4C) (get_or text (p + 4) 0) ≡ false → p + 2 ≡ cluster_end text p
    ae_three_no h g = sym (arrive (exact 0xE41 ∷ some consonant ∷ some consonant ∷ []) (some consonant ∷ []) (is 0xE4C) text p b ((h, refl), g) tt ∙ end_fail _ _ _ _)

  module _ (b : Begins (exact 0xE42 ∷ []) text p) where
    pub o_alone : holds consonant (get_or text (p + 1) 0) ≡ false → p + 1 ≡ cluster_end text p
    o_alone h = sym (arrive (exact 0xE42 ∷ []) [] consonant text p b h tt ∙ end_fail _ _ _ _)

    pub o_open : {q r : ℕ} → holds consonant (get_or text (p + 1) 0) ≡ true → q ≡ skipped tone text (p + 2) → r ≡ skipped (is 0xE30) text q → r ≡ cluster_end text p
    o_open h e f =
        f ∙ ap (skipped (is 0xE30) text) e
        ∙ sym (arrive (exact 0xE42 ∷ []) (some consonant ∷ []) [] text p b ((h, refl), refl) tt ∙ skip tone _ fail text (p + 2) _ tt refl refl ∙ skip (is 0xE30) _ fail text _ _ tt refl refl ∙ end_end fail text _ _ tt)

  module _ (b : Begins (some (up_to 0xE43 0xE44) ∷ []) text p) where
    pub ai_alone : holds consonant (get_or text (p + 1) 0) ≡ false → p + 1 ≡ cluster_end text p
    ai_alone h = sym (arrive (some (up_to 0xE43 0xE44) ∷ []) [] consonant text p b h tt ∙ end_fail _ _ _ _)

    pub ai_open : {q : ℕ} → holds consonant (get_or text (p + 1) 0) ≡ true → q ≡ skipped tone text (p + 2) → q ≡ cluster_end text p
    ai_open h e = e ∙ sym (arrive (some (up_to 0xE43 0xE44) ∷ []) (some consonant ∷ []) [] text p b ((h, refl), refl) tt ∙ skip tone _ fail text (p + 2) _ tt refl refl ∙ end_end fail text _ _ tt)
