-- Clusters that start with เ. Assumes nothing.
use Prim.Native.Nat.{ℕ, ◌+◌}
use native.Mathlib.Omega.{arith}
use mathlib.Core.Path.{◌≡◌, refl, sym, ◌∙◌, ap}
use mathlib.Core.Bool.{Bool, true, false}
use mathlib.Core.List.{List, [], ◌∷◌, ◌++◌}
use lib.ListN.{get_or}
use Rattle.tcc_rules.specs.Patterns.{Range, holds, fail, Pattern, items, one, opt, optional}
use Rattle.tcc_rules.specs.Rules.{is, consonant, tone, leading, ch, k}
use Rattle.tcc_rules.specs.Clusters.{cluster_end}
use Rattle.tcc_rules.specs.inner.Optional.{Known, exact, among, some, Begins, skipped, k_end, shorter}
use Rattle.tcc_rules.proofs.Classes.{NoneOf, all, none_of}
use Rattle.tcc_rules.proofs.Steps.{end_by, end_fail, end_end}
use Rattle.tcc_rules.proofs.Skips.{skip}
use Rattle.tcc_rules.proofs.Tails.{first, optional_k_end, k_first, k_shorter}
use Rattle.tcc_rules.proofs.Paths.{along, arrive}

-- what the matcher knows when it has read เ, เc, เcc, ..
abbrev e : List Known
e = exact 0xE40 ∷ []

abbrev e_with : Known → List Known
e_with x = exact 0xE40 ∷ some consonant ∷ x ∷ []

abbrev e_then : Known → Known → List Known
e_then x y = exact 0xE40 ∷ some consonant ∷ x ∷ y ∷ []

-- the classes of which there is none behind เc
abbrev no_e : List (List Range)
no_e = consonant ∷ tone ∷ is 0xE34 ∷ is 0xE35 ∷ is 0xE37 ∷ is 0xE32 ∷ is 0xE47 ∷ is 0xE30 ∷ []

-- and behind เcc
abbrev no_e_two : List (List Range)
no_e_two = tone ∷ is 0xE35 ∷ is 0xE32 ∷ is 0xE47 ∷ []

module _ (text : List ℕ) (p : ℕ) where
  module _ (b : Begins e text p) where
    pub e_alone : holds consonant (get_or text (p + 1) 0) ≡ false → p + 1 ≡ cluster_end text p
    e_alone h = sym (arrive e [] consonant text p b h tt ∙ end_fail _ _ _ _)

    pub e_tone : {q r : ℕ} → holds consonant (get_or text (p + 1) 0) ≡ true → holds tone (get_or text (p + 2) 0) ≡ true
        → q ≡ skipped (is 0xE32) text (p + 3) → r ≡ skipped (is 0xE30) text q → k_end text r ≡ cluster_end text p
    e_tone h g i j =
        ap (k_end text) (j ∙ ap (skipped (is 0xE30) text) i)
        ∙ sym (arrive e (some consonant ∷ some tone ∷ []) [] text p b ((h, refl), ((g, refl), refl)) tt ∙ skip (is 0xE32) _ fail text _ _ tt refl refl ∙ skip (is 0xE30) _ fail text _ _ tt refl refl ∙ optional_k_end text _ _)

    pub e_aa : {q : ℕ} → holds consonant (get_or text (p + 1) 0) ≡ true → get_or text (p + 2) 0 ≡ 0xE32 → q ≡ skipped (is 0xE30) text (p + 3) → k_end text q ≡ cluster_end text p
    e_aa h g i = ap (k_end text) i ∙ sym (arrive e (some consonant ∷ exact 0xE32 ∷ []) [] text p b ((h, refl), (g, refl)) tt ∙ skip (is 0xE30) _ fail text _ _ tt refl refl ∙ optional_k_end text _ _)

    pub e_a : holds consonant (get_or text (p + 1) 0) ≡ true → get_or text (p + 2) 0 ≡ 0xE30 → k_end text (p + 3) ≡ cluster_end text p
    e_a h g = sym (arrive e (some consonant ∷ exact 0xE30 ∷ []) [] text p b ((h, refl), (g, refl)) tt ∙ optional_k_end text _ _)

    pub e_none : holds consonant (get_or text (p + 1) 0) ≡ true → NoneOf no_e (get_or text (p + 2) 0) → p + 2 ≡ cluster_end text p
    e_none h g = sym (arrive e (some consonant ∷ []) (all no_e) text p b ((h, refl), none_of no_e (get_or text (p + 2) 0) g) tt ∙ end_end _ text _ _ tt)

  module _ (b : Begins (e_with (exact 0xE47)) text p) where
    pub e_short_yes : holds consonant (get_or text (p + 3) 0) ≡ true → k_end text (p + 4) ≡ cluster_end text p
    e_short_yes h = sym (arrive (e_with (exact 0xE47)) (some consonant ∷ []) [] text p b ((h, refl), refl) tt ∙ optional_k_end text _ _)

    pub e_short_no : holds consonant (get_or text (p + 3) 0) ≡ false → p + 2 ≡ cluster_end text p
    e_short_no h = sym (arrive (e_with (exact 0xE47)) [] consonant text p b h tt ∙ end_fail _ _ _ _)

  module _ (b : Begins (e_with (some consonant)) text p) where
    pub e_two_aa : get_or text (p + 3) 0 ≡ 0xE32 → get_or text (p + 4) 0 ≡ 0xE30 → k_end text (p + 5) ≡ cluster_end text p
    e_two_aa h g = sym (arrive (e_with (some consonant)) (exact 0xE32 ∷ exact 0xE30 ∷ []) [] text p b (h, (g, refl)) tt ∙ optional_k_end text _ _)

    pub e_two_aa_no : get_or text (p + 3) 0 ≡ 0xE32 → holds (is 0xE30) (get_or text (p + 4) 0) ≡ false → p + 2 ≡ cluster_end text p
    e_two_aa_no h g = sym (arrive (e_with (some consonant)) (exact 0xE32 ∷ []) (is 0xE30) text p b (h, g) tt ∙ end_fail _ _ _ _)

    pub e_two_short : get_or text (p + 3) 0 ≡ 0xE47 → holds consonant (get_or text (p + 4) 0) ≡ true → k_end text (p + 5) ≡ cluster_end text p
    e_two_short h g = sym (arrive (e_with (some consonant)) (exact 0xE47 ∷ some consonant ∷ []) [] text p b (h, ((g, refl), refl)) tt ∙ optional_k_end text _ _)

    pub e_two_short_no : get_or text (p + 3) 0 ≡ 0xE47 → holds consonant (get_or text (p + 4) 0) ≡ false → p + 2 ≡ cluster_end text p
    e_two_short_no h g = sym (arrive (e_with (some consonant)) (exact 0xE47 ∷ []) consonant text p b (h, g) tt ∙ end_fail _ _ _ _)

    -- only k is left of alternative 9
    pub e_two_none : NoneOf no_e_two (get_or text (p + 3) 0) → k_end text (p + 2) ≡ cluster_end text p
    e_two_none h =
        let i : p + 2 + 1 ≡ p + 3 = omega arith in
        k_first text (p + 2) b.1.1.1.0.0
        ∙ ap (λ (q : ℕ). end_by first fail text q (p + 2)) i
        ∙ sym (arrive (e_with (some consonant)) [] (all no_e_two) text p b (none_of no_e_two (get_or text (p + 3) 0) h) tt)

  module _ (b : Begins (e_then (some consonant) (some tone)) text p) where
    pub e_two_tone : get_or text (p + 4) 0 ≡ 0xE32 → get_or text (p + 5) 0 ≡ 0xE30 → k_end text (p + 6) ≡ cluster_end text p
    e_two_tone h g = sym (arrive (e_then (some consonant) (some tone)) (exact 0xE32 ∷ exact 0xE30 ∷ []) [] text p b (h, (g, refl)) tt ∙ optional_k_end text _ _)

    pub e_two_tone_no : holds (is 0xE32) (get_or text (p + 4) 0) ≡ false → p + 2 ≡ cluster_end text p
    e_two_tone_no h = sym (arrive (e_then (some consonant) (some tone)) [] (is 0xE32) text p b h tt ∙ end_fail _ _ _ _)

    pub e_two_tone_aa : get_or text (p + 4) 0 ≡ 0xE32 → holds (is 0xE30) (get_or text (p + 5) 0) ≡ false → p + 2 ≡ cluster_end text p
    e_two_tone_aa h g = sym (arrive (e_then (some consonant) (some tone)) (exact 0xE32 ∷ []) (is 0xE30) text p b (h, g) tt ∙ end_fail _ _ _ _)

  -- the look-ahead's last character and k
  abbrev ahead : Pattern
  ahead = items (ch 0xE22 ∷ one (leading ++ consonant) ∷ []) (optional k)

  module _ (b : Begins (e_then (some consonant) (exact 0xE35)) text p) (q : ℕ) (i : q ≡ skipped tone text (p + 4)) where
    two_ii : cluster_end text p ≡ end_by (items (ch 0xE22 ∷ ch 0xE30 ∷ []) (optional k)) ahead text q (p + 2)
    two_ii = arrive (e_then (some consonant) (exact 0xE35)) [] [] text p b refl tt ∙ skip tone _ _ text (p + 4) _ tt refl refl ∙ ap (λ (j : ℕ). end_by (items (ch 0xE22 ∷ ch 0xE30 ∷ []) (optional k)) ahead text j (p + 2)) (sym i)

    pub e_two_ii : get_or text q 0 ≡ 0xE22 → get_or text (q + 1) 0 ≡ 0xE30 → k_end text (q + 2) ≡ cluster_end text p
    e_two_ii h g = sym (two_ii ∙ along (exact 0xE22 ∷ exact 0xE30 ∷ []) [] _ _ text q 0 _ (h, (g, refl)) tt ∙ optional_k_end text _ _)

    pub e_two_ii_no : holds (is 0xE22) (get_or text q 0) ≡ false → p + 2 ≡ cluster_end text p
    e_two_ii_no h = sym (two_ii ∙ along [] (is 0xE22) _ _ text q 0 _ h tt ∙ end_fail _ _ _ _)

    pub e_two_ii_yo : get_or text q 0 ≡ 0xE22 → holds (is 0xE30) (get_or text (q + 1) 0) ≡ false → p + 2 ≡ cluster_end text p
    e_two_ii_yo h g = sym (two_ii ∙ along (exact 0xE22 ∷ []) (is 0xE30) _ _ text q 0 _ (h, g) tt ∙ end_fail _ _ _ _)

  module _ (b : Begins (e_with (exact 0xE34)) text p) where
    pub i_none : NoneOf (tone ∷ consonant ∷ []) (get_or text (p + 3) 0) → p + 2 ≡ cluster_end text p
    i_none h = sym (arrive (e_with (exact 0xE34)) [] (all (tone ∷ consonant ∷ [])) text p b (none_of (tone ∷ consonant ∷ []) (get_or text (p + 3) 0) h) tt ∙ end_fail _ _ _ _)

    pub i_mark : holds consonant (get_or text (p + 3) 0) ≡ true → get_or text (p + 4) 0 ≡ 0xE4C → holds consonant (get_or text (p + 5) 0) ≡ true → k_end text (p + 6) ≡ cluster_end text p
    i_mark h g f = go (holds (is 0xE22) (get_or text (p + 3) 0)) refl
      where
        go : (x : Bool) → holds (is 0xE22) (get_or text (p + 3) 0) ≡ x → k_end text (p + 6) ≡ cluster_end text p
        go true y = sym (arrive (e_with (exact 0xE34)) (some (is 0xE22) ∷ exact 0xE4C ∷ some consonant ∷ []) [] text p b ((y, refl), (g, ((f, refl), refl))) tt ∙ optional_k_end text _ _)
        go false y = sym (arrive (e_with (exact 0xE34)) (among consonant (is 0xE22) ∷ exact 0xE4C ∷ some consonant ∷ []) [] text p b ((h, y), (g, ((f, refl), refl))) tt ∙ optional_k_end text _ _)

    pub i_mark_no : holds consonant (get_or text (p + 3) 0) ≡ true → get_or text (p + 4) 0 ≡ 0xE4C → holds consonant (get_or text (p + 5) 0) ≡ false → p + 4 ≡ cluster_end text p
    i_mark_no h g f = go (holds (is 0xE22) (get_or text (p + 3) 0)) refl
      where
        go : (x : Bool) → holds (is 0xE22) (get_or text (p + 3) 0) ≡ x → p + 4 ≡ cluster_end text p
        go true y = sym (arrive (e_with (exact 0xE34)) (some (is 0xE22) ∷ exact 0xE4C ∷ []) consonant text p b ((y, refl), (g, f)) tt ∙ end_fail _ _ _ _)
        go false y = sym (arrive (e_with (exact 0xE34)) (among consonant (is 0xE22) ∷ exact 0xE4C ∷ []) consonant text p b ((h, y), (g, f)) tt ∙ end_fail _ _ _ _)

    pub i_yo : get_or text (p + 3) 0 ≡ 0xE22 → holds (is 0xE4C) (get_or text (p + 4) 0) ≡ false → shorter (p + 4) (k_end text (p + 4)) ≡ cluster_end text p
    i_yo h g = sym (arrive (e_with (exact 0xE34)) (exact 0xE22 ∷ []) (is 0xE4C) text p b (h, g) tt ∙ k_shorter text _ _)

    pub i_plain : holds consonant (get_or text (p + 3) 0) ≡ true → holds (is 0xE22) (get_or text (p + 3) 0) ≡ false → holds (is 0xE4C) (get_or text (p + 4) 0) ≡ false → k_end text (p + 4) ≡ cluster_end text p
    i_plain h y g = sym (arrive (e_with (exact 0xE34)) (among consonant (is 0xE22) ∷ []) (is 0xE4C) text p b ((h, y), g) tt ∙ optional_k_end text _ _)

  module _ (b : Begins (e_then (exact 0xE34) (some tone)) text p) where
    pub i_tone_yo : get_or text (p + 4) 0 ≡ 0xE22 → shorter (p + 5) (k_end text (p + 5)) ≡ cluster_end text p
    i_tone_yo h = sym (arrive (e_then (exact 0xE34) (some tone)) (exact 0xE22 ∷ []) [] text p b (h, refl) tt ∙ k_shorter text _ _)

    pub i_tone : holds consonant (get_or text (p + 4) 0) ≡ true → holds (is 0xE22) (get_or text (p + 4) 0) ≡ false → k_end text (p + 5) ≡ cluster_end text p
    i_tone h y = sym (arrive (e_then (exact 0xE34) (some tone)) (among consonant (is 0xE22) ∷ []) [] text p b ((h, y), refl) tt ∙ optional_k_end text _ _)

    pub i_tone_no : holds consonant (get_or text (p + 4) 0) ≡ false → p + 2 ≡ cluster_end text p
    i_tone_no h = sym (arrive (e_then (exact 0xE34) (some tone)) [] consonant text p b h tt ∙ end_fail _ _ _ _)

  module _ (b : Begins (e_with (exact 0xE35)) text p) (q : ℕ) (i : q ≡ skipped tone text (p + 3)) where
    ii : cluster_end text p ≡ end_by (items (ch 0xE22 ∷ opt (is 0xE30) ∷ []) (optional k)) ahead text q (p + 2)
    ii = arrive (e_with (exact 0xE35)) [] [] text p b refl tt ∙ skip tone _ _ text (p + 3) _ tt refl refl ∙ ap (λ (j : ℕ). end_by (items (ch 0xE22 ∷ opt (is 0xE30) ∷ []) (optional k)) ahead text j (p + 2)) (sym i)

    pub ii_no : holds (is 0xE22) (get_or text q 0) ≡ false → p + 2 ≡ cluster_end text p
    ii_no h = sym (ii ∙ along [] (is 0xE22) _ _ text q 0 _ h tt ∙ end_fail _ _ _ _)

    pub ii_a : get_or text q 0 ≡ 0xE22 → get_or text (q + 1) 0 ≡ 0xE30 → k_end text (q + 2) ≡ cluster_end text p
    ii_a h g = sym (ii ∙ along (exact 0xE22 ∷ exact 0xE30 ∷ []) [] _ _ text q 0 _ (h, (g, refl)) tt ∙ optional_k_end text _ _)

    pub ii_yo : get_or text q 0 ≡ 0xE22 → holds (is 0xE30) (get_or text (q + 1) 0) ≡ false → shorter (q + 1) (k_end text (q + 1)) ≡ cluster_end text p
    ii_yo h g = sym (ii ∙ along (exact 0xE22 ∷ []) (is 0xE30) _ _ text q 0 _ (h, g) tt ∙ k_shorter text _ _)

  module _ (b : Begins (e_with (exact 0xE37)) text p) (q : ℕ) (i : q ≡ skipped tone text (p + 3)) where
    uee : cluster_end text p ≡ end_by (items (ch 0xE2D ∷ opt (is 0xE30) ∷ []) (optional k)) fail text q (p + 2)
    uee = arrive (e_with (exact 0xE37)) [] [] text p b refl tt ∙ skip tone _ _ text (p + 3) _ tt refl refl ∙ ap (λ (j : ℕ). end_by (items (ch 0xE2D ∷ opt (is 0xE30) ∷ []) (optional k)) fail text j (p + 2)) (sym i)

    pub uee_no : holds (is 0xE2D) (get_or text q 0) ≡ false → p + 2 ≡ cluster_end text p
    uee_no h = sym (uee ∙ along [] (is 0xE2D) _ _ text q 0 _ h tt ∙ end_fail _ _ _ _)

    pub uee_yes : {r : ℕ} → get_or text q 0 ≡ 0xE2D → r ≡ skipped (is 0xE30) text (q + 1) → k_end text r ≡ cluster_end text p
    uee_yes h j = ap (k_end text) j ∙ sym (uee ∙ along (exact 0xE2D ∷ []) [] _ _ text q 0 _ (h, refl) tt ∙ skip (is 0xE30) _ fail text _ _ tt refl refl ∙ optional_k_end text _ _)
