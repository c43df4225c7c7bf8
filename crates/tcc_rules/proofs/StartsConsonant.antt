-- Clusters that start with a consonant. Assumes nothing.
use Prim.Native.Nat.{ℕ, ◌+◌}
use native.Mathlib.Omega.{arith}
use mathlib.Core.Path.{◌≡◌, refl, sym, ◌∙◌, ap}
use mathlib.Core.Bool.{Bool, true, false}
use mathlib.Core.List.{List, [], ◌∷◌, ◌++◌}
use lib.ListN.{get_or}
use Rattle.tcc_rules.specs.Patterns.{Range, holds, Pattern, end, fail, then, either, items, opt, optional}
use Rattle.tcc_rules.specs.Rules.{is, up_to, consonant, tone, d_or_i, c, ch, k}
use Rattle.tcc_rules.specs.Clusters.{cluster_end}
use Rattle.tcc_rules.specs.inner.Optional.{exact, among, some, Begins, skipped, k_end}
use Rattle.tcc_rules.proofs.Classes.{NoneOf, all, none_of}
use Rattle.tcc_rules.proofs.Steps.{end_by, end_fail, end_end, end_either, stay, step}
use Rattle.tcc_rules.proofs.Skips.{skip}
use Rattle.tcc_rules.proofs.Tails.{first, optional_k_end, k_first}
use Rattle.tcc_rules.proofs.Paths.{along, arrive}

abbrev closed : List Range
closed = is 0xE31 ++ is 0xE37

abbrev opened : List Range
opened = is 0xE30 ++ is 0xE32 ++ is 0xE33

abbrev final : List Range
final = is 0xE38 ++ is 0xE34 ++ is 0xE30

-- the classes of which there is none behind a consonant that stands alone
abbrev no_c : List (List Range)
no_c = is 0xE23 ∷ consonant ∷ tone ∷ closed ∷ d_or_i ∷ up_to 0xE30 0xE39 ∷ is 0xE47 ∷ []

module _ (text : List ℕ) (p : ℕ) where
  module _ (b : Begins (some consonant ∷ []) text p) where
    pub c_two : holds consonant (get_or text (p + 1) 0) ≡ true → holds (is 0xE23) (get_or text (p + 1) 0) ≡ false → k_end text (p + 1) ≡ cluster_end text p
    c_two h g =
        let i : p + 1 + 1 ≡ p + 2 = omega arith in
        k_first text (p + 1) h
        ∙ ap (λ (q : ℕ). end_by first fail text q (p + 1)) i
        ∙ sym (arrive (some consonant ∷ []) (among consonant (is 0xE23) ∷ []) [] text p b ((h, g), refl) tt)

    pub c_tone : {q : ℕ} → holds tone (get_or text (p + 1) 0) ≡ true → q ≡ skipped opened text (p + 2) → k_end text q ≡ cluster_end text p
    c_tone h i = ap (k_end text) i ∙ sym (arrive (some consonant ∷ []) (some tone ∷ []) [] text p b ((h, refl), refl) tt ∙ skip opened _ fail text _ _ tt refl refl ∙ optional_k_end text _ _)

    pub c_vowel : {q : ℕ} → holds (up_to 0xE30 0xE39) (get_or text (p + 1) 0) ≡ true → NoneOf (closed ∷ d_or_i ∷ []) (get_or text (p + 1) 0)
        → q ≡ skipped tone text (p + 2) → k_end text q ≡ cluster_end text p
    c_vowel h g i =
        ap (k_end text) i
        ∙ sym (arrive (some consonant ∷ []) (among (up_to 0xE30 0xE39) (all (closed ∷ d_or_i ∷ [])) ∷ []) [] text p b ((h, none_of (closed ∷ d_or_i ∷ []) (get_or text (p + 1) 0) g), refl) tt ∙ skip tone _ fail text _ _ tt refl refl ∙ optional_k_end text _ _)

    pub c_short : get_or text (p + 1) 0 ≡ 0xE47 → p + 2 ≡ cluster_end text p
    c_short h = sym (arrive (some consonant ∷ []) (exact 0xE47 ∷ []) [] text p b (h, refl) tt ∙ end_end fail text _ _ tt)

    pub c_alone : NoneOf no_c (get_or text (p + 1) 0) → p + 1 ≡ cluster_end text p
    c_alone h = sym (arrive (some consonant ∷ []) [] (all no_c) text p b (none_of no_c (get_or text (p + 1) 0) h) tt ∙ end_end fail text _ _ tt)

  module _ (b : Begins (some consonant ∷ some d_or_i ∷ []) text p) where
    pub d_mark : get_or text (p + 2) 0 ≡ 0xE4C → k_end text (p + 3) ≡ cluster_end text p
    d_mark h = sym (arrive (some consonant ∷ some d_or_i ∷ []) (exact 0xE4C ∷ []) [] text p b (h, refl) tt ∙ optional_k_end text _ _)

    pub d_none : {q : ℕ} → holds (is 0xE4C) (get_or text (p + 2) 0) ≡ false → q ≡ skipped tone text (p + 2) → k_end text q ≡ cluster_end text p
    d_none h i = ap (k_end text) i ∙ sym (arrive (some consonant ∷ some d_or_i ∷ []) [] (is 0xE4C) text p b h tt ∙ skip tone _ fail text _ _ tt refl refl ∙ optional_k_end text _ _)

  module _ (b : Begins (some consonant ∷ exact 0xE23 ∷ []) text p) where
    pub ro_all : get_or text (p + 2) 0 ≡ 0xE23 → holds consonant (get_or text (p + 3) 0) ≡ true → get_or text (p + 4) 0 ≡ 0xE4C → get_or text (p + 5) 0 ≡ 0x20 → get_or text (p + 6) 0 ≡ 0xE47
        → p + 7 ≡ cluster_end text p
    ro_all f2 f3 f4 f5 f6 =
        sym (arrive (some consonant ∷ exact 0xE23 ∷ []) (exact 0xE23 ∷ some consonant ∷ exact 0xE4C ∷ exact 0x20 ∷ exact 0xE47 ∷ []) [] text p b (f2, ((f3, refl), (f4, (f5, (f6, refl))))) tt ∙ end_end fail text _ _ tt)

    -- what is left of alternative 14
    abbrev fourteen : Pattern
    fourteen = items (ch 0xE23 ∷ c ∷ ch 0xE4C ∷ ch 0x20 ∷ ch 0xE47 ∷ []) end

    -- where alternative 14 fails, only k is left
    pub ro_no : ((e : ℕ) → end_by fourteen fail text (p + 2) e ≡ e) → k_end text (p + 1) ≡ cluster_end text p
    ro_no f =
        let i : p + 1 + 1 ≡ p + 2 = omega arith in
        let h : holds consonant (get_or text (p + 1) 0) ≡ true = ap (holds consonant) b.1.1.0 in
        k_first text (p + 1) h
        ∙ ap (λ (q : ℕ). end_by first fail text q (p + 1)) i
        ∙ sym (arrive (some consonant ∷ exact 0xE23 ∷ []) [] [] text p b refl tt ∙ end_either fourteen first text (p + 2) (p + 1) ∙ f _)

    pub ro_2 : holds (is 0xE23) (get_or text (p + 2) 0) ≡ false → k_end text (p + 1) ≡ cluster_end text p
    ro_2 f2 = ro_no (λ e. along [] (is 0xE23) fourteen fail text p 2 e f2 tt ∙ end_fail _ _ _ _)

    pub ro_3 : get_or text (p + 2) 0 ≡ 0xE23 → holds consonant (get_or text (p + 3) 0) ≡ false → k_end text (p + 1) ≡ cluster_end text p
    ro_3 f2 f3 = ro_no (λ e. along (exact 0xE23 ∷ []) consonant fourteen fail text p 2 e (f2, f3) tt ∙ end_fail _ _ _ _)

    pub ro_4 : get_or text (p + 2) 0 ≡ 0xE23 → holds consonant (get_or text (p + 3) 0) ≡ true → holds (is 0xE4C) (get_or text (p + 4) 0) ≡ false → k_end text (p + 1) ≡ cluster_end text p
    ro_4 f2 f3 f4 = ro_no (λ e. along (exact 0xE23 ∷ some consonant ∷ []) (is 0xE4C) fourteen fail text p 2 e (f2, ((f3, refl), f4)) tt ∙ end_fail _ _ _ _)

    pub ro_5 : get_or text (p + 2) 0 ≡ 0xE23 → holds consonant (get_or text (p + 3) 0) ≡ true → get_or text (p + 4) 0 ≡ 0xE4C → holds (is 0x20) (get_or text (p + 5) 0) ≡ false
        → k_end text (p + 1) ≡ cluster_end text p
    ro_5 f2 f3 f4 f5 = ro_no (λ e. along (exact 0xE23 ∷ some consonant ∷ exact 0xE4C ∷ []) (is 0x20) fourteen fail text p 2 e (f2, ((f3, refl), (f4, f5))) tt ∙ end_fail _ _ _ _)

    pub ro_6 : get_or text (p + 2) 0 ≡ 0xE23 → holds consonant (get_or text (p + 3) 0) ≡ true → get_or text (p + 4) 0 ≡ 0xE4C → get_or text (p + 5) 0 ≡ 0x20 → holds (is 0xE47) (get_or text (p + 6) 0) ≡ false
        → k_end text (p + 1) ≡ cluster_end text p
    ro_6 f2 f3 f4 f5 f6 = ro_no (λ e. along (exact 0xE23 ∷ some consonant ∷ exact 0xE4C ∷ exact 0x20 ∷ []) (is 0xE47) fourteen fail text p 2 e (f2, ((f3, refl), (f4, (f5, f6)))) tt ∙ end_fail _ _ _ _)

-- ---- ั and ื

-- what is left of alternatives 10, 11 and 13 behind the tone
abbrev ten : Pattern
ten = items (ch 0xE27 ∷ ch 0xE30 ∷ []) (optional k)

abbrev finals : Pattern
finals = items (opt final ∷ []) (optional k)

abbrev eleven : Pattern
eleven = then consonant finals

module _ (text : List ℕ) where
  -- alternative 10 gives nothing that 11 doesn't
  wo : (q e : ℕ) → end_by (either (items (ch 0xE30 ∷ []) (optional k)) finals) fail text q e ≡ end_by finals fail text q e
  wo q e = go (holds (is 0xE30) (get_or text q 0)) refl
    where
      go : (x : Bool) → holds (is 0xE30) (get_or text q 0) ≡ x → end_by (either (items (ch 0xE30 ∷ []) (optional k)) finals) fail text q e ≡ end_by finals fail text q e
      go true h =
          step (some (is 0xE30)) (either (items (ch 0xE30 ∷ []) (optional k)) finals) fail text q e (h, refl) tt tt tt tt
          ∙ sym (step (some (is 0xE30)) finals fail text q e (h, refl) tt tt tt tt)
      go false h = stay (is 0xE30) (either (items (ch 0xE30 ∷ []) (optional k)) finals) fail text q e h tt ∙ sym (stay (is 0xE30) finals fail text q e h tt)

  han_akat : (q e : ℕ) → holds consonant (get_or text q 0) ≡ true → end_by (either ten (either eleven (optional k))) fail text q e ≡ end_by finals fail text (q + 1) q
  han_akat q e h = go (holds (is 0xE27) (get_or text q 0)) refl
    where
      go : (x : Bool) → holds (is 0xE27) (get_or text q 0) ≡ x → end_by (either ten (either eleven (optional k))) fail text q e ≡ end_by finals fail text (q + 1) q
      go true y = step (some (is 0xE27)) (either ten (either eleven (optional k))) fail text q e (y, refl) tt tt tt tt ∙ wo (q + 1) q
      go false y = step (among consonant (is 0xE27)) (either ten (either eleven (optional k))) fail text q e (h, y) tt tt tt tt

  module _ (p : ℕ) (b : Begins (some consonant ∷ some closed ∷ []) text p) (q : ℕ) (i : q ≡ skipped tone text (p + 2)) where
    at_han_akat : holds (is 0xE31) (get_or text (p + 1) 0) ≡ true → cluster_end text p ≡ end_by (either ten (either eleven (optional k))) fail text q (p + 1)
    at_han_akat y =
        arrive (some consonant ∷ []) (some (is 0xE31) ∷ []) [] text p (b.0, (b.1.0, tt)) ((y, refl), refl) tt
        ∙ skip tone _ fail text (p + 2) _ tt refl refl
        ∙ ap (λ (j : ℕ). end_by (either ten (either eleven (optional k))) fail text j (p + 1)) (sym i)

    at_uee : holds (is 0xE31) (get_or text (p + 1) 0) ≡ false → cluster_end text p ≡ end_by (either eleven (optional k)) fail text q (p + 1)
    at_uee y =
        arrive (some consonant ∷ []) (among closed (is 0xE31) ∷ []) [] text p (b.0, (b.1.0, tt)) ((b.1.1.0.0, y), refl) tt
        ∙ skip tone _ fail text (p + 2) _ tt refl refl
        ∙ ap (λ (j : ℕ). end_by (either eleven (optional k)) fail text j (p + 1)) (sym i)

    pub closed_yes : {r : ℕ} → holds consonant (get_or text q 0) ≡ true → r ≡ skipped final text (q + 1) → k_end text r ≡ cluster_end text p
    closed_yes {r} h j = ap (k_end text) j ∙ sym (go (holds (is 0xE31) (get_or text (p + 1) 0)) refl ∙ skip final finals fail text (q + 1) q tt refl refl ∙ optional_k_end text (skipped final text (q + 1)) q)
      where
        go : (x : Bool) → holds (is 0xE31) (get_or text (p + 1) 0) ≡ x → cluster_end text p ≡ end_by finals fail text (q + 1) q
        go true y = at_han_akat y ∙ han_akat q (p + 1) h
        go false y = at_uee y ∙ step (some consonant) (either eleven (optional k)) fail text q (p + 1) (h, refl) tt tt tt tt

    pub closed_no : holds consonant (get_or text q 0) ≡ false → q ≡ cluster_end text p
    closed_no h = sym (go (holds (is 0xE31) (get_or text (p + 1) 0)) refl)
      where
        go : (x : Bool) → holds (is 0xE31) (get_or text (p + 1) 0) ≡ x → cluster_end text p ≡ q
        go true y = at_han_akat y ∙ stay consonant (either ten (either eleven (optional k))) fail text q (p + 1) h tt ∙ end_end fail text q (p + 1) tt
        go false y = at_uee y ∙ stay consonant (either eleven (optional k)) fail text q (p + 1) h tt ∙ end_end fail text q (p + 1) tt
