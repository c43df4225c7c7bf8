-- The profile "sheet". Assumes nothing.
use Prim.Native.Nat.{ℕ, zero, suc, ◌+◌, ◌-◌, ◌≤◌, ◌<◌}
use native.Mathlib.Omega.{arith}
use mathlib.Core.Path.{◌≡◌, refl, sym, ◌∙◌, ap, subst}
use mathlib.Core.Bool.{Bool, true, false, cond}
use mathlib.Core.List.{List, [], ◌∷◌, ◌++◌, append-nil}
use lib.ListN.{length, get_or, take, drop, length-drop, take-append-drop, drop_of_length-le}
use lib.Seq.{length-take-le, get_or-take, take_all}
use lib.Dec.{ltb}
use borrow.Author.Tests.{ltb-true, ltb-false, lt-ltb, le-ltb, eq-eqb}
use Rattle.lists.specs.Scans.{behind_last}
use Rattle.lists.proofs.Scans.{last_inside}
use Rattle.std.specs.Prelude.{Option, Some, None}
use Rattle.char_string_last_space.specs.Spaces.{is_space, before, last_space}
use Rattle.newmm_rules.specs.declared.Mode.TheVariants.{Sheet}
use Rattle.newmm_rules.specs.Parts.{Cutter, sample_of, cut_for, cut_at, sampled, Runs, last_part, one_part, first, runs_of}
use Rattle.newmm_rules.specs.Modes.{shifted, part_ends, edges_of, joined, in_parts, unshifted, behind_space, segmented}
use Rattle.newmm_rules.specs.Sheet.{space, HoldsSpace, AtSpace, SheetParts, none, rest, at_space, no_space, InSheetParts, OnlyPart, NoSpaceMet, short, on, SheetIsSafe}
use Rattle.newmm_rules.proofs.Climbing.{no_ends}
use Rattle.newmm_rules.proofs.Samples.{Right, sample_long, space_inside, cut_inside}
use Rattle.newmm_rules.proofs.Modes.{behind_space_fits}
use Rattle.newmm_rules.proofs.Spaces.{not_behind, sampled_at, space_at, no_later, holds_space}
use Rattle.newmm_rules.proofs.Spaces as spaces

-- one round: a part, and the later ones
abbrev round : List ℕ → ℕ → Runs → Runs
round text cut later = first (sampled (sample_of text) (last_space (sample_of text))) (take cut text) later

shifted_by_none : (es : List ℕ) → shifted 0 es ≡ es
shifted_by_none [] = refl
shifted_by_none (e ∷ es) = let z : 0 + e ≡ e = omega arith in λ i. z i ∷ shifted_by_none es i

module _ (plain : Cutter) where
  -- where a remaining text is cut: 101 behind the index of its sample's last space, or as in safe
  -- mode
  at_index : (text : List ℕ) (i : ℕ) → last_space (sample_of text) ≡ Some i → cut_at behind_space plain text ≡ i + 101
  unfolding cut_at
  at_index text i e = ap (cut_for behind_space plain (sample_of text)) e

  as_safe : (text : List ℕ) → last_space (sample_of text) ≡ None → cut_at behind_space plain text ≡ cut_at unshifted plain text
  unfolding cut_at
  as_safe text e = ap (cut_for behind_space plain (sample_of text)) e ∙ sym (ap (cut_for unshifted plain (sample_of text)) e)

  at_least_100 : (text : List ℕ) → last_space (sample_of text) ≡ None → 100 ≤ cut_at behind_space plain text
  unfolding cut_at
  at_least_100 text e = subst (λ (w : Option ℕ). 100 ≤ cut_for behind_space plain (sample_of text) w) (sym e) (omega arith)

  -- ---- the parts

  -- a first part that ends at the last space
  ends_at : (text : List ℕ) → 140 ≤ length text → (i c : ℕ) → i < 40 → last_space (sample_of text) ≡ Some i → c ≡ i + 101 → AtSpace (take c text) (drop c text)
  ends_at text l i c h e q =
      let n = length-take-le c text (omega arith) in
      let at : length (take c text) - 1 ≡ 100 + i = omega arith in
      record {
        more = omega arith;
        most = omega arith;
        ends = ap (λ (k : ℕ). get_or (take c text) k 0) at ∙ get_or-take c text (100 + i) 0 (omega arith) ∙ space_at text l i e h;
        last = λ k a b s. no_later text l i e k (omega arith) b (ap (λ (t : List ℕ). get_or t k 0) (sym (take-append-drop c text)) ∙ s);
      }

  module _ (text : List ℕ) (l : 140 ≤ length text) (r : Right plain) (parts : List (List ℕ)) where
    taken_off : SheetParts plain (drop (cut_at behind_space plain text) text) parts → SheetParts plain text (take (cut_at behind_space plain text) text ∷ parts)
    taken_off later = subst (λ (t : List ℕ). SheetParts plain t (take c text ∷ parts)) whole (go (last_space (sample_of text)) refl)
      where
        c : ℕ
        c = cut_at behind_space plain text

        whole : take c text ++ drop c text ≡ text
        whole = take-append-drop c text

        go : (w : Option ℕ) → last_space (sample_of text) ≡ w → SheetParts plain (take c text ++ drop c text) (take c text ∷ parts)
        go (Some i) e =
            let h = space_inside text i l e in
            at_space
            (subst (λ (t : List ℕ). 140 ≤ length t) (sym whole) l)
            (subst HoldsSpace (sym whole) (holds_space text l i e h))
            (ends_at text l i c h e (at_index text i e))
            later
        go None e =
            let n = length-take-le c text (omega (arith, (cut_inside behind_space plain behind_space_fits r text l).1)) in
            no_space {part = take c text}
            (subst (λ (t : List ℕ). 140 ≤ length t) (sym whole) l)
            (λ s. spaces.no_space text l e (subst HoldsSpace whole s))
            (omega (arith, n, at_least_100 text e))
            (n ∙ as_safe text e ∙ ap (cut_at unshifted plain) (sym whole))
            later

  last_sheet_part : (text : List ℕ) → length text < 140 → SheetParts plain text (last_part text)
  last_sheet_part [] h = none
  last_sheet_part (x ∷ text) h = rest {text = x ∷ text} (omega arith) h

  parted : Right plain → (k : ℕ) (text : List ℕ) → length text ≤ k → SheetParts plain text (runs_of k behind_space plain text).parts
  unfolding runs_of
  parted r zero text h = last_sheet_part text (omega arith)
  parted r (suc k) text h = go (λ t l. parted r k t l) (ltb (length text) 140) refl
    where
      go : ((t : List ℕ) → length t ≤ k → SheetParts plain t (runs_of k behind_space plain t).parts) → (b : Bool) → ltb (length text) 140 ≡ b
          → SheetParts plain text
          (cond b (one_part text) (round text (cut_at behind_space plain text) (runs_of k behind_space plain (drop (cut_at behind_space plain text) text)))).parts
      go ih true t = last_sheet_part text (ltb-true (length text) 140 t)
      go ih false t =
          let l = ltb-false (length text) 140 t in
          let c = cut_inside behind_space plain behind_space_fits r text l in
          taken_off text l r _ (ih (drop (cut_at behind_space plain text) text) (omega (arith, c.0, length-drop (cut_at behind_space plain text) text)))

  last_ends : Right plain → (text : List ℕ) → (plain text).ends ≡ part_ends plain 0 (last_part text)
  unfolding part_ends
  last_ends r [] = no_ends (r []) refl
  last_ends r (x ∷ text) = sym (append-nil (shifted 0 (plain (x ∷ text)).ends) ∙ shifted_by_none (plain (x ∷ text)).ends)

  -- THE PARTS OF A TEXT, in the profile
  pub sheet_parts : Right plain → (text : List ℕ) → InSheetParts plain text (segmented Sheet plain text).ends
  unfolding in_parts
  sheet_parts r text = go (ltb (length text) 140) refl
    where
      go : (b : Bool) → ltb (length text) 140 ≡ b → InSheetParts plain text (cond b (plain text) (joined plain (runs_of (length text) behind_space plain text))).ends
      go true t = record { parts = last_part text; taken = last_sheet_part text (ltb-true (length text) 140 t); ends_are = last_ends r text }
      go false t = record { parts = (runs_of (length text) behind_space plain text).parts; taken = parted r (length text) text (omega arith); ends_are = refl }

-- ---- a text of 140 characters that ends in a space

nothing_left : (plain : Cutter) (k : ℕ) → runs_of k behind_space plain [] ≡ one_part []
unfolding runs_of
nothing_left plain zero = refl
nothing_left plain (suc k) = refl

module _ (plain : Cutter) (text : List ℕ) (h : length text ≡ 140) (s : get_or text 139 0 ≡ space) where
  last_index : last_space (sample_of text) ≡ Some 39
  last_index =
      let l : 140 ≤ length text = omega arith in
      let a = not_behind is_space (sample_of text) 39 (omega (arith, sample_long text l)) (eq-eqb _ _ (sampled_at text l 39 (omega arith) ∙ s)) in
      let n : behind_last is_space (sample_of text) ≡ 40 = omega (arith, a, last_inside is_space (sample_of text), sample_long text l) in
      ap before n

  alone : (k : ℕ) → runs_of (suc k) behind_space plain text ≡ record { samples = []; parts = text ∷ [] }
  unfolding runs_of
  alone k =
      let b = le-ltb (length text) 140 (omega arith) in
      let c : cut_at behind_space plain text ≡ 140 = at_index plain text 39 last_index in
      let t = take_all 140 text (omega arith) in
      let d : drop 140 text ≡ [] = drop_of_length-le text {i = 140} (omega arith) in
      (λ i. cond (b i) (one_part text) (first (sampled (sample_of text) (last_index i)) (take (c i) text) (runs_of k behind_space plain (drop (c i) text))))
      ∙ (λ i. first [] (t i) (runs_of k behind_space plain (d i)))
      ∙ ap (first [] text) (nothing_left plain k)

  alone_in : (n : ℕ) → n ≡ 140 → runs_of n behind_space plain text ≡ record { samples = []; parts = text ∷ [] }
  alone_in zero e = absurd (omega arith)
  alone_in (suc k) e = alone k

  joined_alone : joined plain (record { samples = []; parts = text ∷ [] }) ≡ plain text
  unfolding part_ends edges_of
  joined_alone =
      let e : (plain text).edges + 0 ≡ (plain text).edges = omega arith in
      let p = append-nil (shifted 0 (plain text).ends) ∙ shifted_by_none (plain text).ends in
      λ i. record { ends = p i; edges = e i }

  one_cut : segmented Sheet plain text ≡ plain text
  unfolding in_parts
  one_cut =
      ap (λ (b : Bool). cond b (plain text) (joined plain (runs_of (length text) behind_space plain text))) (le-ltb (length text) 140 (omega arith))
      ∙ ap (joined plain) (alone_in (length text) h)
      ∙ joined_alone

pub only_part : OnlyPart
only_part plain text h s = (ap (λ (r : Runs). r.parts) (alone_in plain text h s (length text) h), one_cut plain text h s)

-- ---- where no sample holds a space

none_last : (text : List ℕ) → 140 ≤ length text → (HoldsSpace text → ⊥) → last_space (sample_of text) ≡ None
none_last text l n = go (last_space (sample_of text)) refl
  where
    go : (w : Option ℕ) → last_space (sample_of text) ≡ w → w ≡ None
    go (Some i) e = absurd (n (holds_space text l i e (space_inside text i l e)))
    go None e = refl

same_runs : (plain : Cutter) (k : ℕ) (text : List ℕ) → NoSpaceMet plain text → runs_of k behind_space plain text ≡ runs_of k unshifted plain text
unfolding runs_of
same_runs plain zero text m = refl
same_runs plain (suc k) text (short h) =
    let t = lt-ltb (length text) 140 h in
    ap (λ (b : Bool). cond b (one_part text) (round text (cut_at behind_space plain text) (runs_of k behind_space plain (drop (cut_at behind_space plain text) text)))) t
    ∙ sym (ap (λ (b : Bool). cond b (one_part text) (round text (cut_at unshifted plain text) (runs_of k unshifted plain (drop (cut_at unshifted plain text) text)))) t)
same_runs plain (suc k) text (on l n m) =
    let c = as_safe plain text (none_last text l n) in
    let ih = same_runs plain k (drop (cut_at unshifted plain text) text) m in
    (λ i. cond (ltb (length text) 140) (one_part text) (round text (c i) (runs_of k behind_space plain (drop (c i) text))))
    ∙ ap (λ (r : Runs). cond (ltb (length text) 140) (one_part text) (round text (cut_at unshifted plain text) r)) ih

pub sheet_is_safe : SheetIsSafe
unfolding in_parts
sheet_is_safe plain text m = ap (λ (r : Runs). cond (ltb (length text) 140) (plain text) (joined plain r)) (same_runs plain (length text) text m)
