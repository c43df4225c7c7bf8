-- What is told of a text has the ends of its cut. Assumes nothing.
use Prim.Native.Nat.{ℕ, ◌+◌, ◌≤◌}
use native.Mathlib.Omega.{arith}
use mathlib.Core.Path.{◌≡◌, refl, sym, ◌∙◌, ap}
use mathlib.Core.Bool.{Bool, true, false, cond}
use mathlib.Core.List.{List, [], ◌∷◌, ◌++◌, map, append-nil}
use lib.ListN.{length, length-map}
use lib.Dec.{ltb}
use Rattle.trie_pool.specs.Meaning.{Words}
use Rattle.newmm_rules.specs.Words.{Given}
use Rattle.newmm_rules.specs.declared.Mode.{Mode}
use Rattle.newmm_rules.specs.declared.Mode.TheVariants.{Plain, Safe, Sheet}
use Rattle.newmm_rules.specs.Parts.{last_part, runs_of}
use Rattle.newmm_rules.specs.Modes.{shifted, part_ends, joined, in_parts, unshifted, behind_space}
use Rattle.newmm_rules.proofs.Climbing.{no_ends}
use Rattle.newmm_reason_rules.specs.Reasons.{Told, told_from}
use Rattle.newmm_reason_rules.proofs.Reasons.{told_ends, small}
use Rattle.newmm_answers.specs.Answers.{given, plain_cut, cut_of}
use Rattle.newmm_answers.proofs.Plain.{plain_right}
use Rattle.newmm_answers.proofs.Cuts.{few_ends}
use Rattle.newmm_reasons_answers.specs.Told.{parts_by, moved, told_part, told_parts, told_of}

abbrev end_of : Told → ℕ
end_of t = t.end

pub map_two : {A R : Type 0} (f : A → R) (l m : List A) → map f (l ++ m) ≡ map f l ++ map f m
map_two f [] m = refl
map_two {R = R} f (x ∷ l) m = ap (λ (r : List R). f x ∷ r) (map_two f l m)

-- ---- a part

moved_ends : (start : ℕ) (ts : List Told) → map end_of (map (moved start) ts) ≡ shifted start (map end_of ts)
moved_ends start [] = refl
moved_ends start (t ∷ ts) = ap (λ (l : List ℕ). (start + t.end) ∷ l) (moved_ends start ts)

unmoved : (l : List ℕ) → shifted 0 l ≡ l
unmoved [] = refl
unmoved (x ∷ l) = (λ i. (let z : 0 + x ≡ x = omega arith in z) i ∷ unmoved l i)

module _ (words : Words) where
  told_part_ends : (start : ℕ) (part : List ℕ) → map end_of (told_part words start part) ≡ shifted start (plain_cut words part).ends
  unfolding told_part
  told_part_ends start part =
      moved_ends start (told_from (given words part) 0 (plain_cut words part).ends)
      ∙ ap (shifted start) (told_ends (given words part) 0 (plain_cut words part).ends)

  -- as many as ends
  pub part_many : (start : ℕ) (part : List ℕ) → length (told_part words start part) ≡ length (plain_cut words part).ends
  part_many start part =
      sym (length-map (told_part words start part) end_of) ∙ ap length (told_part_ends start part)
      ∙ length-map (plain_cut words part).ends (λ (e : ℕ). start + e)

  parts_ends : (start : ℕ) (parts : List (List ℕ)) → map end_of (told_parts words start parts) ≡ part_ends (plain_cut words) start parts
  unfolding told_parts part_ends
  parts_ends start [] = refl
  parts_ends start (part ∷ parts) =
      map_two end_of (told_part words start part) (told_parts words (start + length part) parts)
      ∙ (λ i. told_part_ends start part i ++ parts_ends (start + length part) parts i)

  -- ---- a text

  last_ends : (text : List ℕ) → part_ends (plain_cut words) 0 (last_part text) ≡ (plain_cut words text).ends
  unfolding part_ends
  last_ends [] = sym (no_ends (plain_right words []) refl)
  last_ends (x ∷ text) = append-nil (shifted 0 (plain_cut words (x ∷ text)).ends) ∙ unmoved (plain_cut words (x ∷ text)).ends

  module _ (text : List ℕ) where
    by_ends : (space : ℕ → ℕ) → part_ends (plain_cut words) 0 (parts_by space (plain_cut words) text) ≡ (in_parts space (plain_cut words) text).ends
    unfolding in_parts
    by_ends space = go (ltb (length text) 140)
      where
        go : (b : Bool) → part_ends (plain_cut words) 0 (cond b (last_part text) (runs_of (length text) space (plain_cut words) text).parts) ≡ (cond b (plain_cut words text) (joined (plain_cut words) (runs_of (length text) space (plain_cut words) text))).ends
        go true = last_ends text
        go false = refl

    -- THE SAME TOKENS as those of the cut, the same edges, in every mode
    pub same_ends : (mode : Mode) → map end_of (told_of mode words text) ≡ (cut_of mode words text).ends
    unfolding told_of cut_of
    same_ends Plain = parts_ends 0 (last_part text) ∙ last_ends text
    same_ends Safe = parts_ends 0 (parts_by unshifted (plain_cut words) text) ∙ by_ends unshifted
    same_ends Sheet = parts_ends 0 (parts_by behind_space (plain_cut words) text) ∙ by_ends behind_space

    pub as_many : (mode : Mode) → length (told_of mode words text) ≡ length (cut_of mode words text).ends
    as_many mode = sym (length-map (told_of mode words text) end_of) ∙ ap length (same_ends mode)

    pub few_told : (mode : Mode) → length (told_of mode words text) ≤ length text
    few_told mode = omega (arith, as_many mode, few_ends mode words text)

-- ---- reasons are small

abbrev pub Small : List Told → Type 0
Small [] = Unit {0}
Small (t ∷ ts) = (t.reason ≤ 5) × Small ts

small_two : (l m : List Told) → Small l → Small m → Small (l ++ m)
small_two [] m s t = t
small_two (x ∷ l) m s t = (s.0, small_two l m s.1 t)

module _ (words : Words) where
  part_small : (start : ℕ) (part : List ℕ) → Small (told_part words start part)
  unfolding told_part told_from
  part_small start part = go (given words part) 0 (plain_cut words part).ends
    where
      go : (g : Given) (b : ℕ) (es : List ℕ) → Small (map (moved start) (told_from g b es))
      go g b [] = tt
      go g b (e ∷ es) = (small g b, go g e es)

  parts_small : (start : ℕ) (parts : List (List ℕ)) → Small (told_parts words start parts)
  unfolding told_parts
  parts_small start [] = tt
  parts_small start (part ∷ parts) = small_two (told_part words start part) (told_parts words (start + length part) parts) (part_small start part) (parts_small (start + length part) parts)

  pub told_small : (mode : Mode) (text : List ℕ) → Small (told_of mode words text)
  unfolding told_of
  told_small mode text = parts_small 0 _
