-- How many edges the plain runs of a text record. Assumes nothing.
use Prim.Native.Nat.{ℕ, zero, suc, ◌+◌, ◌*◌, ◌≤◌}
use native.Mathlib.Omega.{arith}
use mathlib.Core.Path.{◌≡◌, refl}
use mathlib.Core.Bool.{Bool, true, false, cond}
use mathlib.Core.List.{List, [], ◌∷◌, ◌++◌}
use lib.ListN.{length, take, drop, length-take, length-drop}
use lib.Seq.{length-take-le}
use lib.Dec.{ltb}
use borrow.Author.Tests.{ltb-false}
use Rattle.std.specs.Prelude.{Option, Some, None}
use Rattle.char_string_last_space.specs.Spaces.{last_space}
use Rattle.newmm_rules.specs.declared.Mode.{Mode}
use Rattle.newmm_rules.specs.declared.Mode.TheVariants.{Plain, Safe, Sheet}
use Rattle.newmm_rules.specs.Parts.{Cutter, sample_of, cut_at, sampled, Runs, last_part, one_part, first, runs_of}
use Rattle.newmm_rules.specs.Modes.{edges_of, joined, in_parts, unshifted, behind_space, segmented}
use Rattle.newmm_rules.proofs.Samples.{Fits, Right, cut_inside}
use Rattle.newmm_rules.proofs.Modes.{unshifted_fits, behind_space_fits}

pub edges_two : (plain : Cutter) (a b : List (List ℕ)) → edges_of plain (a ++ b) ≡ edges_of plain a + edges_of plain b
unfolding edges_of
edges_two plain [] b = omega arith
edges_two plain (t ∷ a) b = omega (arith, edges_two plain a b)

pub edges_cons : (plain : Cutter) (t : List ℕ) (a : List (List ℕ)) → edges_of plain (t ∷ a) ≡ (plain t).edges + edges_of plain a
unfolding edges_of
edges_cons plain t a = refl

module _ (plain : Cutter) (small : (t : List ℕ) → (plain t).edges ≤ 51 * length t) where
  -- a sample has 40 characters at most, and so few edges are recorded in it
  few_for : (sample : List ℕ) → length sample ≤ 40 → (w : Option ℕ) → edges_of plain (sampled sample w) ≤ 2040
  unfolding edges_of
  few_for sample h (Some i) = omega arith
  few_for sample h None = omega (arith, small sample)

  pub sample_few : (rest : List ℕ) → edges_of plain (sampled (sample_of rest) (last_space (sample_of rest))) ≤ 2040
  sample_few rest = few_for (sample_of rest) (omega (arith, length-take 40 (drop 100 rest))) (last_space (sample_of rest))

  last_few : (rest : List ℕ) → edges_of plain (last_part rest) ≤ 2091 * length rest
  unfolding edges_of
  last_few [] = omega arith
  last_few (x ∷ rest) = omega (arith, small (x ∷ rest))

  module _ (right : Right plain) where
    -- each part has a character or more, and one sample before it at most
    runs_few : (space_cut : ℕ → ℕ) → Fits space_cut → (k : ℕ) (rest : List ℕ)
        → edges_of plain ((runs_of k space_cut plain rest).samples ++ (runs_of k space_cut plain rest).parts) ≤ 2091 * length rest
    unfolding runs_of
    runs_few space_cut f zero rest = last_few rest
    runs_few space_cut f (suc k) rest = go (λ t. runs_few space_cut f k t) (ltb (length rest) 140) refl
      where
        size : ℕ
        size = cut_at space_cut plain rest

        sample : List (List ℕ)
        sample = sampled (sample_of rest) (last_space (sample_of rest))

        round : Bool → Runs
        round b = cond b (one_part rest) (first sample (take size rest) (runs_of k space_cut plain (drop size rest)))

        go : ((t : List ℕ) → edges_of plain ((runs_of k space_cut plain t).samples ++ (runs_of k space_cut plain t).parts) ≤ 2091 * length t) → (b : Bool) → ltb (length rest) 140 ≡ b
            → edges_of plain ((round b).samples ++ (round b).parts) ≤ 2091 * length rest
        go ih true t = last_few rest
        go ih false t =
            let l = ltb-false (length rest) 140 t in
            let c = cut_inside space_cut plain f right rest l in
            let r = runs_of k space_cut plain (drop size rest) in
            omega (
              arith,
              l,
              c.0,
              c.1,
              length-take-le size rest (omega (arith, c.1)),
              length-drop size rest,
              small (take size rest),
              sample_few rest,
              ih (drop size rest),
              edges_two plain (sample ++ r.samples) (take size rest ∷ r.parts),
              edges_two plain sample r.samples,
              edges_cons plain (take size rest) r.parts,
              edges_two plain r.samples r.parts,
            )

    parts_few : (space_cut : ℕ → ℕ) → Fits space_cut → (text : List ℕ) → (in_parts space_cut plain text).edges ≤ 2091 * length text
    unfolding in_parts
    parts_few space_cut f text = go (ltb (length text) 140)
      where
        go : (b : Bool) → (cond b (plain text) (joined plain (runs_of (length text) space_cut plain text))).edges ≤ 2091 * length text
        go true = omega (arith, small text)
        go false = runs_few space_cut f (length text) text

    -- few edges in every mode, where few are in the plain cut
    pub modes_few : (mode : Mode) (text : List ℕ) → (segmented mode plain text).edges ≤ 2091 * length text
    modes_few Plain text = omega (arith, small text)
    modes_few Safe text = parts_few unshifted unshifted_fits text
    modes_few Sheet text = parts_few behind_space behind_space_fits text
