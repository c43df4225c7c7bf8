-- The parts of a text. Assumes nothing.
use Prim.Native.Nat.{ℕ, zero, suc, ◌+◌, ◌-◌, ◌≤◌, ◌<◌}
use native.Mathlib.Omega.{arith}
use mathlib.Core.Path.{◌≡◌, refl, sym, ◌∙◌, ap, subst}
use mathlib.Core.Bool.{Bool, true, false, cond}
use mathlib.Core.List.{List, [], ◌∷◌, ◌++◌, append-nil}
use lib.ListN.{length, take, drop, length-append, length-drop, take-append-drop}
use lib.Seq.{length-take-le}
use lib.Dec.{ltb}
use borrow.Author.Tests.{ltb-false}
use Rattle.char_string_last_space.specs.Spaces.{last_space}
use Rattle.newmm_rules.specs.Parts.{Cutter, sample_of, cut_at, sampled, Runs, last_part, one_part, first, runs_of}
use Rattle.newmm_rules.specs.Modes.{shifted, part_ends}
use Rattle.newmm_rules.specs.inner.Climbing.{Climbs, there}
use Rattle.newmm_rules.proofs.Climbing.{behind, shift}
use Rattle.newmm_rules.proofs.Samples.{Fits, Right, cut_inside}

abbrev pub glued : List (List ℕ) → List ℕ
glued [] = []
glued (p ∷ ps) = p ++ glued ps

abbrev pub NoneEmpty : List (List ℕ) → Type 0
NoneEmpty [] = Unit
NoneEmpty (p ∷ ps) = (0 < length p) × NoneEmpty ps

-- these parts, none of them empty, make up the text
pub record MakeUp (ps : List (List ℕ)) (text : List ℕ) : Type 0 where
  pub whole : glued ps ≡ text
  pub some : NoneEmpty ps

last_part_makes_up : (rest : List ℕ) → MakeUp (last_part rest) rest
last_part_makes_up [] = record { whole = refl; some = tt }
last_part_makes_up (x ∷ rest) = record { whole = append-nil (x ∷ rest); some = (omega arith, tt) }

module _ (space_cut : ℕ → ℕ) (plain : Cutter) (f : Fits space_cut) (r : Right plain) where
  pub made_up : (k : ℕ) (rest : List ℕ) → length rest ≤ k → MakeUp (runs_of k space_cut plain rest).parts rest
  unfolding runs_of
  made_up zero rest h = last_part_makes_up rest
  made_up (suc k) rest h = go (λ t l. made_up k t l) (ltb (length rest) 140) refl
    where
      go : ((t : List ℕ) → length t ≤ k → MakeUp (runs_of k space_cut plain t).parts t) → (b : Bool) → ltb (length rest) 140 ≡ b
          → MakeUp
          (cond b (one_part rest) (first (sampled (sample_of rest) (last_space (sample_of rest))) (take (cut_at space_cut plain rest) rest) (runs_of k space_cut plain (drop (cut_at space_cut plain rest) rest)))).parts
          rest
      go ih true t = last_part_makes_up rest
      go ih false t =
          let l = ltb-false (length rest) 140 t in
          let c = cut_inside space_cut plain f r rest l in
          let e = length-take-le (cut_at space_cut plain rest) rest (omega (arith, c.1)) in
          let m = ih (drop (cut_at space_cut plain rest) rest) (omega (arith, c.0, length-drop (cut_at space_cut plain rest) rest)) in
          record {
            whole = ap (λ (z : List ℕ). take (cut_at space_cut plain rest) rest ++ z) m.whole ∙ take-append-drop (cut_at space_cut plain rest) rest;
            some = (omega (arith, c.0, e), m.some);
          }

-- the ends of parts that are cut rightly climb
pub parts_climb : (plain : Cutter) → Right plain → (ps : List (List ℕ)) (start : ℕ) → Climbs start (part_ends plain start ps) (start + length (glued ps))
unfolding part_ends
parts_climb plain r [] start = let e : start ≡ start + 0 = omega arith in subst (λ (z : ℕ). Climbs start [] z) e there
parts_climb plain r (p ∷ ps) start =
    let a : start + 0 ≡ start = omega arith in
    let z : start + length p + length (glued ps) ≡ start + length (p ++ glued ps) = omega (arith, length-append p (glued ps)) in
    subst (λ (n : ℕ). Climbs start (part_ends plain start (p ∷ ps)) n) z
    (behind (subst (λ (n : ℕ). Climbs n (shifted start (plain p).ends) (start + length p)) a (shift start (r p))) (parts_climb plain r ps (start + length p)))
