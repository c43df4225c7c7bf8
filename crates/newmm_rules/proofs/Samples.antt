-- Where the remaining text is cut. Assumes nothing.
use Prim.Native.Nat.{ℕ, zero, suc, ◌+◌, ◌-◌, ◌≤◌, ◌<◌, max}
use native.Mathlib.Omega.{arith}
use mathlib.Core.Path.{◌≡◌, refl, sym, ◌∙◌, ap}
use mathlib.Core.Bool.{Bool, true, false, cond}
use mathlib.Core.List.{List, [], ◌∷◌}
use lib.ListN.{length, take, drop, length-drop}
use lib.Seq.{length-take-le}
use lib.Dec.{leb}
use borrow.Author.Tests.{leb-true}
use Rattle.lists.specs.Scans.{behind_last}
use Rattle.lists.proofs.Scans.{last_inside}
use Rattle.std.specs.Prelude.{Option, Some, None}
use Rattle.char_string_last_space.specs.Spaces.{is_space, before, last_space}
use Rattle.newmm_rules.specs.Longest.{lengths, longest, before_longest}
use Rattle.newmm_rules.specs.Parts.{Cutter, sample_of, cut_for, cut_at}
use Rattle.newmm_rules.specs.inner.Climbing.{Climbs, there, up}
use Rattle.newmm_rules.proofs.Climbing.{onward, no_ends}

none_longest : (e : ℕ) → longest (lengths e []) ≡ 0
unfolding lengths longest
none_longest e = refl

-- the longest token starts inside
module _ (a e z : ℕ) (es : List ℕ) (h : a < e) where
  one_more : (z ≡ e → es ≡ []) → (e < z → e + before_longest (lengths e es) < z) → e ≤ z → a + before_longest (lengths a (e ∷ es)) < z
  unfolding lengths before_longest
  one_more last ih k = go (leb (e - a) (longest (lengths e es))) refl
    where
      past : leb (e - a) (longest (lengths e es)) ≡ true → (z ≡ e → ⊥)
      past t q =
          let n : longest (lengths e es) ≡ 0 = ap (λ (l : List ℕ). longest (lengths e l)) (last q) ∙ none_longest e in
          omega (arith, leb-true (e - a) (longest (lengths e es)) t, n)

      go : (b : Bool) → leb (e - a) (longest (lengths e es)) ≡ b → a + cond b ((e - a) + before_longest (lengths e es)) 0 < z
      go true t = omega (arith, ih (let q = past t in omega arith))
      go false t = omega arith

pub starts_inside : {a z : ℕ} {es : List ℕ} → Climbs a es z → a < z → a + before_longest (lengths a es) < z
starts_inside there h = absurd (omega arith)
starts_inside {a} {z} (up {e = e} {es = es} h r) k = one_more a e z es h (λ q. no_ends r q) (λ l. starts_inside r l) (onward r)

pub sample_long : (rest : List ℕ) → 140 ≤ length rest → length (sample_of rest) ≡ 40
sample_long rest h = length-take-le 40 (drop 100 rest) (omega (arith, length-drop 100 rest))

-- what a mode may ask of its space cut: a part has a character or more, and no more than the sample
-- reaches
pub record Fits (space_cut : ℕ → ℕ) : Type 0 where
  pub some : (i : ℕ) → i < 40 → 0 < space_cut i
  pub inside : (i : ℕ) → i < 40 → space_cut i ≤ 140

-- the plain cuts climb from 0 to the text's end
abbrev pub Right : Cutter → Type 0
Right plain = (t : List ℕ) → Climbs 0 (plain t).ends (length t)

pub space_inside : (rest : List ℕ) (i : ℕ) → 140 ≤ length rest → last_space (sample_of rest) ≡ Some i → i < 40
space_inside rest i h e = go (behind_last is_space (sample_of rest)) (omega (arith, last_inside is_space (sample_of rest), sample_long rest h)) e
  where
    go : (k : ℕ) → k ≤ 40 → before k ≡ Some i → i < 40
    go zero l q = absurd (let z : ◌≡◌ {A = ℕ} 0 1 = cc in omega arith)
    go (suc j) l q = let z : j ≡ i = cc in omega arith

-- the remaining text is cut inside
pub cut_inside : (space_cut : ℕ → ℕ) (plain : Cutter) → Fits space_cut → Right plain → (rest : List ℕ) → 140 ≤ length rest
    → (0 < cut_at space_cut plain rest) × (cut_at space_cut plain rest ≤ 140)
unfolding cut_at
cut_inside space_cut plain f r rest h = go (last_space (sample_of rest)) refl
  where
    go : (w : Option ℕ) → last_space (sample_of rest) ≡ w → (0 < cut_for space_cut plain (sample_of rest) w) × (cut_for space_cut plain (sample_of rest) w ≤ 140)
    go (Some i) e = let l = space_inside rest i h e in (f.some i l, f.inside i l)
    go None e =
        let s = starts_inside (r (sample_of rest)) (omega (arith, sample_long rest h)) in
        (omega arith, omega (arith, s, sample_long rest h))
