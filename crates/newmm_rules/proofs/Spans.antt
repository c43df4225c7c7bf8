-- Where words and tokens of the non-dictionary rule end: behind their start, and within the text.
-- Assumes nothing.
use Prim.Native.Nat.{ℕ, zero, suc, ◌+◌, ◌-◌, ◌≤◌, ◌<◌, min}
use native.Mathlib.Omega.{arith}
use mathlib.Core.Path.{◌≡◌, refl}
use mathlib.Core.Bool.{Bool, true, false, cond, ◌&&◌}
use mathlib.Core.Logic.{⊎_elim}
use mathlib.Core.List.{List, [], ◌∷◌}
use lib.ListN.{length, drop, length-drop}
use lib.Dec.{eqb}
use borrow.Author.Tests.{eqb-false}
use Rattle.lists.specs.Scans.{leading}
use Rattle.lists.proofs.Scans.{leading_inside}
use Rattle.newmm_rules.specs.Positions.{up_from, In, Rises}
use Rattle.newmm_rules.specs.NonThai.{is_letter, is_digit, is_thai_digit, is_point, is_blank, group_of, groups, number, line_end, first_match, non_thai}
use Rattle.newmm_rules.specs.Words.{Given, size, is_word, word_ends}
use Rattle.newmm_rules.specs.NonDictionary.{non_thai_at, stops_at, skip_end, token_end}
use Rattle.newmm_rules.proofs.Positions.{those_in, those_rise, up_in, up_rises, first_in}

module _ (g : Given) (b : ℕ) where
  pub word_spans : (e : ℕ) → In e (word_ends g b) → (b < e) × (e ≤ size g)
  unfolding word_ends
  word_spans e m = let r = up_in (min 255 (size g - b)) (suc b) e (those_in (is_word g b) e (up_from (min 255 (size g - b)) (suc b)) m).0 in (omega (arith, r.0), omega (arith, r.0, r.1))

  -- a word that ends at a cluster end
  pub word_is : (e : ℕ) → In e (word_ends g b) → is_word g b e ≡ true
  unfolding word_ends
  word_is e m = (those_in (is_word g b) e (up_from (min 255 (size g - b)) (suc b)) m).1

  pub words_rise : Rises (suc b) (word_ends g b)
  unfolding word_ends
  words_rise = those_rise (is_word g b) (up_rises (min 255 (size g - b)) (suc b))

-- ---- NON_THAI_PATTERN

module _ (digit : ℕ → Bool) where
  pub group_inside : (s : List ℕ) → group_of digit s ≤ length s
  group_inside [] = omega arith
  group_inside (x ∷ s) = go (is_point x) (eqb (leading digit s) 0)
    where
      go : (p t : Bool) → cond p (cond t 0 (suc (leading digit s))) 0 ≤ suc (length s)
      go true true = omega arith
      go true false = omega (arith, leading_inside digit s)
      go false t = omega arith

  pub groups_inside : (k : ℕ) (s : List ℕ) → groups k digit s ≤ length s
  unfolding groups
  groups_inside zero s = omega arith
  groups_inside (suc k) s = go (groups_inside k (drop (group_of digit s) s)) (eqb (group_of digit s) 0)
    where
      go : groups k digit (drop (group_of digit s) s) ≤ length (drop (group_of digit s) s) → (t : Bool) → cond t 0 (group_of digit s + groups k digit (drop (group_of digit s) s)) ≤ length s
      go ih true = omega arith
      go ih false = omega (arith, group_inside s, length-drop (group_of digit s) s)

  pub number_inside : (s : List ℕ) → number digit s ≤ length s
  unfolding number
  number_inside s = go (eqb (leading digit s) 0)
    where
      go : (t : Bool) → cond t 0 (leading digit s + groups (length s) digit (drop (leading digit s) s)) ≤ length s
      go true = omega arith
      go false = omega (arith, leading_inside digit s, groups_inside (length s) (drop (leading digit s) s), length-drop (leading digit s) s)

pub line_inside : (s : List ℕ) → line_end s ≤ length s
line_inside [] = omega arith
line_inside (x ∷ []) = go (eqb x 0xA)
  where
    go : (t : Bool) → cond t 1 0 ≤ 1
    go true = omega arith
    go false = omega arith
line_inside (x ∷ y ∷ s) = go (eqb x 0xA) (eqb x 0xD && eqb y 0xA)
  where
    go : (t u : Bool) → cond t 1 (cond u 2 0) ≤ suc (suc (length s))
    go true u = omega arith
    go false true = omega arith
    go false false = omega arith

-- the first match is one of the lengths, so what bounds them all bounds it
first_step : {n m : ℕ} (ms : List ℕ) → m ≤ n → first_match ms ≤ n → first_match (m ∷ ms) ≤ n
unfolding first_match
first_step {n} {m} ms h k = go (eqb m 0)
  where
    go : (t : Bool) → cond t (first_match ms) m ≤ n
    go true = k
    go false = h

first_none : {n : ℕ} → first_match [] ≤ n
unfolding first_match
first_none = omega arith

pub non_thai_inside : (s : List ℕ) → non_thai s ≤ length s
unfolding non_thai
non_thai_inside s =
    first_step _ (leading_inside is_letter s)
    (first_step _ (number_inside is_digit s) (first_step _ (number_inside is_thai_digit s) (first_step _ (leading_inside is_blank s) (first_step _ (line_inside s) first_none))))

-- ---- the non-dictionary rule

module _ (g : Given) (b : ℕ) (inside : b < size g) where
  pub skip_spans : (b < skip_end g b) × (skip_end g b ≤ size g)
  unfolding skip_end
  skip_spans =
      ⊎_elim (λ e. (omega arith, omega arith)) (λ m. let r = up_in (size g - suc b) (suc b) (skip_end g b) m.0 in (omega (arith, r.0), omega (arith, r.1)))
      (first_in (stops_at g) (size g) (up_from (size g - suc b) (suc b)))

  pub token_spans : (b < token_end g b) × (token_end g b ≤ size g)
  unfolding token_end
  token_spans = go (eqb (non_thai_at g b) 0) refl
    where
      go : (t : Bool) → eqb (non_thai_at g b) 0 ≡ t → (b < cond t (skip_end g b) (b + non_thai_at g b)) × (cond t (skip_end g b) (b + non_thai_at g b) ≤ size g)
      go true e = skip_spans
      go false e =
          let n = eqb-false (non_thai_at g b) 0 e in
          (omega arith, omega (arith, non_thai_inside (drop b g.text), length-drop b g.text))
