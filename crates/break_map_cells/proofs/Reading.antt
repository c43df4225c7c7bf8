-- Breaks that are looked for and counted, cell by cell. Assumes nothing.
use Rattle.std.specs.Prelude.{None, Some}
use Prim.Native.Nat.{ℕ, suc, ◌+◌, ◌*◌, ◌-◌, ◌/◌, ◌%◌, ◌^◌, ◌≤◌, ◌<◌}
use native.Mathlib.Omega.{arith}
use mathlib.Core.Path.{◌≡◌, refl, sym, ◌∙◌, ap, ap₂}
use mathlib.Core.List.{List, [], ◌∷◌, ◌++◌}
use lib.ListN.{length, get_or}
use lib.Count.{ones, count_trailing_zeros}
use Rattle.newmm_rules.specs.Positions.{up_from, those, how_many}
use Rattle.newmm_rules.proofs.Counting.{many_most}
use Rattle.break_map_rules.specs.Maps.{Cells, word, is_break, breaks, breaks_up_to}
use Rattle.break_map_rules.specs.Answers.{first_of}
use Rattle.break_map_rules.proofs.Bits.{word_shift, ones_are, ones_upto, none_are, first_is}
use Rattle.break_map_rules.proofs.Breaks.{those_split, many_split}
use Rattle.break_map_rules.proofs.Cells.{cell_is}

-- the bits from p to the end of its cell
pub bits_are : (map : List ℕ) → Cells map → (p : ℕ) → p < 64 * length map → get_or map (p / 64) 0 / 2 ^ (p % 64) ≡ word (is_break map) (64 - p % 64) p
bits_are map fit p h =
    let e : 64 * (p / 64) + p % 64 ≡ p = omega arith in
    ap (λ (x : ℕ). x / 2 ^ (p % 64)) (cell_is map fit (p / 64) (omega arith))
    ∙ word_shift (is_break map) (p % 64) 64 (64 - p % 64) (64 * (p / 64)) (omega arith)
    ∙ ap (word (is_break map) (64 - p % 64)) e

-- ---- the first break from a position on

-- no break from `from` to p
pub record Past (map : List ℕ) (cells from p : ℕ) : Type 0 where
  pub rest : first_of (breaks map (64 * cells - from) from) ≡ first_of (breaks map (64 * cells - p) p)

pub past_none : (map : List ℕ) (cells from : ℕ) → Past map cells from from
past_none map cells from = record { rest = refl }

front : (xs ys : List ℕ) {q : ℕ} → first_of xs ≡ Some q → first_of (xs ++ ys) ≡ Some q
front [] ys e = absurd (let z : ◌≡◌ {A = ℕ} 0 1 = cc in omega arith)
front (x ∷ xs) ys e = e

module _ {map : List ℕ} {cells from p : ℕ} (s : Past map cells from p) where
  module _ (l : p < 64 * cells) {bits : ℕ} (is : bits ≡ word (is_break map) (64 - p % 64) p) where
    abbrev next : ℕ
    next = (p / 64 + 1) * 64

    -- this cell, and those behind it
    apart : breaks map (64 * cells - p) p ≡ breaks map (64 - p % 64) p ++ breaks map (64 * cells - next) next
    apart =
        let e : p + (64 - p % 64) ≡ (p / 64 + 1) * 64 = omega arith in
        those_split (is_break map) (64 - p % 64) (64 * cells - p) (64 * cells - (p / 64 + 1) * 64) p (omega arith)
        ∙ ap (λ (q : ℕ). breaks map (64 - p % 64) p ++ breaks map (64 * cells - (p / 64 + 1) * 64) q) e

    pub past_more : bits ≡ 0 → Past map cells from ((p / 64 + 1) * 64)
    past_more z =
        record {
          rest = s.rest ∙ ap first_of (apart ∙ ap (λ (xs : List ℕ). xs ++ breaks map (64 * cells - next) next) (none_are (is_break map) (64 - p % 64) p (sym is ∙ z)));
        }

    pub past_found : (bits ≡ 0 → ⊥) → {r : ℕ} → r ≡ count_trailing_zeros 64 bits → Some (p + r) ≡ first_of (breaks map (64 * cells - from) from)
    past_found n {r} e =
        let w = word (is_break map) (64 - p % 64) p in
        let k : r ≡ count_trailing_zeros 64 w = e ∙ ap (count_trailing_zeros 64) is in
        ap (λ (x : ℕ). Some (p + x)) k
        ∙ sym (s.rest ∙ ap first_of apart ∙ front (breaks map (64 - p % 64) p) (breaks map (64 * cells - next) next)
        (first_is (is_break map) 64 (64 - p % 64) p (omega arith) (some n)))
      where
        some : (bits ≡ 0 → ⊥) → 0 < word (is_break map) (64 - p % 64) p
        some f = omega (arith, is, f)

  pub past_all : 64 * cells ≤ p → None ≡ first_of (breaks map (64 * cells - from) from)
  unfolding up_from those
  past_all h = let e : 64 * cells - p ≡ 0 = omega arith in sym (s.rest ∙ ap (λ (k : ℕ). first_of (breaks map k p)) e)

-- ---- the breaks up to a position

-- the breaks of the first i cells
pub record Counted (map : List ℕ) (count i : ℕ) : Type 0 where
  pub is : count ≡ how_many (is_break map) (64 * i) 0
  pub most : count ≤ 64 * i

pub counted_none : (map : List ℕ) → Counted map 0 0
unfolding how_many up_from those
counted_none map = record { is = refl; most = omega arith }

module _ {map : List ℕ} (fit : Cells map) {count i x : ℕ} (c : Counted map count i) where
  -- d positions behind those of the first i cells
  behind : (d : ℕ) → x ≡ how_many (is_break map) d (64 * i) → count + x ≡ how_many (is_break map) (64 * i + d) 0
  behind d o =
      let f = is_break map in
      let k : 64 * i ≡ 0 + 64 * i = omega arith in
      ap₂ (λ (a b : ℕ). a + b) c.is (o ∙ ap (how_many f d) k) ∙ sym (many_split f (64 * i) d 0)

  pub counted_more : i < length map → x ≡ ones (get_or map i 0) → Counted map (count + x) (i + 1)
  counted_more h e =
      let f = is_break map in
      let j : 64 * i + 64 ≡ 64 * (i + 1) = omega arith in
      let n : count + x ≡ how_many f (64 * (i + 1)) 0 = behind 64 (e ∙ ap ones (cell_is map fit i h) ∙ ones_are f 64 (64 * i)) ∙ ap (λ (d : ℕ). how_many f d 0) j in
      record { is = n; most = omega (arith, n, many_most f (64 * (i + 1)) 0) }

  pub counted_last : (p : ℕ) → p < 64 * length map → i ≡ p / 64 → x ≡ ones (get_or map (p / 64) 0 * 2 ^ (63 - p % 64) % 2 ^ 64) → count + x ≡ breaks_up_to map p
  counted_last p h q e =
      let f = is_break map in
      let j : 64 * i + suc (p % 64) ≡ p + 1 = omega arith in
      let k : 64 * (p / 64) ≡ 64 * i = omega arith in
      behind (suc (p % 64))
      (e ∙ ap (λ (w : ℕ). ones (w * 2 ^ (63 - p % 64) % 2 ^ 64)) (cell_is map fit (p / 64) (omega arith)) ∙ ones_upto f (p % 64) (64 * (p / 64)) (omega arith)
      ∙ ap (how_many f (suc (p % 64))) k)
      ∙ ap (λ (d : ℕ). how_many f d 0) j
