-- The next candidate, over plain values. Assumes nothing.
use Prim.Native.Nat.{ℕ, ◌+◌, ◌*◌, ◌≤◌, ◌<◌}
use native.Mathlib.Omega.{arith}
use native.Mathlib.Decide.{dec_lt}
use mathlib.Core.Path.{◌≡◌, ◌∙◌, ap}
use mathlib.Core.List.{List}
use lib.ListN.{get_or}
use Rattle.newmm_one_cut.specs.inner.Strips.{NextIs}

pub record Seeking (row : List ℕ) (m b c : ℕ) : Type 0 where
  pub above : b < c
  pub upto : c ≤ m
  pub none : (x : ℕ) → b < x → x < c → get_or row (5 * m + x) 0 ≡ 0

pub seek_first : (row : List ℕ) (m b : ℕ) → b < m → Seeking row m b (b + 1)
seek_first row m b h = record { above = omega arith; upto = omega arith; none = λ x l k. absurd (omega arith) }

module _ {row : List ℕ} {m b c : ℕ} (s : Seeking row m b c) where
  pub seek_found : c < m → (get_or row (5 * m + c) 0 ≡ 0 → ⊥) → NextIs row m b c
  seek_found h n = record { above = s.above; upto = s.upto; none = s.none; found = λ l. n }

  pub seek_on : c < m → get_or row (5 * m + c) 0 ≡ 0 → Seeking row m b (c + 1)
  seek_on h z =
      record {
        above = omega (arith, s.above);
        upto = omega arith;
        none = λ x l k. elim (dec_lt x c) [ yes o ↦ s.none x l o | no n ↦ (let e : x ≡ c = omega arith in ap (λ (i : ℕ). get_or row (5 * m + i) 0) e ∙ z) ];
      }

  pub seek_end : m ≤ c → NextIs row m b m
  seek_end h =
      record {
        above = omega (arith, s.above, s.upto);
        upto = omega arith;
        none = λ x l k. s.none x l (omega arith);
        found = λ l. absurd (omega arith);
      }
