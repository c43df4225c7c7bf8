-- The loop over the levels. Assumes nothing.
use mathlib.Core.Path.{◌≡◌, refl, sym, ap, ◌∙◌}
use mathlib.Core.List.{List}
use Prim.Native.Nat.{ℕ, zero, suc, ◌+◌, ◌≤◌, ◌<◌}
use native.Mathlib.Omega.{arith}
use native.Mathlib.Decide.{dec_lt}
use lib.ListN.{length, get_or, set, length-set}
use lib.Seq.{get_or-set_same, get_or-set_other}
use Rattle.image_starts.specs.inner.Starts.{start_of, Counts, Begins}

pub start_next : (counts : List ℕ) (d : ℕ) → 0 < d → start_of counts (suc d) ≡ start_of counts d + get_or counts d 0
unfolding start_of
start_next counts zero h = absurd (omega arith)
start_next counts (suc d) h = refl

pub start_one : (counts : List ℕ) → start_of counts 1 ≡ 1
unfolding start_of
start_one counts = refl

pub start_zero : (counts : List ℕ) → start_of counts 0 ≡ 0
unfolding start_of
start_zero counts = refl

pub record Beginning (counts next : List ℕ) (start d : ℕ) : Type 0 where
  pub some : 0 < d
  pub few : d ≤ 256
  pub is : start ≡ start_of counts d
  pub done : (k : ℕ) → 0 < k → k < d → get_or next k 0 ≡ start_of counts k
  pub rest : (k : ℕ) → d ≤ k → get_or next k 0 ≡ get_or counts k 0
  pub many : length next ≡ 257

pub beginning_none : (counts : List ℕ) → length counts ≡ 257 → Beginning counts counts 1 1
beginning_none counts m = record {
  some = omega arith;
  few = omega arith;
  is = sym (start_one counts);
  done = λ k a b. absurd (omega arith);
  rest = λ k a. refl;
  many = m;
}

pub beginning_next : {counts next : List ℕ} {start d : ℕ} → Beginning counts next start d → d < 256 → Beginning counts (set next d start) (start + get_or next d 0) (d + 1)
beginning_next {counts} {next} {start} {d} b h = record {
  some = omega arith;
  few = omega arith;
  is = (let z : suc d ≡ d + 1 = omega arith in let q : start + get_or next d 0 ≡ start_of counts d + get_or counts d 0 = omega (arith, b.is, b.rest d (omega arith)) in q ∙ sym (start_next counts d b.some) ∙ ap (start_of counts) z);
  done = λ k a c. go k a c (dec_lt k d);
  rest = λ k a. get_or-set_other next d k start 0 (omega arith) ∙ b.rest k (omega arith);
  many = length-set next d start ∙ b.many;
}
  where
    go : (k : ℕ) → 0 < k → k < d + 1 → Dec (k < d) → get_or (set next d start) k 0 ≡ start_of counts k
    go k a c (yes q) = get_or-set_other next d k start 0 (omega arith) ∙ b.done k a q
    go k a c (no q) =
        let z : k ≡ d = omega arith in
        ap (λ (i : ℕ). get_or (set next d start) i 0) z ∙ get_or-set_same next d start 0 (omega (arith, b.many)) ∙ b.is ∙ ap (start_of counts) (sym z)

pub beginning_done : {counts next : List ℕ} {start d : ℕ} → Beginning counts next start d → 256 ≤ d → Begins counts (set (set next 0 1) 256 start)
beginning_done {counts} {next} {start} {d} b h = record {
  root = get_or-set_other (set next 0 1) 256 0 start 0 (omega arith) ∙ get_or-set_same next 0 1 0 (omega (arith, b.many));
  first = λ k a c. go k a c (dec_lt k 256);
  many = length-set (set next 0 1) 256 start ∙ length-set next 0 1 ∙ b.many;
}
  where
    go : (k : ℕ) → 0 < k → k ≤ 256 → Dec (k < 256) → get_or (set (set next 0 1) 256 start) k 0 ≡ start_of counts k
    go k a c (yes q) = get_or-set_other (set next 0 1) 256 k start 0 (omega arith) ∙ get_or-set_other next 0 k 1 0 (omega arith) ∙ b.done k a (omega arith)
    go k a c (no q) =
        let z : k ≡ 256 = omega arith in
        let y : k ≡ d = omega (arith, b.few) in
        ap (λ (i : ℕ). get_or (set (set next 0 1) 256 start) i 0) z ∙ get_or-set_same (set next 0 1) 256 start 0 (omega (arith, length-set next 0 1, b.many)) ∙ b.is ∙ ap (start_of counts) (sym y)

-- what is added on the way stays small
pub beginning_small : {counts next : List ℕ} {start d : ℕ} → Counts counts → Beginning counts next start d → d < 256 → start + get_or next d 0 ≤ 1048576
beginning_small {counts} {next} {start} {d} c b h = omega (arith, (beginning_next b h).is, c.small (d + 1) (omega arith))
