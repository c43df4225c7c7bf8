-- Parts of a list as the code names them. Assumes nothing.
use Prim.Native.Nat.{ℕ, zero, suc, ◌+◌, ◌-◌, ◌≤◌}
use native.Mathlib.Nat.{sub-zero}
use native.Mathlib.Omega.{arith}
use mathlib.Core.Path.{◌≡◌, sym, ◌∙◌, ap}
use mathlib.Core.List.{List, [], ◌∷◌}
use lib.ListN.{length, take, drop, length-drop}
use lib.Seq.{take_all, take-nil, take-take, drop-drop}

-- `&s[at..]`
pub tail_drop : (s : List ℕ) (at : ℕ) → take (length s - at) (drop at s) ≡ drop at s
tail_drop s at = take_all (length s - at) (drop at s) (omega (arith, length-drop at s))

pub drop_take : (a m : ℕ) (l : List ℕ) → drop a (take m l) ≡ take (m - a) (drop a l)
drop_take zero m l = ap (λ (k : ℕ). take k l) (sym (sub-zero m))
drop_take (suc a) zero l = ap (λ (k : ℕ). take k (drop (suc a) l)) (let z : 0 ≡ 0 - suc a = omega arith in z)
drop_take (suc a) (suc m) [] = sym (take-nil (suc m - suc a))
drop_take (suc a) (suc m) (x ∷ l) = drop_take a m l ∙ ap (λ (k : ℕ). take k (drop a l)) (let z : m - a ≡ suc m - suc a = omega arith in z)

-- a part of a part
pub part_of_part : (a e b f : ℕ) (l : List ℕ) → f ≤ e - a → take (f - b) (drop b (take (e - a) (drop a l))) ≡ take (a + f - (a + b)) (drop (a + b) l)
part_of_part a e b f l h =
    ap (take (f - b)) (drop_take b (e - a) (drop a l))
    ∙ take-take (f - b) (e - a - b) (drop b (drop a l)) (omega arith)
    ∙ ap (take (f - b)) (drop-drop b a l)
    ∙ ap (λ (k : ℕ). take k (drop (a + b) l)) (let z : f - b ≡ a + f - (a + b) = omega arith in z)
