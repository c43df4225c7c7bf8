-- A part of a row that is handed on and comes back. Assumes nothing.
use Prim.Native.Nat.{ℕ, ◌+◌, ◌-◌, ◌≤◌}
use native.Mathlib.Omega.{arith}
use mathlib.Core.Path.{◌≡◌, refl, sym, ◌∙◌, ap}
use mathlib.Core.List.{List, [], ◌++◌, append_assoc, append-nil}
use lib.ListN.{length, take, drop, length-drop, drop_of_length-le}
use lib.Seq.{take_at, drop_at, drop-drop}

-- W stands at the front of the row; a callee put w at the front of what follows; then W and w stand
-- there, and the rest is as it was. The left side is what the borrow checker says of the row when
-- the part is back.
pub behind : (old row ys W w : List ℕ) (n k : ℕ) → n ≡ length W → row ≡ W ++ drop n old → ys ≡ w ++ drop k (drop n row)
    → take n row ++ (ys ++ drop (length row - n) (drop n row)) ≡ (W ++ w) ++ drop (n + k) old
behind old row ys W w n k e a b =
    let t : take n row ≡ W = ap (take n) a ∙ take_at W (drop n old) n (sym e) in
    let d : drop n row ≡ drop n old = ap (drop n) a ∙ drop_at W (drop n old) n (sym e) in
    let z : drop (length row - n) (drop n row) ≡ [] = drop_of_length-le (drop n row) {i = length row - n} (omega (arith, length-drop n row)) in
    ap (λ (l : List ℕ). take n row ++ (ys ++ l)) z ∙ ap (λ (l : List ℕ). take n row ++ l) (append-nil ys)
    ∙ ap (λ (l : List ℕ). l ++ ys) t ∙ ap (λ (l : List ℕ). W ++ l) (b ∙ ap (λ (l : List ℕ). w ++ drop k l) d ∙ ap (λ (l : List ℕ). w ++ l) (drop-drop k n old))
    ∙ sym (append_assoc W w (drop (n + k) old))
