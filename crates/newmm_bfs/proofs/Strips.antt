-- A store in the queue and the predecessors, and what it leaves alone. Assumes nothing.
use Prim.Native.Nat.{ℕ, suc, ◌+◌, ◌*◌, ◌-◌, ◌≤◌, ◌<◌}
use native.Mathlib.Omega.{arith}
use mathlib.Core.Path.{◌≡◌, sym, ◌∙◌, ap}
use mathlib.Core.List.{List}
use lib.ListN.{length, get_or, set, take, drop, length-set, length-drop}
use lib.Seq.{get_or-set_same, get_or-set_other, get_or-drop, get_or-take, length-take-le, drop-drop, take-set-le, drop-set-lt}
use lib.Dec.{eqb}
use borrow.Author.Tests.{eq-eqb, ne_eqb}
use Rattle.newmm_rules.specs.Positions.{how_many}
use Rattle.newmm_rules.proofs.Counting.{one_fewer}
use Rattle.newmm_bfs.specs.inner.Strips.{Sized, graph_in, before, unmarked, tail_after, row_after}

-- ---- the edges of a place, cell by cell

module _ (row : List ℕ) (m v : ℕ) where
  pub graph_length : 7 * m + get_or row (3 * m + v) 0 + get_or row (4 * m + v) 0 ≤ length row → length (graph_in row m v) ≡ get_or row (4 * m + v) 0
  unfolding graph_in
  graph_length h = length-take-le (get_or row (4 * m + v) 0) (drop (7 * m + get_or row (3 * m + v) 0) row) (omega (arith, length-drop (7 * m + get_or row (3 * m + v) 0) row))

  pub graph_cell : (j : ℕ) → j < get_or row (4 * m + v) 0 → get_or (graph_in row m v) j 0 ≡ get_or row (7 * m + get_or row (3 * m + v) 0 + j) 0
  unfolding graph_in
  graph_cell j h = get_or-take (get_or row (4 * m + v) 0) (drop (7 * m + get_or row (3 * m + v) 0) row) j 0 h ∙ get_or-drop (7 * m + get_or row (3 * m + v) 0) row j 0

-- ---- rows that agree behind the predecessors

module _ (row row' : List ℕ) (m : ℕ) (high : drop (3 * m) row' ≡ drop (3 * m) row) where
  pub above_same : (k : ℕ) → 3 * m ≤ k → get_or row' k 0 ≡ get_or row k 0
  above_same k h =
      let e : 3 * m + (k - 3 * m) ≡ k = omega arith in
      ap (λ (i : ℕ). get_or row' i 0) (sym e) ∙ sym (get_or-drop (3 * m) row' (k - 3 * m) 0) ∙ ap (λ (l : List ℕ). get_or l (k - 3 * m) 0) high ∙ get_or-drop (3 * m) row (k - 3 * m) 0 ∙ ap (λ (i : ℕ). get_or row i 0) e

  pub drop_same : (k : ℕ) → 3 * m ≤ k → drop k row' ≡ drop k row
  drop_same k h =
      let e : 3 * m + (k - 3 * m) ≡ k = omega arith in
      ap (λ (i : ℕ). drop i row') (sym e) ∙ sym (drop-drop (k - 3 * m) (3 * m) row') ∙ ap (drop (k - 3 * m)) high ∙ drop-drop (k - 3 * m) (3 * m) row ∙ ap (λ (i : ℕ). drop i row) e

  pub graph_same : (v : ℕ) → graph_in row' m v ≡ graph_in row m v
  unfolding graph_in
  graph_same v =
      ap (λ (k : ℕ). take k (drop (7 * m + get_or row' (3 * m + v) 0) row')) (above_same (4 * m + v) (omega arith))
      ∙ ap (take (get_or row (4 * m + v) 0)) (drop_same (7 * m + get_or row' (3 * m + v) 0) (omega arith))
      ∙ ap (λ (k : ℕ). take (get_or row (4 * m + v) 0) (drop (7 * m + k) row)) (above_same (3 * m + v) (omega arith))

-- ---- x queued from v

pub after_old : (row : List ℕ) (m tail v x : ℕ) → (before row m x ≡ 0 → ⊥) → (tail_after row m tail x ≡ tail) × (row_after row m tail v x ≡ row)
unfolding tail_after row_after
after_old row m tail v x n = (simp (ne_eqb (before row m x) 0 n), simp (ne_eqb (before row m x) 0 n))

abbrev pub marked : List ℕ → ℕ → ℕ → ℕ → ℕ → List ℕ
marked row m tail v x = set (set row (2 * m + x) (v + 1)) (m + tail) x

pub after_new : (row : List ℕ) (m tail v x : ℕ) → before row m x ≡ 0 → (tail_after row m tail x ≡ tail + 1) × (row_after row m tail v x ≡ marked row m tail v x)
unfolding tail_after row_after
after_new row m tail v x e = (simp (eq-eqb (before row m x) 0 e), simp (eq-eqb (before row m x) 0 e))

module _ (row : List ℕ) (m tail v x : ℕ) (sized : Sized row m) (ht : tail < m) (hx : x < m) where
  pub size_new : length (marked row m tail v x) ≡ length row
  size_new = length-set (set row (2 * m + x) (v + 1)) (m + tail) x ∙ length-set row (2 * m + x) (v + 1)

  pub low_new : take m (marked row m tail v x) ≡ take m row
  low_new = take-set-le m (set row (2 * m + x) (v + 1)) (m + tail) x (omega arith) ∙ take-set-le m row (2 * m + x) (v + 1) (omega arith)

  pub high_new : drop (3 * m) (marked row m tail v x) ≡ drop (3 * m) row
  high_new = drop-set-lt (3 * m) (set row (2 * m + x) (v + 1)) (m + tail) x (omega arith) ∙ drop-set-lt (3 * m) row (2 * m + x) (v + 1) (omega arith)

  pub before_new : before (marked row m tail v x) m x ≡ v + 1
  before_new =
      get_or-set_other (set row (2 * m + x) (v + 1)) (m + tail) (2 * m + x) x 0 (λ e. omega arith)
      ∙ get_or-set_same row (2 * m + x) (v + 1) 0 (omega (arith, sized.long))

  pub before_other : (y : ℕ) → (y ≡ x → ⊥) → before (marked row m tail v x) m y ≡ before row m y
  before_other y n =
      get_or-set_other (set row (2 * m + x) (v + 1)) (m + tail) (2 * m + y) x 0 (λ e. omega arith)
      ∙ get_or-set_other row (2 * m + x) (2 * m + y) (v + 1) 0 (λ e. n (omega arith))

  pub queue_new : get_or (marked row m tail v x) (m + tail) 0 ≡ x
  queue_new = get_or-set_same (set row (2 * m + x) (v + 1)) (m + tail) x 0 (simp length-set (omega (arith, sized.long)))

  pub queue_old : (i : ℕ) → i < tail → get_or (marked row m tail v x) (m + i) 0 ≡ get_or row (m + i) 0
  queue_old i h =
      get_or-set_other (set row (2 * m + x) (v + 1)) (m + tail) (m + i) x 0 (λ e. omega arith)
      ∙ get_or-set_other row (2 * m + x) (m + i) (v + 1) 0 (λ e. omega arith)

  -- one unmarked vertex less
  pub marked_less : (k p : ℕ) → before row m x ≡ 0 → p ≤ x → x < p + k → suc (how_many (unmarked (marked row m tail v x) m) k p) ≡ how_many (unmarked row m) k p
  marked_less k p e l r =
      one_fewer (unmarked row m) (unmarked (marked row m tail v x) m) x k p
      (eq-eqb (before row m x) 0 e)
      (ne_eqb (before (marked row m tail v x) m x) 0 (λ z. let b = before_new in omega arith))
      (λ y n. ap (λ (b : ℕ). eqb b 0) (before_other y n))
      l r

-- the answers of `queue_up`
pub up_old : (row : List ℕ) (m tail v x : ℕ) → (before row m x ≡ 0 → ⊥) → (tail ≡ tail_after row m tail x) × (row ≡ row_after row m tail v x)
up_old row m tail v x n = let a = after_old row m tail v x n in (sym a.0, sym a.1)

pub up_new : (row : List ℕ) (m tail v x w y : ℕ) → before row m x ≡ 0 → w ≡ v + 1 → y ≡ x → (tail + 1 ≡ tail_after row m tail x) × (set (set row (2 * m + x) w) (m + tail) y ≡ row_after row m tail v x)
up_new row m tail v x w y e p q =
    let a = after_new row m tail v x e in
    (sym a.0, ap (λ (i : ℕ). set (set row (2 * m + x) i) (m + tail) y) p ∙ ap (λ (i : ℕ). set (set row (2 * m + x) (v + 1)) (m + tail) i) q ∙ sym a.1)
