-- The cells of the row when an edge is recorded. Assumes nothing.
use Prim.Native.Nat.{ℕ, ◌+◌, ◌*◌, ◌-◌, ◌≤◌, ◌<◌}
use native.Mathlib.Omega.{arith}
use native.Mathlib.Numerals.{add-one}
use mathlib.Core.Path.{◌≡◌, sym, ◌∙◌, ap}
use mathlib.Core.List.{List, [], ◌∷◌, ◌++◌}
use lib.ListN.{length, get_or, set, take, drop, length-set, length-drop}
use lib.Seq.{get_or-set_same, get_or-set_other, take-set-le, drop-set-lt, drop-set-add, take-suc-set}
use Rattle.newmm_bfs.specs.inner.Strips.{Sized, graph_in}
use Rattle.newmm_edges.specs.inner.Recording.{row_after}

-- a store behind a part, and one right behind it
part_above : (row : List ℕ) (at c i x : ℕ) → at + c ≤ i → take c (drop at (set row i x)) ≡ take c (drop at row)
part_above row at c i x h =
    let e : at + (i - at) ≡ i = omega arith in
    ap (λ (j : ℕ). take c (drop at (set row j x))) (sym e) ∙ ap (take c) (drop-set-add at row (i - at) x) ∙ take-set-le c (drop at row) (i - at) x (omega arith)

part_push : (row : List ℕ) (at c i x : ℕ) → at + c ≡ i → i < length row → take (c + 1) (drop at (set row i x)) ≡ take c (drop at row) ++ (x ∷ [])
part_push row at c i x e h =
    ap (λ (j : ℕ). take (c + 1) (drop at (set row j x))) (sym e) ∙ ap (take (c + 1)) (drop-set-add at row c x)
    ∙ ap (λ (j : ℕ). take j (set (drop at row) c x)) (add-one c) ∙ take-suc-set (drop at row) c x (omega (arith, length-drop at row))

module _ (row : List ℕ) (m b e first k : ℕ) (sized : Sized row m) (hb : b < m) (he : e < m) (hk : k < m + 50) where
  abbrev row₁ : List ℕ
  row₁ = set row (7 * m + k) e

  abbrev row₂ : List ℕ
  row₂ = set row₁ (4 * m + b) (k + 1 - first)

  pub size_same : length (row_after row m b e first k) ≡ length row
  unfolding row_after
  size_same = length-set row₂ (5 * m + e) 1 ∙ length-set row₁ (4 * m + b) (k + 1 - first) ∙ length-set row (7 * m + k) e

  pub low_same : take (3 * m) (row_after row m b e first k) ≡ take (3 * m) row
  unfolding row_after
  low_same =
      take-set-le (3 * m) row₂ (5 * m + e) 1 (omega arith) ∙ take-set-le (3 * m) row₁ (4 * m + b) (k + 1 - first) (omega arith) ∙ take-set-le (3 * m) row (7 * m + k) e (omega arith)

  -- any other cell
  pub cell_same : (i : ℕ) → (i ≡ 7 * m + k → ⊥) → (i ≡ 4 * m + b → ⊥) → (i ≡ 5 * m + e → ⊥) → get_or (row_after row m b e first k) i 0 ≡ get_or row i 0
  unfolding row_after
  cell_same i x y z = get_or-set_other row₂ (5 * m + e) i 1 0 z ∙ get_or-set_other row₁ (4 * m + b) i (k + 1 - first) 0 y ∙ get_or-set_other row (7 * m + k) i e 0 x

  pub count_new : get_or (row_after row m b e first k) (4 * m + b) 0 ≡ k + 1 - first
  unfolding row_after
  count_new =
      get_or-set_other row₂ (5 * m + e) (4 * m + b) 1 0 (λ q. omega arith) ∙ get_or-set_same row₁ (4 * m + b) (k + 1 - first) 0 (simp length-set (omega (arith, sized.long)))

  pub mark_new : get_or (row_after row m b e first k) (5 * m + e) 0 ≡ 1
  unfolding row_after
  mark_new = get_or-set_same row₂ (5 * m + e) 1 0 (simp length-set (omega (arith, sized.long)))

  part_after : (at c : ℕ) → 6 * m ≤ at → take c (drop at (row_after row m b e first k)) ≡ take c (drop at row₁)
  unfolding row_after
  part_after at c h = ap (take c) (drop-set-lt at row₂ (5 * m + e) 1 (omega arith) ∙ drop-set-lt at row₁ (4 * m + b) (k + 1 - first) (omega arith))

  pub flags_same : take (7 * m - 6 * m) (drop (6 * m) (row_after row m b e first k)) ≡ take (7 * m - 6 * m) (drop (6 * m) row)
  flags_same = part_after (6 * m) (7 * m - 6 * m) (omega arith) ∙ part_above row (6 * m) (7 * m - 6 * m) (7 * m + k) e (omega arith)

  -- edges that stand already
  pub part_old : (f c : ℕ) → f + c ≤ k → take c (drop (7 * m + f) (row_after row m b e first k)) ≡ take c (drop (7 * m + f) row)
  part_old f c h = part_after (7 * m + f) c (omega arith) ∙ part_above row (7 * m + f) c (7 * m + k) e (omega arith)

  pub part_new : (f c : ℕ) → f + c ≡ k → take (c + 1) (drop (7 * m + f) (row_after row m b e first k)) ≡ take c (drop (7 * m + f) row) ++ (e ∷ [])
  part_new f c h = part_after (7 * m + f) (c + 1) (omega arith) ∙ part_push row (7 * m + f) c (7 * m + k) e (omega arith) (omega (arith, sized.long))

  -- the edges of another place, and of b
  pub graph_other : (v : ℕ) → v < m → (v ≡ b → ⊥) → get_or row (3 * m + v) 0 + get_or row (4 * m + v) 0 ≤ k → graph_in (row_after row m b e first k) m v ≡ graph_in row m v
  unfolding graph_in
  graph_other v hv n h =
      ap (λ (c : ℕ). take c (drop (7 * m + get_or (row_after row m b e first k) (3 * m + v) 0) (row_after row m b e first k))) (cell_same (4 * m + v) (λ q. omega arith) (λ q. n (omega arith)) (λ q. omega arith))
      ∙ ap (λ (f : ℕ). take (get_or row (4 * m + v) 0) (drop (7 * m + f) (row_after row m b e first k))) (cell_same (3 * m + v) (λ q. omega arith) (λ q. omega arith) (λ q. omega arith))
      ∙ part_old (get_or row (3 * m + v) 0) (get_or row (4 * m + v) 0) h

  pub graph_here : get_or row (3 * m + b) 0 ≡ first → get_or row (4 * m + b) 0 ≡ k - first → first ≤ k → graph_in (row_after row m b e first k) m b ≡ graph_in row m b ++ (e ∷ [])
  unfolding graph_in
  graph_here hf hc l =
      let c₁ : get_or (row_after row m b e first k) (4 * m + b) 0 ≡ k - first + 1 = count_new ∙ omega arith in
      let f₁ : get_or (row_after row m b e first k) (3 * m + b) 0 ≡ first = cell_same (3 * m + b) (λ q. omega arith) (λ q. omega arith) (λ q. omega arith) ∙ hf in
      ap (λ (c : ℕ). take c (drop (7 * m + get_or (row_after row m b e first k) (3 * m + b) 0) (row_after row m b e first k))) c₁
      ∙ ap (λ (f : ℕ). take (k - first + 1) (drop (7 * m + f) (row_after row m b e first k))) f₁
      ∙ part_new first (k - first) (omega arith)
      ∙ ap (λ (c : ℕ). take c (drop (7 * m + first) row) ++ (e ∷ [])) (sym hc)
      ∙ ap (λ (f : ℕ). take (get_or row (4 * m + b) 0) (drop (7 * m + f) row) ++ (e ∷ [])) (sym hf)
