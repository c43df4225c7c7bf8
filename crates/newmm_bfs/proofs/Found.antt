-- Where edges lead from the start to the goal, the search finds a way. Assumes nothing.
use Prim.Native.Nat.{ℕ, suc, ◌+◌, ◌*◌, ◌≤◌, ◌<◌}
use native.Mathlib.Omega.{arith}
use mathlib.Core.Path.{◌≡◌, refl, sym, ◌∙◌, subst}
use mathlib.Core.Bool.{Bool, true, false, cond}
use mathlib.Core.Logic.{⊎_elim}
use mathlib.Core.List.Memᴰ
use mathlib.Core.List.{List, [], ◌∷◌}
use lib.ListN.{length, get_or}
use lib.Dec.{leb, ltb}
use borrow.Author.Tests.{le-leb, lt-ltb, leb-true, ltb-true}
use Rattle.newmm_rules.specs.Search.{Graph, path_to}
use Rattle.newmm_rules.specs.Positions.{In}
use Rattle.newmm_rules.proofs.Search.{Reach, here, edge, Within, path_some}
use Rattle.newmm_bfs.specs.inner.Strips.{graph_in, Leads, at_start, by_edge, Start}
use Rattle.newmm_bfs.proofs.Strips.{graph_length, graph_cell}
use Rattle.newmm_bfs.proofs.Same.{path_same}

module _ (G : Graph) (a goal : ℕ) (spans : (v y : ℕ) → a ≤ v → v < goal → In y (G v) → (v < y) × (y ≤ goal)) where
  -- the same edges, of the vertices between the start and the goal alone
  H : Graph
  H v = cond (leb a v) (cond (ltb v goal) (G v) []) []

  same : (v : ℕ) → a ≤ v → v < goal → G v ≡ H v
  unfolding H
  same v l h = simp (le-leb a v l, lt-ltb v goal h)

  fits : Within H a goal
  unfolding H
  fits x y i = go (leb a x) (ltb x goal) refl refl i
    where
      go : (t u : Bool) → leb a x ≡ t → ltb x goal ≡ u → In y (cond t (cond u (G x) []) []) → (a ≤ y) × (y ≤ goal)
      go true true p q m = let l = leb-true a x p in let h = ltb-true x goal q in let s = spans x y l h m in (omega (arith, s.0), s.1)
      go true false p q m = absurd (Memᴰ.not-nil m)
      go false u p q m = absurd (Memᴰ.not-nil m)

  reach : {x : ℕ} → Leads G a goal x → Reach H a x × (a ≤ x)
  reach at_start = (here, omega arith)
  reach (by_edge {v = v} {x = x} l h m) =
      let i = reach l in
      let s = spans v x i.1 h m in
      (edge i.0 (subst (λ (k : List ℕ). In x k) (same v i.1 h) m), omega (arith, i.1, s.0))

  finds : a < goal → Leads G a goal goal → path_to G a goal ≡ [] → ⊥
  finds h l e =
      path_some fits h (reach l).0
      (sym (path_same G H a goal same (λ v y o k m. let s = spans v y o k m in (omega (arith, s.0), s.1)) h) ∙ e)

-- edges of one graph lead on in another that has them
pub led : (G H : Graph) (a goal : ℕ) → ((v y : ℕ) → In y (G v) → (v < goal) × In y (H v)) → {x : ℕ} → Reach G a x → Leads H a goal x
led G H a goal has here = at_start
led G H a goal has (edge {x = x} {z = z} r m) = let h = has x z m in by_edge (led G H a goal has r) h.0 h.1

-- where a member of a list stands
in_cell : {y : ℕ} (l : List ℕ) → In y l → (j : ℕ) × (j < length l) × (get_or l j 0 ≡ y)
in_cell [] m = absurd (Memᴰ.not-nil m)
in_cell {y} (x ∷ l) m =
    ⊎_elim (λ e. (0, omega arith, sym e)) (λ (k : In y l). let i : (j : ℕ) × (j < length l) × (get_or l j 0 ≡ y) = in_cell l k in (suc i.0, (let o = i.1 in omega arith), i.2)) (Memᴰ.cases_cons m)

module _ {row : List ℕ} {m start goal : ℕ} (s : Start row m start goal) where
  edge_spans : (v y : ℕ) → start ≤ v → v < goal → In y (graph_in row m v) → (v < y) × (y ≤ goal)
  edge_spans v y l h i =
      let e = s.edges v l h in
      let c = in_cell (graph_in row m v) i in
      let j : c.0 < get_or row (4 * m + v) 0 = omega (arith, c.1, graph_length row m v e.fits) in
      let o = e.on c.0 j in
      let t : get_or row (7 * m + get_or row (3 * m + v) 0 + c.0) 0 ≡ y = sym (graph_cell row m v c.0 j) ∙ c.2 in
      (omega (arith, o.0), omega (arith, o.1))

  -- The search has no branch for "not found".
  pub some_way : path_to (graph_in row m) start goal ≡ [] → ⊥
  some_way = finds (graph_in row m) start goal edge_spans s.order s.way
