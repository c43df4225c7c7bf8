-- Where the first edge of the start leads to the goal, that edge is the path. Assumes nothing.
use Prim.Native.Nat.{ℕ, zero, suc, ◌+◌, ◌*◌, ◌-◌, ◌≤◌, ◌<◌}
use native.Mathlib.Omega.{arith}
use native.Mathlib.Numerals.{add-one}
use native.Mathlib.Decide.{dec_lt}
use mathlib.Core.Path.{◌≡◌, refl, sym, ◌∙◌, ap, subst}
use mathlib.Core.List.Memᴰ
use mathlib.Core.List.{List, [], ◌∷◌, ◌++◌}
use lib.ListN.{length, get_or, set, take, drop}
use lib.Seq.{get_or-set_other, drop-set-lt, take-suc-set}
use borrow.Author.Tests.{eq-eqb}
use Rattle.newmm_rules.specs.Positions.{In}
use Rattle.newmm_rules.specs.Cutting.{Edge, graph_of}
use Rattle.newmm_rules.specs.Search.{Graph, Queue, passed, after, searched, path_to}
use Rattle.newmm_rules.proofs.Search.{Reach, here, edge}
use Rattle.newmm_rules.proofs.Edges.{edge_of, edge_recorded}
use Rattle.newmm_bfs.specs.inner.Strips.{graph_in, Start, Path}
use Rattle.newmm_bfs.proofs.Strips.{graph_length, graph_cell}
use Rattle.newmm_one_cut.specs.inner.Strips.{NextIs, FirstEdge, OneLeft}

pub cell_in : (l : List ℕ) (j : ℕ) → j < length l → In (get_or l j 0) l
cell_in [] j h = absurd (omega arith)
cell_in (x ∷ l) zero h = Memᴰ.head refl
cell_in (x ∷ l) (suc j) h = Memᴰ.tail (cell_in l j (omega arith))

module _ (graph : Graph) (start goal : ℕ) (es : List ℕ) (is : graph start ≡ goal ∷ es) where
  searched_first : (k : ℕ) → 0 < k → searched k graph goal (record { tip = start; ends = [] } ∷ []) (start ∷ []) ≡ goal ∷ []
  unfolding searched after passed
  searched_first zero h = absurd (omega arith)
  searched_first (suc k) h =
      ap (λ (l : List ℕ). after (passed goal (record { tip = start; ends = [] }) l (record { ways = []; seen = start ∷ [] })) (λ (q : Queue). searched k graph goal q.ways q.seen)) is
      ∙ simp (eq-eqb goal goal refl)

  -- the search takes it at once
  pub path_first : start < goal → path_to graph start goal ≡ goal ∷ []
  unfolding path_to
  path_first h = searched_first (goal - start) (omega arith)

by_first : (l : List ℕ) (x : ℕ) → 0 < length l → get_or l 0 0 ≡ x → l ≡ x ∷ drop 1 l
by_first [] x h e = absurd (omega arith)
by_first (y ∷ l) x h e = ap (λ (z : ℕ). z ∷ l) e

module _ {row : List ℕ} {m start goal ends : ℕ} (s : Start row m start goal) (f : FirstEdge row m start goal) (few : ends ≤ start) where
  graph_first : graph_in row m start ≡ goal ∷ drop 1 (graph_in row m start)
  graph_first =
      let o = f.some in let z = f.first in
      let i : 7 * m + get_or row (3 * m + start) 0 + 0 ≡ 7 * m + 0 = omega arith in
      by_first (graph_in row m start) goal
      (omega (arith, graph_length row m start (s.edges start (omega arith) s.order).fits))
      (graph_cell row m start 0 o ∙ ap (λ (j : ℕ). get_or row j 0) i ∙ f.to)

  path_is : path_to (graph_in row m) start goal ≡ goal ∷ []
  path_is = path_first (graph_in row m) start goal (drop 1 (graph_in row m start)) graph_first s.order

  -- it is written behind the first ends
  pub edge_path : Path row (set row ends goal) m start goal ends (ends + 1)
  edge_path =
      let o = s.order in let i = s.inside in let l = s.sized.long in
      record {
        number = ap (λ (k : ℕ). ends + k) (sym (ap length path_is));
        ends = ap (λ (j : ℕ). take j (set row ends goal)) (add-one ends) ∙ take-suc-set row ends goal (omega arith) ∙ ap (λ (l : List ℕ). take ends row ++ l) (sym path_is);
        few = omega arith;
        high = drop-set-lt (3 * m) row ends goal (omega arith);
        later = λ x l h. get_or-set_other row ends (2 * m + x) goal 0 (λ e. omega arith) ∙ s.fresh x (omega arith) h;
      }

-- ---- no place but b has edges, and they lead to c alone

graph_alone : (b : ℕ) (es : List Edge) → ((x y : ℕ) → In (edge_of x y) es → x ≡ b) → length (graph_of es b) ≡ length es
unfolding graph_of
graph_alone b [] h = refl
graph_alone b (e ∷ es) h =
    let i = graph_alone b es (λ x y k. h x y (Memᴰ.tail k)) in
    simp (eq-eqb e.from b (h e.from e.to (Memᴰ.head refl))) (ap suc i)

in_some : {x : ℕ} (l : List ℕ) → In x l → 0 < length l
in_some [] i = absurd (Memᴰ.not-nil i)
in_some (y ∷ l) i = omega arith

module _ (es : List Edge) (b c : ℕ) (from : (x y : ℕ) → In (edge_of x y) es → x ≡ b) (to : (y : ℕ) → In y (graph_of es b) → y ≡ c) (reach : Reach (graph_of es) b c) (above : b < c)
    (row : List ℕ) (m : ℕ) (same : graph_in row m b ≡ graph_of es b) (all : get_or row (3 * m + b) 0 + get_or row (4 * m + b) 0 ≤ length es) (room : 7 * m + length es ≤ length row) where
  one_stands : {x : ℕ} → Reach (graph_of es) b x → b < x → 0 < length (graph_of es b)
  one_stands here h = absurd (omega arith)
  one_stands (edge {x = x} {z = z} w i) h = in_some (graph_of es b) (subst (λ (v : ℕ). In z (graph_of es v)) (from x z (edge_recorded x z es i)) i)

  pub first_edge : FirstEdge row m b c
  first_edge =
      let n = one_stands reach above in
      let k : length (graph_in row m b) ≡ get_or row (4 * m + b) 0 = graph_length row m b (omega arith) in
      let g : length (graph_in row m b) ≡ length es = ap length same ∙ graph_alone b es from in
      let z : get_or row (3 * m + b) 0 ≡ 0 = omega arith in
      let o : 0 < get_or row (4 * m + b) 0 = omega (arith, ap length same) in
      let i : 7 * m + 0 ≡ 7 * m + get_or row (3 * m + b) 0 + 0 = omega arith in
      let l : 0 < length (graph_in row m b) = omega arith in
      record {
        first = z;
        some = o;
        to = ap (λ (j : ℕ). get_or row j 0) i ∙ sym (graph_cell row m b 0 o) ∙ to (get_or (graph_in row m b) 0 0) (subst (λ (k : List ℕ). In (get_or (graph_in row m b) 0 0) k) same (cell_in (graph_in row m b) 0 l));
      }

-- ---- the answers of `put_path`

-- there is no second least candidate
pub next_one : {row : List ℕ} {m b c d : ℕ} → NextIs row m b c → NextIs row m b d → d < m → c ≡ d
next_one {row} {m} {b} {c} {d} n k h =
    elim (dec_lt c d) [
      | yes l ↦ absurd (n.found (omega arith) (k.none c n.above l))
      | no u ↦ elim (dec_lt d c) [ yes l ↦ absurd (k.found h (n.none d k.above l)) | no v ↦ omega arith ]
    ]

module _ {row : List ℕ} {m committed b ends : ℕ} (o : OneLeft row m committed b ends) where
  pub edge_put : b ≡ committed → (x : ℕ) → x ≡ get_or row (7 * m) 0 → NextIs row m b x × Path row (set row ends (get_or row (7 * m) 0)) m committed x ends (ends + 1)
  edge_put h x e =
      let f = o.edge h in
      let z : 7 * m ≡ 7 * m + 0 = omega arith in
      let i : x ≡ o.goal = e ∙ ap (λ (j : ℕ). get_or row j 0) z ∙ f.to in (
        subst (λ (y : ℕ). NextIs row m b y) (sym i) o.next,
        subst (λ (y : ℕ). Path row (set row ends y) m committed x ends (ends + 1)) e
            (subst (λ (y : ℕ). Path row (set row ends y) m committed y ends (ends + 1)) (sym i) (edge_path o.start f o.few)),
      )

  pub search_asks : {c : ℕ} → NextIs row m b c → Start row m committed c × (ends ≤ committed)
  search_asks n = (subst (λ (x : ℕ). Start row m committed x) (sym (next_one n o.next o.start.inside)) o.start, o.few)
