-- What recording comes to, whatever state the strips stand for. Assumes nothing.
use Prim.Native.Nat.{ℕ, suc, ◌+◌, ◌*◌, ◌-◌, ◌≤◌, ◌<◌}
use native.Mathlib.Omega.{arith}
use native.Mathlib.Decide.{dec_lt}
use mathlib.Core.Path.{◌≡◌, refl, sym, ◌∙◌, ap}
use mathlib.Core.Bool.{Bool, true, false, cond, not}
use mathlib.Core.Logic.{◌⊎◌, ⊎_elim}
use mathlib.Core.List.Memᴰ
use mathlib.Core.List.{List, [], ◌∷◌, ◌++◌, append-nil}
use lib.ListN.{length, get_or}
use lib.Dec.{eqb}
use borrow.Author.Tests.{eqb-true, eqb-false, eq-eqb, ne_eqb}
use Rattle.newmm_rules.specs.Positions.{any, member, inserted, In}
use Rattle.newmm_rules.specs.Cutting.{State, recorded, graph_of}
use Rattle.newmm_rules.proofs.Positions.{not_in, put_only, put_size}
use Rattle.newmm_rules.proofs.Edges.{graph_more, one_more, one_counted}
use Rattle.newmm_bfs.specs.inner.Strips.{Sized, graph_in}
use Rattle.newmm_edges.specs.declared.Progress.{Progress}
use Rattle.newmm_edges.specs.inner.Recording.{row_after, progress_after, StandFor, Counts, Alone}
use Rattle.newmm_edges.proofs.Cells.{low_same, cell_same, count_new, mark_new, flags_same, graph_other, graph_here}

-- while words at b are recorded, of which the edges start at first
pub record Mid (row : List ℕ) (m b first k : ℕ) (s : State) : Type 0 where
  pub stand : StandFor row m b k s
  pub from : get_or row (3 * m + b) 0 ≡ first
  pub many : get_or row (4 * m + b) 0 ≡ k - first
  pub upto : first ≤ k
  pub here : graph_in row m b ≡ graph_of s.edges b

-- so the edges of b count too
pub mid_done : {row : List ℕ} {m b first k : ℕ} {s : State} → Mid row m b first k s → StandFor row m (b + 1) k s
mid_done {row} {m} {b} {first} {k} {s} d =
    record {
      marks = d.stand.marks;
      graph = λ v l h. by v h (λ i. d.stand.graph v l i) (λ e. ap (graph_in row m) e ∙ d.here ∙ ap (graph_of s.edges) (sym e));
      fits = λ v l h. by v h (λ i. d.stand.fits v l i) (λ e. let f : get_or row (3 * m + v) 0 ≡ first = ap (λ (u : ℕ). get_or row (3 * m + u) 0) e ∙ d.from in
          let c : get_or row (4 * m + v) 0 ≡ k - first = ap (λ (u : ℕ). get_or row (4 * m + u) 0) e ∙ d.many in omega (arith, d.upto));
      shown = d.stand.shown;
    }
  where
    by : {P : Type 0} (v : ℕ) → v < b + 1 → (v < b → P) → (v ≡ b → P) → P
    by v h f g = elim (dec_lt v b) [ yes l ↦ f l | no n ↦ g (omega arith) ]

-- ---- an edge

module _ (row : List ℕ) (m b e first k : ℕ) (s : State) (sized : Sized row m) (hb : b < m) (he : e < m) (hk : k < m + 50) (d : Mid row m b first k s) where
  abbrev row' : List ℕ
  row' = row_after row m b e first k

  new_marks : (x : ℕ) → x < m → member x (recorded b e s).known ≡ not (eqb (get_or row' (5 * m + x) 0) 0)
  unfolding recorded any
  new_marks x h = go (eqb x e) refl
    where
      go : (t : Bool) → eqb x e ≡ t → member x (e ∷ s.known) ≡ not (eqb (get_or row' (5 * m + x) 0) 0)
      go true q =
          let z : get_or row' (5 * m + x) 0 ≡ 1 = ap (λ (u : ℕ). get_or row' (5 * m + u) 0) (eqb-true x e q) ∙ mark_new row m b e first k sized hb he hk in
          simp (q, ne_eqb (get_or row' (5 * m + x) 0) 0 (λ w. omega arith))
      go false q =
          let n = eqb-false x e q in
          simp q (d.stand.marks x h ∙ ap (λ (u : ℕ). not (eqb u 0)) (sym (cell_same row m b e first k sized hb he hk (5 * m + x) (λ w. omega arith) (λ w. omega arith) (λ w. n (omega arith)))))

  other_edges : (v : ℕ) → (v ≡ b → ⊥) → graph_of (recorded b e s).edges v ≡ graph_of s.edges v
  unfolding recorded
  other_edges v n = graph_more s.edges b e v ∙ ap (λ (t : Bool). graph_of s.edges v ++ cond t (e ∷ []) []) (ne_eqb b v (λ q. n (sym q))) ∙ append-nil (graph_of s.edges v)

  own_edges : graph_of (recorded b e s).edges b ≡ graph_of s.edges b ++ (e ∷ [])
  unfolding recorded
  own_edges = graph_more s.edges b e b ∙ ap (λ (t : Bool). graph_of s.edges b ++ cond t (e ∷ []) []) (eq-eqb b b refl)

  same_committed : (recorded b e s).committed ≡ s.committed
  unfolding recorded
  same_committed = refl

  new_shown : (x : ℕ) → In x (recorded b e s).candidates → In x (recorded b e s).known
  unfolding recorded
  new_shown x h = go (member e s.known) h
    where
      go : (t : Bool) → In x (cond t s.candidates (inserted e s.candidates)) → In x (e ∷ s.known)
      go true l = Memᴰ.tail (d.stand.shown x l)
      go false l = ⊎_elim (λ q. Memᴰ.head q) (λ n. Memᴰ.tail (d.stand.shown x n)) (put_only e x s.candidates l)

  pub mid_more : Mid row' m b first (k + 1) (recorded b e s)
  mid_more =
      record {
        stand = record {
          marks = new_marks;
          graph = λ v l h.
              graph_other row m b e first k sized hb he hk v (omega arith) (λ q. omega arith) (d.stand.fits v (low v l) h) ∙ d.stand.graph v (low v l) h ∙ sym (other_edges v (λ q. omega arith));
          fits = λ v l h.
              let f = cell_same row m b e first k sized hb he hk (3 * m + v) (λ q. omega arith) (λ q. omega arith) (λ q. omega arith) in
              let c = cell_same row m b e first k sized hb he hk (4 * m + v) (λ q. omega arith) (λ q. omega arith) (λ q. omega arith) in
              omega (arith, d.stand.fits v (low v l) h);
          shown = new_shown;
        };
        from = cell_same row m b e first k sized hb he hk (3 * m + b) (λ q. omega arith) (λ q. omega arith) (λ q. omega arith) ∙ d.from;
        many = count_new row m b e first k sized hb he hk;
        upto = (let u = d.upto in omega arith);
        here = graph_here row m b e first k sized hb he hk d.from d.many d.upto ∙ ap (λ (l : List ℕ). l ++ (e ∷ [])) d.here ∙ sym own_edges;
      }
    where
      low : (v : ℕ) → (recorded b e s).committed ≤ v → s.committed ≤ v
      low v l = omega (arith, same_committed)

  new_left : (p : Progress) → Counts p s → (progress_after row m e p).left ≡ length (recorded b e s).candidates
  unfolding recorded progress_after
  new_left p c = go (eqb (get_or row (5 * m + e) 0) 0) (member e s.known) refl (d.stand.marks e he)
    where
      go : (t u : Bool) → member e s.known ≡ u → u ≡ not t → cond t (p.left + 1) p.left ≡ length (cond u s.candidates (inserted e s.candidates))
      go true true x y = absurd (let z : ◌≡◌ {A = ℕ} 0 1 = cc in omega arith)
      go true false x y = omega (arith, c.left, put_size e s.candidates (λ i. not_in e s.known x (d.stand.shown e i)))
      go false true x y = c.left
      go false false x y = absurd (let z : ◌≡◌ {A = ℕ} 0 1 = cc in omega arith)

  pub counts_more : (p : Progress) → Counts p s → Counts (progress_after row m e p) (recorded b e s)
  unfolding progress_after
  counts_more p c =
      record { edges = omega (arith, c.edges, edges_more); left = new_left p c; total = omega (arith, c.total, count_more) }
    where
      edges_more : length (recorded b e s).edges ≡ length s.edges + 1
      edges_more = one_more b e s

      count_more : (recorded b e s).count ≡ suc s.count
      count_more = one_counted b e s

-- what an edge leaves alone
pub alone_more : (row : List ℕ) (m b e first k : ℕ) → Sized row m → b < m → e < m → k < m + 50 → Alone row (row_after row m b e first k) m b
alone_more row m b e first k sized hb he hk =
    record {
      low = low_same row m b e first k sized hb he hk;
      others = λ i u v n l. cell_same row m b e first k sized hb he hk i (λ q. omega arith) l (λ q. omega arith);
      flags = flags_same row m b e first k sized hb he hk;
    }
