-- The graph that recorded edges make, and how many edges stand. Assumes nothing.
use Prim.Native.Nat.{ℕ, suc, ◌+◌, ◌≤◌}
use native.Mathlib.Omega.{arith}
use mathlib.Core.Path.{◌≡◌, refl, sym, ap}
use mathlib.Core.Bool.{Bool, true, false, cond}
use mathlib.Core.Logic.{◌⊎◌, inl, inr, ⊎_elim}
use mathlib.Core.List.Memᴰ
use mathlib.Core.List.{List, [], ◌∷◌, ◌++◌}
use lib.ListN.{length, length-append}
use lib.Dec.{eqb, ltb}
use borrow.Author.Tests.{eqb-true, eqb-false, ltb-false}
use Rattle.newmm_rules.specs.Cutting.{Edge, State, recorded, recorded_all, graph_of}
use Rattle.newmm_rules.specs.Positions.{In}
use Rattle.newmm_rules.proofs.Search.{Reach, here, edge}

abbrev pub edge_of : ℕ → ℕ → Edge
edge_of x y = record { from = x; to = y }

module _ (x y : ℕ) where
  pub edge_recorded : (es : List Edge) → In y (graph_of es x) → In (edge_of x y) es
  unfolding graph_of
  edge_recorded [] m = absurd (Memᴰ.not-nil m)
  edge_recorded (e ∷ es) m = go (λ k. edge_recorded es k) (eqb e.from x) refl m
    where
      go : (In y (graph_of es x) → In (edge_of x y) es) → (t : Bool) → eqb e.from x ≡ t → In y (cond t (e.to ∷ graph_of es x) (graph_of es x)) → In (edge_of x y) (e ∷ es)
      go ih true h k =
          ⊎_elim (λ q. Memᴰ.head (λ i. record { from = sym (eqb-true e.from x h) i; to = q i })) (λ l. Memᴰ.tail (ih l)) (Memᴰ.cases_cons k)
      go ih false h k = Memᴰ.tail (ih k)

  pub in_graph : (es : List Edge) → In (edge_of x y) es → In y (graph_of es x)
  unfolding graph_of
  in_graph [] m = absurd (Memᴰ.not-nil m)
  in_graph (e ∷ es) m = go (λ k. in_graph es k) (eqb e.from x) refl (Memᴰ.cases_cons m)
    where
      go : (In (edge_of x y) es → In y (graph_of es x)) → (t : Bool) → eqb e.from x ≡ t → (edge_of x y ≡ e) ⊎ In (edge_of x y) es
          → In y (cond t (e.to ∷ graph_of es x) (graph_of es x))
      go ih true h (inl q) = Memᴰ.head (ap (λ (d : Edge). d.to) q)
      go ih true h (inr k) = Memᴰ.tail (ih k)
      go ih false h (inl q) = absurd (eqb-false e.from x h (sym (ap (λ (d : Edge). d.from) q)))
      go ih false h (inr k) = ih k

-- edges recorded later take no way away
pub reach_more : (es ds : List Edge) → {a z : ℕ} → Reach (graph_of es) a z → Reach (graph_of (es ++ ds)) a z
reach_more es ds here = here
reach_more es ds (edge {x = x} {z = z} r m) = edge (reach_more es ds r) (in_graph x z (es ++ ds) (Memᴰ.append_left ds (edge_recorded x z es m)))

-- an edge more at the end
pub graph_more : (es : List Edge) (b e v : ℕ) → graph_of (es ++ (edge_of b e ∷ [])) v ≡ graph_of es v ++ cond (eqb b v) (e ∷ []) []
unfolding graph_of
graph_more [] b e v = refl
graph_more (d ∷ es) b e v = go (eqb d.from v) (graph_more es b e v)
  where
    go : (t : Bool) → graph_of (es ++ (edge_of b e ∷ [])) v ≡ graph_of es v ++ cond (eqb b v) (e ∷ []) []
        → cond t (d.to ∷ graph_of (es ++ (edge_of b e ∷ [])) v) (graph_of (es ++ (edge_of b e ∷ [])) v) ≡ cond t (d.to ∷ graph_of es v) (graph_of es v) ++ cond (eqb b v) (e ∷ []) []
    go true ih = ap (λ (l : List ℕ). d.to ∷ l) ih
    go false ih = ih

-- ---- how many edges stand

pub one_more : (b e : ℕ) (s : State) → length (recorded b e s).edges ≡ length s.edges + 1
unfolding recorded
one_more b e s = length-append s.edges (edge_of b e ∷ [])

pub one_counted : (b e : ℕ) (s : State) → (recorded b e s).count ≡ suc s.count
unfolding recorded
one_counted b e s = refl

-- AT MOST 50 + v EDGES STAND after v starting places: one place more adds as many as fit under 51,
-- and one in any case.
pub few_stand : (b v : ℕ) (es : List ℕ) (s : State) → length s.edges ≤ 50 + v → length (recorded_all b es s).edges ≤ 50 + (v + 1)
unfolding recorded_all
few_stand b v [] s h = omega arith
few_stand b v (e ∷ es) s h = go (λ k. few_stand b v es (recorded b e s) k) (ltb 50 (length (recorded b e s).edges)) refl
  where
    go : (length (recorded b e s).edges ≤ 50 + v → length (recorded_all b es (recorded b e s)).edges ≤ 50 + (v + 1)) → (t : Bool) → ltb 50 (length (recorded b e s).edges) ≡ t
        → length (cond t (recorded b e s) (recorded_all b es (recorded b e s))).edges ≤ 50 + (v + 1)
    go ih true q = omega (arith, one_more b e s)
    go ih false q = ih (omega (arith, ltb-false 50 (length (recorded b e s).edges) q))

-- each recorded edge is counted once
pub each_counted : (b : ℕ) (es : List ℕ) (s : State) → (recorded_all b es s).count + length s.edges ≡ s.count + length (recorded_all b es s).edges
unfolding recorded_all
each_counted b [] s = refl
each_counted b (e ∷ es) s = go (each_counted b es (recorded b e s)) (ltb 50 (length (recorded b e s).edges))
  where
    go : (recorded_all b es (recorded b e s)).count + length (recorded b e s).edges ≡ (recorded b e s).count + length (recorded_all b es (recorded b e s)).edges → (t : Bool)
        → (cond t (recorded b e s) (recorded_all b es (recorded b e s))).count + length s.edges ≡ s.count + length (cond t (recorded b e s) (recorded_all b es (recorded b e s))).edges
    go ih true = omega (arith, one_more b e s, one_counted b e s)
    go ih false = omega (arith, one_more b e s, one_counted b e s)
