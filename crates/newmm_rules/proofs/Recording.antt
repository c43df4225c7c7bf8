-- Step 1: what recording the words at a place comes to. Assumes nothing.
use Prim.Native.Nat.{ℕ, suc, ◌+◌, ◌≤◌, ◌<◌}
use native.Mathlib.Omega.{arith}
use mathlib.Core.Path.{◌≡◌, refl, sym, ◌∙◌, ap, subst}
use mathlib.Core.Bool.{Bool, true, false, cond}
use mathlib.Core.Logic.{◌⊎◌, inr, ⊎_elim}
use mathlib.Core.List.Memᴰ
use mathlib.Core.List.{List, [], ◌∷◌, ◌++◌}
use lib.ListN.{length}
use lib.Dec.{ltb}
use Rattle.newmm_rules.specs.Positions.{member, inserted, In, Rises, none}
use Rattle.newmm_rules.specs.Words.{Given, size, word_ends}
use Rattle.newmm_rules.specs.Cutting.{Edge, State, recorded, recorded_all, graph_of}
use Rattle.newmm_rules.proofs.Positions.{member_in, put_rises, put_in, put_keeps, put_only}
use Rattle.newmm_rules.proofs.Spans.{word_spans}
use Rattle.newmm_rules.proofs.Search.{Reach, here, edge}
use Rattle.newmm_rules.proofs.Edges.{edge_of, in_graph, reach_more}

-- an edge that stands leads from a place below low, at or above the committed end, along a word
-- that ends at a cluster end
pub record Stands (g : Given) (low : ℕ) (s : State) (x y : ℕ) : Type 0 where
  pub after : s.committed ≤ x
  pub before : x < low
  pub word : In y (word_ends g x)
  pub known : In y s.known

-- The places below low are handled: the candidates left lie at or above it, are all of those there
-- that ever were candidates, and edges lead to each from the committed end.
pub record Handled (g : Given) (low : ℕ) (s : State) : Type 0 where
  pub rises : Rises low s.candidates
  pub inside : (x : ℕ) → In x s.candidates → x ≤ size g
  pub left : (x : ℕ) → In x s.known → low ≤ x → In x s.candidates
  pub reach : (x : ℕ) → In x s.candidates → Reach (graph_of s.edges) s.committed x
  pub edges : (x y : ℕ) → In (edge_of x y) s.edges → Stands g low s x y

-- while the words at b are recorded
pub record Placing (g : Given) (b : ℕ) (s : State) : Type 0 where
  pub handled : Handled g (suc b) s
  pub here : Reach (graph_of s.edges) s.committed b
  pub order : s.committed ≤ b

module _ (g : Given) (b e : ℕ) (s : State) (w : In e (word_ends g b)) (p : Placing g b s) where
  abbrev ds : List Edge
  ds = edge_of b e ∷ []

  new_rises : Rises (suc b) (recorded b e s).candidates
  unfolding recorded
  new_rises = go (member e s.known)
    where
      go : (t : Bool) → Rises (suc b) (cond t s.candidates (inserted e s.candidates))
      go true = p.handled.rises
      go false = put_rises e (word_spans g b e w).0 p.handled.rises

  new_inside : (x : ℕ) → In x (recorded b e s).candidates → x ≤ size g
  unfolding recorded
  new_inside x m = go (member e s.known) m
    where
      go : (t : Bool) → In x (cond t s.candidates (inserted e s.candidates)) → x ≤ size g
      go true k = p.handled.inside x k
      go false k = ⊎_elim (λ q. omega (arith, (word_spans g b e w).1)) (λ l. p.handled.inside x l) (put_only e x s.candidates k)

  -- the candidates stay, and the word's end is among them
  new_keeps : (x : ℕ) → In x s.candidates → In x (recorded b e s).candidates
  unfolding recorded
  new_keeps x m = go (member e s.known)
    where
      go : (t : Bool) → In x (cond t s.candidates (inserted e s.candidates))
      go true = m
      go false = put_keeps e x s.candidates m

  new_in : In e (recorded b e s).candidates
  unfolding recorded
  new_in = go (member e s.known) refl
    where
      go : (t : Bool) → member e s.known ≡ t → In e (cond t s.candidates (inserted e s.candidates))
      go true q = p.handled.left e (member_in e s.known q) (word_spans g b e w).0
      go false q = put_in e s.candidates

  new_only : (x : ℕ) → In x (recorded b e s).candidates → (x ≡ e) ⊎ In x s.candidates
  unfolding recorded
  new_only x m = go (member e s.known) m
    where
      go : (t : Bool) → In x (cond t s.candidates (inserted e s.candidates)) → (x ≡ e) ⊎ In x s.candidates
      go true k = inr k
      go false k = put_only e x s.candidates k

  new_here : Reach (graph_of (recorded b e s).edges) s.committed b
  unfolding recorded
  new_here = reach_more s.edges ds p.here

  new_reach : (x : ℕ) → In x (recorded b e s).candidates → Reach (graph_of (recorded b e s).edges) s.committed x
  unfolding recorded
  new_reach x m =
      ⊎_elim
      (λ q. subst (λ (z : ℕ). Reach (graph_of (s.edges ++ ds)) s.committed z) (sym q)
      (edge new_here (in_graph b e (s.edges ++ ds) (Memᴰ.append_right s.edges (Memᴰ.head refl)))))
      (λ k. reach_more s.edges ds (p.handled.reach x k)) (new_only x m)

  new_edges : (x y : ℕ) → In (edge_of x y) (recorded b e s).edges → Stands g (suc b) (recorded b e s) x y
  unfolding recorded
  new_edges x y m = ⊎_elim (λ k. old (p.handled.edges x y k)) (λ k. new (Memᴰ.eq_of_singleton k)) (Memᴰ.append_cases s.edges m)
    where
      old : Stands g (suc b) s x y → Stands g (suc b) (recorded b e s) x y
      old h = record { after = h.after; before = h.before; word = h.word; known = Memᴰ.tail h.known }

      new : edge_of x y ≡ edge_of b e → Stands g (suc b) (recorded b e s) x y
      new q =
          let f : x ≡ b = ap (λ (d : Edge). d.from) q in
          let t : y ≡ e = ap (λ (d : Edge). d.to) q in
          record {
            after = (let o = p.order in omega arith);
            before = omega arith;
            word = Memᴰ.cast t (subst (λ (z : ℕ). In e (word_ends g z)) (sym f) w);
            known = Memᴰ.head t;
          }

  new_placing : Placing g b (recorded b e s)
  unfolding recorded
  new_placing =
      record {
        handled = record {
          rises = new_rises;
          inside = new_inside;
          left = λ x m h. ⊎_elim (λ q. Memᴰ.cast q new_in) (λ k. new_keeps x (p.handled.left x k h)) (Memᴰ.cases_cons m);
          reach = new_reach;
          edges = new_edges;
        };
        here = new_here;
        order = p.order;
      }

-- the words at b recorded: the candidates stay, and none is left only where there were none and no
-- word was there
pub record Placed (g : Given) (b : ℕ) (ws : List ℕ) (s s' : State) : Type 0 where
  pub placing : Placing g b s'
  pub keeps : (x : ℕ) → In x s.candidates → In x s'.candidates
  pub some : (e : ℕ) → In e ws → (x : ℕ) × In x s'.candidates
  pub committed : s'.committed ≡ s.committed
  pub ends : s'.ends ≡ s.ends

same_committed : (b e : ℕ) (s : State) → (recorded b e s).committed ≡ s.committed
unfolding recorded
same_committed b e s = refl

same_ends : (b e : ℕ) (s : State) → (recorded b e s).ends ≡ s.ends
unfolding recorded
same_ends b e s = refl

pub placed : (g : Given) (b : ℕ) (ws : List ℕ) (s : State) → ((e : ℕ) → In e ws → In e (word_ends g b)) → Placing g b s → Placed g b ws s (recorded_all b ws s)
unfolding recorded_all
placed g b [] s all p = record { placing = p; keeps = λ x m. m; some = λ e m. absurd (Memᴰ.not-nil m); committed = refl; ends = refl }
placed g b (e ∷ ws) s all p =
    go (placed g b ws (recorded b e s) (λ x m. all x (Memᴰ.tail m)) new) (ltb 50 (length (recorded b e s).edges))
  where
    w : In e (word_ends g b)
    w = all e (Memᴰ.head refl)

    new : Placing g b (recorded b e s)
    new = new_placing g b e s w p

    go : Placed g b ws (recorded b e s) (recorded_all b ws (recorded b e s)) → (t : Bool) → Placed g b (e ∷ ws) s (cond t (recorded b e s) (recorded_all b ws (recorded b e s)))
    go ih true =
        record { placing = new; keeps = new_keeps g b e s w p; some = λ x m. (e, new_in g b e s w p); committed = same_committed b e s; ends = same_ends b e s }
    go ih false =
        record {
          placing = ih.placing;
          keeps = λ x m. ih.keeps x (new_keeps g b e s w p x m);
          some = λ x m. (e, ih.keeps e (new_in g b e s w p));
          committed = ih.committed ∙ same_committed b e s;
          ends = ih.ends ∙ same_ends b e s;
        }
