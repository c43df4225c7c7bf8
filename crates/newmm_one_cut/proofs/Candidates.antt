-- Steps 2 and 4 of a round, where candidates are left. Assumes nothing.
use Prim.Native.Nat.{ℕ, suc, ◌+◌, ◌*◌, ◌-◌, ◌≤◌, ◌<◌}
use native.Mathlib.Omega.{arith}
use native.Mathlib.Decide.{dec_lt}
use mathlib.Core.Path.{◌≡◌, refl, sym, ◌∙◌, ap, subst}
use mathlib.Core.Bool.{Bool, true, false, not}
use mathlib.Core.List.Memᴰ
use mathlib.Core.List.{List, [], ◌∷◌, ◌++◌, head-eq_of_cons-eq, tail-eq_of_cons-eq}
use lib.ListN.{length, get_or, take, drop, length-append}
use lib.Dec.{eqb}
use borrow.Author.Tests.{eq-eqb, ne_eqb, eqb-true, eqb-false}
use Rattle.newmm_rules.specs.Positions.{any, member, In, Rises, none, next}
use Rattle.newmm_rules.specs.Words.{Given}
use Rattle.newmm_rules.specs.Search.{path_to}
use Rattle.newmm_rules.specs.Cutting.{State, graph_of, commit, settled, turns}
use Rattle.newmm_rules.proofs.Positions.{at_least, member_in, in_member, not_in}
use Rattle.newmm_rules.proofs.Spans.{word_spans}
use Rattle.newmm_rules.proofs.Search.{Reach}
use Rattle.newmm_rules.proofs.Edges.{edge_recorded}
use Rattle.newmm_rules.proofs.Turns.{Turned}
use Rattle.newmm_bfs.specs.inner.Strips.{graph_in, Edges, Leads, Start, Path}
use Rattle.newmm_bfs.proofs.Strips.{above_same, drop_same, graph_length, graph_cell}
use Rattle.newmm_bfs.proofs.Same.{path_same}
use Rattle.newmm_bfs.proofs.Found.{led}
use Rattle.newmm_word_step.specs.inner.Walks.{given_by}
use Rattle.newmm_edges.specs.declared.Progress.{Progress}
use Rattle.newmm_one_cut.specs.inner.Strips.{NextIs, FirstEdge, OneLeft}
use Rattle.newmm_one_cut.proofs.OneEdge.{cell_in, first_edge, next_one}
use Rattle.newmm_one_cut.proofs.Rounds.{Round, Recorded}

rises_first : {low x : ℕ} {xs : List ℕ} → Rises low (x ∷ xs) → Rises x (x ∷ xs)
rises_first (next {x = x} l r) = next {low = x} {x = x} (omega arith) r

-- what is known already changes no test
member_again : (x y : ℕ) (l : List ℕ) → In y l → member x (y ∷ l) ≡ member x l
unfolding any
member_again x y l i = go (eqb x y) refl
  where
    go : (t : Bool) → eqb x y ≡ t → member x (y ∷ l) ≡ member x l
    go true e = simp e (sym (ap (λ (z : ℕ). member z l) (eqb-true x y e) ∙ in_member y l i))
    go false e = simp e

module _ {text pool row : List ℕ} {m b committed ends : ℕ} {q : Progress} (a : Recorded text pool row m b committed ends q) where
  abbrev g : Given
  g = given_by text pool

  abbrev s₁ : State
  s₁ = a.s

  module _ {c₁ : ℕ} {cs₁ : List ℕ} (are : s₁.candidates ≡ c₁ ∷ cs₁) where
    first_in : In c₁ s₁.candidates
    first_in = subst (λ (l : List ℕ). In c₁ l) (sym are) (Memᴰ.head refl)

    first_above : b < c₁
    first_above = at_least a.placing.handled.rises first_in

    first_inside : c₁ < m
    first_inside = omega (arith, a.placing.handled.inside c₁ first_in, a.size_is)

    marked_known : (x : ℕ) → x < m → (get_or row (5 * m + x) 0 ≡ 0 → ⊥) → In x s₁.known
    marked_known x h n = member_in x s₁.known (a.stand.marks x h ∙ ap not (ne_eqb (get_or row (5 * m + x) 0) 0 n))

    known_marked : (x : ℕ) → x < m → In x s₁.known → get_or row (5 * m + x) 0 ≡ 0 → ⊥
    known_marked x h i z =
        let e : not (eqb (get_or row (5 * m + x) 0) 0) ≡ false = ap not (eq-eqb (get_or row (5 * m + x) 0) 0 z) in
        not_in x s₁.known (a.stand.marks x h ∙ e) i

    first_least : (x : ℕ) → b < x → In x s₁.known → c₁ ≤ x
    first_least x l i = at_least (rises_first (subst (λ (l : List ℕ). Rises (suc b) l) are a.placing.handled.rises)) (subst (λ (l : List ℕ). In x l) are (a.placing.handled.left x i l))

    next_is : NextIs row m b c₁
    next_is =
        let fi = first_inside in
        record {
          above = first_above;
          upto = omega arith;
          none = λ x l h. unmarked_at x l h (eqb (get_or row (5 * m + x) 0) 0) refl;
          found = λ h. known_marked c₁ fi (a.stand.shown c₁ first_in);
        }
      where
        unmarked_at : (x : ℕ) → b < x → x < c₁ → (t : Bool) → eqb (get_or row (5 * m + x) 0) 0 ≡ t → get_or row (5 * m + x) 0 ≡ 0
        unmarked_at x l h true e = eqb-true (get_or row (5 * m + x) 0) 0 e
        unmarked_at x l h false e =
            let fi = first_inside in
            let f = first_least x l (marked_known x (omega arith) (eqb-false (get_or row (5 * m + x) 0) 0 e)) in
            absurd (omega arith)

    least_is : {c : ℕ} → NextIs row m b c → c ≡ c₁
    least_is nx = next_one nx next_is first_inside

    -- the edges of the places up to c
    no_edges_past : (v : ℕ) → b < v → graph_of s₁.edges v ≡ []
    no_edges_past v h = go (graph_of s₁.edges v) refl
      where
        go : (l : List ℕ) → l ≡ graph_of s₁.edges v → l ≡ []
        go [] e = refl
        go (y ∷ l) e =
            let st = a.placing.handled.edges v y (edge_recorded v y s₁.edges (subst (λ (k : List ℕ). In y k) e (Memᴰ.head refl))) in
            absurd (omega (arith, st.before))

    graph_past : (v : ℕ) → b < v → v < m → graph_in row m v ≡ []
    unfolding graph_in
    graph_past v l h = ap (λ (k : ℕ). take k (drop (7 * m + get_or row (3 * m + v) 0) row)) (a.counts v l h)

    graph_all : (v : ℕ) → s₁.committed ≤ v → v < m → graph_in row m v ≡ graph_of s₁.edges v
    graph_all v l h =
        elim (dec_lt b v) [ yes o ↦ graph_past v o h ∙ sym (no_edges_past v o) | no n ↦ a.stand.graph v l (omega arith) ]

    fits_all : (v : ℕ) → s₁.committed ≤ v → v < m → get_or row (3 * m + v) 0 + get_or row (4 * m + v) 0 ≤ q.edges
    fits_all v l h =
        elim (dec_lt b v) [ yes o ↦ omega (arith, a.firsts v o h, a.counts v o h) | no n ↦ a.stand.fits v l (omega arith) ]

    -- step 4: otherwise go on
    module _ {d : ℕ} {ds : List ℕ} (two : cs₁ ≡ d ∷ ds) where
      settled₄ : settled g b s₁.candidates s₁ ≡ s₁
      unfolding settled
      settled₄ = ap (λ (l : List ℕ). settled g b l s₁) (are ∙ ap (λ (l : List ℕ). c₁ ∷ l) two)

      turned₄ : Turned g b s₁
      turned₄ = subst (λ (x : State). Turned g b x) settled₄ a.to

      go_round : Round text pool row m c₁ committed ends (record { edges = q.edges; left = q.left - 1; total = q.total })
      go_round =
          let fa = first_above in let fi = first_inside in
          record {
            size_is = a.size_is;
            sized = a.sized;
            exact = a.exact;
            root_is = a.root_is;
            flags_are = a.flags_are;
            s = s₁;
            between = turned₄.between;
            k = a.k;
            enough = omega (arith, a.enough);
            rest = a.rest ∙ ap (λ (x : State). turns a.k g x) settled₄;
            b_is = head-eq_of_cons-eq (sym are ∙ turned₄.between.is);
            committed_is = a.committed_is;
            stand = record { marks = a.stand.marks; graph = λ v l h. graph_all v l (omega arith); fits = λ v l h. fits_all v l (omega arith); shown = a.stand.shown };
            edges_is = a.numbers.edges;
            left_is = omega (arith, a.numbers.left, ap length are, ap length (tail-eq_of_cons-eq (sym are ∙ turned₄.between.is)));
            total_is = a.numbers.total;
            ends_is = a.ends_is;
            ends_are = a.ends_are;
            unmarked = a.unmarked;
            firsts = λ v l h. a.firsts v (omega arith) h;
            counts = λ v l h. a.counts v (omega arith) h;
          }

    -- step 2: exactly one candidate left
    module _ (one : cs₁ ≡ []) where
      only : s₁.candidates ≡ c₁ ∷ []
      only = are ∙ ap (λ (l : List ℕ). c₁ ∷ l) one

      known_low : (y : ℕ) → In y s₁.known → y ≤ c₁
      known_low y i =
          elim (dec_lt b y) [
            | yes o ↦ (let e : y ≡ c₁ = Memᴰ.eq_of_singleton (subst (λ (l : List ℕ). In y l) only (a.placing.handled.left y i o)) in omega arith)
            | no n ↦ (let f = first_above in omega arith)
          ]

      spans_edge : (v y : ℕ) → In y (graph_of s₁.edges v) → (s₁.committed ≤ v) × (v < y) × (y ≤ c₁)
      spans_edge v y i =
          let st = a.placing.handled.edges v y (edge_recorded v y s₁.edges i) in
          (st.after, (word_spans g v y st.word).0, known_low y st.known)

      edges_of : (v : ℕ) → committed ≤ v → v < c₁ → Edges row m c₁ v
      edges_of v l h =
          let fi = first_inside in
          let lo : s₁.committed ≤ v = omega (arith, a.committed_is) in
          let ft = fits_all v lo (omega arith) in
          let gs : length (graph_in row m v) ≡ get_or row (4 * m + v) 0 = graph_size v (omega (arith, a.edges_few, a.exact)) in
          record {
            fits = omega (arith, a.edges_few, a.exact);
            on = λ j k.
                let sp = spans_edge v (get_or row (7 * m + get_or row (3 * m + v) 0 + j) 0)
                (subst (λ (l : List ℕ). In (get_or row (7 * m + get_or row (3 * m + v) 0 + j) 0) l) (graph_all v lo (omega arith))
                (subst (λ (x : ℕ). In x (graph_in row m v)) (graph_at v j k) (cell_in (graph_in row m v) j (omega arith))))
                in
                (sp.1, sp.2);
          }
        where
          graph_size : (v : ℕ) → 7 * m + get_or row (3 * m + v) 0 + get_or row (4 * m + v) 0 ≤ length row → length (graph_in row m v) ≡ get_or row (4 * m + v) 0
          graph_size v h = graph_length row m v h

          graph_at : (v j : ℕ) → j < get_or row (4 * m + v) 0 → get_or (graph_in row m v) j 0 ≡ get_or row (7 * m + get_or row (3 * m + v) 0 + j) 0
          graph_at v j k = graph_cell row m v j k

      start_before : committed < c₁
      start_before = let l = a.committed_low in let f = first_above in omega arith

      abbrev path₂ : List ℕ
      path₂ = path_to (graph_of s₁.edges) s₁.committed c₁

      same_path : path_to (graph_in row m) committed c₁ ≡ path₂
      same_path =
          let fi = first_inside in
          path_same (graph_in row m) (graph_of s₁.edges) committed c₁ (λ v l h. graph_all v (omega (arith, a.committed_is)) (omega arith))
          (λ v y l h i.
          let sp = spans_edge v y (subst (λ (k : List ℕ). In y k) (graph_all v (omega (arith, a.committed_is)) (omega arith)) i) in
          (omega (arith, sp.1), sp.2))
          start_before
          ∙ ap (λ (x : ℕ). path_to (graph_of s₁.edges) x c₁) a.committed_is

      -- edges lead from the committed end to the candidate, so the search can't fail
      leads : Leads (graph_in row m) committed c₁ c₁
      leads =
          let fi = first_inside in
          subst (λ (v : ℕ). Leads (graph_in row m) v c₁ c₁) (sym a.committed_is)
          (led (graph_of s₁.edges) (graph_in row m) s₁.committed c₁
          (λ v y i.
          let sp = spans_edge v y i in
          let h : v < c₁ = omega (arith, sp.1, sp.2) in
          (h, subst (λ (l : List ℕ). In y l) (sym (graph_all v sp.0 (omega arith))) i))
          (a.placing.handled.reach c₁ first_in))

      start_at : Start row m committed c₁
      start_at =
          record {
            sized = a.sized;
            order = start_before;
            inside = first_inside;
            edges = edges_of;
            fresh = a.unmarked;
            way = leads;
          }

      -- where no place but b has edges, its first one leads to the candidate
      edge_at : b ≡ committed → FirstEdge row m committed c₁
      edge_at e =
          let fi = first_inside in let fa = first_above in
          let same : s₁.committed ≡ b = sym a.committed_is ∙ sym e in
          let lo : s₁.committed ≤ b = omega arith in
          subst (λ (v : ℕ). FirstEdge row m v c₁) e
          (first_edge s₁.edges b c₁
          (λ x y i. let st = a.placing.handled.edges x y i in omega (arith, st.after, st.before))
          (λ y i.
          let sp = spans_edge b y i in
          let st = a.placing.handled.edges b y (edge_recorded b y s₁.edges i) in
          let f = first_least y sp.1 st.known in
          omega (arith, sp.2))
          (subst (λ (v : ℕ). Reach (graph_of s₁.edges) v c₁) same (a.placing.handled.reach c₁ first_in))
          first_above
          row m (graph_all b lo (omega arith))
          (omega (arith, fits_all b lo (omega arith), a.numbers.edges))
          (omega (arith, a.edges_few, a.numbers.edges, a.exact)))

      left_at : OneLeft row m committed b ends
      left_at = record { goal = c₁; next = next_is; start = start_at; edge = edge_at; few = a.ends_few }

      abbrev s₂ : State
      s₂ = commit path₂ c₁ s₁

      settled₂ : settled g b s₁.candidates s₁ ≡ s₂
      unfolding settled
      settled₂ = ap (λ (l : List ℕ). settled g b l s₁) only

      turned₂ : Turned g b s₂
      turned₂ = subst (λ (x : State). Turned g b x) settled₂ a.to

      path_round : (row' : List ℕ) (e : ℕ) → length row' ≡ length row → Path row row' m committed c₁ ends e → Round text pool row' m c₁ c₁ e (record { edges = 0; left = 0; total = q.total })
      path_round row' e sz pa =
          let fa = first_above in let fi = first_inside in let cl = a.committed_low in
          record {
            size_is = a.size_is;
            sized = record { small = a.sized.small; long = omega (arith, sz, a.sized.long) };
            exact = sz ∙ a.exact;
            root_is = a.root_is;
            flags_are = ap (take (7 * m - 6 * m)) (drop_same row row' m pa.high (6 * m) (omega arith)) ∙ a.flags_are;
            s = s₂;
            between = turned₂.between;
            k = a.k;
            enough = omega (arith, a.enough);
            rest = a.rest ∙ ap (λ (x : State). turns a.k g x) settled₂;
            b_is = head-eq_of_cons-eq turned₂.between.is;
            committed_is = refl;
            stand = record {
              marks = λ x h. marks₂ x h ∙ ap (λ (y : ℕ). not (eqb y 0)) (sym (above_same row row' m pa.high (5 * m + x) (omega arith)));
              graph = λ v l h. absurd (omega arith);
              fits = λ v l h. absurd (omega arith);
              shown = λ x i. Memᴰ.head (Memᴰ.eq_of_singleton i);
            };
            edges_is = refl;
            left_is = ap length (tail-eq_of_cons-eq turned₂.between.is);
            total_is = a.numbers.total;
            ends_is = omega (arith, pa.number, ap length same_path, a.ends_is, length-append s₁.ends path₂);
            ends_are = pa.ends ∙ ap (λ (l : List ℕ). l ++ path_to (graph_in row m) committed c₁) a.ends_are ∙ ap (λ (l : List ℕ). s₁.ends ++ l) same_path;
            unmarked = pa.later;
            firsts = λ v l h. above_same row row' m pa.high (3 * m + v) (omega arith) ∙ a.firsts v (omega arith) h;
            counts = λ v l h. above_same row row' m pa.high (4 * m + v) (omega arith) ∙ a.counts v (omega arith) h;
          }
        where
          marks₂ : (x : ℕ) → x < m → member x (c₁ ∷ s₁.known) ≡ not (eqb (get_or row (5 * m + x) 0) 0)
          marks₂ x h = member_again x c₁ s₁.known (a.stand.shown c₁ first_in) ∙ a.stand.marks x h

  -- ---- by the number of candidates left

  one_by : (l : List ℕ) → s₁.candidates ≡ l → length l ≡ 1 → (c₁ : ℕ) × (s₁.candidates ≡ c₁ ∷ [])
  one_by [] e n = absurd (omega arith)
  one_by (c₁ ∷ []) e n = (c₁, e)
  one_by (c₁ ∷ d ∷ ds) e n = absurd (omega arith)

  module _ (one_left : q.left ≡ 1) where
    sole : (c₁ : ℕ) × (s₁.candidates ≡ c₁ ∷ [])
    sole = one_by s₁.candidates refl (sym a.numbers.left ∙ one_left)

    pub path_asks : OneLeft row m committed b ends
    path_asks = left_at sole.1 refl

    pub round_one : {c : ℕ} → NextIs row m b c → (row' : List ℕ) (e : ℕ) → length row' ≡ length row → Path row row' m committed c ends e
        → Round text pool row' m c c e (record { edges = 0; left = 0; total = q.total })
    round_one nx row' e sz pa =
        let i = least_is sole.1 nx in
        subst (λ (x : ℕ). Round text pool row' m x x e (record { edges = 0; left = 0; total = q.total })) (sym i)
        (path_round sole.1 refl row' e sz (subst (λ (x : ℕ). Path row row' m committed x ends e) i pa))

  pub round_more : {c : ℕ} → NextIs row m b c → (q.left ≡ 0 → ⊥) → (q.left ≡ 1 → ⊥) → Round text pool row m c committed ends (record { edges = q.edges; left = q.left - 1; total = q.total })
  round_more {c} nx n o = go s₁.candidates refl
    where
      go : (l : List ℕ) → s₁.candidates ≡ l → Round text pool row m c committed ends (record { edges = q.edges; left = q.left - 1; total = q.total })
      go [] e = absurd (n (a.numbers.left ∙ ap length e))
      go (c₁ ∷ []) e = absurd (o (a.numbers.left ∙ ap length e))
      go (c₁ ∷ d ∷ ds) e =
          subst (λ (x : ℕ). Round text pool row m x committed ends (record { edges = q.edges; left = q.left - 1; total = q.total })) (sym (least_is e nx)) (go_round e refl)
