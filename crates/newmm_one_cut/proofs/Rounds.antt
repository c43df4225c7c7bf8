-- What holds between rounds of the loop, and what holds behind step 1 of a round. Assumes nothing.
use Prim.Native.Nat.{ℕ, zero, suc, ◌+◌, ◌*◌, ◌-◌, ◌≤◌, ◌<◌}
use native.Mathlib.Omega.{arith}
use mathlib.Core.Path.{◌≡◌, refl, sym, ◌∙◌, ap, subst}
use mathlib.Core.List.Memᴰ
use mathlib.Core.List.{List, [], ◌∷◌}
use lib.ListN.{length, get_or, take, drop}
use lib.Seq.{take-take, get_or-take}
use Rattle.newmm_rules.specs.Positions.{In, Rises, none, next}
use Rattle.newmm_rules.specs.Words.{Given, size, word_ends}
use Rattle.newmm_rules.specs.Cutting.{State, begin, graph_of, settled, taken_out, step1, turn, turns}
use Rattle.newmm_rules.proofs.Edges.{edge_recorded, few_stand}
use Rattle.newmm_rules.proofs.Tokens.{few_tokens}
use Rattle.newmm_rules.proofs.Recording.{Placing}
use Rattle.newmm_rules.proofs.Turns.{Between, Turned, At, turn_at}
use Rattle.newmm_bfs.specs.inner.Strips.{Sized, before}
use Rattle.tcc.specs.Flags.{end_flags}
use Rattle.trie_pool.specs.inner.Sound.{Readable}
use Rattle.newmm_word_step.specs.inner.Walks.{given_by}
use Rattle.newmm_edges.specs.declared.Progress.{Progress}
use Rattle.newmm_edges.specs.inner.Recording.{StandFor, Counts, Here, Alone, After, RecordsAll}

-- the strips stand for the state s of the definition, whose least candidate is b
pub record Round (text pool row : List ℕ) (m b committed ends : ℕ) (p : Progress) : Type 0 where
  pub size_is : m ≡ length text + 1
  pub sized : Sized row m
  pub exact : length row ≡ 8 * m + 50
  pub root_is : Readable pool 0
  pub flags_are : take (7 * m - 6 * m) (drop (6 * m) row) ≡ end_flags text
  pub s : State
  pub between : Between (given_by text pool) s
  pub k : ℕ
  pub enough : length text ≤ b + k
  pub rest : turns (length text) (given_by text pool) begin ≡ turns k (given_by text pool) s
  pub b_is : b ≡ between.least
  pub committed_is : committed ≡ s.committed
  pub stand : StandFor row m b p.edges s
  pub edges_is : p.edges ≡ length s.edges
  pub left_is : p.left ≡ length between.rest
  pub total_is : p.total ≡ s.count
  pub ends_is : ends ≡ length s.ends
  pub ends_are : take ends row ≡ s.ends
  pub unmarked : (x : ℕ) → committed ≤ x → x < m → before row m x ≡ 0
  pub firsts : (v : ℕ) → b ≤ v → v < m → get_or row (3 * m + v) 0 ≡ 0
  pub counts : (v : ℕ) → b ≤ v → v < m → get_or row (4 * m + v) 0 ≡ 0

-- the words at b are recorded: the strips stand for the state s behind step 1 of a turn, and k
-- turns come after it
pub record Recorded (text pool row : List ℕ) (m b committed ends : ℕ) (q : Progress) : Type 0 where
  pub size_is : m ≡ length text + 1
  pub sized : Sized row m
  pub exact : length row ≡ 8 * m + 50
  pub root_is : Readable pool 0
  pub flags_are : take (7 * m - 6 * m) (drop (6 * m) row) ≡ end_flags text
  pub below : b < length text
  pub s : State
  pub placing : Placing (given_by text pool) b s
  pub to : Turned (given_by text pool) b (settled (given_by text pool) b s.candidates s)
  pub k : ℕ
  pub enough : length text ≤ b + 1 + k
  pub rest : turns (length text) (given_by text pool) begin ≡ turns k (given_by text pool) (settled (given_by text pool) b s.candidates s)
  pub committed_is : committed ≡ s.committed
  pub committed_low : committed ≤ b
  pub stand : StandFor row m (b + 1) q.edges s
  pub numbers : Counts q s
  pub edges_few : q.edges ≤ m + 50
  pub ends_is : ends ≡ length s.ends
  pub ends_are : take ends row ≡ s.ends
  pub ends_few : ends ≤ committed
  pub unmarked : (x : ℕ) → committed ≤ x → x < m → before row m x ≡ 0
  pub firsts : (v : ℕ) → b < v → v < m → get_or row (3 * m + v) 0 ≡ 0
  pub counts : (v : ℕ) → b < v → v < m → get_or row (4 * m + v) 0 ≡ 0

turns_suc : (k : ℕ) (g : Given) (s : State) → turns (suc k) g s ≡ turns k g (turn g s.candidates s)
unfolding turns
turns_suc k g s = refl

rises_few : {low : ℕ} {xs : List ℕ} (n : ℕ) → Rises low xs → ((x : ℕ) → In x xs → x ≤ n) → length xs ≤ suc n - low
rises_few n none h = omega arith
rises_few n (next {x = x} l r) h = let i = rises_few n r (λ y m. h y (Memᴰ.tail m)) in let j = h x (Memᴰ.head refl) in omega arith

module _ {text pool row : List ℕ} {m b committed ends : ℕ} {p : Progress} (r : Round text pool row m b committed ends p) where
  abbrev g : Given
  g = given_by text pool

  pub b_inside : b ≤ length text
  b_inside = omega (arith, r.b_is, r.between.handled.inside r.between.least (subst (λ (l : List ℕ). In r.between.least l) (sym r.between.is) (Memᴰ.head refl)))

  pub ends_few : ends ≤ committed
  ends_few = omega (arith, r.ends_is, r.committed_is, few_tokens r.between.tokens)

  pub committed_low : committed ≤ b
  committed_low = omega (arith, r.committed_is, r.b_is, r.between.order)

  rest_few : length r.between.rest ≤ length text + 1
  rest_few =
      let f = rises_few (length text) r.between.handled.rises r.between.handled.inside in
      omega (arith, f, ap length r.between.is)

  pub total_few : p.total ≤ 51 * length text
  total_few = omega (arith, r.total_is, r.between.total, r.b_is, b_inside)

  module _ (below : b < length text) where
    pub here : Here text pool row m b p
    here =
        record {
          sized = r.sized;
          size = r.size_is;
          inside = below;
          root_is = r.root_is;
          flags_are = r.flags_are;
          few = omega (arith, r.edges_is, r.between.few, r.b_is, r.between.order);
          left_few = omega (arith, r.left_is, rest_few, r.sized.small, r.size_is);
          total_few = omega (arith, total_few, r.sized.small, r.size_is);
          none = r.counts b (omega arith) (omega (arith, r.size_is));
        }

    abbrev cs : List ℕ
    cs = r.between.rest

    at_b : At g r.s b cs
    at_b = subst (λ (x : ℕ). At g r.s x cs) (sym r.b_is) (turn_at r.between (omega (arith, r.b_is)))

    abbrev s₁ : State
    s₁ = step1 g b cs r.s

    -- no edge from b stands yet
    no_edge : (l : List ℕ) → l ≡ graph_of r.s.edges b → l ≡ []
    no_edge [] e = refl
    no_edge (y ∷ l) e =
        let st = at_b.handled.edges b y (edge_recorded b y r.s.edges (subst (λ (k : List ℕ). In y k) e (Memᴰ.head refl))) in
        absurd (omega (arith, st.before))

    stand₀ : StandFor row m b p.edges (taken_out cs r.s)
    stand₀ =
        record {
          marks = r.stand.marks;
          graph = r.stand.graph;
          fits = r.stand.fits;
          shown = λ x i. r.stand.shown x (subst (λ (l : List ℕ). In x l) (sym at_b.is) (Memᴰ.tail i));
        }

    counts₀ : Counts p (taken_out cs r.s)
    counts₀ = record { edges = r.edges_is; left = r.left_is; total = r.total_is }

    -- the words at b are recorded
    module _ {row' : List ℕ} {q : Progress} (all : RecordsAll text pool row row' m b p q) (alone : Alone row row' m b) (same_size : length row' ≡ length row) where
      after : After row' m b q s₁
      after = all (taken_out cs r.s) stand₀ counts₀ (no_edge (graph_of r.s.edges b) refl)

      low_cell : (i : ℕ) → i < 3 * m → get_or row' i 0 ≡ get_or row i 0
      low_cell i h = sym (get_or-take (3 * m) row' i 0 h) ∙ ap (λ (l : List ℕ). get_or l i 0) alone.low ∙ get_or-take (3 * m) row i 0 h

      ends' : take ends row' ≡ r.s.ends
      ends' =
          let e = ends_few in let c = committed_low in
          let u : ends ≤ 3 * m = omega (arith, r.size_is) in
          sym (take-take ends (3 * m) row' u) ∙ ap (take ends) alone.low ∙ take-take ends (3 * m) row u ∙ r.ends_are

      same_ends : s₁.ends ≡ r.s.ends
      same_ends = at_b.placed_at.ends

      -- the definition takes the same turn
      one_turn : (k : ℕ) → 0 < k → turns k g r.s ≡ turns (k - 1) g (turn g r.s.candidates r.s)
      one_turn zero h = absurd (omega arith)
      one_turn (suc k) h = let i : k ≡ suc k - 1 = omega arith in turns_suc k g r.s ∙ ap (λ (j : ℕ). turns j g (turn g r.s.candidates r.s)) i

      pub recorded : Recorded text pool row' m b committed ends q
      recorded =
          record {
            size_is = r.size_is;
            sized = record { small = r.sized.small; long = omega (arith, r.sized.long) };
            exact = same_size ∙ r.exact;
            root_is = r.root_is;
            flags_are = alone.flags ∙ r.flags_are;
            below = below;
            s = s₁;
            placing = at_b.placed_at.placing;
            to = at_b.turned_to;
            k = r.k - 1;
            enough = omega (arith, r.enough);
            rest = r.rest ∙ one_turn r.k (omega (arith, r.enough)) ∙ ap (λ (x : State). turns (r.k - 1) g x) at_b.turn_is;
            committed_is = r.committed_is ∙ sym at_b.placed_at.committed;
            committed_low = committed_low;
            stand = after.stand;
            numbers = after.counts;
            edges_few = omega (arith, after.counts.edges, few_stand b (b - r.s.committed) (word_ends g b) (taken_out cs r.s) (omega (arith, r.between.few, r.b_is)), r.size_is);
            ends_is = r.ends_is ∙ ap length (sym same_ends);
            ends_are = ends' ∙ sym same_ends;
            ends_few = ends_few;
            unmarked = λ x l h. low_cell (2 * m + x) (omega arith) ∙ r.unmarked x l h;
            firsts = λ v l h.
                alone.others (3 * m + v) (omega arith) (omega arith) (λ e. omega arith) (λ e. omega (arith, r.size_is)) ∙ r.firsts v (omega arith) h;
            counts = λ v l h. alone.others (4 * m + v) (omega arith) (omega arith) (λ e. omega arith) (λ e. omega arith) ∙ r.counts v (omega arith) h;
          }
