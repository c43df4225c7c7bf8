-- FEWEST WORDS between two committed ends that a path search joins. Assumes nothing.
use Prim.Native.Nat.{ℕ, zero, suc, ◌+◌, ◌≤◌, ◌<◌}
use native.Mathlib.Omega.{arith}
use native.Mathlib.Decide.{dec_lt}
use mathlib.Core.Path.{◌≡◌, refl, sym, ◌∙◌, ap, subst}
use mathlib.Core.Bool.{Bool, true, false, cond}
use mathlib.Core.Logic.{◌⊎◌, inl, inr, ⊎_elim}
use mathlib.Core.List.Memᴰ
use mathlib.Core.List.{List, [], ◌∷◌, ◌++◌}
use lib.ListN.{length, get_or, drop}
use lib.Dec.{ltb}
use borrow.Author.Tests.{ltb-true, lt-ltb, le-ltb}
use Rattle.newmm_rules.specs.Words.{Given, size, word_ends}
use Rattle.newmm_rules.specs.Search.{Graph, path_to, Chain}
use Rattle.newmm_rules.specs.Cutting.{Edge, State, begin, recorded, recorded_all, graph_of, commit, settled, taken_out, step1, turn, turns}
use Rattle.newmm_rules.specs.Fewest.{WordChain, stay, word, words_recorded, recorded_in, is_below, goes_on, handled_since, Joins, first_end, path_of, Fewest, FewEdges}
use Rattle.newmm_rules.specs.Positions.{In, Rises}
use Rattle.newmm_rules.proofs.Positions.{at_least}
use Rattle.newmm_rules.proofs.Spans.{word_spans}
use Rattle.newmm_rules.specs.Search as search'
use Rattle.newmm_rules.proofs.Shortest.{path_shortest}
use Rattle.newmm_rules.proofs.Edges.{edge_of, in_graph, few_stand, one_more}
use Rattle.newmm_rules.proofs.Recording.{Stands, Handled, Placing, Placed}
use Rattle.newmm_rules.proofs.Turns.{Between, at_first, turn_on, turn_off, Turned, At, turn_at, rest_rises}

-- ---- recording all words of a place

-- what recording adds, it adds behind: edges and known ends stay
old_edge : (b : ℕ) (ws : List ℕ) (s : State) (e : Edge) → In e s.edges → In e (recorded_all b ws s).edges
unfolding recorded_all recorded
old_edge b [] s e m = m
old_edge b (w ∷ ws) s e m = go (old_edge b ws (recorded b w s) e here) (ltb 50 (length (recorded b w s).edges))
  where
    here : In e (s.edges ++ (edge_of b w ∷ []))
    here = Memᴰ.append_left (edge_of b w ∷ []) m

    go : In e (recorded_all b ws (recorded b w s)).edges → (t : Bool) → In e (cond t (recorded b w s) (recorded_all b ws (recorded b w s))).edges
    go ih true = here
    go ih false = ih

no_fewer : (b : ℕ) (ws : List ℕ) (s : State) → length s.edges ≤ length (recorded_all b ws s).edges
unfolding recorded_all
no_fewer b [] s = omega arith
no_fewer b (w ∷ ws) s = go (no_fewer b ws (recorded b w s)) (ltb 50 (length (recorded b w s).edges))
  where
    go : length (recorded b w s).edges ≤ length (recorded_all b ws (recorded b w s)).edges → (t : Bool) → length s.edges ≤ length (cond t (recorded b w s) (recorded_all b ws (recorded b w s))).edges
    go ih true = omega (arith, one_more b w s)
    go ih false = omega (arith, one_more b w s)

added : (b w : ℕ) (s : State) → In (edge_of b w) (recorded b w s).edges
unfolding recorded
added b w s = Memᴰ.append_right s.edges (Memᴰ.head refl)

-- where at most 50 edges stand then, every word was recorded
all_recorded : (b : ℕ) (ws : List ℕ) (s : State) → length (recorded_all b ws s).edges ≤ 50 → (y : ℕ) → In y ws → In (edge_of b y) (recorded_all b ws s).edges
unfolding recorded_all
all_recorded b [] s h y m = absurd (Memᴰ.not-nil m)
all_recorded b (w ∷ ws) s h y m = go (λ k. all_recorded b ws (recorded b w s) k y) (ltb 50 (length (recorded b w s).edges)) refl h (Memᴰ.cases_cons m)
  where
    new : In (edge_of b w) (recorded b w s).edges
    new = added b w s

    go : (length (recorded_all b ws (recorded b w s)).edges ≤ 50 → In y ws → In (edge_of b y) (recorded_all b ws (recorded b w s)).edges) → (t : Bool) → ltb 50 (length (recorded b w s).edges) ≡ t
        → length (cond t (recorded b w s) (recorded_all b ws (recorded b w s))).edges ≤ 50 → (y ≡ w) ⊎ In y ws → In (edge_of b y) (cond t (recorded b w s) (recorded_all b ws (recorded b w s))).edges
    go ih true q k c = absurd (let i = ltb-true 50 (length (recorded b w s).edges) q in omega arith)
    go ih false q k (inl e) = Memᴰ.cast (ap (edge_of b) e) (old_edge b ws (recorded b w s) (edge_of b w) new)
    go ih false q k (inr n) = ih k n

-- a known end is an old one or the end of one of the words
known_from : (b : ℕ) (ws : List ℕ) (s : State) (x : ℕ) → In x (recorded_all b ws s).known → In x s.known ⊎ In x ws
unfolding recorded_all recorded
known_from b [] s x m = inl m
known_from b (w ∷ ws) s x m = go (λ k. known_from b ws (recorded b w s) x k) (ltb 50 (length (recorded b w s).edges)) m
  where
    one : In x (w ∷ s.known) → In x s.known ⊎ In x (w ∷ ws)
    one k = ⊎_elim (λ e. inr (Memᴰ.head e)) (λ l. inl l) (Memᴰ.cases_cons k)

    go : (In x (recorded_all b ws (recorded b w s)).known → In x (recorded b w s).known ⊎ In x ws) → (t : Bool) → In x (cond t (recorded b w s) (recorded_all b ws (recorded b w s))).known
        → In x s.known ⊎ In x (w ∷ ws)
    go ih true k = one k
    go ih false k = ⊎_elim (λ l. one l) (λ l. inr (Memᴰ.tail l)) (ih k)

known_old : (b : ℕ) (ws : List ℕ) (s : State) (x : ℕ) → In x s.known → In x (recorded_all b ws s).known
unfolding recorded_all recorded
known_old b [] s x m = m
known_old b (w ∷ ws) s x m = go (known_old b ws (recorded b w s) x (Memᴰ.tail m)) (ltb 50 (length (recorded b w s).edges))
  where
    go : In x (recorded_all b ws (recorded b w s)).known → (t : Bool) → In x (cond t (recorded b w s) (recorded_all b ws (recorded b w s))).known
    go ih true = Memᴰ.tail m
    go ih false = ih

-- ---- all words of the places handled since the last clearing are recorded, where at most 50 edges
-- stand

abbrev FullBelow : Given → ℕ → State → Type 0
FullBelow g low s = length s.edges ≤ 50 → (x : ℕ) → In x s.known → s.committed ≤ x → x < low → (y : ℕ) → In y (word_ends g x) → In (edge_of x y) s.edges

record Full (g : Given) (low : ℕ) (s : State) : Type 0 where
  home : In s.committed s.known
  full : FullBelow g low s

module _ {g : Given} {s : State} {b : ℕ} {cs : List ℕ} (at_b : At g s b cs) (f : Full g b s) where
  abbrev after : State
  after = step1 g b cs s

  abbrev p : Placed g b (word_ends g b) (taken_out cs s) after
  p = at_b.placed_at

  full_after : Full g (suc b) after
  full_after =
      record {
        home = subst (λ (z : ℕ). In z after.known) (sym p.committed) (known_old b (word_ends g b) (taken_out cs s) s.committed f.home);
        full = λ few x m low high y w. by few x m low high y w (dec_lt x b);
      }
    where
      by : length after.edges ≤ 50 → (x : ℕ) → In x after.known → after.committed ≤ x → x < suc b → (y : ℕ) → In y (word_ends g x) → Dec (x < b) → In (edge_of x y) after.edges
      by few x m low high y w (yes l) =
          old_edge b (word_ends g b) (taken_out cs s) (edge_of x y)
          (f.full (let i = no_fewer b (word_ends g b) (taken_out cs s) in omega arith) x
          (⊎_elim (λ k. k) (λ k. absurd (let i = (word_spans g b x k).0 in omega arith)) (known_from b (word_ends g b) (taken_out cs s) x m))
          (let e = p.committed in omega arith) l y w)
      by few x m low high y w (no n) =
          let e : x ≡ b = omega arith in
          subst (λ (z : ℕ). In (edge_of z y) after.edges) (sym e) (all_recorded b (word_ends g b) (taken_out cs s) few y (subst (λ (z : ℕ). In y (word_ends g z)) e w))

  -- after a commit nothing is handled yet
  full_commit : (path : List ℕ) (e : ℕ) → Full g e (commit path e after)
  full_commit path e = record { home = Memᴰ.head refl; full = λ few x m low high y w. absurd (omega arith) }

  -- the turn goes on with the least of the candidates left
  full_on : (c d : ℕ) (ds : List ℕ) → after.candidates ≡ c ∷ d ∷ ds → Full g c after
  full_on c d ds e =
      record {
        home = full_after.home;
        full = λ few x m low high y w. by few x m low high y w (dec_lt x (suc b));
      }
    where
      by : length after.edges ≤ 50 → (x : ℕ) → In x after.known → after.committed ≤ x → x < c → (y : ℕ) → In y (word_ends g x) → Dec (x < suc b) → In (edge_of x y) after.edges
      by few x m low high y w (yes l) = full_after.full few x m low l y w
      by few x m low high y w (no n) =
          absurd (let i = c_first (p.placing.handled.left x m (omega arith)) in omega arith)
        where
          c_first : In x after.candidates → c ≤ x
          c_first k =
              let r = rest_rises (subst (λ (l : List ℕ). Rises (suc b) l) e p.placing.handled.rises) in
              ⊎_elim (λ q. omega arith) (λ l. let i = at_least r l in omega arith) (Memᴰ.cases_cons (subst (λ (l : List ℕ). In x l) e k))

  -- a chain of words to the sole candidate is a way along edges
  module _ (c : ℕ) (only : after.candidates ≡ c ∷ []) (few : length after.edges ≤ 50) where
    up : {a z : ℕ} {es : List ℕ} → WordChain g a es z → a ≤ z
    up stay = omega arith
    up (word {a = a} {e = e} m r) = let i = (word_spans g a e m).0 in let j = up r in omega arith

    along_edges : {a : ℕ} {es : List ℕ} → WordChain g a es c → In a after.known → after.committed ≤ a → Chain (graph_of after.edges) a es c
    along_edges stay k low = search'.stay
    along_edges (word {a = a} {e = e} m r) k low =
        let i = (word_spans g a e m).0 in
        let j = up r in
        let n : a < suc b = below (omega arith) (dec_lt a (suc b)) in
        let d = full_after.full few a k low n e m in
        search'.along (in_graph a e after.edges d) (along_edges r (p.placing.handled.edges a e d).known (omega arith))
      where
        below : a < c → Dec (a < suc b) → a < suc b
        below h (yes l) = l
        below h (no n) = absurd (let q = Memᴰ.eq_of_singleton (subst (λ (l : List ℕ). In a l) only (p.placing.handled.left a k (omega arith))) in omega arith)

    fewest_here : c ≡ s.committed → ⊥
    fewest_here e = let i = p.placing.order in let j = at_least p.placing.handled.rises (subst (λ (l : List ℕ). In c l) (sym only) (Memᴰ.head refl)) in let k = p.committed in omega arith

    shortest : (es : List ℕ) → WordChain g s.committed es c → length (path_to (graph_of after.edges) s.committed c) ≤ length es
    shortest es w =
        let q = p.committed in
        path_shortest (graph_of after.edges) s.committed c fewest_here es
        (subst (λ (z : ℕ). Chain (graph_of after.edges) z es c) q (along_edges (subst (λ (z : ℕ). WordChain g z es c) (sym q) w) full_after.home (omega arith)))

-- ---- over the turns

abbrev least_of : State → ℕ
least_of s = get_or s.candidates 0 0

pub record Reached (g : Given) (s : State) : Type 0 where
  pub between : Between g s
  full : Full g (least_of s) s

first : (g : Given) → Reached g begin
first g = record { between = at_first g; full = record { home = Memᴰ.head refl; full = λ few x m low high y w. absurd (omega arith) } }

least_is : {g : Given} {s : State} (h : Between g s) → least_of s ≡ h.least
least_is h = ap (λ (l : List ℕ). get_or l 0 0) h.is

settle_full : {g : Given} {s : State} {b : ℕ} {cs : List ℕ} (at_b : At g s b cs) → Full g b s → (l : List ℕ) → (step1 g b cs s).candidates ≡ l
    → Full g (least_of (settled g b l (step1 g b cs s))) (settled g b l (step1 g b cs s))
unfolding settled
settle_full {g} {s} {b} {cs} at_b f [] e = full_commit at_b f _ _
settle_full {g} {s} {b} {cs} at_b f (c ∷ []) e = full_commit at_b f _ _
settle_full {g} {s} {b} {cs} at_b f (c ∷ d ∷ ds) e = subst (λ (z : ℕ). Full g z (step1 g b cs s)) (sym (ap (λ (l : List ℕ). get_or l 0 0) e)) (full_on at_b f c d ds e)

next : {g : Given} {s : State} → Reached g s → Reached g (turn g s.candidates s)
next {g} {s} r = go (dec_lt r.between.least (size g))
  where
    h : Between g s
    h = r.between

    f : Full g h.least s
    f = subst (λ (z : ℕ). Full g z s) (least_is h) r.full

    go : Dec (h.least < size g) → Reached g (turn g s.candidates s)
    go (yes l) =
        let t = turn_at h l in
        subst (λ (z : State). Reached g z) (sym t.turn_is) (record { between = t.turned_to.between; full = settle_full t f (step1 g h.least h.rest s).candidates refl })
    go (no n) = subst (λ (z : State). Reached g z) (sym (turn_off h (omega arith))) r

-- k turns from a state, one by one at the end
pub turns_end : (k : ℕ) (g : Given) (s : State) → turns (suc k) g s ≡ turn g (turns k g s).candidates (turns k g s)
unfolding turns
turns_end zero g s = refl
turns_end (suc k) g s = turns_end k g (turn g s.candidates s)

pub after_turns : (k : ℕ) (g : Given) → Reached g (turns k g begin)
unfolding turns
after_turns zero g = first g
after_turns (suc k) g = subst (λ (z : State). Reached g z) (sym (turns_end k g begin)) (next (after_turns k g))

module _ {g : Given} {k c : ℕ} (j : Joins g k c) where
  abbrev s : State
  s = turns k g begin

  h : Between g s
  h = (after_turns k g).between

  recorded_is : recorded_in k g ≡ step1 g j.place j.others s
  recorded_is = ap (λ (l : List ℕ). words_recorded g l s) j.least

  place_is : h.least ≡ j.place
  place_is = ap (λ (l : List ℕ). get_or l 0 0) (sym h.is ∙ j.least)

  others_are : h.rest ≡ j.others
  others_are = ap (λ (l : List ℕ). drop 1 l) (sym h.is ∙ j.least)

  at_place : At g s j.place j.others
  at_place =
      subst (λ (z : ℕ). At g s z j.others) place_is
      (subst (λ (l : List ℕ). At g s h.least l) others_are (turn_at h (let e = place_is in let b = j.below in omega arith)))

pub fewest : Fewest
fewest g k c j few es w =
    let e = recorded_is j in
    let r = after_turns k g in
    let f : Full g j.place (turns k g begin) = subst (λ (z : ℕ). Full g z (turns k g begin)) (ap (λ (l : List ℕ). get_or l 0 0) j.least) r.full in
    subst (λ (z : State). length (path_to (graph_of z.edges) (first_end k g) c) ≤ length es) (sym e)
    (shortest (at_place j) f c (ap (λ (z : State). z.candidates) (sym e) ∙ j.only) (subst (λ (z : State). length z.edges ≤ 50) e few) es w)

-- ---- at most 50 + v edges

after_settling : (g : Given) (b v : ℕ) (t : State) (l : List ℕ) → length t.edges ≤ 50 + suc v → length (settled g b l t).edges ≤ 50 + cond (goes_on l) (suc v) 0
unfolding settled
after_settling g b v t [] k = omega arith
after_settling g b v t (c ∷ []) k = omega arith
after_settling g b v t (c ∷ d ∷ ds) k = k

-- one place more
step1_few : (k : ℕ) (g : Given) (b : ℕ) (cs : List ℕ) (v : ℕ) → length (turns k g begin).edges ≤ 50 + v → length (step1 g b cs (turns k g begin)).edges ≤ 50 + suc v
step1_few k g b cs v few = let i = few_stand b v (word_ends g b) (taken_out cs (turns k g begin)) few in omega arith

edges_now : (k : ℕ) (g : Given) → length (turns k g begin).edges ≤ 50 + handled_since k g
unfolding turns handled_since
edges_now zero g = omega arith
edges_now (suc k) g = go (edges_now k g) (dec_lt between'.least (size g))
  where
    state : State
    state = turns k g begin

    between' : Between g state
    between' = (after_turns k g).between

    below_is : (t : Bool) → ltb between'.least (size g) ≡ t → is_below g state.candidates ≡ t
    below_is t e = ap (is_below g) between'.is ∙ e

    recorded_at : recorded_in k g ≡ step1 g between'.least between'.rest state
    recorded_at = ap (λ (l : List ℕ). words_recorded g l state) between'.is

    bound : Bool → ℕ
    bound t = 50 + cond t (cond (goes_on (recorded_in k g).candidates) (suc (handled_since k g)) 0) (handled_since k g)

    go : length state.edges ≤ 50 + handled_since k g → Dec (between'.least < size g) → length (turns (suc k) g begin).edges ≤ bound (is_below g state.candidates)
    go ih (yes l) =
        let t = turn_at between' l in
        let e = turns_end k g begin ∙ t.turn_is in
        let i = after_settling g between'.least (handled_since k g) (step1 g between'.least between'.rest state) (step1 g between'.least between'.rest state).candidates (step1_few k g between'.least between'.rest (handled_since k g) ih) in
        subst (λ (b : Bool). length (turns (suc k) g begin).edges ≤ bound b) (sym (below_is true (lt-ltb between'.least (size g) l)))
        (subst (λ (z : State). length z.edges ≤ bound true) (sym e)
        (subst (λ (z : State). length (settled g between'.least (step1 g between'.least between'.rest state).candidates (step1 g between'.least between'.rest state)).edges ≤ 50 + cond (goes_on z.candidates) (suc (handled_since k g)) 0) (sym recorded_at) i))
    go ih (no n) =
        let e = turns_end k g begin ∙ turn_off between' (omega arith) in
        subst (λ (b : Bool). length (turns (suc k) g begin).edges ≤ bound b) (sym (below_is false (le-ltb between'.least (size g) (omega arith))))
        (subst (λ (z : State). length z.edges ≤ bound false) (sym e) ih)

pub few_edges : FewEdges
few_edges g k c j = subst (λ (z : State). length z.edges ≤ 50 + suc (handled_since k g)) (sym (recorded_is j)) (step1_few k g j.place j.others (handled_since k g) (edges_now k g))
