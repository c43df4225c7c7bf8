-- The ends of a plain cut, stretch by stretch, and that each which a search joined has the fewest
-- words. Assumes nothing.
use Prim.Native.Nat.{ℕ, zero, suc, ◌+◌, ◌≤◌, ◌<◌}
use native.Mathlib.Omega.{arith}
use native.Mathlib.Decide.{dec_lt}
use mathlib.Core.Path.{◌≡◌, refl, sym, ◌∙◌, ap, subst}
use mathlib.Core.Bool.{Bool, true, false, cond}
use mathlib.Core.List.{List, [], ◌∷◌, ◌++◌, append-nil, append_assoc}
use lib.ListN.{length}
use borrow.Author.Tests.{lt-ltb, le-ltb}
use Rattle.newmm_rules.specs.Words.{Given, size, word_ends}
use Rattle.newmm_rules.specs.Search.{Graph, path_to, Chain}
use Rattle.newmm_rules.specs.Cutting.{State, begin, graph_of, settled, taken_out, step1, turn, turns, cut}
use Rattle.newmm_rules.specs.Fewest.{WordChain, stay, word, words_recorded, recorded_in, handled_since, Joins, first_end, path_of}
use Rattle.newmm_rules.specs.Stretches.{Stretch, committed_at, committed_by, stretches_in, stretches, ends_of, edges_of, Joined, none, one, FewestWords, Each, InStretches}
use Rattle.newmm_rules.specs.Positions.{In}
use Rattle.newmm_rules.specs.Search as search'
use Rattle.newmm_rules.proofs.Edges.{edge_recorded, each_counted}
use Rattle.newmm_rules.proofs.Turns.{Between, At, turn_at, turn_off, path}
use Rattle.newmm_rules.proofs.Fewer.{after_turns, turns_end, fewest, few_edges}
use Rattle.newmm_rules.proofs.Result.{committed_end, edges_cleared}

-- ---- lists of stretches

ends_behind : (xs ys : List Stretch) → ends_of (xs ++ ys) ≡ ends_of xs ++ ends_of ys
ends_behind [] ys = refl
ends_behind (x ∷ xs) ys = ap (λ (l : List ℕ). x.ends ++ l) (ends_behind xs ys) ∙ sym (append_assoc x.ends (ends_of xs) (ends_of ys))

edges_behind : (xs ys : List Stretch) → edges_of (xs ++ ys) ≡ edges_of xs + edges_of ys
edges_behind [] ys = omega arith
edges_behind (x ∷ xs) ys = omega (arith, edges_behind xs ys)

joined_behind : {a m z : ℕ} {xs ys : List Stretch} → Joined a xs m → Joined m ys z → Joined a (xs ++ ys) z
joined_behind none k = k
joined_behind (one h) k = one (joined_behind h k)

each_behind : (P : Stretch → Type 0) (xs ys : List Stretch) → Each P xs → Each P ys → Each P (xs ++ ys)
each_behind P [] ys h k = k
each_behind P (x ∷ xs) ys h k = (h.0, each_behind P xs ys h.1 k)

-- a way along words is a chain of words
words_along : {g : Given} {graph : Graph} {a z : ℕ} {xs : List ℕ} → ((x y : ℕ) → In y (graph x) → In y (word_ends g x)) → Chain graph a xs z → WordChain g a xs z
words_along h search'.stay = stay
words_along h (search'.along {a = a} {x = x} m c) = word (h a x m) (words_along h c)

-- ---- what a turn commits

record Commits (g : Given) (b v : ℕ) (l : List ℕ) (s : State) : Type 0 where
  ends : (settled g b l s).ends ≡ s.ends ++ ends_of (committed_at v g b l s)
  count : (settled g b l s).count + length s.edges ≡ s.count + (edges_of (committed_at v g b l s) + length (settled g b l s).edges)
  joined : Joined s.committed (committed_at v g b l s) (settled g b l s).committed

commits : (g : Given) (b v : ℕ) (l : List ℕ) (s : State) → Commits g b v l s
unfolding settled
commits g b v [] s = record { ends = refl; count = omega arith; joined = one none }
commits g b v (c ∷ []) s =
    record { ends = ap (λ (p : List ℕ). s.ends ++ p) (sym (append-nil (path_to (graph_of s.edges) s.committed c))); count = omega arith; joined = one none }
commits g b v (c ∷ d ∷ ds) s = record { ends = sym (append-nil s.ends); count = omega arith; joined = none }

-- ---- what k turns commit

record Committed (g : Given) (k : ℕ) (s : State) : Type 0 where
  ends : s.ends ≡ ends_of (stretches_in k g)
  count : s.count ≡ edges_of (stretches_in k g) + length s.edges
  joined : Joined 0 (stretches_in k g) s.committed
  fewest_in : Each (λ t. t.searched ≡ true → FewestWords g t) (stretches_in k g)

no_stretch : {A : Type 0} → false ≡ true → A
no_stretch e = absurd (let z : ◌≡◌ {A = ℕ} 0 1 = ap (λ (b : Bool). cond b 1 0) e in omega arith)

module _ (g : Given) (k : ℕ) where
  abbrev s : State
  s = turns k g begin

  h : Between g s
  h = (after_turns k g).between

  abbrev v : ℕ
  v = handled_since k g

  module _ (l : h.least < size g) where
    abbrev after : State
    after = step1 g h.least h.rest s

    at_b : At g s h.least h.rest
    at_b = turn_at h l

    by_turn : committed_by v g s.candidates s ≡ committed_at v g h.least after.candidates after
    by_turn = ap (λ (cs : List ℕ). committed_by v g cs s) h.is ∙ ap (λ (b : Bool). cond b (committed_at v g h.least after.candidates after) []) (lt-ltb h.least (size g) l)

    recorded_here : recorded_in k g ≡ after
    recorded_here = ap (λ (cs : List ℕ). words_recorded g cs s) h.is

    searched_words : (cs : List ℕ) → after.candidates ≡ cs → Each (λ t. t.searched ≡ true → FewestWords g t) (committed_at v g h.least cs after)
    searched_words [] e = ((λ q. no_stretch q), tt)
    searched_words (c ∷ []) e =
        let j : Joins g k c = record { place = h.least; others = h.rest; least = h.is; below = l; only = ap (λ (z : State). z.candidates) recorded_here ∙ e } in
        let from : after.committed ≡ s.committed = at_b.placed_at.committed in
        let from' : s.committed ≡ after.committed = sym from in
        let p = path g s h.least h.rest h.is l h.handled h.order h.sole h.few h.total h.tokens c e in
        let same : path_of k g c ≡ path_to (graph_of after.edges) after.committed c = (λ i. path_to (graph_of (recorded_here i).edges) (from' i) c) in
        let edges : length (recorded_in k g).edges ≡ length after.edges = ap (λ (z : State). length z.edges) recorded_here in (
          (λ q.
              record {
                chain = words_along (λ x y m. (at_b.placed_at.placing.handled.edges x y (edge_recorded x y after.edges m)).word) p;
                fewest = λ few es w.
                    let f = fewest g k c j (omega (arith, edges)) es (subst (λ (a : ℕ). WordChain g a es c) from w) in
                    omega (arith, f, ap (λ (xs : List ℕ). length xs) same);
                few_edges = (let f = few_edges g k c j in omega (arith, edges));
              }),
          tt,
        )
    searched_words (c ∷ d ∷ ds) e = tt

    on : Committed g k s → Committed g (suc k) (turns (suc k) g begin)
    unfolding stretches_in
    on p =
        let is : turns (suc k) g begin ≡ settled g h.least after.candidates after = turns_end k g begin ∙ at_b.turn_is in
        let c = commits g h.least v after.candidates after in
        let counted = each_counted h.least (word_ends g h.least) (taken_out h.rest s) in
        subst (λ (z : State). Committed g (suc k) z) (sym is)
        (record {
          ends = c.ends ∙ (λ i. at_b.placed_at.ends i ++ ends_of (sym by_turn i)) ∙ ap (λ (xs : List ℕ). xs ++ ends_of (committed_by v g s.candidates s)) p.ends
              ∙ sym (ends_behind (stretches_in k g) (committed_by v g s.candidates s));
          count = (let e = ap edges_of by_turn in omega (arith, c.count, counted, p.count, e, edges_behind (stretches_in k g) (committed_by v g s.candidates s)));
          joined = joined_behind p.joined
              (subst (λ (ts : List Stretch). Joined s.committed ts (settled g h.least after.candidates after).committed) (sym by_turn)
              (subst (λ (a : ℕ). Joined a (committed_at v g h.least after.candidates after) (settled g h.least after.candidates after).committed) at_b.placed_at.committed c.joined));
          fewest_in = each_behind (λ t. t.searched ≡ true → FewestWords g t) (stretches_in k g) (committed_by v g s.candidates s) p.fewest_in
              (subst (λ (ts : List Stretch). Each (λ t. t.searched ≡ true → FewestWords g t) ts) (sym by_turn) (searched_words after.candidates refl));
        })

  off : size g ≤ h.least → Committed g k s → Committed g (suc k) (turns (suc k) g begin)
  unfolding stretches_in
  off n p =
      let none_by : committed_by v g s.candidates s ≡ [] =
      ap (λ (cs : List ℕ). committed_by v g cs s) h.is ∙ ap (λ (b : Bool). cond b (committed_at v g h.least (step1 g h.least h.rest s).candidates (step1 g h.least h.rest s)) []) (le-ltb h.least (size g) n)
      in
      let same : stretches_in k g ++ committed_by v g s.candidates s ≡ stretches_in k g = ap (λ (ts : List Stretch). stretches_in k g ++ ts) none_by ∙ append-nil (stretches_in k g) in
      subst (λ (z : State). Committed g (suc k) z) (sym (turns_end k g begin ∙ turn_off h n))
      (record {
        ends = p.ends ∙ ap ends_of (sym same);
        count = omega (arith, p.count, ap edges_of same);
        joined = subst (λ (ts : List Stretch). Joined 0 ts s.committed) (sym same) p.joined;
        fewest_in = subst (λ (ts : List Stretch). Each (λ t. t.searched ≡ true → FewestWords g t) ts) (sym same) p.fewest_in;
      })

committed_in : (g : Given) (k : ℕ) → Committed g k (turns k g begin)
unfolding stretches_in turns
committed_in g zero = record { ends = refl; count = refl; joined = none; fewest_in = tt }
committed_in g (suc k) = go (committed_in g k) (dec_lt (h g k).least (size g))
  where
    go : Committed g k (turns k g begin) → Dec ((h g k).least < size g) → Committed g (suc k) (turns (suc k) g begin)
    go p (yes l) = on g k l p
    go p (no n) = off g k (omega arith) p

-- PLAIN MODE, STRETCH BY STRETCH
pub in_stretches : (g : Given) → InStretches g (cut g).ends (cut g).edges
unfolding cut
in_stretches g =
    let p = committed_in g (size g) in
    record { ends_are = p.ends; edges_are = omega (arith, p.count, edges_cleared g); joined = subst (λ (z : ℕ). Joined 0 (stretches g) z) (committed_end g) p.joined; fewest = p.fewest_in }
