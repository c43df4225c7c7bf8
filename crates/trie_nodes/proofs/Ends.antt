-- The two walks, as the code makes them. Assumes nothing.
use mathlib.Core.Path.{◌≡◌, refl, sym, ap, subst, ◌∙◌}
use mathlib.Core.List.{List}
use Prim.Native.Nat.{ℕ, ◌+◌, ◌-◌, ◌*◌, ◌≤◌, ◌<◌}
use native.Mathlib.Omega.{arith}
use lib.Dec.{eqb}
use lib.ListN.{get_or}
use Rattle.trie_pool.specs.Cells.{scalar_at, first_at, count_at}
use Rattle.trie_pool.proofs.Shape.{count_is}
use Rattle.trie_node.specs.inner.Checks.{Decides, Stands}
use Rattle.trie_nodes.specs.declared.Walk.{Walk}
use Rattle.trie_nodes.specs.inner.Falls.{none, fall, first}
use Rattle.trie_nodes.specs.inner.Walking.{Aside, Nodes, PlainNodes, AllNodes, Walking, Next, At, Parents, Leaves}
use Rattle.trie_nodes.proofs.Cells.{first_none}
use Rattle.trie_nodes.proofs.Walks.{walking_none, walking_more, wrong_far, done}

-- ---- the root

pub root_first : {p : List ℕ} {n : ℕ} → Nodes p n → get_or p 1 0 ≡ 1
unfolding first_at
root_first h = h.shaped.start

-- k children
pub walking_first : (p : List ℕ) (n k b : ℕ) → k ≡ get_or p 2 0 → 0 < n → b ≤ 1 → (k < n → scalar_at p 0 < none → b ≡ first (scalar_at p) 1 k) → Walking p n 1 (1 + k) 0 b
walking_first p n k b e some few h =
    let q : count_at p 0 ≡ k = count_is p 0 ∙ sym e in
    subst (λ (z : ℕ). Walking p n 1 (1 + z) 0 b) q (walking_none p n b some few (λ l m. h (omega arith) m ∙ ap (first (scalar_at p) 1) (sym q)))

-- ---- one node more

pub walking_next : (p : List ℕ) (n i s f b k r e : ℕ) → Walking p n i s f b → i < s → s < n → Stands p i s → k ≡ get_or p (8 * i + 2) 0 → r ≡ fall (scalar_at p) (i - 1)
    → (scalar_at p (s - 1) < none → e ≡ first (scalar_at p) s k) → e ≤ 1 → Walking p n (i + 1) (s + k) (f + r) (b + e)
walking_next p n i s f b k r e v l h stands q falls start few =
    subst (λ (z : ℕ). Walking p n (i + 1) (s + k) (f + z) (b + e)) (sym falls)
    (walking_more p n i s f b k e v (record { inside = omega arith; ahead = l; stands = stands; count = q ∙ sym (count_is p i); start = λ low. start (low (s - 1) (omega arith)); few = few }))

pub walking_leaf : (p : List ℕ) (n i s f b r : ℕ) → Walking p n i s f b → s ≡ n → i < n → Stands p i n → get_or p (8 * i + 2) 0 ≡ 0 → r ≡ fall (scalar_at p) (i - 1) → Walking p n (i + 1) s (f + r) b
walking_leaf p n i s f b r v e l stands q falls =
    let y : s + 0 ≡ s = omega arith in
    let z : b + 0 ≡ b = omega arith in
    subst (λ (t : ℕ). Walking p n (i + 1) s (f + r) t) z
    (subst (λ (t : ℕ). Walking p n (i + 1) t (f + r) (b + 0)) y
    (subst (λ (t : ℕ). Walking p n (i + 1) (s + 0) (f + t) (b + 0)) (sym falls)
    (walking_more p n i s f b 0 0 v (record { inside = l; ahead = omega arith; stands = subst (Stands p i) (sym e) stands; count = sym (count_is p i ∙ q); start = λ low. first_none (scalar_at p) s 0 refl; few = omega arith }))))

-- ---- how they end

pub parents_wrong : {p : List ℕ} {n s : ℕ} {W : Type 0} → s < n → (Nodes p n → ⊥) → Parents p n s W
parents_wrong l no' = record { right = λ e. absurd (omega arith); wrong = λ q. no' }

module _ {p : List ℕ} {n i s : ℕ} {W : Type 0} where
  pub leaves_wrong : W → s ≡ n → (Nodes p n → ⊥) → Leaves p n i s W
  leaves_wrong w e no' = record { walk = w; here = e; wrong = λ q. no' }

  module _ {f b : ℕ} (v : Walking p n i s f b) (w : W) where
    pub parents_right : n ≤ s → Parents p n s W
    parents_right l = record { right = λ e. w; wrong = λ q. wrong_far v l q }

    pub leaves_right : s ≡ n → n ≤ i → Leaves p n i s W
    leaves_right e l = record { walk = w; here = e; wrong = λ q h. q (omega (arith, v.upto)) }

-- the walk is through
pub ended : {p : List ℕ} {n i s f b : ℕ} → Walking p n i s f b → s ≡ n → i ≡ n → 0 < n → n ≤ 1048576 → get_or p 0 0 ≡ n → get_or p 1 0 ≡ 1 → Decides (eqb f b) (Nodes p n)
ended {p} {n} {i} {s} {f} {b} v h e some small used root = done p n (subst (λ (t : ℕ). Walking p n t s f b) e v) h some small used root

-- ---- both halves, or one alone

pub plain_nodes : {p : List ℕ} {n : ℕ} → AllNodes 8 p n → PlainNodes p n
plain_nodes h = record { nodes = h.nodes; aside = h.aside refl }

pub all_plain : {p : List ℕ} {n : ℕ} → PlainNodes p n → AllNodes 8 p n
all_plain h = record { nodes = h.nodes; aside = λ e. h.aside }

pub root_of : {cells : ℕ} {p : List ℕ} {n : ℕ} → AllNodes cells p n → (get_or p 1 0 ≡ 1) × (cells ≡ 8 → Aside p 0)
root_of h = (root_first h.nodes, λ e. h.aside e 0 h.nodes.shaped.some)

module _ {cells : ℕ} {p : List ℕ} {n : ℕ} {w : Walk} where
  -- second halves that are 0
  pub zeros_in : At cells p n w → w.i ≡ n → cells ≡ 8 → AllNodes cells p n → (w.fifth ≡ 0) × (w.sixth ≡ 0) × (w.seventh ≡ 0) × (w.eighth ≡ 0)
  zeros_in v e all h = (v.1 all).all (λ j l. h.aside all j (omega arith))

  pub finish : Leaves p n w.i w.s (At cells p n w) → w.i ≡ n → 0 < n → n ≤ 1048576 → get_or p 0 0 ≡ n → get_or p 1 0 ≡ 1
      → (cells ≡ 8 → (w.fifth ≡ 0) × (w.sixth ≡ 0) × (w.seventh ≡ 0) × (w.eighth ≡ 0))
      → Decides (eqb w.falls w.starts) (AllNodes cells p n)
  finish h e some small used root z =
      let d = ended h.walk.0 h.here e some small used root in
      record {
        yes' = λ y. record { nodes = d.yes' y; aside = λ all j l. let q = z all in (h.walk.1 all).none q.0 q.1 q.2 q.3 j (omega arith) };
        no' = λ y q. d.no' y q.nodes;
      }
