-- What is listed at a node and below it: the words that lead from it to a mark, and they rise.
-- Assumes nothing.
use Prim.Native.Nat.{ℕ, zero, suc, ◌+◌, ◌-◌, ◌≤◌, ◌<◌}
use native.Mathlib.Omega.{arith}
use native.Mathlib.Decide.{dec_lt}
use mathlib.Core.Path.{◌≡◌, refl, sym, ap, subst, ◌∙◌}
use mathlib.Core.Bool.{true}
use mathlib.Core.List.{List, [], ◌∷◌, ◌++◌}
use mathlib.Core.Logic.{inl, inr, ⊎_elim}
use lib.ListN.{length}
use Rattle.trie_pool.specs.Cells.{scalar_at, first_at, count_at, mark_at}
use Rattle.trie_pool.specs.Words.{Place, none, at, on_place, child, walk, rev}
use Rattle.trie_pool.specs.inner.Sound.{Rising, Sound}
use Rattle.trie_pool.proofs.Shape.{within, child_found, climb}
use Rattle.trie_pool.proofs.Canon.{member}
use Rattle.image_rules.specs.Records.{Term}
use Rattle.image_rules.specs.Order.{below}
use Rattle.image_list.specs.Listed.{own, block, listed}
use Rattle.image_list.proofs.Order.{below_rev, below_less, below_nil}
use Rattle.image_list.proofs.Among.{In, in_left, in_right, in_one, Above, Sorted, sorted_both}

-- ---- a node's own word

pub record Owned (path : List ℕ) (m : ℕ) (t : Term) : Type 0 where
  pub word : t.word ≡ rev path []
  pub mark : m ≡ suc t.class

pub own_is : (path : List ℕ) (m : ℕ) (t : Term) → In t (own path m) → Owned path m t
own_is path zero t h = absurd h
own_is path (suc c) t (inl e) = record { word = ap (λ (z : Term). z.word) e; mark = ap (λ (z : Term). suc z.class) (sym e) }
own_is path (suc c) t (inr h) = absurd h

pub own_in : (path : List ℕ) (m c : ℕ) → m ≡ suc c → In (record { word = rev path []; class = c }) (own path m)
own_in path m c e = subst (λ (z : ℕ). In (record { word = rev path []; class = c }) (own path z)) (sym e) (inl refl)

own_sorted : (path : List ℕ) (m : ℕ) → Sorted (own path m)
own_sorted path zero = tt
own_sorted path (suc c) = (λ t m. absurd m, tt)

-- ---- a block

record Listing (below : List ℕ → ℕ → List Term) (p path : List ℕ) (s n : ℕ) (t : Term) : Type 0 where
  node : ℕ
  low : s ≤ node
  high : node < s + n
  inside : In t (below (scalar_at p node ∷ path) node)

module _ (below' : List ℕ → ℕ → List Term) (p path : List ℕ) where
  listing : (s n : ℕ) (t : Term) → In t (block below' p path s n) → Listing below' p path s n t
  listing s zero t m = absurd m
  listing s (suc n) t m = ⊎_elim
      (λ h. record { node = s; low = omega arith; high = omega arith; inside = h })
      (λ h. let r = listing (suc s) n t h in record { node = r.node; low = omega (arith, r.low); high = omega (arith, r.high); inside = r.inside })
      (in_one t (below' (scalar_at p s ∷ path) s) (block below' p path (suc s) n) m)

  of_listing : (s n : ℕ) (t : Term) (c : ℕ) → s ≤ c → c < s + n → In t (below' (scalar_at p c ∷ path) c) → In t (block below' p path s n)
  of_listing s zero t c a b m = absurd (omega arith)
  of_listing s (suc n) t c a b m = go (dec_lt s c) (of_listing (suc s) n t c)
    where
      go : Dec (s < c) → (suc s ≤ c → c < suc s + n → In t (below' (scalar_at p c ∷ path) c) → In t (block below' p path (suc s) n)) → In t (block below' p path s (suc n))
      go (yes l) ih = in_right t (below' (scalar_at p s ∷ path) s) (block below' p path (suc s) n) (ih (omega arith) (omega arith) m)
      go (no l) ih =
          let e : c ≡ s = omega arith in
          in_left t (below' (scalar_at p s ∷ path) s) (block below' p path (suc s) n) (subst (λ (z : ℕ). In t (below' (scalar_at p z ∷ path) z)) e m)

  -- each node's words start with its path, and its words rise: then so do the block's
  record Start (c : ℕ) (t : Term) : Type 0 where
    rest : List ℕ
    is : t.word ≡ rev path (scalar_at p c ∷ rest)

  module _ (first end : ℕ) (up : Rising p first end)
      (starts : (c : ℕ) → first ≤ c → c < end → (t : Term) → In t (below' (scalar_at p c ∷ path) c) → Start c t)
      (sorts : (c : ℕ) → first ≤ c → c < end → Sorted (below' (scalar_at p c ∷ path) c)) where
    block_sorted : (s n : ℕ) → first ≤ s → s + n ≡ end → Sorted (block below' p path s n)
    block_sorted s zero a e = tt
    block_sorted s (suc n) a e = sorted_both (below' (scalar_at p s ∷ path) s) (block below' p path (suc s) n) (sorts s a (omega arith)) (block_sorted (suc s) n (omega arith) (omega arith))
        (λ x m t k.
        let r = listing (suc s) n t k in
        let b = starts s a (omega arith) x m in
        let d = starts r.node (omega (arith, r.low)) (omega (arith, r.high)) t r.inside in
        let l : scalar_at p s < scalar_at p r.node = omega (arith, up s a (omega (arith, r.low, r.high)), climb p first end up (suc s) r.node (omega arith) r.low (omega (arith, r.high))) in
        ap (below x.word) d.is ∙ ap (λ (z : List ℕ). below z (rev path (scalar_at p r.node ∷ d.rest))) b.is
        ∙ below_rev path (scalar_at p s ∷ b.rest) (scalar_at p r.node ∷ d.rest) ∙ below_less (scalar_at p s) (scalar_at p r.node) b.rest d.rest l)

-- ---- a node

-- the word goes on from node i to a marked node
pub record Ends (p path : List ℕ) (i : ℕ) (t : Term) : Type 0 where
  pub rest : List ℕ
  pub word : t.word ≡ rev path rest
  pub node : ℕ
  pub leads : walk p rest i ≡ at node
  pub mark : mark_at p node ≡ suc t.class

module _ (p : List ℕ) (n : ℕ) (g : Sound p n 0) where
  -- a block's node is a node, and a child
  in_use : (i c : ℕ) → i < n → c < first_at p i + count_at p i → c < n
  in_use i c l b = omega (arith, within p n g.shaped i l)

  pub ends_of : (f : ℕ) (path : List ℕ) (i : ℕ) → i < n → (t : Term) → In t (listed f p path i) → Ends p path i t
  unfolding listed
  ends_of zero path i l t m = absurd m
  ends_of (suc f) path i l t m = ⊎_elim own' (kid (ends_of f)) (in_one t (own path (mark_at p i)) (block (λ v r. listed f p v r) p path (first_at p i) (count_at p i)) m)
    where
      own' : In t (own path (mark_at p i)) → Ends p path i t
      own' h = let o = own_is path (mark_at p i) t h in record { rest = []; word = o.word; node = i; leads = refl; mark = o.mark }

      kid : ((path : List ℕ) (i : ℕ) → i < n → (t : Term) → In t (listed f p path i) → Ends p path i t) → In t (block (λ v r. listed f p v r) p path (first_at p i) (count_at p i)) → Ends p path i t
      kid ih h =
          let r = listing (λ v r. listed f p v r) p path (first_at p i) (count_at p i) t h in
          let e = ih (scalar_at p r.node ∷ path) r.node (in_use i r.node l r.high) t r.inside in
          record {
            rest = scalar_at p r.node ∷ e.rest;
            word = e.word;
            node = e.node;
            leads = ap (on_place none (λ k. walk p e.rest k)) (member p n g i r.node l r.low r.high) ∙ e.leads;
            mark = e.mark;
          }

  -- a word that goes on from a node to a mark, in less than so many steps, is listed there
  pub listed_in : (rest : List ℕ) (f : ℕ) (path : List ℕ) (i r c : ℕ) → length rest < f → walk p rest i ≡ at r → mark_at p r ≡ suc c
      → In (record { word = rev path rest; class = c }) (listed f p path i)
  unfolding listed
  listed_in rest zero path i r c l e m = absurd (omega arith)
  listed_in [] (suc f) path i r c l e m =
      let same : i ≡ r = cc in
      in_left _ (own path (mark_at p i)) (block (λ v k. listed f p v k) p path (first_at p i) (count_at p i)) (own_in path (mark_at p i) c (ap (mark_at p) same ∙ m))
  listed_in (x ∷ rest) (suc f) path i r c l e m = go (child p i x) refl e (listed_in rest f)
    where
      go : (q : Place) → child p i x ≡ q → on_place none (λ k. walk p rest k) q ≡ at r
          → ((path : List ℕ) (i r c : ℕ) → length rest < f → walk p rest i ≡ at r → mark_at p r ≡ suc c → In (record { word = rev path rest; class = c }) (listed f p path i))
          → In (record { word = rev path (x ∷ rest); class = c }) (own path (mark_at p i) ++ block (λ v k. listed f p v k) p path (first_at p i) (count_at p i))
      go none h q ih = absurd (let z : ◌≡◌ {A = ℕ} 0 1 = cc in omega arith)
      go (at k) h q ih =
          let s = child_found p i x k h in
          in_right _ (own path (mark_at p i)) (block (λ v k. listed f p v k) p path (first_at p i) (count_at p i))
          (of_listing (λ v k. listed f p v k) p path (first_at p i) (count_at p i) _ k s.low s.high
          (subst (λ (z : ℕ). In (record { word = rev path (x ∷ rest); class = c }) (listed f p (z ∷ path) k)) (sym s.is) (ih (x ∷ path) k r c (omega arith) q m)))

  pub listed_sorted : (f : ℕ) (path : List ℕ) (i : ℕ) → i < n → Sorted (listed f p path i)
  unfolding listed
  listed_sorted zero path i l = tt
  listed_sorted (suc f) path i l = go (listed_sorted f)
    where
      kids : List Term
      kids = block (λ v k. listed f p v k) p path (first_at p i) (count_at p i)

      start : (c : ℕ) → first_at p i ≤ c → c < first_at p i + count_at p i → (t : Term) → In t (listed f p (scalar_at p c ∷ path) c) → Start (λ v k. listed f p v k) p path c t
      start c a b t m = let e = ends_of f (scalar_at p c ∷ path) c (in_use i c l b) t m in record { rest = e.rest; is = e.word }

      go : ((path : List ℕ) (i : ℕ) → i < n → Sorted (listed f p path i)) → Sorted (own path (mark_at p i) ++ kids)
      go ih = sorted_both (own path (mark_at p i)) kids (own_sorted path (mark_at p i))
          (block_sorted (λ v k. listed f p v k) p path (first_at p i) (first_at p i + count_at p i) (g.rising i l) start (λ c a b. ih (scalar_at p c ∷ path) c (in_use i c l b)) (first_at p i) (count_at p i) (omega arith) refl)
          (λ s m t k.
          let o = own_is path (mark_at p i) s m in
          let r = listing (λ v k. listed f p v k) p path (first_at p i) (count_at p i) t k in
          let b = start r.node r.low r.high t r.inside in
          ap (below s.word) b.is ∙ ap (λ (z : List ℕ). below z (rev path (scalar_at p r.node ∷ b.rest))) o.word
          ∙ below_rev path [] (scalar_at p r.node ∷ b.rest) ∙ below_nil (scalar_at p r.node ∷ b.rest) (omega arith))
