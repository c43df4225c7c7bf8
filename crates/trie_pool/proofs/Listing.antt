-- The nodes in use by the set of words: one for each distinct non-empty prefix, and a marked one
-- for each word. Assumes nothing.
use Prim.Native.Nat.{ℕ, zero, suc, ◌+◌, ◌-◌, ◌≤◌, ◌<◌}
use native.Mathlib.Omega.{arith}
use native.Mathlib.Decide.{dec_lt}
use mathlib.Core.Path.{◌≡◌, refl, sym, ap, ◌∙◌}
use mathlib.Core.Bool.{Bool, true, false, cond}
use mathlib.Core.List.{List, [], ◌∷◌, ◌++◌}
use mathlib.Core.Logic.{inl, inr}
use borrow.Author.Tests.{ltb-true, lt-ltb, le-ltb}
use lib.Dec.{ltb}
use lib.ListN.{length}
use Rattle.trie_pool.specs.Cells.{mark_at}
use Rattle.trie_pool.specs.Words.{Place, none, at, on_place, walk, marked, holds, rev}
use Rattle.trie_pool.specs.inner.Paths.{reach}
use Rattle.trie_pool.specs.inner.Sound.{Sound}
use Rattle.trie_pool.specs.Meaning.{tally}
use Rattle.trie_pool.specs.Listing.{Member, Distinct, Number, Held, Prefix}
use Rattle.trie_pool.proofs.Shape.{child_after, reach_within, walk_is, walk_two, rev_rev, step, one_path}
use Rattle.trie_pool.proofs.Rules.{clash}
use Rattle.trie_pool.proofs.Held.{ending}
use Rattle.trie_pool.proofs.Canon.{alive, has_path}

-- ---- words and nodes

pub rev_append : (u v w : List ℕ) → rev u (v ++ w) ≡ rev u v ++ w
rev_append [] v w = refl
rev_append (x ∷ u) v w = rev_append u (x ∷ v) w

-- a word that leads to a node, from its end
pub reach_of : (p v : List ℕ) (c : ℕ) → walk p v 0 ≡ at c → reach p (rev v []) ≡ at c
reach_of p v c e = sym (walk_is p v) ∙ e

one_place : {i j : ℕ} → at i ≡ at j → i ≡ j
one_place e = cc

module _ (p : List ℕ) (n : ℕ) (g : Sound p n 0) where
  pub node_inside : (v : List ℕ) (c : ℕ) → walk p v 0 ≡ at c → c < n
  node_inside v c e = reach_within p n g.shaped (rev v []) c (reach_of p v c e)

  -- the word of a node
  record Word (c : ℕ) : Type 0 where
    word : List ℕ
    there : walk p word 0 ≡ at c

  word_at : (c : ℕ) → c < n → Word c
  word_at c l = let h = has_path p n g c l in record { word = rev h.path []; there = walk_is p (rev h.path []) ∙ ap (reach p) (rev_rev h.path []) ∙ h.leads }

  -- only the empty word leads to the root
  pub root_only : (v : List ℕ) → 1 ≤ length v → walk p v 0 ≡ at 0 → ⊥
  root_only v l e = go (rev v []) refl (reach_of p v 0 e)
    where
      go : (u : List ℕ) → rev v [] ≡ u → reach p u ≡ at 0 → ⊥
      go [] q f = let z : v ≡ [] = sym (rev_rev v []) ∙ ap (λ (x : List ℕ). rev x []) q in omega (arith, ap length z)
      go (x ∷ u) q f =
          let s = step p u x 0 f in
          omega (arith, child_after p n g.shaped s.mid x 0 (reach_within p n g.shaped u s.mid s.there) s.then)

  -- a node has one word
  one_word : (v w : List ℕ) (c : ℕ) → walk p v 0 ≡ at c → walk p w 0 ≡ at c → v ≡ w
  one_word v w c e f = sym (rev_rev v []) ∙ ap (λ (z : List ℕ). rev z []) (one_path p n g.shaped (rev v []) (rev w []) c (reach_of p v c e) (reach_of p w c f)) ∙ rev_rev w []

  -- ---- lists

  record At (f : ℕ → Bool) (i : ℕ) (v : List ℕ) : Type 0 where
    node : ℕ
    low : node < i
    is : f node ≡ true
    there : walk p v 0 ≡ at node

  -- the words of the nodes below i that pass the test
  record Listed (f : ℕ → Bool) (i : ℕ) : Type 0 where
    words : List (List ℕ)
    distinct : Distinct words
    only : (v : List ℕ) → Member v words → At f i v
    all : (v : List ℕ) → At f i v → Member v words
    long : length words ≡ tally f i

  wider : (f : ℕ → Bool) (i : ℕ) (v : List ℕ) → At f i v → At f (suc i) v
  wider f i v a = record { node = a.node; low = omega (arith, a.low); is = a.is; there = a.there }

  listed : (f : ℕ → Bool) (i : ℕ) → i ≤ n → Listed f i
  listed f zero l = record { words = []; distinct = tt; only = λ v m. absurd m; all = λ v a. absurd (omega (arith, a.low)); long = refl }
  listed f (suc i) l = go (f i) refl (listed f i (omega arith)) (word_at i l)
    where
      go : (b : Bool) → f i ≡ b → Listed f i → Word i → Listed f (suc i)
      go false e r w = record {
        words = r.words;
        distinct = r.distinct;
        only = λ v m. wider f i v (r.only v m);
        all = λ v a. r.all v (narrower v a (dec_lt a.node i));
        long = r.long ∙ sym (ap (λ (z : Bool). tally f i + cond z 1 0) e ∙ (let z : tally f i + 0 ≡ tally f i = omega arith in z));
      }
        where
          narrower : (v : List ℕ) (a : At f (suc i) v) → Dec (a.node < i) → At f i v
          narrower v a (yes q) = record { node = a.node; low = q; is = a.is; there = a.there }
          narrower v a (no q) = let z : a.node ≡ i = omega (arith, a.low) in clash (sym e ∙ ap f (sym z) ∙ a.is)
      go true e r w = record {
        words = w.word ∷ r.words;
        distinct = (λ m. let a = r.only w.word m in omega (arith, a.low, one_place (sym a.there ∙ w.there)), r.distinct);
        only = only;
        all = λ v a. all v a (dec_lt a.node i);
        long = (let z : suc (length r.words) ≡ tally f i + 1 = omega (arith, r.long) in z) ∙ sym (ap (λ (z : Bool). tally f i + cond z 1 0) e);
      }
        where
          only : (v : List ℕ) → Member v (w.word ∷ r.words) → At f (suc i) v
          only v (inl q) = record { node = i; low = omega arith; is = e; there = ap (λ (z : List ℕ). walk p z 0) q ∙ w.there }
          only v (inr m) = wider f i v (r.only v m)

          all : (v : List ℕ) (a : At f (suc i) v) → Dec (a.node < i) → Member v (w.word ∷ r.words)
          all v a (yes q) = inr (r.all v (record { node = a.node; low = q; is = a.is; there = a.there }))
          all v a (no q) =
              let z : a.node ≡ i = omega (arith, a.low) in
              inl (one_word v w.word i (a.there ∙ ap at z) w.there)

  -- ---- the theorems

  pub word_count : Number (Held (holds p)) (tally (λ i. marked (mark_at p i)) n)
  word_count =
      let r = listed (λ i. marked (mark_at p i)) n (omega arith) in
      record {
        words = r.words;
        distinct = r.distinct;
        only = λ v m. let a = r.only v m in ap (on_place false (λ c. marked (mark_at p c))) a.there ∙ a.is;
        all = λ v h. let e = ending p v h in r.all v (record { node = e.node; low = node_inside v e.node e.there; is = sym (ap (on_place false (λ c. marked (mark_at p c))) e.there) ∙ h; there = e.there });
        long = r.long;
      }

  -- a prefix of a word held leads to a node
  pub record Leads (v : List ℕ) : Type 0 where
    pub node : ℕ
    pub there : walk p v 0 ≡ at node

  pub prefix_leads : (v rest : List ℕ) → holds p (v ++ rest) ≡ true → Leads v
  prefix_leads v rest h = go (walk p v 0) refl
    where
      go : (q : Place) → walk p v 0 ≡ q → Leads v
      go none e = clash (sym (ap (on_place false (λ c. marked (mark_at p c))) (walk_two p v rest 0 ∙ ap (on_place none (λ c. walk p rest c)) e)) ∙ h)
      go (at c) e = record { node = c; there = e }

  -- and a word that leads to a node but the root is such a prefix
  pub leads_prefix : (v : List ℕ) (c : ℕ) → 0 < c → walk p v 0 ≡ at c → Prefix (holds p) v
  leads_prefix v c l e =
      let a = alive p n g n (rev v []) c (omega arith) l (node_inside v c e) (reach_of p v c e) in
      record {
        some = nonempty v e;
        rest = a.rest;
        held = ap (holds p) (sym (rev_append (rev v []) [] a.rest ∙ ap (λ (z : List ℕ). z ++ a.rest) (rev_rev v []))) ∙ a.is;
      }
    where
      nonempty : (v : List ℕ) → walk p v 0 ≡ at c → 1 ≤ length v
      nonempty [] e = absurd (omega (arith, one_place e))
      nonempty (x ∷ v) e = omega arith

  past_root : (i : ℕ) → 0 < i → suc (tally (λ k. ltb 0 k) i) ≡ i
  past_root zero l = absurd (omega arith)
  past_root (suc i) l = go (dec_lt 0 i) (past_root i)
    where
      go : Dec (0 < i) → (0 < i → suc (tally (λ k. ltb 0 k) i) ≡ i) → suc (tally (λ k. ltb 0 k) i + cond (ltb 0 i) 1 0) ≡ suc i
      go (yes q) ih = ap (λ (b : Bool). suc (tally (λ k. ltb 0 k) i + cond b 1 0)) (lt-ltb 0 i q) ∙ omega (arith, ih q)
      go (no q) ih =
          let z : i ≡ 0 = omega arith in
          ap (λ (b : Bool). suc (tally (λ k. ltb 0 k) i + cond b 1 0)) (le-ltb 0 i (omega arith)) ∙ ap (λ (k : ℕ). suc (tally (λ k. ltb 0 k) k + 0)) z ∙ ap suc (sym z)

  -- Nodes in use are the root and one for each distinct non-empty prefix of the words held.
  pub nodes_in_use : Number (Prefix (holds p)) (n - 1)
  nodes_in_use =
      let r = listed (λ i. ltb 0 i) n (omega arith) in
      record {
        words = r.words;
        distinct = r.distinct;
        only = λ v m. let a = r.only v m in leads_prefix v a.node (ltb-true 0 a.node a.is) a.there;
        all = λ v h.
            let a = prefix_leads v h.rest h.held in
            r.all v (record { node = a.node; low = node_inside v a.node a.there; is = lt-ltb 0 a.node (past v a.node h.some a.there); there = a.there });
        long = omega (arith, r.long, past_root n g.shaped.some);
      }
    where
      past : (v : List ℕ) (c : ℕ) → 1 ≤ length v → walk p v 0 ≡ at c → 0 < c
      past v zero l e = absurd (root_only v l e)
      past v (suc c) l e = omega arith
