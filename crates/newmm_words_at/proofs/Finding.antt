-- The walk over the words at a place, over plain values. Assumes nothing.
use Prim.Native.Nat.{ℕ, suc, ◌+◌, ◌-◌, ◌≤◌, ◌<◌, min}
use native.Mathlib.Omega.{arith}
use mathlib.Core.Path.{◌≡◌, refl, sym, ◌∙◌, ap, subst}
use mathlib.Core.Bool.{Bool, true, false, ◌||◌}
use mathlib.Core.List.{List, [], ◌∷◌}
use lib.ListN.{length}
use lib.Dec.{eqb}
use borrow.Author.Tests.{eq-eqb, ne_eqb}
use Rattle.newmm_rules.specs.Positions.{any, member}
use Rattle.newmm_rules.specs.Words.{Given, is_word, word_ends}
use Rattle.newmm_rules.specs.Claims.{is_nil}
use Rattle.newmm_rules.proofs.Lengths.{behind, behind_all, behind_end, behind_none, behind_word, behind_part}
use Rattle.tcc.specs.Flags.{end_flags}
use Rattle.trie_pool.specs.inner.Sound.{Readable}
use Rattle.newmm_word_step.specs.declared.Step.{Step}
use Rattle.newmm_word_step.specs.declared.Step.TheVariants.{Nothing, Word, Part}
use Rattle.newmm_word_step.specs.inner.Places.{Place}
use Rattle.newmm_word_step.specs.inner.Walks.{given_by, Walked, Asks, Next, StepIs}
use Rattle.newmm_word_step.proofs.Steps.{start_walk}
use Rattle.newmm_words_at.specs.declared.Found.{Found}
use Rattle.newmm_words_at.specs.declared.Found.TheVariants.{Here, Elsewhere, Nowhere}
use Rattle.newmm_words_at.specs.inner.Finding.{FoundIs}

-- ---- rows of ends

module _ (e : ℕ) where
  member_nil : (l : List ℕ) → l ≡ [] → member e l ≡ false
  unfolding any
  member_nil l q = ap (member e) q

  member_here : (x : ℕ) (l : List ℕ) → x ≡ e → member e (x ∷ l) ≡ true
  unfolding any
  member_here x l q = ap (λ (t : Bool). t || member e l) (eq-eqb e x (sym q))

  member_there : (x : ℕ) (l : List ℕ) → (x ≡ e → ⊥) → member e (x ∷ l) ≡ member e l
  unfolding any
  member_there x l n = ap (λ (t : Bool). t || member e l) (ne_eqb e x (λ q. n (sym q)))

-- ---- what was met up to p

-- nothing: all words end behind p; or words, none of which ends at e
abbrev pub Met : Found → Given → ℕ → ℕ → ℕ → ℕ → Type 0
Met Here g b limit e p = ⊥
Met Elsewhere g b limit e p = (is_nil (word_ends g b) ≡ false) × (member e (word_ends g b) ≡ member e (behind g b limit p))
Met Nowhere g b limit e p = word_ends g b ≡ behind g b limit p

module _ (g : Given) (b limit e p : ℕ) where
  -- the ends behind p are those behind q
  met_same : (f : Found) (q : ℕ) → Met f g b limit e p → behind g b limit p ≡ behind g b limit q → Met f g b limit e q
  met_same Here q m r = m
  met_same Elsewhere q m r = (m.0, m.1 ∙ ap (member e) r)
  met_same Nowhere q m r = m ∙ r

  -- no word ends behind p
  met_all : (f : Found) → Met f g b limit e p → behind g b limit p ≡ [] → FoundIs f g b e
  met_all Here m r = absurd m
  met_all Elsewhere m r = (m.0, m.1 ∙ member_nil e (behind g b limit p) r)
  met_all Nowhere m r = m ∙ r

  module _ (x q : ℕ) (r : behind g b limit p ≡ x ∷ behind g b limit q) where
    -- a word ends at e
    met_here : (f : Found) → Met f g b limit e p → x ≡ e → FoundIs Here g b e
    met_here Here m h = absurd m
    met_here Elsewhere m h = m.1 ∙ ap (member e) r ∙ member_here e x (behind g b limit q) h
    met_here Nowhere m h = ap (member e) (m ∙ r) ∙ member_here e x (behind g b limit q) h

    -- a word ends elsewhere
    met_other : (f : Found) → Met f g b limit e p → (x ≡ e → ⊥) → Met Elsewhere g b limit e q
    met_other Here m n = absurd m
    met_other Elsewhere m n = (m.0, m.1 ∙ ap (member e) r ∙ member_there e x (behind g b limit q) n)
    met_other Nowhere m n = (ap is_nil (m ∙ r), ap (member e) (m ∙ r) ∙ member_there e x (behind g b limit q) n)

-- ---- the walk

pub record Finding (text pool : List ℕ) (b limit e p node : ℕ) (found : Found) : Type 0 where
  pub walked : Walked text pool b p node
  pub node_is : Readable pool node
  pub far : limit ≤ length text
  pub upto : p ≤ limit
  pub met : Met found (given_by text pool) b limit e p

pub find_first : {text pool flags : List ℕ} {b limit : ℕ} (e : ℕ) → Place text pool flags b → limit ≡ b + min 255 (length text - b) → Finding text pool b limit e b 0 Nowhere
find_first {text} {pool} {flags} {b} {limit} e a l =
    record {
      walked = start_walk text pool b;
      node_is = a.root_is;
      far = omega (arith, a.inside);
      upto = omega arith;
      met = behind_all (given_by text pool) b limit l;
    }

module _ {text pool : List ℕ} {b limit e p node : ℕ} {found : Found} (i : Finding text pool b limit e p node found) where
  abbrev g : Given
  g = given_by text pool

  pub asks : {flags : List ℕ} → flags ≡ end_flags text → p < limit → Asks text pool flags p node
  asks f h = record { inside = omega (arith, i.far); node_is = i.node_is; flags_are = f }

  pub find_end : limit ≤ p → FoundIs found g b e
  find_end h = met_all g b limit e p found i.met (behind_end g b limit p h)

  module _ (r : Step) (told : (b : ℕ) → Walked text pool b p node → StepIs r text pool b p) where
    pub find_none : r ≡ Nothing → FoundIs found g b e
    find_none q = met_all g b limit e p found i.met (behind_none g b limit p (subst (λ (x : Step). StepIs x text pool b p) q (told b i.walked)))

    module _ (more : p < limit) where
      pub find_part : {k : ℕ} → r ≡ Part k → Finding text pool b limit e (p + 1) k found
      find_part {k} q =
          let n : Next text pool b p k false = subst (λ (x : Step). StepIs x text pool b p) q (told b i.walked) in
          record {
            walked = n.walked;
            node_is = n.node_is;
            far = i.far;
            upto = omega arith;
            met = met_same g b limit e p found (p + 1) i.met (behind_part g b limit p more n.tells);
          }

      module _ {k : ℕ} (q : r ≡ Word k) where
        n_word : Next text pool b p k true
        n_word = subst (λ (x : Step). StepIs x text pool b p) q (told b i.walked)

        pub find_here : p + 1 ≡ e → FoundIs Here g b e
        find_here h = met_here g b limit e p (p + 1) (p + 1) (behind_word g b limit p more n_word.tells) found i.met h

        pub find_other : (p + 1 ≡ e → ⊥) → Finding text pool b limit e (p + 1) k Elsewhere
        find_other n =
            record {
              walked = n_word.walked;
              node_is = n_word.node_is;
              far = i.far;
              upto = omega arith;
              met = met_other g b limit e p (p + 1) (p + 1) (behind_word g b limit p more n_word.tells) found i.met n;
            }
