-- The nodes that there would be with one word more: one for each prefix of it that no word held
-- has. Assumes nothing.
use Prim.Native.Nat.{ℕ, zero, suc, ◌+◌, ◌-◌, ◌≤◌}
use native.Mathlib.Omega.{arith}
use mathlib.Core.Path.{◌≡◌, refl, sym, ap, ◌∙◌}
use mathlib.Core.Bool.{Bool, true, false, ◌||◌}
use mathlib.Core.List.{List, [], ◌∷◌, ◌++◌}
use mathlib.Core.Logic.{◌⊎◌, inl, inr}
use lib.ListN.{length, length-append}
use Rattle.trie_pool.specs.Words.{Place, none, at, on_place, child, walk, holds, lacking}
use Rattle.trie_pool.specs.inner.Sound.{Sound}
use Rattle.trie_pool.specs.Meaning.{same, with_word}
use Rattle.trie_pool.specs.Listing.{Member, Distinct, Number, Prefix}
use Rattle.trie_pool.proofs.Shape.{walk_two}
use Rattle.trie_pool.proofs.Rules.{clash}
use Rattle.trie_pool.proofs.Sets.{same_true, same_self}
use Rattle.trie_pool.proofs.Listing.{prefix_leads, leads_prefix, root_only, nodes_in_use}

-- ---- lists of words

append_nil : (l : List ℕ) → l ++ [] ≡ l
append_nil [] = refl
append_nil (x ∷ l) = ap {B = List ℕ} (λ r. x ∷ r) (append_nil l)

append_two : (a b c : List ℕ) → (a ++ b) ++ c ≡ a ++ (b ++ c)
append_two [] b c = refl
append_two (x ∷ a) b c = ap {B = List ℕ} (λ r. x ∷ r) (append_two a b c)

pub in_either : (v : List ℕ) (as' bs : List (List ℕ)) → Member v (as' ++ bs) → Member v as' ⊎ Member v bs
in_either v [] bs m = inr m
in_either v (a ∷ as') bs (inl e) = inl (inl e)
in_either v (a ∷ as') bs (inr m) = go (in_either v as' bs m)
  where
    go : Member v as' ⊎ Member v bs → Member v (a ∷ as') ⊎ Member v bs
    go (inl k) = inl (inr k)
    go (inr k) = inr k

pub in_left : (v : List ℕ) (as' bs : List (List ℕ)) → Member v as' → Member v (as' ++ bs)
in_left v [] bs m = absurd m
in_left v (a ∷ as') bs (inl e) = inl e
in_left v (a ∷ as') bs (inr m) = inr (in_left v as' bs m)

pub in_right : (v : List ℕ) (as' bs : List (List ℕ)) → Member v bs → Member v (as' ++ bs)
in_right v [] bs m = m
in_right v (a ∷ as') bs m = inr (in_right v as' bs m)

pub both_distinct : (as' bs : List (List ℕ)) → Distinct as' → Distinct bs → ((v : List ℕ) → Member v as' → Member v bs → ⊥) → Distinct (as' ++ bs)
both_distinct [] bs d e f = e
both_distinct (a ∷ as') bs d e f = (λ m. go (in_either a as' bs m), both_distinct as' bs d.1 e (λ v m k. f v (inr m) k))
  where
    go : Member a as' ⊎ Member a bs → ⊥
    go (inl m) = d.0 m
    go (inr m) = f a (inl refl) m

-- ---- the prefixes of a word that are longer than its first part

pub record Longer (done rest v : List ℕ) : Type 0 where
  pub part : List ℕ
  pub left : List ℕ
  pub some : 1 ≤ length part
  pub is : v ≡ done ++ part
  pub whole : part ++ left ≡ rest

abbrev longer : List ℕ → List ℕ → List (List ℕ)
longer done [] = []
longer done (x ∷ r) = (done ++ (x ∷ [])) ∷ longer (done ++ (x ∷ [])) r

longer_long : (done r : List ℕ) → length (longer done r) ≡ length r
longer_long done [] = refl
longer_long done (x ∷ r) = ap suc (longer_long (done ++ (x ∷ [])) r)

-- one character later
shift : (done r v : List ℕ) (x : ℕ) → Longer (done ++ (x ∷ [])) r v → Longer done (x ∷ r) v
shift done r v x l = record { part = x ∷ l.part; left = l.left; some = omega arith; is = l.is ∙ append_two done (x ∷ []) l.part; whole = ap (λ (z : List ℕ). x ∷ z) l.whole }

longer_only : (done r v : List ℕ) → Member v (longer done r) → Longer done r v
longer_only done [] v m = absurd m
longer_only done (x ∷ r) v (inl e) = record { part = x ∷ []; left = r; some = omega arith; is = e; whole = refl }
longer_only done (x ∷ r) v (inr m) = shift done r v x (longer_only (done ++ (x ∷ [])) r v m)

-- a longer prefix is one character longer, or is longer still
back : (done r v : List ℕ) (x : ℕ) → Longer done (x ∷ r) v → (v ≡ done ++ (x ∷ [])) ⊎ Longer (done ++ (x ∷ [])) r v
back done r v x l = go l.part l.some l.is l.whole
  where
    go : (part : List ℕ) → 1 ≤ length part → v ≡ done ++ part → part ++ l.left ≡ x ∷ r → (v ≡ done ++ (x ∷ [])) ⊎ Longer (done ++ (x ∷ [])) r v
    go [] s e w = absurd (omega arith)
    go (y ∷ []) s e w = let z : y ≡ x = cc in inl (e ∙ ap (λ (k : ℕ). done ++ (k ∷ [])) z)
    go (y ∷ y' ∷ part) s e w =
        let z : y ≡ x = cc in
        let q : y' ∷ (part ++ l.left) ≡ r = cc in
        inr (record { part = y' ∷ part; left = l.left; some = omega arith; is = e ∙ ap (λ (k : ℕ). done ++ (k ∷ y' ∷ part)) z ∙ sym (append_two done (x ∷ []) (y' ∷ part)); whole = q })

longer_all : (done r v : List ℕ) → Longer done r v → Member v (longer done r)
longer_all done [] v l = absurd (omega (arith, l.some, ap length l.whole, length-append l.part l.left))
longer_all done (x ∷ r) v l = go (back done r v x l) (longer_all (done ++ (x ∷ [])) r v)
  where
    go : (v ≡ done ++ (x ∷ [])) ⊎ Longer (done ++ (x ∷ [])) r v → (Longer (done ++ (x ∷ [])) r v → Member v (longer (done ++ (x ∷ [])) r)) → Member v (longer done (x ∷ r))
    go (inl e) ih = inl e
    go (inr k) ih = inr (ih k)

longer_distinct : (done r : List ℕ) → Distinct (longer done r)
longer_distinct done [] = tt
longer_distinct done (x ∷ r) = (
  λ m. let l = longer_only (done ++ (x ∷ [])) r (done ++ (x ∷ [])) m in omega (arith, l.some, ap length l.is, length-append (done ++ (x ∷ [])) l.part),
  longer_distinct (done ++ (x ∷ [])) r,
)

-- ---- those that lead nowhere

module _ (p : List ℕ) where
  record New (done r : List ℕ) (b : ℕ) : Type 0 where
    words : List (List ℕ)
    distinct : Distinct words
    only : (v : List ℕ) → Member v words → Longer done r v × (walk p v 0 ≡ none)
    all : (v : List ℕ) → Longer done r v → walk p v 0 ≡ none → Member v words
    long : length words ≡ lacking p r b

  clash_place : {P : Type 0} {c : ℕ} → at c ≡ none → P
  clash_place e = absurd (let z : ◌≡◌ {A = ℕ} 0 1 = cc in omega arith)

  new : (done r : List ℕ) (b : ℕ) → walk p done 0 ≡ at b → New done r b
  new done [] b e = record {
    words = [];
    distinct = tt;
    only = λ v m. absurd m;
    all = λ v l h. absurd (omega (arith, l.some, ap length l.whole, length-append l.part l.left));
    long = refl;
  }
  new done (x ∷ r) b e = go (child p b x) refl (λ c f. new (done ++ (x ∷ [])) r c f)
    where
      on : (part : List ℕ) → walk p (done ++ part) 0 ≡ walk p part b
      on part = walk_two p done part 0 ∙ ap (on_place none (λ c. walk p part c)) e

      go : (q : Place) → child p b x ≡ q → ((c : ℕ) → walk p (done ++ (x ∷ [])) 0 ≡ at c → New (done ++ (x ∷ [])) r c) → New done (x ∷ r) b
      go none f ih = record {
        words = longer done (x ∷ r);
        distinct = longer_distinct done (x ∷ r);
        only = λ v m. let l = longer_only done (x ∷ r) v m in (l, lost v l.part l.left l.some l.is l.whole);
        all = λ v l h. longer_all done (x ∷ r) v l;
        long = longer_long done (x ∷ r) ∙ sym (ap (on_place (suc (length r)) (λ c. lacking p r c)) f);
      }
        where
          lost : (v part left : List ℕ) → 1 ≤ length part → v ≡ done ++ part → part ++ left ≡ x ∷ r → walk p v 0 ≡ none
          lost v [] left s q w = absurd (omega arith)
          lost v (y ∷ part) left s q w =
              let z : y ≡ x = cc in
              ap (λ (k : List ℕ). walk p k 0) q ∙ on (y ∷ part) ∙ ap (λ (k : ℕ). on_place none (λ c. walk p part c) (child p b k)) z ∙ ap (on_place none (λ c. walk p part c)) f
      go (at c) f ih = next (ih c here)
        where
          here : walk p (done ++ (x ∷ [])) 0 ≡ at c
          here = on (x ∷ []) ∙ ap (on_place none (λ k. walk p [] k)) f

          next : New (done ++ (x ∷ [])) r c → New done (x ∷ r) b
          next k = record {
            words = k.words;
            distinct = k.distinct;
            only = λ v m. let a = k.only v m in (shift done r v x a.0, a.1);
            all = λ v l h. found v h (back done r v x l);
            long = k.long ∙ sym (ap (on_place (suc (length r)) (λ z. lacking p r z)) f);
          }
            where
              found : (v : List ℕ) → walk p v 0 ≡ none → (v ≡ done ++ (x ∷ [])) ⊎ Longer (done ++ (x ∷ [])) r v → Member v k.words
              found v h (inl q) = clash_place (sym here ∙ sym (ap (λ (z : List ℕ). walk p z 0) q) ∙ h)
              found v h (inr l) = k.all v l h

-- ---- the theorem

module _ (p : List ℕ) (n : ℕ) (g : Sound p n 0) (y : ℕ) (w : List ℕ) where
  old : Number (Prefix (holds p)) (n - 1)
  old = nodes_in_use p n g

  added : New p [] (y ∷ w) 0
  added = new p [] (y ∷ w) 0 refl

  has : (v : List ℕ) → holds p v ≡ true → with_word (y ∷ w) (holds p) v ≡ true
  has v h = go (same v (y ∷ w)) h
    where
      go : (b : Bool) → holds p v ≡ true → b || holds p v ≡ true
      go true h = refl
      go false h = h

  itself : (v : List ℕ) → v ≡ y ∷ w → with_word (y ∷ w) (holds p) v ≡ true
  itself v e = go (same v (y ∷ w)) (ap (λ (z : List ℕ). same z (y ∷ w)) e ∙ same_self (y ∷ w))
    where
      go : (b : Bool) → b ≡ true → b || holds p v ≡ true
      go true q = refl
      go false q = clash q

  only : (v : List ℕ) → Member v added.words ⊎ Member v old.words → Prefix (with_word (y ∷ w) (holds p)) v
  only v (inl m) =
      let l = (added.only v m).0 in
      record { some = omega (arith, l.some, ap length l.is); rest = l.left; held = itself (v ++ l.left) (ap (λ (z : List ℕ). z ++ l.left) l.is ∙ l.whole) }
  only v (inr m) = let h = old.only v m in record { some = h.some; rest = h.rest; held = has (v ++ h.rest) h.held }

  all : (v : List ℕ) → Prefix (with_word (y ∷ w) (holds p)) v → Member v added.words ⊎ Member v old.words
  all v h = go (same (v ++ h.rest) (y ∷ w)) refl h.held
    where
      place : v ++ h.rest ≡ y ∷ w → (q : Place) → walk p v 0 ≡ q → Member v added.words ⊎ Member v old.words
      place e none f = inl (added.all v (record { part = v; left = h.rest; some = h.some; is = refl; whole = e }) f)
      place e (at zero) f = absurd (root_only p n g v h.some f)
      place e (at (suc c)) f = inr (old.all v (leads_prefix p n g v (suc c) (omega arith) f))

      go : (b : Bool) → same (v ++ h.rest) (y ∷ w) ≡ b → b || holds p (v ++ h.rest) ≡ true → Member v added.words ⊎ Member v old.words
      go true e q = place (same_true (v ++ h.rest) (y ∷ w) e) (walk p v 0) refl
      go false e q = inr (old.all v (record { some = h.some; rest = h.rest; held = q }))

  apart : (v : List ℕ) → Member v added.words → Member v old.words → ⊥
  apart v a b =
      let h = old.only v b in
      let l = prefix_leads p n g v h.rest h.held in
      clash_place p (sym l.there ∙ (added.only v a).1)

  -- The root and one for each distinct non-empty prefix of the words held and the word: so many
  -- nodes would be in use with it.
  pub nodes_with_word : Number (Prefix (with_word (y ∷ w) (holds p))) (n + lacking p (y ∷ w) 0 - 1)
  nodes_with_word = record {
    words = added.words ++ old.words;
    distinct = both_distinct added.words old.words added.distinct old.distinct apart;
    only = λ v m. only v (in_either v added.words old.words m);
    all = λ v h. either v (all v h);
    long = omega (arith, length-append added.words old.words, added.long, old.long, g.shaped.some);
  }
    where
      either : (v : List ℕ) → Member v added.words ⊎ Member v old.words → Member v (added.words ++ old.words)
      either v (inl m) = in_left v added.words old.words m
      either v (inr m) = in_right v added.words old.words m
