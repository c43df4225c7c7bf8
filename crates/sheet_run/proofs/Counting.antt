-- The nodes that a list of words takes. Assumes nothing.
use Prim.Native.Nat.{ℕ, suc, ◌+◌, ◌-◌, ◌≤◌}
use native.Mathlib.Omega.{arith}
use mathlib.Core.Path.{◌≡◌, refl, sym, ◌∙◌, ap, subst}
use mathlib.Core.Bool.{Bool, true, false, cond, ◌||◌}
use mathlib.Core.List.{List, [], ◌∷◌, ◌++◌, map}
use mathlib.Core.Logic.{◌⊎◌, inl, inr}
use mathlib.Core.Option.{some}
use lib.ListN.{length}
use Rattle.trie_pool.specs.Cells.{used}
use Rattle.trie_pool.specs.Words.{holds, lacking}
use Rattle.trie_pool.specs.Rules.{is_dictionary, cells_of}
use Rattle.trie_pool.specs.Meaning.{Words, meaning, same, with_word}
use Rattle.trie_pool.specs.Listing.{Member, Distinct, Number, Prefix}
use Rattle.trie_pool.proofs.Rules.{sound, clash}
use Rattle.trie_pool.proofs.Sets.{same_true, same_self}
use Rattle.trie_pool.proofs.Listing.{nodes_in_use}
use Rattle.trie_pool.proofs.With.{nodes_with_word}
use Rattle.trie_pool.proofs.Number.{one_number}
use Rattle.trie_check.specs.Refusals.{is_none, held}
use Rattle.trie_check.proofs.Parts.{known_is, held_is}
use Rattle.trie_char_answers.specs.Refusals.{nodes_with}
use Rattle.sheet_run.specs.Program.{among, including, prefixes_of, or_new, all_new, prefixes, nodes}

-- ---- a list's words, by test and by place

pub among_member : (words : List (List ℕ)) (v : List ℕ) → among words v ≡ true → Member v words
unfolding among
among_member [] v e = clash e
among_member (w ∷ words) v e = go (same v w) refl e (among_member words v)
  where
    go : (b : Bool) → same v w ≡ b → b || among words v ≡ true → (among words v ≡ true → Member v words) → Member v (w ∷ words)
    go true q h ih = inl (same_true v w q)
    go false q h ih = inr (ih h)

pub member_among : (words : List (List ℕ)) (v : List ℕ) → Member v words → among words v ≡ true
unfolding among
member_among [] v m = absurd m
member_among (w ∷ words) v (inl e) = ap (λ (b : Bool). b || among words v) (ap (λ (z : List ℕ). same z w) e ∙ same_self w)
member_among (w ∷ words) v (inr m) = go (same v w) (member_among words v m)
  where
    go : (b : Bool) → among words v ≡ true → b || among words v ≡ true
    go true h = refl
    go false h = h

-- ---- the prefixes of a word

record Start (v w : List ℕ) : Type 0 where
  some' : 1 ≤ length v
  rest : List ℕ
  is : v ++ rest ≡ w

record Behind (x : ℕ) (v : List ℕ) (us : List (List ℕ)) : Type 0 where
  tail' : List ℕ
  is : v ≡ x ∷ tail'
  there : Member tail' us

behind_only : (x : ℕ) (v : List ℕ) (us : List (List ℕ)) → Member v (map (λ (u : List ℕ). x ∷ u) us) → Behind x v us
behind_only x v [] m = absurd m
behind_only x v (u ∷ us) (inl e) = record { tail' = u; is = e; there = inl refl }
behind_only x v (u ∷ us) (inr m) =
    let b = behind_only x v us m in
    record { tail' = b.tail'; is = b.is; there = inr b.there }

behind_all : (x : ℕ) (v : List ℕ) (us : List (List ℕ)) → Member v us → Member (x ∷ v) (map (λ (u : List ℕ). x ∷ u) us)
behind_all x v [] m = absurd m
behind_all x v (u ∷ us) (inl e) = inl (ap (λ (z : List ℕ). x ∷ z) e)
behind_all x v (u ∷ us) (inr m) = inr (behind_all x v us m)

starts_only : (w v : List ℕ) → Member v (prefixes_of w) → Start v w
starts_only [] v m = absurd m
starts_only (x ∷ w) v (inl e) = record { some' = omega (arith, ap length e); rest = w; is = ap (λ (z : List ℕ). z ++ w) e }
starts_only (x ∷ w) v (inr m) = go (behind_only x v (prefixes_of w) m) (λ u k. starts_only w u k)
  where
    go : Behind x v (prefixes_of w) → ((u : List ℕ) → Member u (prefixes_of w) → Start u w) → Start v (x ∷ w)
    go b ih =
        let s = ih b.tail' b.there in
        record { some' = omega (arith, ap length b.is); rest = s.rest; is = ap (λ (z : List ℕ). z ++ s.rest) b.is ∙ ap (λ (z : List ℕ). x ∷ z) s.is }

starts_all : (w v rest : List ℕ) → 1 ≤ length v → v ++ rest ≡ w → Member v (prefixes_of w)
starts_all w [] rest s e = absurd (omega arith)
starts_all [] (y ∷ v) rest s e = absurd (omega (arith, ap length e))
starts_all (x ∷ w) (y ∷ []) rest s e = let z : y ≡ x = cc in inl (ap (λ (k : ℕ). k ∷ []) z)
starts_all (x ∷ w) (y ∷ y' ∷ v) rest s e =
    let z : y ≡ x = cc in
    let q : (y' ∷ v) ++ rest ≡ w = cc in
    inr (subst (λ (k : ℕ). Member (k ∷ y' ∷ v) (map (λ (u : List ℕ). x ∷ u) (prefixes_of w))) (sym z) (behind_all x (y' ∷ v) (prefixes_of w) (starts_all w (y' ∷ v) rest (omega arith) q)))

-- ---- words that are each listed once

new_only : (v u : List ℕ) (words : List (List ℕ)) → Member u (or_new v words) → (u ≡ v) ⊎ Member u words
new_only v u words m = go (among words v) m
  where
    go : (b : Bool) → Member u (cond b words (v ∷ words)) → (u ≡ v) ⊎ Member u words
    go true k = inr k
    go false k = k

new_all : (v u : List ℕ) (words : List (List ℕ)) → (u ≡ v) ⊎ Member u words → Member u (or_new v words)
new_all v u words m = go (among words v) refl m
  where
    go : (b : Bool) → among words v ≡ b → (u ≡ v) ⊎ Member u words → Member u (cond b words (v ∷ words))
    go true e (inl k) = subst (λ (z : List ℕ). Member z words) (sym k) (among_member words v e)
    go true e (inr k) = k
    go false e k = k

new_distinct : (v : List ℕ) (words : List (List ℕ)) → Distinct words → Distinct (or_new v words)
new_distinct v words d = go (among words v) refl
  where
    go : (b : Bool) → among words v ≡ b → Distinct (cond b words (v ∷ words))
    go true e = d
    go false e = (λ m. clash (sym e ∙ member_among words v m), d)

all_only : (vs words : List (List ℕ)) (u : List ℕ) → Member u (all_new vs words) → Member u vs ⊎ Member u words
all_only [] words u m = inr m
all_only (v ∷ vs) words u m = go (new_only v u (all_new vs words) m) (all_only vs words u)
  where
    more : Member u vs ⊎ Member u words → Member u (v ∷ vs) ⊎ Member u words
    more (inl k) = inl (inr k)
    more (inr k) = inr k

    go : (u ≡ v) ⊎ Member u (all_new vs words) → (Member u (all_new vs words) → Member u vs ⊎ Member u words) → Member u (v ∷ vs) ⊎ Member u words
    go (inl e) ih = inl (inl e)
    go (inr k) ih = more (ih k)

all_left : (vs words : List (List ℕ)) (u : List ℕ) → Member u vs → Member u (all_new vs words)
all_left [] words u m = absurd m
all_left (v ∷ vs) words u (inl e) = new_all v u (all_new vs words) (inl e)
all_left (v ∷ vs) words u (inr m) = new_all v u (all_new vs words) (inr (all_left vs words u m))

all_right : (vs words : List (List ℕ)) (u : List ℕ) → Member u words → Member u (all_new vs words)
all_right [] words u m = m
all_right (v ∷ vs) words u m = new_all v u (all_new vs words) (inr (all_right vs words u m))

all_distinct : (vs words : List (List ℕ)) → Distinct words → Distinct (all_new vs words)
all_distinct [] words d = d
all_distinct (v ∷ vs) words d = new_distinct v (all_new vs words) (all_distinct vs words d)

-- ---- the prefixes of a list of words

listed_distinct : (words : List (List ℕ)) → Distinct (prefixes words)
listed_distinct [] = tt
listed_distinct (w ∷ words) = all_distinct (prefixes_of w) (prefixes words) (listed_distinct words)

listed_only : (words : List (List ℕ)) (v : List ℕ) → Member v (prefixes words) → Prefix (among words) v
listed_only [] v m = absurd m
listed_only (w ∷ words) v m = go (all_only (prefixes_of w) (prefixes words) v m) (listed_only words v)
  where
    go : Member v (prefixes_of w) ⊎ Member v (prefixes words) → (Member v (prefixes words) → Prefix (among words) v) → Prefix (among (w ∷ words)) v
    go (inl k) ih = let s = starts_only w v k in record { some = s.some'; rest = s.rest; held = member_among (w ∷ words) (v ++ s.rest) (inl s.is) }
    go (inr k) ih = let p = ih k in record { some = p.some; rest = p.rest; held = member_among (w ∷ words) (v ++ p.rest) (inr (among_member words (v ++ p.rest) p.held)) }

listed_all : (words : List (List ℕ)) (v rest : List ℕ) → 1 ≤ length v → Member (v ++ rest) words → Member v (prefixes words)
listed_all [] v rest s m = absurd m
listed_all (w ∷ words) v rest s (inl e) = all_left (prefixes_of w) (prefixes words) v (starts_all w v rest s e)
listed_all (w ∷ words) v rest s (inr m) = all_right (prefixes_of w) (prefixes words) v (listed_all words v rest s m)

pub listed : (words : List (List ℕ)) → Number (Prefix (among words)) (length (prefixes words))
listed words = record {
  words = prefixes words;
  distinct = listed_distinct words;
  only = listed_only words;
  all = λ v p. listed_all words v p.rest p.some (among_member words (v ++ p.rest) p.held);
  long = refl;
}

-- ---- a pool of the words

pub among_more : (x : ℕ) (w : List ℕ) (words : List (List ℕ)) → among ((x ∷ w) ∷ words) ≡ with_word (x ∷ w) (among words)
unfolding among
among_more x w words = refl

module _ (pool : List ℕ) (words : List (List ℕ)) (m : meaning pool ≡ some (among words)) where
  passes : is_dictionary pool ≡ true
  passes = known_is pool (ap is_none m)

  holds_are : holds (cells_of pool) ≡ among words
  holds_are = sym (held_is pool passes) ∙ ap held m

  -- Nodes in use are the root and one for each distinct non-empty prefix of the words held, with
  -- the word that is added.
  pub nodes_are : (w : List ℕ) → nodes_with pool w ≡ nodes (including w words)
  unfolding nodes
  nodes_are [] =
      let g = sound (cells_of pool) passes in
      let e = one_number (Prefix (among words)) (used (cells_of pool) - 1) (length (prefixes words)) (subst (λ (f : Words). Number (Prefix f) (used (cells_of pool) - 1)) holds_are (nodes_in_use (cells_of pool) (used (cells_of pool)) g)) (listed words) in
      omega (arith, e, g.shaped.some)
  nodes_are (y ∷ w) =
      let g = sound (cells_of pool) passes in
      let k = used (cells_of pool) + lacking (cells_of pool) (y ∷ w) 0 - 1 in
      let n = subst (λ (f : Words). Number (Prefix (with_word (y ∷ w) f)) k) holds_are (nodes_with_word (cells_of pool) (used (cells_of pool)) g y w) in
      let e = one_number (Prefix (among ((y ∷ w) ∷ words))) k (length (prefixes ((y ∷ w) ∷ words))) (subst (λ (f : Words). Number (Prefix f) k) (sym (among_more y w words)) n) (listed ((y ∷ w) ∷ words)) in
      omega (arith, e, g.shaped.some)
