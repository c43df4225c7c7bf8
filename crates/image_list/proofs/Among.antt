-- The terms of a list, and lists whose words rise. Assumes nothing.
use Prim.Native.Nat.{ℕ, suc, ◌≤◌}
use native.Mathlib.Omega.{arith}
use mathlib.Core.Path.{◌≡◌, refl, sym, ap, subst, ◌∙◌}
use mathlib.Core.Bool.{Bool, true, false, cond}
use mathlib.Core.List.{List, [], ◌∷◌, ◌++◌, map}
use mathlib.Core.Logic.{◌⊎◌, inl, inr, ⊎_elim}
use mathlib.Core.Option.{Option, none, some}
use lib.ListN.{length}
use Rattle.trie_pool.specs.Words.{Word}
use Rattle.trie_pool.specs.Meaning.{same}
use Rattle.trie_pool.specs.Listing.{Member, Distinct}
use Rattle.trie_pool.proofs.Sets.{same_true, same_self}
use Rattle.image_rules.specs.Records.{Term}
use Rattle.image_rules.specs.Order.{below}
use Rattle.image_rules.specs.Lists.{Next, Rising, terms_in}
use Rattle.trie_pool.proofs.Rules.{clash}
use Rattle.image_rules.proofs.Order.{below_self}

abbrev pub In : Term → List Term → Type 0
In t [] = ⊥
In t (s ∷ ts) = (t ≡ s) ⊎ In t ts

pub in_left : (t : Term) (a b : List Term) → In t a → In t (a ++ b)
in_left t [] b m = absurd m
in_left t (s ∷ a) b (inl e) = inl e
in_left t (s ∷ a) b (inr m) = inr (in_left t a b m)

pub in_right : (t : Term) (a b : List Term) → In t b → In t (a ++ b)
in_right t [] b m = m
in_right t (s ∷ a) b m = inr (in_right t a b m)

pub in_one : (t : Term) (a b : List Term) → In t (a ++ b) → In t a ⊎ In t b
in_one t [] b m = inr m
in_one t (s ∷ a) b (inl e) = inl (inl e)
in_one t (s ∷ a) b (inr m) = ⊎_elim (λ h. inl (inr h)) (λ h. inr h) (in_one t a b m)

-- ---- words that rise

-- each term of the list has a word above v
abbrev pub Above : List ℕ → List Term → Type 0
Above v ts = (t : Term) → In t ts → below v t.word ≡ true

-- each word is below all later ones
abbrev pub Sorted : List Term → Type 0
Sorted [] = Unit {0}
Sorted (t ∷ ts) = Above t.word ts × Sorted ts

pub sorted_both : (a b : List Term) → Sorted a → Sorted b → ((s : Term) → In s a → Above s.word b) → Sorted (a ++ b)
sorted_both [] b h k f = k
sorted_both (s ∷ a) b h k f =
    (λ t m. ⊎_elim (λ l. h.0 t l) (λ r. f s (inl refl) t r) (in_one t a b m), sorted_both a b h.1 k (λ t m. f t (inr m)))

pub rising_of : (v : List ℕ) (ts : List Term) → Above v ts → Sorted ts → ((t : Term) → In t ts → Word t.word × (t.class ≤ 65535)) → Rising v ts
rising_of v [] a s f = tt
rising_of v (t ∷ ts) a s f =
    let g = f t (inl refl) in
    (record { word = g.0; class = g.1; above = a t (inl refl) }, rising_of t.word ts s.0 s.1 (λ r m. f r (inr m)))

-- ---- their words

abbrev pub words_of : List Term → List (List ℕ)
words_of [] = []
words_of (t ∷ ts) = t.word ∷ words_of ts

pub words_long : (ts : List Term) → length (words_of ts) ≡ length ts
words_long [] = refl
words_long (t ∷ ts) = ap suc (words_long ts)

pub record Of (v : List ℕ) (ts : List Term) : Type 0 where
  pub term : Term
  pub inside : In term ts
  pub is : v ≡ term.word

pub member_of : (v : List ℕ) (ts : List Term) → Member v (words_of ts) → Of v ts
member_of v [] m = absurd m
member_of v (t ∷ ts) (inl e) = record { term = t; inside = inl refl; is = e }
member_of v (t ∷ ts) (inr m) = let o = member_of v ts m in record { term = o.term; inside = inr o.inside; is = o.is }

pub of_member : (t : Term) (ts : List Term) → In t ts → Member t.word (words_of ts)
of_member t [] m = absurd m
of_member t (s ∷ ts) (inl e) = inl (ap (λ (z : Term). z.word) e)
of_member t (s ∷ ts) (inr m) = inr (of_member t ts m)

pub distinct_of : (ts : List Term) → Sorted ts → Distinct (words_of ts)
distinct_of [] s = tt
distinct_of (t ∷ ts) s =
    (λ m. let o = member_of t.word ts m in clash (sym (below_self t.word) ∙ ap (below t.word) o.is ∙ s.0 o.term o.inside), distinct_of ts s.1)

-- ---- the class of a word

pub record Classed (v : List ℕ) (ts : List Term) : Type 0 where
  pub class : ℕ
  pub is : terms_in ts v ≡ some class
  pub inside : In (record { word = v; class = class }) ts

-- a word of the list has a class
pub in_class : (t : Term) (ts : List Term) → In t ts → Classed t.word ts
unfolding terms_in
in_class t [] m = absurd m
in_class t (s ∷ ts) m = go (same t.word s.word) refl m (in_class t ts)
  where
    go : (b : Bool) → same t.word s.word ≡ b → In t (s ∷ ts) → (In t ts → Classed t.word ts) → Classed t.word (s ∷ ts)
    go true e m ih = record {
      class = s.class;
      is = ap (λ (b : Bool). cond b (some s.class) (terms_in ts t.word)) e;
      inside = inl (λ i. record { word = same_true t.word s.word e i; class = s.class });
    }
    go false e (inl q) ih = absurd (no e (ap (λ (z : Term). z.word) q))
      where
        no : same t.word s.word ≡ false → t.word ≡ s.word → ⊥
        no f h = clash (sym f ∙ ap (same t.word) (sym h) ∙ same_self t.word)
    go false e (inr q) ih =
        let r = ih q in
        record { class = r.class; is = ap (λ (b : Bool). cond b (some s.class) (terms_in ts t.word)) e ∙ r.is; inside = inr r.inside }

-- and a word with a class is in the list
pub class_in : (v : List ℕ) (c : ℕ) (ts : List Term) → terms_in ts v ≡ some c → In (record { word = v; class = c }) ts
unfolding terms_in
class_in v c [] e = absurd (let z : ◌≡◌ {A = ℕ} 0 1 = cc in omega arith)
class_in v c (s ∷ ts) e = go (same v s.word) refl e (class_in v c ts)
  where
    go : (b : Bool) → same v s.word ≡ b → cond b (some s.class) (terms_in ts v) ≡ some c → (terms_in ts v ≡ some c → In (record { word = v; class = c }) ts) → In (record { word = v; class = c }) (s ∷ ts)
    go true h q ih =
        let k : c ≡ s.class = cc in
        inl (λ i. record { word = same_true v s.word h i; class = k i })
    go false h q ih = inr (ih q)
