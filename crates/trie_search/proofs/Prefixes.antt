-- The words that a text starts with, as a walk finds them. Assumes nothing.
use Prim.Native.Nat.{ℕ, zero, suc, ◌+◌, ◌≤◌, ◌<◌}
use native.Mathlib.Omega.{arith}
use native.Mathlib.Numerals.{add-one}
use mathlib.Core.Path.{◌≡◌, refl, sym, ap, ◌∙◌}
use mathlib.Core.Bool.{Bool, true, false, cond}
use mathlib.Core.List.{List, [], ◌∷◌, ◌++◌}
use lib.ListN.{length, get_or, take, drop, set, length-append, length-set, drop_of_length-le, take-append-drop}
use lib.Seq.{take-suc-set, drop-set-lt, length-take-le, append_snoc, drop-drop, drop-cons}
use Rattle.trie_pool.specs.Cells.{mark_at}
use Rattle.trie_pool.specs.Words.{Place, none, at, on_place, child, walk, marked, holds}
use Rattle.trie_pool.specs.inner.Sound.{Readable}
use Rattle.trie_pool.specs.Meaning.{lengths_from, prefix_lengths}
use Rattle.trie_pool.proofs.Lists.{drop_next}
use Rattle.trie_pool.proofs.Shape.{walk_append, walk_more}
use Rattle.trie_pool.proofs.Walks.{child_past, readable_child}
use Rattle.trie_child.specs.inner.Search.{to_place}
use Rattle.std.specs.Prelude.{Option, Some, None}
use Rattle.trie_search.specs.inner.Search.{Wrote}

-- the lengths of the words that the text goes on to from node b, where i characters have been read
abbrev pub prefixes : List ℕ → List ℕ → ℕ → ℕ → List ℕ
prefixes p [] i b = []
prefixes p (x ∷ t) i b = on_place [] (λ r. cond (marked (mark_at p r)) ((i + 1) ∷ prefixes p t (i + 1) r) (prefixes p t (i + 1) r)) (child p b x)

-- ---- a walk finds them all

abbrev then : List ℕ → List ℕ → ℕ → ℕ → ℕ → List ℕ
then p text i j r = cond (marked (mark_at p r)) (j ∷ prefixes p (drop (suc i) text) j r) (prefixes p (drop (suc i) text) j r)

module _ (p text : List ℕ) where
  -- past a missing child no word is left
  none_left : (i n : ℕ) → ((k : ℕ) → i ≤ k → k < i + n → walk p (take k text) 0 ≡ none) → lengths_from (holds p) text i n ≡ []
  none_left i zero h = refl
  none_left i (suc n) h =
      let e : holds p (take i text) ≡ false = ap (on_place false (λ r. marked (mark_at p r))) (h i (omega arith) (omega arith)) in
      ap (λ (b : Bool). cond b (i ∷ lengths_from (holds p) text (suc i) n) (lengths_from (holds p) text (suc i) n)) e
      ∙ none_left (suc i) n (λ k a l. h k (omega arith) (omega arith))

  from_node : (n i b : ℕ) → i + n ≡ length text → walk p (take i text) 0 ≡ at b → prefixes p (drop i text) i b ≡ lengths_from (holds p) text (suc i) n
  from_node zero i b e h = ap (λ (l : List ℕ). prefixes p l i b) (drop_of_length-le text {i = i} (omega arith))
  from_node (suc n) i b e h =
      ap (λ (l : List ℕ). prefixes p l i b) (drop-cons text i 0 (omega arith))
      ∙ go (child p b (get_or text i 0)) (walk_more p text i b (omega arith) h) (λ r f. from_node n (suc i) r (omega arith) f)
    where
      go : (q : Place) → walk p (take (suc i) text) 0 ≡ q → ((r : ℕ) → walk p (take (suc i) text) 0 ≡ at r → prefixes p (drop (suc i) text) (suc i) r ≡ lengths_from (holds p) text (suc (suc i)) n)
          → on_place [] (λ r. then p text i (i + 1) r) q ≡ lengths_from (holds p) text (suc i) (suc n)
      go none f ih = sym (none_left (suc i) (suc n) (λ k a l. walk_append p text (suc i) k a f))
      go (at r) f ih =
          ap (λ (j : ℕ). then p text i j r) (add-one i)
          ∙ ap (λ (l : List ℕ). cond (marked (mark_at p r)) (suc i ∷ l) l) (ih r f)
          ∙ sym (ap (λ (q : Place). cond (on_place false (λ z. marked (mark_at p z)) q) (suc i ∷ lengths_from (holds p) text (suc (suc i)) n) (lengths_from (holds p) text (suc (suc i)) n)) f)

pub prefixes_is : (p text : List ℕ) → prefix_lengths (holds p) text ≡ prefixes p text 0 0
unfolding prefix_lengths
prefixes_is p text = sym (from_node p text (length text) 0 0 (omega arith) refl)

-- ---- one step

-- a child that was found may be read
pub there : {p : List ℕ} {b r : ℕ} (x : ℕ) (k : Option ℕ) → to_place k ≡ child p b x → k ≡ Some r → Readable p b → Readable p r
there {p} {b} {r} x k t q g = readable_child p b x r (sym t ∙ ap to_place q) g

pub ends_there : {p : List ℕ} {b r : ℕ} (x : ℕ) (k : Option ℕ) → to_place k ≡ child p b x → k ≡ Some r → Readable p b → (0 < r) × Readable p r
ends_there {p} {b} {r} x k t q g = (child_past p b x r (sym t ∙ ap to_place q) g, there x k t q g)

module _ (p text : List ℕ) (b i : ℕ) (h : i < length text) (k : Option ℕ) (t : to_place k ≡ child p b (get_or text i 0)) where
  abbrev more : ℕ → List ℕ
  more r = cond (marked (mark_at p r)) ((i + 1) ∷ prefixes p (drop (i + 1) text) (i + 1) r) (prefixes p (drop (i + 1) text) (i + 1) r)

  next : prefixes p (drop i text) i b ≡ on_place [] more (to_place k)
  next = ap (λ (u : List ℕ). prefixes p u i b) (drop_next text i h) ∙ ap (on_place [] more) (sym t)

  pub no_more : k ≡ None → prefixes p (drop i text) i b ≡ []
  no_more q = next ∙ ap (λ (z : Option ℕ). on_place [] more (to_place z)) q

  module _ (r : ℕ) (q : k ≡ Some r) where
    pub passed : marked (mark_at p r) ≡ false → prefixes p (drop i text) i b ≡ prefixes p (drop (i + 1) text) (i + 1) r
    passed z = next ∙ ap (λ (y : Option ℕ). on_place [] more (to_place y)) q
        ∙ ap (λ (m : Bool). cond m ((i + 1) ∷ prefixes p (drop (i + 1) text) (i + 1) r) (prefixes p (drop (i + 1) text) (i + 1) r)) z

    pub one_more : marked (mark_at p r) ≡ true → prefixes p (drop i text) i b ≡ (i + 1) ∷ prefixes p (drop (i + 1) text) (i + 1) r
    one_more nz = next ∙ ap (λ (y : Option ℕ). on_place [] more (to_place y)) q
        ∙ ap (λ (m : Bool). cond m ((i + 1) ∷ prefixes p (drop (i + 1) text) (i + 1) r) (prefixes p (drop (i + 1) text) (i + 1) r)) nz

-- ---- counting

-- the words are those counted and those that node b goes on to
pub record Counted (p text : List ℕ) (b n i : ℕ) : Type 0 where
  pub here : Readable p b
  pub at_most : i ≤ length text
  pub few : n ≤ i
  pub sum : length (prefix_lengths (holds p) text) ≡ n + length (prefixes p (drop i text) i b)

pub counted_none : (p text : List ℕ) → Readable p 0 → Counted p text 0 0 0
counted_none p text g = record { here = g; at_most = omega arith; few = omega arith; sum = ap length (prefixes_is p text) ∙ sym (omega arith) }

pub counted_all : {p text : List ℕ} {b n i : ℕ} → Counted p text b n i → length text ≤ i → n ≡ length (prefix_lengths (holds p) text)
counted_all {p} {text} {b} {n} {i} v h = omega (arith, v.sum, ap (λ (u : List ℕ). length (prefixes p u i b)) (drop_of_length-le text h))

module _ {p text : List ℕ} {b n i : ℕ} (v : Counted p text b n i) (h : i < length text) (k : Option ℕ) (t : to_place k ≡ child p b (get_or text i 0)) where
  pub counted_end : k ≡ None → n ≡ length (prefix_lengths (holds p) text)
  counted_end q = omega (arith, v.sum, ap length (no_more p text b i h k t q))

  pub counted_on : (r : ℕ) → k ≡ Some r → marked (mark_at p r) ≡ false → Counted p text r n (i + 1)
  counted_on r q z = record {
    here = there _ k t q v.here;
    at_most = omega arith;
    few = omega (arith, v.few);
    sum = omega (arith, v.sum, ap length (passed p text b i h k t r q z));
  }

  pub counted_more : (r : ℕ) → k ≡ Some r → marked (mark_at p r) ≡ true → Counted p text r (n + 1) (i + 1)
  counted_more r q nz = record {
    here = there _ k t q v.here;
    at_most = omega arith;
    few = omega (arith, v.few);
    sum = omega (arith, v.sum, ap length (one_more p text b i h k t r q nz));
  }

-- ---- writing

append_nil : (l : List ℕ) → l ++ [] ≡ l
append_nil [] = refl
append_nil (x ∷ l) = ap {B = List ℕ} (λ r. x ∷ r) (append_nil l)

-- the answer is what is written with what node b goes on to
pub record Written (p text out₀ out : List ℕ) (b n i : ℕ) : Type 0 where
  pub here : Readable p b
  pub at_most : i ≤ length text
  pub fits : n ≤ length out
  pub same : prefix_lengths (holds p) text ≡ take n out ++ prefixes p (drop i text) i b
  pub kept : drop n out ≡ drop n out₀
  pub long : length out ≡ length out₀

pub written_none : (p text out : List ℕ) → Readable p 0 → Written p text out out 0 0 0
written_none p text out g = record { here = g; at_most = omega arith; fits = omega arith; same = prefixes_is p text; kept = refl; long = refl }

wrote : (out₀ out l : List ℕ) (n : ℕ) → l ≡ take n out ++ [] → n ≤ length out → drop n out ≡ drop n out₀ → Wrote out₀ l out n
wrote out₀ out l n e h kept =
    let l_is : l ≡ take n out = e ∙ append_nil (take n out) in
    let long : n ≡ length l = sym (ap length l_is ∙ length-take-le n out h) in
    record { count = long; is = sym (take-append-drop n out) ∙ cc }

pub written_all : {p text out₀ out : List ℕ} {b n i : ℕ} → Written p text out₀ out b n i → length text ≤ i → Wrote out₀ (prefix_lengths (holds p) text) out n
written_all {p} {text} {out₀} {out} {b} {n} {i} v h =
    wrote out₀ out (prefix_lengths (holds p) text) n (v.same ∙ ap (λ (u : List ℕ). take n out ++ prefixes p u i b) (drop_of_length-le text h)) v.fits v.kept

module _ {p text out₀ out : List ℕ} {b n i : ℕ} (v : Written p text out₀ out b n i) (h : i < length text) (k : Option ℕ) (t : to_place k ≡ child p b (get_or text i 0)) where
  pub written_end : k ≡ None → Wrote out₀ (prefix_lengths (holds p) text) out n
  written_end q = wrote out₀ out (prefix_lengths (holds p) text) n (v.same ∙ ap (λ (u : List ℕ). take n out ++ u) (no_more p text b i h k t q)) v.fits v.kept

  pub written_on : (r : ℕ) → k ≡ Some r → marked (mark_at p r) ≡ false → Written p text out₀ out r n (i + 1)
  written_on r q z = record {
    here = there _ k t q v.here;
    at_most = omega arith;
    fits = v.fits;
    same = v.same ∙ ap (λ (u : List ℕ). take n out ++ u) (passed p text b i h k t r q z);
    kept = v.kept;
    long = v.long;
  }

  module _ (r : ℕ) (q : k ≡ Some r) (nz : marked (mark_at p r) ≡ true) (room : length (prefix_lengths (holds p) text) ≤ length out₀) where
    pub roomy : n < length out
    roomy =
        omega (
          arith,
          ap length (v.same ∙ ap (λ (u : List ℕ). take n out ++ u) (one_more p text b i h k t r q nz)),
          length-append (take n out) ((i + 1) ∷ prefixes p (drop (i + 1) text) (i + 1) r),
          length-take-le n out v.fits,
          v.long,
        )

    pub written_more : Written p text out₀ (set out n (i + 1)) r (n + 1) (i + 1)
    written_more =
        let front : take (n + 1) (set out n (i + 1)) ≡ take n out ++ ((i + 1) ∷ []) = ap (λ (j : ℕ). take j (set out n (i + 1))) (add-one n) ∙ take-suc-set out n (i + 1) roomy in
        record {
          here = there _ k t q v.here;
          at_most = omega arith;
          fits = omega (arith, length-set out n (i + 1), roomy);
          same = v.same ∙ ap (λ (u : List ℕ). take n out ++ u) (one_more p text b i h k t r q nz)
              ∙ sym (ap (λ (u : List ℕ). u ++ prefixes p (drop (i + 1) text) (i + 1) r) front ∙ append_snoc (take n out) (i + 1) (prefixes p (drop (i + 1) text) (i + 1) r));
          kept = drop-set-lt (n + 1) out n (i + 1) (omega arith) ∙ sym (drop-drop 1 n out) ∙ ap (λ (u : List ℕ). drop 1 u) v.kept ∙ drop-drop 1 n out₀;
          long = length-set out n (i + 1) ∙ v.long;
        }
