-- The list of a dictionary has exactly its words and their classes, and is as long as its word
-- count says. Assumes nothing.
use Prim.Native.Nat.{ℕ, zero, suc, ◌+◌, ◌≤◌, ◌<◌}
use native.Mathlib.Omega.{arith}
use mathlib.Core.Path.{◌≡◌, refl, sym, ap, ◌∙◌}
use mathlib.Core.Bool.{Bool, true, false, cond}
use mathlib.Core.List.{List, [], ◌∷◌}
use mathlib.Core.Option.{Option, none, some}
use lib.ListN.{length}
use Rattle.trie_pool.specs.Cells.{mark_at, used}
use Rattle.trie_pool.specs.Words.{Word, Place, at, on_place, walk, marked, holds, term, term_at, rev}
use Rattle.trie_pool.specs.Words as words
use Rattle.trie_pool.specs.Meaning.{Terms, is_some, tally, amount}
use Rattle.trie_pool.specs.Listing.{Member, Number, Held}
use Rattle.trie_pool.specs.inner.Sound.{Sound}
use Rattle.trie_pool.specs.Rules.{well_formed, cells_of, is_dictionary}
use Rattle.trie_pool.proofs.Rules.{clash, sound}
use Rattle.trie_pool.proofs.Canon.{holds_term}
use Rattle.trie_pool.proofs.Held.{held_word}
use Rattle.trie_pool.proofs.Listing.{word_count}
use Rattle.trie_pool.proofs.Number.{one_number}
use Rattle.trie_pool.proofs.Terms.{term_class}
use Rattle.image_rules.specs.Records.{Term}
use Rattle.image_rules.specs.Lists.{Good, Lists, terms_in}
use Rattle.image_list.specs.Listed.{list_of}
use Rattle.image_list.proofs.Order.{below_nil}
use Rattle.image_list.proofs.Among.{In, Sorted, rising_of, words_of, words_long, member_of, of_member, distinct_of, in_class, class_in}
use Rattle.image_list.proofs.Listed.{ends_of, listed_in, listed_sorted}

none_some : {P : Type 0} {c : ℕ} → none ≡ some c → P
none_some e = absurd (let z : ◌≡◌ {A = ℕ} 0 1 = cc in omega arith)

tally_most : (f : ℕ → Bool) (n : ℕ) → tally f n ≤ n
tally_most f zero = omega arith
tally_most f (suc n) = go (f n) (tally_most f n)
  where
    go : (b : Bool) → tally f n ≤ n → tally f n + cond b 1 0 ≤ suc n
    go true h = omega arith
    go false h = omega arith

-- ---- a word held, by its mark

record Marked (p v : List ℕ) (c : ℕ) : Type 0 where
  node : ℕ
  leads : walk p v 0 ≡ at node
  mark : mark_at p node ≡ suc c

marked_of : (p v : List ℕ) (c : ℕ) → term_at p v ≡ some c → Marked p v c
marked_of p v c e = go (walk p v 0) refl e
  where
    of_term : (m : ℕ) → term m ≡ some c → m ≡ suc c
    of_term zero e = none_some e
    of_term (suc k) e = let z : k ≡ c = cc in ap suc z

    go : (q : Place) → walk p v 0 ≡ q → on_place none (λ r. term (mark_at p r)) q ≡ some c → Marked p v c
    go words.none f e = none_some e
    go (at r) f e = record { node = r; leads = f; mark = of_term (mark_at p r) e }

module _ (p : List ℕ) (n : ℕ) (g : Sound p n 0) where
  -- each term of the list is held with its class
  pub only : (t : Term) → In t (list_of p) → term_at p t.word ≡ some t.class
  unfolding list_of
  only t m =
      let e = ends_of p n g 256 [] 0 g.shaped.some t m in
      ap (term_at p) e.word ∙ ap (on_place none (λ r. term (mark_at p r))) e.leads ∙ ap term e.mark

  held : (t : Term) → In t (list_of p) → holds p t.word ≡ true
  held t m = holds_term p t.word ∙ ap is_some (only t m)

  word : (v : List ℕ) (c : ℕ) → term_at p v ≡ some c → Word v
  word v c e = held_word p n g v (holds_term p v ∙ ap is_some e)

  -- and each word held is in the list
  pub all : (v : List ℕ) (c : ℕ) → term_at p v ≡ some c → In (record { word = v; class = c }) (list_of p)
  unfolding list_of
  all v c e =
      let m = marked_of p v c e in
      listed_in p n g v 256 [] 0 m.node c (omega (arith, (word v c e).short)) m.leads m.mark

  pub sorted : Sorted (list_of p)
  unfolding list_of
  sorted = listed_sorted p n g 256 [] 0 g.shaped.some

  -- ---- how many

  pub list_long : length (list_of p) ≡ tally (λ i. marked (mark_at p i)) n
  list_long = one_number (Held (holds p)) (length (list_of p)) (tally (λ i. marked (mark_at p i)) n) number (word_count p n g)
    where
      number : Number (Held (holds p)) (length (list_of p))
      number = record {
        words = words_of (list_of p);
        distinct = distinct_of (list_of p) sorted;
        only = λ v m. let o = member_of v (list_of p) m in ap (holds p) o.is ∙ held o.term o.inside;
        all = λ v h. found v (term_at p v) refl h;
        long = words_long (list_of p);
      }
        where
          found : (v : List ℕ) (o : Option ℕ) → term_at p v ≡ o → holds p v ≡ true → Member v (words_of (list_of p))
          found v none e h = clash (sym (holds_term p v ∙ ap is_some e) ∙ h)
          found v (some c) e h = of_member (record { word = v; class = c }) (list_of p) (all v c e)

  pub list_few : length (list_of p) ≤ 1048576
  list_few = omega (arith, list_long, tally_most (λ i. marked (mark_at p i)) n, g.small)

  -- ---- the list

  pub lists : Lists (term_at p) (list_of p)
  lists = record {
    good = record {
      rising = rising_of [] (list_of p) (λ t m. below_nil t.word (word t.word t.class (only t m)).some) sorted
          (λ t m. (word t.word t.class (only t m), term_class p n g t.word t.class (only t m)));
      few = omega (arith, list_few);
    };
    is = λ v. same v (term_at p v) refl (terms_in (list_of p) v) refl;
  }
    where
      same : (v : List ℕ) (a : Option ℕ) → term_at p v ≡ a → (b : Option ℕ) → terms_in (list_of p) v ≡ b → b ≡ term_at p v
      same v none e none f = sym e
      same v none e (some c) f = none_some (sym e ∙ only _ (class_in v c (list_of p) f))
      same v (some c) e b f =
          let k = in_class _ (list_of p) (all v c e) in
          sym f ∙ k.is ∙ sym (only _ k.inside)
