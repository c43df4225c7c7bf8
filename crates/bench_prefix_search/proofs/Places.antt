-- The search at every place of a text. Assumes nothing.
use Prim.Native.Nat.{ℕ, zero, suc, ◌+◌, ◌-◌, ◌*◌, ◌/◌, ◌≤◌, ◌<◌, min}
use native.Mathlib.Omega.{arith}
use native.Mathlib.Numerals.{add-one}
use mathlib.Core.Path.{◌≡◌, refl, sym, ap, subst, ◌∙◌}
use mathlib.Core.Bool.{Bool, true, false, cond, not, ◌&&◌}
use mathlib.Core.List.{List, [], ◌∷◌, ◌++◌}
use borrow.Author.Tests.{lt-ltb, le-ltb}
use lib.Dec.{ltb}
use lib.ListN.{length, take, drop, length-append, length-drop}
use Rattle.lists.proofs.Parts.{tail_drop}
use Rattle.trie_pool.specs.Rules.{cells_of, is_dictionary}
use Rattle.trie_pool.specs.Words.{holds}
use Rattle.trie_pool.specs.Meaning.{Words, lengths_from, prefix_lengths}
use Rattle.trie_pool.specs.inner.Sound.{Readable}
use Rattle.trie_check.proofs.Parts.{cells_are, readable}
use Rattle.trie_search.specs.inner.Search.{Asks, Wrote}
use Rattle.bench_prefix_search.specs.Places.{found, row_after, searches, Searched}

-- ---- no text has more words at a place than characters left

at_most : (held : Words) (text : List ℕ) (i n : ℕ) → length (lengths_from held text i n) ≤ n
at_most held text i zero = omega arith
at_most held text i (suc n) = go (at_most held text (suc i) n) (held (take i text))
  where
    go : length (lengths_from held text (suc i) n) ≤ n → (b : Bool)
        → length (cond b (i ∷ lengths_from held text (suc i) n) (lengths_from held text (suc i) n)) ≤ suc n
    go h true = omega arith
    go h false = omega arith

pub no_more : (held : Words) (text : List ℕ) → length (prefix_lengths held text) ≤ length text
unfolding prefix_lengths
no_more held text = at_most held text 1 (length text)

-- ---- what is not searched

module _ (pool text old : List ℕ) where
  not_searched : searches pool text old ≡ false → Searched pool text old old 0
  not_searched e = record {
    number = sym (ap (λ (b : Bool). cond b (found (holds (cells_of pool)) text (length text)) 0) e);
    row = sym (ap (λ (b : Bool). cond b (row_after (holds (cells_of pool)) text old (length text)) old) e);
  }

  by_two : (a b d : Bool) → b ≡ true → (not a && (not b && d)) ≡ false
  by_two true b d e = refl
  by_two false b d e = ap (λ (z : Bool). not z && d) e

  by_three : (a b d : Bool) → d ≡ false → (not a && (not b && d)) ≡ false
  by_three true b d e = refl
  by_three false true d e = refl
  by_three false false d e = e

  pub long_text : 65535 < length text → Searched pool text old old 0
  long_text h = not_searched (ap (λ (z : Bool). not z && (not (ltb (length old) (length text)) && is_dictionary pool)) (lt-ltb 65535 (length text) h))

  pub short_row : length old < length text → Searched pool text old old 0
  short_row h = not_searched (by_two (ltb 65535 (length text)) (ltb (length old) (length text)) (is_dictionary pool) (lt-ltb (length old) (length text) h))

  pub no_dictionary : (b : Bool) → b ≡ is_dictionary pool → b ≡ false → Searched pool text old old 0
  no_dictionary b is e = not_searched (by_three (ltb 65535 (length text)) (ltb (length old) (length text)) (is_dictionary pool) (sym is ∙ e))

-- ---- place by place

pub record Going (p text old row : List ℕ) (n place : ℕ) : Type 0 where
  pub upto : place ≤ length text
  pub number : n ≡ found (holds p) text place
  pub few : n ≤ 65535 * place
  pub is : row ≡ row_after (holds p) text old place
  pub long : length row ≡ length old

pub going_none : (p text old : List ℕ) → Going p text old old 0 0
going_none p text old = record { upto = omega arith; number = refl; few = omega arith; is = refl; long = refl }

module _ {p text old row : List ℕ} {n place : ℕ} (v : Going p text old row n place) (h : place < length text)
    (short : length text ≤ 65535) (room : length text ≤ length old) where
  abbrev rest : List ℕ
  rest = take (length text - place) (drop place text)

  rest_is : rest ≡ drop place text
  rest_is = tail_drop text place

  rest_short : length rest ≤ length text
  rest_short = omega (arith, ap length rest_is, length-drop place text)

  pub going_asks : Readable p 0 → Asks p rest row
  going_asks g = record {
    here = g;
    short = omega (arith, rest_short, short);
    room = omega (arith, rest_short, no_more (holds p) rest, room, v.long);
  }

  module _ (new : List ℕ) (more : ℕ) (w : Wrote row (prefix_lengths (holds p) rest) new more) where
    pub more_few : n + more ≤ 65535 * (place + 1)
    more_few = omega (arith, v.few, w.count, no_more (holds p) rest, rest_short, short)

    next : Going p text old new (n + more) (suc place)
    next = record {
      upto = omega arith;
      number = omega (arith, v.number, w.count, ap (λ (u : List ℕ). length (prefix_lengths (holds p) u)) rest_is);
      few = omega (arith, more_few);
      is = w.is
          ∙ ap (λ (u : List ℕ). prefix_lengths (holds p) u ++ drop (length (prefix_lengths (holds p) u)) row) rest_is
          ∙ ap (λ (u : List ℕ). prefix_lengths (holds p) (drop place text) ++ drop (length (prefix_lengths (holds p) (drop place text))) u) v.is;
      long = ap length w.is
          ∙ omega (
            arith,
            length-append (prefix_lengths (holds p) rest) (drop (length (prefix_lengths (holds p) rest)) row),
            length-drop (length (prefix_lengths (holds p) rest)) row,
            no_more (holds p) rest,
            rest_short,
            room,
            v.long,
          );
    }

    pub going_on : Going p text old new (n + more) (place + 1)
    going_on = let e : suc place ≡ place + 1 = omega arith in
        subst (λ (k : ℕ). Going p text old new (n + more) k) e next

module _ (pool text old : List ℕ) (n : ℕ) (n_is : n ≡ min (length pool / 8) 1048576) (b : Bool) (b_is : b ≡ is_dictionary pool) (yes' : b ≡ true)
    (short : length text ≤ 65535) (room : length text ≤ length old) where
  pub going_readable : Readable (take (8 * n) pool) 0
  going_readable = readable pool n n_is (sym b_is ∙ yes')

  all_good : searches pool text old ≡ true
  all_good = ap (λ (z : Bool). not z && (not (ltb (length old) (length text)) && is_dictionary pool)) (le-ltb 65535 (length text) short)
      ∙ ap (λ (z : Bool). not z && is_dictionary pool) (le-ltb (length old) (length text) room)
      ∙ sym b_is ∙ yes'

  pub going_all : {row : List ℕ} {k place : ℕ} → Going (take (8 * n) pool) text old row k place → length text ≤ place → Searched pool text old row k
  going_all {row} {k} {place} v h =
      let end : place ≡ length text = omega (arith, v.upto, h) in
      let cells : take (8 * n) pool ≡ cells_of pool = cells_are pool n n_is in
      record {
        number = v.number
            ∙ ap (λ (i : ℕ). found (holds (take (8 * n) pool)) text i) end
            ∙ ap (λ (q : List ℕ). found (holds q) text (length text)) cells
            ∙ sym (ap (λ (z : Bool). cond z (found (holds (cells_of pool)) text (length text)) 0) all_good);
        row = v.is
            ∙ ap (λ (i : ℕ). row_after (holds (take (8 * n) pool)) text old i) end
            ∙ ap (λ (q : List ℕ). row_after (holds q) text old (length text)) cells
            ∙ sym (ap (λ (z : Bool). cond z (row_after (holds (cells_of pool)) text old (length text)) old) all_good);
      }
