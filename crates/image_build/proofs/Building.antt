-- The root alone in its half, and the levels of an image's trie. Assumes nothing.
use mathlib.Core.Path.{◌≡◌, refl, sym, subst, ◌∙◌}
use mathlib.Core.Bool.{Bool, true, false, ◌&&◌}
use mathlib.Core.List.{List, [], ◌∷◌}
use Prim.Native.Nat.{ℕ, zero, suc, ◌+◌, ◌*◌, ◌≤◌, ◌<◌}
use native.Mathlib.Omega.{arith}
use native.Mathlib.Decide.{dec_lt}
use lib.ListN.{length, get_or, set, length-set}
use lib.Seq.{get_or-set_same, get_or-set_other}
use Rattle.trie_pool.specs.Cells.{used}
use Rattle.trie_pool.proofs.Shape.{first_is}
use Rattle.trie_leaf.specs.inner.Planting.{Beside}
use Rattle.image_rules.specs.Records.{Term}
use Rattle.image_rules.specs.Order.{common}
use Rattle.image_rules.specs.Lists.{charge}
use lib.Dec.{eqb, leb}
use Rattle.utf8.specs.Decoding.{run_all}
use Rattle.image_rules.specs.Reading.{size_at, whole, kind_at, body_at, behind, word_bytes, term_of, follows, is_word, list, read, read_of}
use Rattle.image_rules.specs.inner.News.{new, news_from}
use Rattle.image_read.proofs.Raising.{new_low}
use Rattle.image_starts.specs.inner.Starts.{start_of, Counts, Begins}
use Rattle.image_starts.proofs.Beginning.{start_next, start_one, start_zero}
use Rattle.image_starts.proofs.Sums.{Short, last_start, start_rise}
use Rattle.trie_build_rules.specs.inner.Growing.{Bare, Starts}
use Rattle.image_place.specs.inner.Placing.{Opens}
use Rattle.image_rules.proofs.Readings.{both, Fine, fine, no_list}
use Rattle.image_place.proofs.Readings.{read_zero, Onto, onto_list, ended_list}
use Rattle.image_read.proofs.Readings.{read_word, read_other}
use Rattle.image_build.specs.inner.Building.{Clears, Cleared, Builds}

word_short : (before b : List ℕ) → is_word before b ≡ true → length (term_of b).word ≤ 255
unfolding is_word
word_short before b h =
    (fine before (term_of b).word (both (((whole b && eqb (kind_at b) 1) && leb 3 (length (body_at b))) && (run_all (word_bytes b)).whole) (follows before (term_of b).word) h).1).short

-- the words of a list that is read are short
shorts : (f : ℕ) (w : List ℕ) (n at : ℕ) (b : List ℕ) (ts : List Term) → read f w n at b ≡ list ts → Short ts
shorts zero w n at b ts e = no_list (sym (read_zero w n at b) ∙ e)
shorts (suc f) w n at b ts e = go (is_word w b) refl (λ us z. shorts f (term_of b).word (suc n) (at + (4 + size_at b)) (behind b) us z)
  where
    go : (x : Bool) → is_word w b ≡ x → ((us : List Term) → read f (term_of b).word (suc n) (at + (4 + size_at b)) (behind b) ≡ list us → Short us) → Short ts
    go true h ih =
        let o = onto_list (term_of b) (read f (term_of b).word (suc n) (at + (4 + size_at b)) (behind b)) ts (sym (read_word f w n at b h) ∙ e) in
        subst Short (sym o.is) (word_short w b h, ih o.us o.rest)
    go false h ih = subst Short (sym (ended_list n at b ts (sym (read_other f w n at b h) ∙ e))) tt

short_words : (image : List ℕ) (ts : List Term) → read_of image ≡ list ts → Short ts
unfolding read_of
short_words image ts e = shorts (length image) [] 0 0 image ts e

no_news : (w : List ℕ) (ts : List Term) → news_from 0 w ts ≡ 0
unfolding news_from
no_news w [] = refl
no_news w (t ∷ ts) = omega (arith, new_low (common w t.word) (length t.word) 0 (omega arith), no_news t.word ts)

-- the root of a dictionary that is to have m nodes
abbrev pub rooted : List ℕ → ℕ → List ℕ
rooted q m = set (set q 0 m) 2 0

module _ {image p levels : List ℕ} {n : ℕ} (b : Builds image p levels n) where
  size : start_of levels 256 ≡ n
  size = last_start levels b.terms (short_words image b.terms b.reads) b.news ∙ sym b.number

  pub counts : Counts levels
  counts = record { many = b.many; small = λ d l. omega (arith, start_rise levels d l, size, b.small) }

  -- the root's cells
  pub root_cells : 4 ≤ length p
  root_cells = omega (arith, b.sound.fits, b.sound.shaped.some)

  pub clears : (k : ℕ) → k ≡ used p → Clears p k
  clears k e = record { some = omega (arith, b.sound.shaped.some); fits = omega (arith, b.sound.fits) }

  module _ (q : List ℕ) (k : ℕ) (k_is : k ≡ used p) (c : Cleared p q k) (long : length q ≡ length p) where
    past_root : (m j : ℕ) → (j ≡ 0 → ⊥) → (j ≡ 2 → ⊥) → get_or (rooted q m) j 0 ≡ get_or q j 0
    past_root m j x y = get_or-set_other (set q 0 m) 2 j 0 0 y ∙ get_or-set_other q 0 j m 0 x

    pub root_use : (m : ℕ) → m ≡ n → used (rooted q m) ≡ n
    root_use m z = get_or-set_other (set q 0 m) 2 0 0 0 (omega arith) ∙ get_or-set_same q 0 m 0 (omega (arith, root_cells)) ∙ z

    bare : Bare (rooted q n) n
    bare = record {
      first = past_root n 1 (omega arith) (omega arith) ∙ c.other 1 (λ i r x y l e. omega arith) ∙ sym (first_is p 0) ∙ b.sound.shaped.start;
      used = root_use n refl;
      count = get_or-set_same (set q 0 n) 2 0 0 (omega (arith, length-set q 0 n, root_cells));
      blank = λ i r x l. past_root n (8 * i + r) (omega arith) (omega arith) ∙ blank i r x l (dec_lt i k);
      fits = omega (arith, length-set (set q 0 n) 2 0, length-set q 0 n, b.fits);
      small = b.small;
    }
      where
        blank : (i r : ℕ) → 0 < i → r < 4 → Dec (i < k) → get_or q (8 * i + r) 0 ≡ 0
        blank i r x l (yes h) = c.blank i r x h l
        blank i r x l (no h) = c.other (8 * i + r) (λ j s y z m e. omega arith) ∙ b.sound.spare.blank i r (omega arith) l

    pub emptied : (m : ℕ) → Beside p (rooted q m)
    emptied m = record {
      root = past_root m 3 (omega arith) (omega arith) ∙ c.other 3 (λ i r x y l e. omega arith);
      aside = λ i r x y. past_root m (8 * i + r) (omega arith) (omega arith) ∙ c.other (8 * i + r) (λ j s z w l e. omega arith);
    }

    pub opens : (next : List ℕ) → (m : ℕ) → m ≡ n → Begins levels next → Opens image (rooted q m) next
    opens next m z g = record {
      terms = b.terms;
      reads = b.reads;
      s = start_of levels;
      bare = subst (λ (j : ℕ). Bare (rooted q m) j) (z ∙ sym size) (subst (λ (j : ℕ). Bare (rooted q j) j) (sym z) bare);
      starts = record {
        zero' = start_zero levels;
        one = start_one levels;
        root = g.root;
        empty = g.first;
        rise = λ d a l. omega (arith, start_next levels d a);
      };
      many = g.many;
      room = λ d l. room d l;
    }
      where
        room : (d : ℕ) → d < 256 → get_or next d 0 + news_from d [] b.terms ≡ start_of levels (suc d)
        room zero l = omega (arith, g.root, start_one levels, no_news [] b.terms)
        room (suc d) l = omega (arith, g.first (suc d) (omega arith) (omega arith), start_next levels (suc d) (omega arith), b.news (suc d))
