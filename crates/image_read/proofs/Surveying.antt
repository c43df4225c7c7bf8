-- The loop over the records of an image. Assumes nothing.
use mathlib.Core.Path.{◌≡◌, refl, sym, ap, ◌∙◌}
use mathlib.Core.Bool.{Bool, true, false, ◌&&◌}
use mathlib.Core.List.{List, [], ◌∷◌}
use Prim.Native.Nat.{ℕ, zero, suc, ◌+◌, ◌-◌, ◌≤◌, ◌<◌}
use native.Mathlib.Omega.{arith}
use borrow.Author.Tests.{eq-eqb, ne_eqb}
use lib.ListN.{length, get_or, take, drop, length-append, length-drop, length-take, drop_of_length-le}
use Rattle.utf8_sequences.specs.Utf8.{Utf8, empty, next}
use Rattle.utf8.specs.Decoding.{run_all, scalars_of}
use Rattle.theorems_unicode.proofs.Standard.{accepted, sequence_size}
use Rattle.image_rules.specs.Records.{Term}
use Rattle.image_rules.specs.Order.{common}
use Rattle.image_rules.specs.Lists.{charge_from, charge}
use Rattle.image_rules.proofs.Order.{parts}
use Rattle.image_rules.specs.Reading.{word_bytes, term_of, follows, is_word, is_last, broken, list, onto, read, read_of}
use Rattle.image_rules.specs.inner.News.{new, news_from}
use Rattle.image_record.specs.inner.Records.{Entry, End, Neither}
use Rattle.image_word.specs.inner.Words.{is_next, Follows}
use Rattle.image_read.specs.inner.Surveys.{Raises, Listed}
use Rattle.image_read.proofs.Raising.{new_one}
use Rattle.image_read.proofs.Readings.{read_other, ended_not, ended_more, ended_all, read_none, term_word, word_is, read_on}

-- ---- charges and levels, one word on

none_charge : (v : List ℕ) (i : ℕ) → i + charge_from v [] ≡ i
unfolding charge_from
none_charge v i = omega arith

pub none_news : (d : ℕ) (v : List ℕ) (i : ℕ) → i + news_from d v [] ≡ i
unfolding news_from
none_news d v i = omega arith

charge_first : (w : List ℕ) (t : Term) (ts : List Term) → charge_from w (t ∷ ts) ≡ (length t.word - common w t.word) + charge_from t.word ts
unfolding charge_from
charge_first w t ts = refl

pub news_first : (d : ℕ) (w : List ℕ) (t : Term) (ts : List Term) → news_from d w (t ∷ ts) ≡ new (common w t.word) (length t.word) d + news_from d t.word ts
unfolding news_from
news_first d w t ts = refl

-- ---- sizes

short : {bytes scalars : List ℕ} → Utf8 bytes scalars → length scalars ≤ length bytes
short empty = omega arith
short (next q {bytes} {scalars} t u) = let z = sequence_size q bytes t in omega (arith, short u, length-append q bytes, z.1)

-- ---- the survey so far: what the rest says, the whole says

-- the whole list, where ts is what is left of it
pub record All (image levels : List ℕ) (words nodes : ℕ) (w : List ℕ) (ts : List Term) : Type 0 where
  pub terms : List Term
  pub reads : read_of image ≡ list terms
  pub number : length terms ≡ words + length ts
  pub charged : charge terms ≡ nodes + charge_from w ts
  pub news : (d : ℕ) → news_from d [] terms ≡ get_or levels d 0 + news_from d w ts

pub record Surveying (image levels : List ℕ) (words nodes : ℕ) (w : List ℕ) (at : ℕ) : Type 0 where
  pub fuel : ℕ
  pub enough : length image ≤ at + fuel
  pub inside : at ≤ length image
  pub many : length levels ≡ 257
  pub few : words ≤ at
  pub small : nodes ≤ at
  pub low : (d : ℕ) → get_or levels d 0 ≤ words
  pub stops : (k : ℕ) → read fuel w words at (drop at image) ≡ broken k → read_of image ≡ broken k
  pub goes : (ts : List Term) → read fuel w words at (drop at image) ≡ list ts → All image levels words nodes w ts

pub surveying_none : (image levels w : List ℕ) → length levels ≡ 257 → ((d : ℕ) → get_or levels d 0 ≡ 0) → w ≡ [] → Surveying image levels 0 0 w 0
unfolding read_of
surveying_none image levels w m z e = record {
  fuel = length image;
  enough = omega arith;
  inside = omega arith;
  many = m;
  few = omega arith;
  small = omega arith;
  low = λ d. omega (arith, z d);
  stops = λ k h. ap (λ (u : List ℕ). read (length image) u 0 0 image) (sym e) ∙ h;
  goes = λ ts h. record {
    terms = ts;
    reads = ap (λ (u : List ℕ). read (length image) u 0 0 image) (sym e) ∙ h;
    number = omega arith;
    charged = ap (λ (u : List ℕ). charge_from u ts) (sym e) ∙ nought (charge_from w ts);
    news = λ d. ap (λ (u : List ℕ). news_from d u ts) (sym e) ∙ omega (arith, z d);
  };
}
  where
    nought : (n : ℕ) → n ≡ 0 + n
    nought n = omega arith

-- one record on
module _ {image levels : List ℕ} {words nodes : ℕ} {w : List ℕ} {at : ℕ} (g : Surveying image levels words nodes w at) where
  b : List ℕ
  b = drop at image

  pub stop_at : {k : ℕ} → at < length image → ((f : ℕ) → read (suc f) w words at (drop at image) ≡ broken k) → read_of image ≡ broken k
  stop_at {k} h r = go g.fuel refl
    where
      go : (f : ℕ) → g.fuel ≡ f → read_of image ≡ broken k
      go zero e = absurd (omega (arith, g.enough))
      go (suc f) e = g.stops k (ap (λ (i : ℕ). read i w words at (drop at image)) e ∙ r f)

  -- no word and no end
  pub stop_here : at < length image → is_word w (drop at image) ≡ false → is_last words (drop at image) ≡ false → read_of image ≡ broken at
  stop_here h n m = stop_at h (λ f. read_other f w words at (drop at image) n ∙ ended_not words at (drop at image) m)

  pub stop_neither : at < length image → Neither (drop at image) → read_of image ≡ broken at
  stop_neither h n = stop_here h (n.no_word w) (n.no_last words)

  -- the end
  module _ {n : ℕ} (h : at < length image) (e : End image at n) where
    pub stop_number : (n ≡ words → ⊥) → read_of image ≡ broken at
    stop_number ne = stop_here h (e.no_word w) (e.is words ∙ ne_eqb n words ne)

    module _ (same : n ≡ words) where
      last : is_last words (drop at image) ≡ true
      last = e.is words ∙ eq-eqb n words same

      pub stop_behind : (at + 10 ≡ length image → ⊥) → read_of image ≡ broken (at + 10)
      stop_behind ne =
          stop_at h (λ f. read_other f w words at (drop at image) (e.no_word w) ∙ ended_more words at (drop at image) last (λ z. ne (omega (arith, length-drop at image, e.inside))))

      pub listed : at + 10 ≡ length image → Listed image levels words nodes
      listed z = go g.fuel refl
        where
          go : (f : ℕ) → g.fuel ≡ f → Listed image levels words nodes
          go zero q = absurd (omega (arith, g.enough))
          go (suc f) q =
              let a = g.goes [] (ap (λ (i : ℕ). read i w words at (drop at image)) q ∙ read_other f w words at (drop at image) (e.no_word w) ∙ ended_all words at (drop at image) last (omega (arith, length-drop at image))) in
              record {
                terms = a.terms;
                reads = a.reads;
                number = omega (arith, a.number);
                charged = sym (a.charged ∙ none_charge w nodes);
                few = omega (arith, g.small, g.inside);
                news = λ d. sym (a.news d ∙ none_news d w (get_or levels d 0));
                many = g.many;
              }

  -- the missing record
  pub stop_end : length image ≤ at → read_of image ≡ broken at
  stop_end h = g.stops at (ap (read g.fuel w words at) (drop_of_length-le image {i = at} h) ∙ read_none g.fuel w words at)

  -- a word
  module _ {c from to : ℕ} (e : Entry image at c from to) where
    pub stop_word : at < length image → is_next (take (to - from) (drop from image)) w ≡ false → read_of image ≡ broken at
    stop_word h n = stop_here h (e.is w ∙ word_no ∙ n') (e.no_last words)
      where
        n' : (run_all (word_bytes (drop at image))).whole && follows w (scalars_of (word_bytes (drop at image))) ≡ false
        n' = ap (λ (q : List ℕ). (run_all q).whole && follows w (scalars_of q)) (sym e.word) ∙ n

        word_no : (run_all (word_bytes (drop at image))).whole && follows w (term_of (drop at image)).word ≡ (run_all (word_bytes (drop at image))).whole && follows w (scalars_of (word_bytes (drop at image)))
        word_no = ap (λ (q : List ℕ). (run_all (word_bytes (drop at image))).whole && follows w q) (term_word (drop at image))

    module _ {prev : List ℕ} {size shared : ℕ} (t : Follows (take (to - from) (drop from image)) w prev size shared) where
      long : length (take size prev) ≡ size
      long = ap length t.word ∙ sym t.number

      pub shares : shared ≤ size
      shares = omega (arith, t.together, t.number, (parts w (scalars_of (take (to - from) (drop from image)))).right)

      pub bytes : size ≤ to - from
      bytes = omega (arith, t.number, short (accepted (take (to - from) (drop from image)) whole_is), length-take (to - from) (drop from image))
        where
          whole_is : (run_all (take (to - from) (drop from image))).whole ≡ true
          whole_is = left_true (run_all (take (to - from) (drop from image))).whole (follows w (scalars_of (take (to - from) (drop from image)))) t.is
            where
              left_true : (x y : Bool) → (x && y) ≡ true → x ≡ true
              left_true true y q = refl
              left_true false y q = q

      pub surveying_next : {levels' : List ℕ} → at < length image → Raises levels levels' shared size → Surveying image levels' (words + 1) (nodes + (size - shared)) (take size prev) to
      surveying_next {levels'} h r = go g.fuel refl
        where
          step : (f : ℕ) → g.fuel ≡ suc f → read g.fuel w words at (drop at image) ≡ onto (term_of (drop at image)) (read f (take size prev) (words + 1) to (drop to image))
          step f q = ap (λ (i : ℕ). read i w words at (drop at image)) q ∙ read_on e t f words

          go : (f : ℕ) → g.fuel ≡ f → Surveying image levels' (words + 1) (nodes + (size - shared)) (take size prev) to
          go zero q = absurd (omega (arith, g.enough))
          go (suc f) q = record {
            fuel = f;
            enough = omega (arith, g.enough, e.low, e.order);
            inside = e.inside;
            many = r.many ∙ g.many;
            few = omega (arith, g.few, e.low, e.order);
            small = omega (arith, g.small, bytes, e.low, e.order);
            low = λ d. omega (arith, r.is d, g.low d, new_one shared size d);
            stops = λ k z. g.stops k (step f q ∙ ap (onto (term_of (drop at image))) z);
            goes = λ ts z.
                let a = g.goes (term_of (drop at image) ∷ ts) (step f q ∙ ap (onto (term_of (drop at image))) z) in
                record {
                  terms = a.terms;
                  reads = a.reads;
                  number = a.number ∙ omega arith;
                  charged = a.charged ∙ more_charge ts;
                  news = λ d. a.news d ∙ more_news d ts;
                };
          }
            where
              here : common w (term_of (drop at image)).word ≡ shared
              here = ap (common w) (word_is e t ∙ t.word) ∙ sym t.together

              there : length (term_of (drop at image)).word ≡ size
              there = ap length (word_is e t) ∙ long

              more_charge : (ts : List Term) → nodes + charge_from w (term_of (drop at image) ∷ ts) ≡ nodes + (size - shared) + charge_from (take size prev) ts
              more_charge ts = omega (arith, charge_first w (term_of (drop at image)) ts, here, there, ap (λ (u : List ℕ). charge_from u ts) (word_is e t))

              more_news : (d : ℕ) (ts : List Term) → get_or levels d 0 + news_from d w (term_of (drop at image) ∷ ts) ≡ get_or levels' d 0 + news_from d (take size prev) ts
              more_news d ts = omega (arith, news_first d w (term_of (drop at image)) ts, r.is d, ap (λ (i : ℕ). new i (length (term_of (drop at image)).word) d) here, ap (λ (i : ℕ). new shared i d) there, ap (λ (u : List ℕ). news_from d u ts) (word_is e t))
