-- Bytes that are read are the image of what is read. Assumes nothing.
use Prim.Native.Nat.{ℕ, zero, suc, ◌+◌, ◌-◌, ◌≤◌, ◌<◌}
use native.Mathlib.Omega.{arith}
use mathlib.Core.Path.{◌≡◌, refl, sym, ap, subst, ◌∙◌}
use mathlib.Core.Bool.{Bool, true, false, cond, ◌&&◌}
use mathlib.Core.List.{List, [], ◌∷◌, ◌++◌, append_assoc, append-nil}
use borrow.Author.Tests.{leb-true, eqb-true}
use lib.Dec.{leb, eqb}
use lib.ListN.{length, get_or, take, drop, take-append-drop}
use lib.Seq.{length-take-le}
use Rattle.utf8_sequences.specs.Utf8.{encode}
use Rattle.utf8.specs.Decoding.{run_all, scalars_of}
use Rattle.char_string_scalars.specs.Scalars.{is_scalar, first_non_scalar}
use Rattle.theorems_unicode.proofs.Standard.{accepted}
use Rattle.theorems_unicode.proofs.Encoding.{encode_back, all_scalars}
use Rattle.trie_pool.specs.Words.{Word}
use Rattle.trie_pool.proofs.Edges.{legal_of}
use Rattle.image_rules.specs.Records.{Term, le, value, Bytes, record_of, word_record, last_record, word_records, image_of}
use Rattle.image_rules.specs.Lists.{Next, Rising, Good}
use Rattle.image_rules.specs.Reading.{size_at, whole, kind_at, body_at, behind, word_bytes, term_of, follows, is_word, is_last, Read, broken, list, onto, ended, read, read_of}
use Rattle.theorems_images.specs.Images.{OnlyImages}
use Rattle.theorems_images.proofs.Numbers.{le_value, value_below_2, value_below_4}
use Rattle.image_rules.proofs.Readings.{both, Fine, fine, no_list, list_inj}
use Rattle.theorems_images.proofs.Records.{bytes_take, body_bytes, behind_bytes, behind_long, record_is}

-- ---- a record of kind 1

-- what the tests on it say
record Tested (before s : List ℕ) : Type 0 where
  is_whole : whole s ≡ true
  kind : kind_at s ≡ 1
  long : 3 ≤ length (body_at s)
  utf8 : (run_all (word_bytes s)).whole ≡ true
  word : Fine before (term_of s).word

tested : (before s : List ℕ) → is_word before s ≡ true → Tested before s
unfolding is_word
tested before s h =
    let a = both _ (follows before (term_of s).word) h in
    let b = both _ (run_all (word_bytes s)).whole a.0 in
    let c = both _ (leb 3 (length (body_at s))) b.0 in
    let d = both (whole s) (eqb (kind_at s) 1) c.0 in
    record {
      is_whole = d.0;
      kind = eqb-true (kind_at s) 1 d.1;
      long = leb-true 3 (length (body_at s)) c.1;
      utf8 = b.1;
      word = fine before (term_of s).word a.1;
    }

module _ (before s : List ℕ) (bytes : Bytes s) (t : Tested before s) where
  class_long : length (take 2 (body_at s)) ≡ 2
  class_long = length-take-le 2 (body_at s) (omega (arith, t.long))

  class_bytes : Bytes (take 2 (body_at s))
  class_bytes = bytes_take 2 (body_at s) (body_bytes s bytes t.is_whole) (omega (arith, t.long))

  word_is : word_bytes s ≡ encode (term_of s).word
  unfolding term_of
  word_is = sym (encode_back (accepted (word_bytes s) t.utf8))

  past_class : drop 2 (body_at s) ≡ word_bytes s
  unfolding word_bytes
  past_class = refl

  scalars : length (term_of s).word ≤ first_non_scalar (term_of s).word
  unfolding term_of
  scalars = omega (arith, all_scalars (accepted (word_bytes s) t.utf8))

  class_most : (term_of s).class ≤ 65535
  unfolding term_of
  class_most = omega (arith, value_below_2 (take 2 (body_at s)) class_bytes (omega (arith, class_long)))

  body_is : body_at s ≡ le 2 (term_of s).class ++ encode (term_of s).word
  unfolding term_of
  body_is =
      sym (take-append-drop 2 (body_at s))
      ∙ ap (λ (l : List ℕ). l ++ drop 2 (body_at s)) (sym (le_value (take 2 (body_at s)) class_bytes) ∙ ap (λ (k : ℕ). le k (value (take 2 (body_at s)))) class_long)
      ∙ ap (λ (l : List ℕ). le 2 (value (take 2 (body_at s))) ++ l) (past_class ∙ word_is)

  -- the bytes are the term's record and what is behind it
  is_word_record : s ≡ word_record (term_of s) ++ behind s
  unfolding word_record
  is_word_record = record_is s bytes t.is_whole ∙ ap (λ (k : ℕ). record_of k (body_at s) ++ behind s) t.kind ∙ ap (λ (l : List ℕ). record_of 1 l ++ behind s) body_is

  next_is : Next before (term_of s)
  next_is = record {
    word = record {
      trimmed = t.word.trimmed;
      some = t.word.some;
      short = t.word.short;
      legal = subst (λ (w : List ℕ). (i : ℕ) → i < length w → is_scalar (get_or w i 0) ≡ true) t.word.trimmed (legal_of (term_of s).word scalars);
    };
    class = class_most;
    above = t.word.above;
  }

-- ---- a record of kind 0

module _ (n : ℕ) (s : List ℕ) (bytes : Bytes s) (is : is_last n s ≡ true) (long : length s ≡ 10) where
  tests : (whole s ≡ true) × (kind_at s ≡ 0) × (length (body_at s) ≡ 4) × (value (body_at s) ≡ n)
  unfolding is_last
  tests =
      let a = both _ (eqb (value (body_at s)) n) is in
      let b = both _ (eqb (length (body_at s)) 4) a.0 in
      let c = both (whole s) (eqb (kind_at s) 0) b.0 in
      (c.0, eqb-true (kind_at s) 0 c.1, eqb-true (length (body_at s)) 4 b.1, eqb-true (value (body_at s)) n a.1)

  last_few : n < 4294967296
  last_few = omega (arith, tests.3, value_below_4 (body_at s) (body_bytes s bytes tests.0) (omega (arith, tests.2)))

  body_number : body_at s ≡ le 4 n
  body_number = sym (le_value (body_at s) (body_bytes s bytes tests.0)) ∙ ap (λ (k : ℕ). le k (value (body_at s))) tests.2 ∙ ap (le 4) tests.3

  nothing : (l : List ℕ) → length l ≡ 0 → l ≡ []
  nothing [] e = refl
  nothing (x ∷ l) e = absurd (omega arith)

  is_last_record : s ≡ last_record n
  unfolding last_record
  is_last_record =
      record_is s bytes tests.0 ∙ ap (λ (k : ℕ). record_of k (body_at s) ++ behind s) tests.1
      ∙ ap (λ (l : List ℕ). record_of 0 (body_at s) ++ l) (nothing (behind s) (omega (arith, behind_long s bytes tests.0, tests.2)))
      ∙ append-nil (record_of 0 (body_at s)) ∙ ap (record_of 0) body_number

-- ---- an image

pub record Back (before : List ℕ) (n : ℕ) (s : List ℕ) (ts : List Term) : Type 0 where
  pub is : s ≡ word_records ts ++ last_record (n + length ts)
  pub rising : Rising before ts
  pub few : n + length ts < 4294967296

no_more : (before : List ℕ) (n : ℕ) (s : List ℕ) (ts : List Term) → n < 4294967296 → s ≡ last_record n → ts ≡ [] → Back before n s ts
unfolding word_records
no_more before n s [] few e z =
    let y : n ≡ n + 0 = omega arith in
    record { is = e ∙ ap last_record y; rising = tt; few = omega arith }
no_more before n s (t ∷ ts) few e z = absurd (omega (arith, ap length z))

one_more : (before : List ℕ) (n : ℕ) (s : List ℕ) (ts us : List Term) (t : Term) → Next before t → s ≡ word_record t ++ behind s → Back t.word (suc n) (behind s) us → ts ≡ t ∷ us → Back before n s ts
unfolding word_records
one_more before n s ts us t next e b z = subst (Back before n s) (sym z) (record {
  is = e ∙ ap (λ (l : List ℕ). word_record t ++ l) b.is ∙ sym (append_assoc (word_record t) (word_records us) (last_record (suc n + length us)))
      ∙ ap (λ (k : ℕ). (word_record t ++ word_records us) ++ last_record k) (let y : suc n + length us ≡ n + suc (length us) = omega arith in y);
  rising = (next, b.rising);
  few = omega (arith, b.few);
})

ended_back : (before : List ℕ) (n place : ℕ) (s : List ℕ) (ts : List Term) → Bytes s → ended n place s ≡ list ts → Back before n s ts
unfolding ended
ended_back before n place s ts bytes h = go (is_last n s) refl (eqb (length s) 10) refl h
  where
    go : (a : Bool) → is_last n s ≡ a → (b : Bool) → eqb (length s) 10 ≡ b → cond a (cond b (list []) (broken (place + 10))) (broken place) ≡ list ts → Back before n s ts
    go true e true f h =
        let l = eqb-true (length s) 10 f in
        no_more before n s ts (last_few n s bytes e l) (is_last_record n s bytes e l) (list_inj (sym h))
    go true e false f h = no_list h
    go false e b f h = no_list h

back : (f : ℕ) (before : List ℕ) (n place : ℕ) (s : List ℕ) (ts : List Term) → Bytes s → read f before n place s ≡ list ts → Back before n s ts
unfolding read
back zero before n place s ts bytes h = no_list h
back (suc f) before n place s ts bytes h = go (is_word before s) refl h (back f)
  where
    inner : (r : Read) → is_word before s ≡ true → read f (term_of s).word (suc n) (place + (4 + size_at s)) (behind s) ≡ r → onto (term_of s) r ≡ list ts
        → ((before : List ℕ) (n place : ℕ) (s : List ℕ) (ts : List Term) → Bytes s → read f before n place s ≡ list ts → Back before n s ts) → Back before n s ts
    inner (broken k) w e h ih = no_list h
    inner (list us) w e h ih =
        let t = tested before s w in
        one_more before n s ts us (term_of s) (next_is before s bytes t) (is_word_record before s bytes t)
        (ih (term_of s).word (suc n) (place + (4 + size_at s)) (behind s) us (behind_bytes s bytes t.is_whole) e) (list_inj (sym h))

    go : (b : Bool) → is_word before s ≡ b → cond b (onto (term_of s) (read f (term_of s).word (suc n) (place + (4 + size_at s)) (behind s))) (ended n place s) ≡ list ts
        → ((before : List ℕ) (n place : ℕ) (s : List ℕ) (ts : List Term) → Bytes s → read f before n place s ≡ list ts → Back before n s ts) → Back before n s ts
    go true e h ih = inner (read f (term_of s).word (suc n) (place + (4 + size_at s)) (behind s)) e refl h ih
    go false e h ih = ended_back before n place s ts bytes h

pub only_images : OnlyImages
unfolding read_of image_of
only_images image ts bytes h =
    let b = back (length image) [] 0 0 image ts bytes h in
    let z : 0 + length ts ≡ length ts = omega arith in
    (b.is ∙ ap (λ (k : ℕ). word_records ts ++ last_record k) z, record { rising = b.rising; few = omega (arith, b.few) })
