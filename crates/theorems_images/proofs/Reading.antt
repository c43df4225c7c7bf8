-- An image says its list. Assumes nothing.
use Prim.Native.Nat.{ℕ, zero, suc, ◌+◌, ◌-◌, ◌*◌, ◌≤◌, ◌<◌}
use native.Mathlib.Omega.{arith}
use native.Mathlib.Decide.{dec_lt}
use mathlib.Core.Path.{◌≡◌, refl, sym, ap, subst, ◌∙◌}
use mathlib.Core.Bool.{Bool, true, false, cond, ◌&&◌}
use mathlib.Core.List.{List, [], ◌∷◌, ◌++◌, append_assoc, append-nil}
use borrow.Author.Tests.{le-leb, leb-true, eq-eqb, eqb-true, ne_eqb}
use lib.Dec.{leb, eqb}
use lib.ListN.{length, get_or, take, drop, length-append, length-drop, take-append-drop}
use lib.Seq.{length-take-le, take_at, drop_at}
use Rattle.lists.proofs.Scans.{leading_yes, leading_nil}
use Rattle.utf8_sequences.specs.Utf8.{bytes_of, encode}
use Rattle.utf8.specs.Decoding.{run_all, scalars_of}
use Rattle.char_string_scalars.specs.Scalars.{is_scalar, first_non_scalar}
use Rattle.char_string_trim.specs.Trimming.{trimmed_of}
use Rattle.theorems_unicode.proofs.Standard.{complete}
use Rattle.theorems_unicode.proofs.Encoding.{encoded}
use Rattle.trie_pool.specs.Words.{Word}
use Rattle.trie_pool.specs.Meaning.{same}
use Rattle.trie_pool.proofs.Rules.{clash, join}
use Rattle.trie_pool.proofs.Sets.{same_self}
use Rattle.image_rules.specs.Records.{Term, le, value, Bytes, record_of, word_record, last_record, word_records, image_of}
use Rattle.image_rules.specs.Order.{below}
use Rattle.image_rules.specs.Lists.{Next, Rising, Good}
use Rattle.image_rules.specs.Reading.{size_at, whole, kind_at, body_at, behind, word_bytes, term_of, follows, is_word, is_last, Read, broken, list, onto, ended, read, read_of}
use Rattle.image_rules.proofs.Records.{le_long}
use Rattle.image_size.proofs.Bytes.{encode_most, word_long, image_long}
use Rattle.image_bytes.proofs.Scalars.{size_1, size_2, size_3, size_4}
use Rattle.theorems_images.specs.Images.{ImageSays}
use Rattle.theorems_images.proofs.Numbers.{value_2, value_4}
use Rattle.theorems_images.proofs.Records.{at_kind, at_body, at_behind, at_whole}

-- ---- the word of a record

legal_all : (w : List ℕ) → ((i : ℕ) → i < length w → is_scalar (get_or w i 0) ≡ true) → first_non_scalar w ≡ length w
legal_all [] h = leading_nil is_scalar
legal_all (x ∷ w) h = leading_yes is_scalar x w (h 0 (omega arith)) ∙ ap suc (legal_all w (λ i l. h (suc i) (omega arith)))

some_bytes : (x : ℕ) (w : List ℕ) → 1 ≤ length (encode (x ∷ w))
unfolding encode
some_bytes x w = omega (arith, length-append (bytes_of x) (encode w), go (dec_lt x 0x80) (dec_lt x 0x800) (dec_lt x 0x10000))
  where
    go : Dec (x < 0x80) → Dec (x < 0x800) → Dec (x < 0x10000) → 1 ≤ length (bytes_of x)
    go (yes a) b c = omega (arith, size_1 x x refl a)
    go (no a) (yes b) c = omega (arith, size_2 x x refl (omega arith) b)
    go (no a) (no b) (yes c) = omega (arith, size_3 x x refl (omega arith) c)
    go (no a) (no b) (no c) = omega (arith, size_4 x x refl (omega arith))

module _ (before : List ℕ) (t : Term) (next : Next before t) (rest : List ℕ) where
  abbrev body : List ℕ
  body = le 2 t.class ++ encode t.word

  abbrev bytes : List ℕ
  bytes = record_of 1 body ++ rest

  body_long : length body ≡ 2 + length (encode t.word)
  body_long = length-append (le 2 t.class) (encode t.word) ∙ ap (λ (k : ℕ). k + length (encode t.word)) (le_long 2 t.class)

  small : 2 + length body < 4294967296
  small = omega (arith, body_long, encode_most t.word, next.word.short)

  is_body : body_at bytes ≡ body
  is_body = at_body 1 body rest (omega arith) small

  is_word_bytes : word_bytes bytes ≡ encode t.word
  unfolding word_bytes
  is_word_bytes = ap (drop 2) is_body ∙ drop_at (le 2 t.class) (encode t.word) 2 (le_long 2 t.class)

  decoded : ((run_all (encode t.word)).whole ≡ true) × (scalars_of (encode t.word) ≡ t.word)
  decoded = complete (encoded t.word (legal_all t.word next.word.legal))

  -- the term is read
  is_term : term_of bytes ≡ t
  unfolding term_of
  is_term =
      let w : scalars_of (word_bytes bytes) ≡ t.word = ap scalars_of is_word_bytes ∙ decoded.1 in
      let c : value (take 2 (body_at bytes)) ≡ t.class = ap (λ (l : List ℕ). value (take 2 l)) is_body ∙ ap value (take_at (le 2 t.class) (encode t.word) 2 (le_long 2 t.class)) ∙ value_2 t.class (omega (arith, next.class)) in
      λ i. record { word = w i; class = c i }

  follows_is : follows before t.word ≡ true
  unfolding follows
  follows_is =
      join _ _ (join _ _ (join _ _ (le-leb 1 (length t.word) next.word.some) (le-leb (length t.word) 255 next.word.short))
      (ap (λ (z : List ℕ). same z t.word) next.word.trimmed ∙ same_self t.word)) next.above

  some_body : 3 ≤ length body
  some_body = omega (arith, body_long, least t.word next.word.some)
    where
      least : (w : List ℕ) → 1 ≤ length w → 1 ≤ length (encode w)
      least [] h = absurd (omega arith)
      least (x ∷ w) h = some_bytes x w

  is_word_holds : is_word before bytes ≡ true
  unfolding is_word
  is_word_holds =
      join _ _ (join _ _ (join _ _ (join _ _ (at_whole 1 body rest (omega arith) small) (eq-eqb (kind_at bytes) 1 (at_kind 1 body rest (omega arith) small)))
      (le-leb 3 (length (body_at bytes)) (omega (arith, ap length is_body, some_body)))) (ap (λ (l : List ℕ). (run_all l).whole) is_word_bytes ∙ decoded.0))
      (ap (λ (z : Term). follows before z.word) is_term ∙ follows_is)

  -- and what is behind it is read next
  word_read : (f n place : ℕ) → read (suc f) before n place bytes ≡ onto t (read f t.word (suc n) (place + (4 + size_at bytes)) rest)
  unfolding read
  word_read f n place =
      ap (λ (b : Bool). cond b (onto (term_of bytes) (read f (term_of bytes).word (suc n) (place + (4 + size_at bytes)) (behind bytes))) (ended n place bytes)) is_word_holds
      ∙ ap (λ (z : Term). onto z (read f z.word (suc n) (place + (4 + size_at bytes)) (behind bytes))) is_term
      ∙ ap (λ (l : List ℕ). onto t (read f t.word (suc n) (place + (4 + size_at bytes)) l)) (at_behind 1 body rest (omega arith) small)

-- ---- the last record

module _ (before : List ℕ) (n : ℕ) (few : n < 4294967296) where
  abbrev last : List ℕ
  last = record_of 0 (le 4 n) ++ []

  n_small : 2 + length (le 4 n) < 4294967296
  n_small = omega (arith, le_long 4 n)

  not_word : is_word before last ≡ false
  unfolding is_word
  not_word = ap (λ (b : Bool). (((whole last && b) && leb 3 (length (body_at last))) && (run_all (word_bytes last)).whole) && follows before (term_of last).word) (ne_eqb (kind_at last) 1 (λ e. omega (arith, at_kind 0 (le 4 n) [] (omega arith) n_small))) ∙ none (whole last) _ _ _
    where
      none : (a b c d : Bool) → ((((a && false) && b) && c) && d) ≡ false
      none true b c d = refl
      none false b c d = refl

  is_last_holds : is_last n last ≡ true
  unfolding is_last
  is_last_holds =
      join _ _ (join _ _ (join _ _ (at_whole 0 (le 4 n) [] (omega arith) n_small) (eq-eqb (kind_at last) 0 (at_kind 0 (le 4 n) [] (omega arith) n_small)))
      (eq-eqb (length (body_at last)) 4 (ap length (at_body 0 (le 4 n) [] (omega arith) n_small) ∙ le_long 4 n)))
      (eq-eqb (value (body_at last)) n (ap value (at_body 0 (le 4 n) [] (omega arith) n_small) ∙ value_4 n few))

  last_long : length last ≡ 10
  last_long = omega (arith, length-append (record_of 0 (le 4 n)) [], length-append (le 4 (2 + length (le 4 n))) (le 2 0 ++ le 4 n), length-append (le 2 0) (le 4 n), le_long 4 (2 + length (le 4 n)), le_long 2 0, le_long 4 n)

  last_read : (f place : ℕ) → read (suc f) before n place last ≡ list []
  unfolding read ended
  last_read f place =
      ap (λ (b : Bool). cond b (onto (term_of last) (read f (term_of last).word (suc n) (place + (4 + size_at last)) (behind last))) (ended n place last)) not_word
      ∙ ap (λ (b : Bool). cond b (cond (eqb (length last) 10) (list []) (broken (place + 10))) (broken place)) is_last_holds
      ∙ ap (λ (b : Bool). cond b (list []) (broken (place + 10))) (eq-eqb (length last) 10 last_long)

-- ---- a list

list_read : (ts : List Term) (f : ℕ) (before : List ℕ) (n place : ℕ) → Rising before ts → n + length ts < 4294967296 → length ts < f → read f before n place (word_records ts ++ last_record (n + length ts)) ≡ list ts
unfolding word_records word_record last_record
list_read ts zero before n place r few l = absurd (omega arith)
list_read [] (suc f) before n place r few l =
    let z : n + 0 ≡ n = omega arith in
    ap (λ (k : ℕ). read (suc f) before n place (record_of 0 (le 4 k))) z ∙ ap (read (suc f) before n place) (sym (append-nil (record_of 0 (le 4 n)))) ∙ last_read before n (omega arith) f place
list_read (t ∷ ts) (suc f) before n place r few l =
    let z : n + suc (length ts) ≡ suc n + length ts = omega arith in
    let rest : List ℕ = word_records ts ++ record_of 0 (le 4 (suc n + length ts)) in
    ap (λ (k : ℕ). read (suc f) before n place ((record_of 1 (le 2 t.class ++ encode t.word) ++ word_records ts) ++ record_of 0 (le 4 k))) z
    ∙ ap (read (suc f) before n place) (append_assoc (record_of 1 (le 2 t.class ++ encode t.word)) (word_records ts) (record_of 0 (le 4 (suc n + length ts))))
    ∙ word_read before t r.0 rest f n place
    ∙ ap (onto t) (list_read ts f t.word (suc n) (place + (4 + size_at (record_of 1 (le 2 t.class ++ encode t.word) ++ rest))) r.1 (omega arith) (omega arith))

least_long : (ts : List Term) → length ts ≤ length (word_records ts)
unfolding word_records
least_long [] = omega arith
least_long (t ∷ ts) = omega (arith, length-append (word_record t) (word_records ts), word_long t, least_long ts)

pub image_says : ImageSays
unfolding read_of image_of
image_says ts g =
    let z : 0 + length ts ≡ length ts = omega arith in
    ap (λ (k : ℕ). read (length (image_of ts)) [] 0 0 (word_records ts ++ last_record k)) (sym z)
    ∙ list_read ts (length (image_of ts)) [] 0 0 g.rising (omega (arith, g.few)) (omega (arith, image_long ts, least_long ts))
