-- The bytes of paths, of records and of a whole image. Assumes nothing.
use Prim.Native.Nat.{ℕ, zero, suc, ◌+◌, ◌*◌, ◌≤◌, ◌<◌}
use native.Mathlib.Omega.{arith}
use mathlib.Core.Path.{◌≡◌, refl, sym, ap, ◌∙◌}
use mathlib.Core.List.{List, [], ◌∷◌, ◌++◌, append_assoc, append-nil}
use lib.ListN.{length, length-append}
use Rattle.utf8_sequences.specs.Utf8.{bytes_of, encode}
use Rattle.trie_pool.specs.Words.{rev}
use Rattle.trie_pool.specs.inner.Sound.{Sound}
use Rattle.trie_pool.proofs.Listing.{rev_append}
use Rattle.image_rules.specs.Records.{Term, le, record_of, word_record, last_record, word_records, image_of}
use Rattle.image_rules.specs.Lists.{Rising}
use Rattle.image_list.specs.Listed.{own, list_of}
use Rattle.image_list.proofs.Lists.{lists, list_few}
use Rattle.image_bytes.proofs.Scalars.{size_most}
use Rattle.image_rules.proofs.Records.{le_long, record_long}

-- ---- paths

encode_both : (a b : List ℕ) → encode (a ++ b) ≡ encode a ++ encode b
unfolding encode
encode_both [] b = refl
encode_both (x ∷ a) b = ap (λ (l : List ℕ). bytes_of x ++ l) (encode_both a b) ∙ sym (append_assoc (bytes_of x) (encode a) (encode b))

encode_one : (x : ℕ) → encode (x ∷ []) ≡ bytes_of x
unfolding encode
encode_one x = append-nil (bytes_of x)

-- a path of one character more
pub encode_more : (x : ℕ) (u : List ℕ) → encode (rev (x ∷ u) []) ≡ encode (rev u []) ++ bytes_of x
encode_more x u = ap encode (rev_append u [] (x ∷ [])) ∙ encode_both (rev u []) (x ∷ []) ∙ ap (λ (l : List ℕ). encode (rev u []) ++ l) (encode_one x)

pub more_long : (x : ℕ) (u : List ℕ) → length (encode (rev (x ∷ u) [])) ≡ length (encode (rev u [])) + length (bytes_of x)
more_long x u = ap length (encode_more x u) ∙ length-append (encode (rev u [])) (bytes_of x)

pub encode_none : encode [] ≡ []
unfolding encode
encode_none = refl

-- a character takes four bytes at most
pub encode_most : (w : List ℕ) → length (encode w) ≤ 4 * length w
unfolding encode
encode_most [] = omega arith
encode_most (x ∷ w) = omega (arith, length-append (bytes_of x) (encode w), size_most x, encode_most w)

pub path_most : (u : List ℕ) → length (encode (rev u [])) ≤ 4 * length u
path_most [] = omega (arith, ap length encode_none)
path_most (x ∷ u) = omega (arith, more_long x u, size_most x, path_most u)

-- ---- records

pub word_long : (t : Term) → length (word_record t) ≡ 8 + length (encode t.word)
unfolding word_record
word_long t = record_long 1 (le 2 t.class ++ encode t.word) ∙ omega (arith, length-append (le 2 t.class) (encode t.word), le_long 2 t.class)

pub last_long : (n : ℕ) → length (last_record n) ≡ 10
unfolding last_record
last_long n = record_long 0 (le 4 n) ∙ omega (arith, le_long 4 n)

pub image_long : (ts : List Term) → length (image_of ts) ≡ length (word_records ts) + 10
unfolding image_of
image_long ts = length-append (word_records ts) (last_record (length ts)) ∙ ap (λ (k : ℕ). length (word_records ts) + k) (last_long (length ts))

pub own_none : (u : List ℕ) → length (word_records (own u 0)) ≡ 0
unfolding word_records
own_none u = refl

pub own_some : (u : List ℕ) (c : ℕ) → word_records (own u (suc c)) ≡ word_record (record { word = rev u []; class = c })
unfolding word_records
own_some u c = append-nil (word_record (record { word = rev u []; class = c }))

-- ---- a whole list

records_most : (v : List ℕ) (ts : List Term) → Rising v ts → length (word_records ts) ≤ 1028 * length ts
unfolding word_records
records_most v [] r = omega arith
records_most v (t ∷ ts) r =
    omega (
      arith,
      length-append (word_record t) (word_records ts),
      word_long t,
      encode_most t.word,
      r.0.word.short,
      records_most t.word ts r.1,
    )

pub list_most : (p : List ℕ) (n : ℕ) → Sound p n 0 → length (word_records (list_of p)) ≤ 1077936128
list_most p n g = omega (arith, records_most [] (list_of p) (lists p n g).good.rising, list_few p n g)
