-- The record that bytes start with, of bytes that start with a record, and back. Assumes nothing.
use Prim.Native.Nat.{ℕ, zero, suc, ◌+◌, ◌-◌, ◌≤◌, ◌<◌}
use native.Mathlib.Omega.{arith}
use mathlib.Core.Path.{◌≡◌, refl, sym, ap, ◌∙◌}
use mathlib.Core.Bool.{Bool, true, false, ◌&&◌}
use mathlib.Core.List.{List, [], ◌∷◌, ◌++◌, append_assoc}
use borrow.Author.Tests.{le-leb, leb-true, eq-eqb, eqb-true}
use lib.Dec.{leb, eqb}
use lib.ListN.{length, get_or, take, drop, length-append, length-drop, take-append-drop}
use lib.Seq.{length-take-le, take_at, drop_at, drop-drop, get_or-take, get_or-drop, take-take}
use Rattle.trie_pool.proofs.Rules.{join}
use Rattle.image_rules.specs.Records.{le, value, Bytes, record_of}
use Rattle.image_rules.specs.Reading.{size_at, whole, kind_at, body_at, behind}
use Rattle.image_rules.proofs.Records.{le_long}
use Rattle.image_rules.proofs.Readings.{both}
use Rattle.theorems_images.proofs.Numbers.{value_2, value_4, le_value}

-- ---- bytes that start with a record

module _ (kind : ℕ) (body rest : List ℕ) (k : kind < 65536) (small : 2 + length body < 4294967296) where
  parts : record_of kind body ++ rest ≡ le 4 (2 + length body) ++ (le 2 kind ++ (body ++ rest))
  parts = append_assoc (le 4 (2 + length body)) (le 2 kind ++ body) rest ∙ ap (λ (l : List ℕ). le 4 (2 + length body) ++ l) (append_assoc (le 2 kind) body rest)

  pub at_size : size_at (record_of kind body ++ rest) ≡ 2 + length body
  unfolding size_at
  at_size = ap value (ap (take 4) parts ∙ take_at (le 4 (2 + length body)) (le 2 kind ++ (body ++ rest)) 4 (le_long 4 (2 + length body))) ∙ value_4 (2 + length body) small

  past_4 : drop 4 (record_of kind body ++ rest) ≡ le 2 kind ++ (body ++ rest)
  past_4 = ap (drop 4) parts ∙ drop_at (le 4 (2 + length body)) (le 2 kind ++ (body ++ rest)) 4 (le_long 4 (2 + length body))

  pub at_kind : kind_at (record_of kind body ++ rest) ≡ kind
  unfolding kind_at
  at_kind = ap value (ap (take 2) past_4 ∙ take_at (le 2 kind) (body ++ rest) 2 (le_long 2 kind)) ∙ value_2 kind k

  past_6 : drop 6 (record_of kind body ++ rest) ≡ body ++ rest
  past_6 = sym (drop-drop 2 4 (record_of kind body ++ rest)) ∙ ap (drop 2) past_4 ∙ drop_at (le 2 kind) (body ++ rest) 2 (le_long 2 kind)

  pub at_body : body_at (record_of kind body ++ rest) ≡ body
  unfolding body_at
  at_body =
      let e : size_at (record_of kind body ++ rest) - 2 ≡ length body = omega (arith, at_size) in
      ap (λ (n : ℕ). take n (drop 6 (record_of kind body ++ rest))) e ∙ ap (take (length body)) past_6 ∙ take_at body rest (length body) refl

  pub at_behind : behind (record_of kind body ++ rest) ≡ rest
  unfolding behind
  at_behind =
      let e : 4 + size_at (record_of kind body ++ rest) ≡ 6 + length body = omega (arith, at_size) in
      ap (λ (n : ℕ). drop n (record_of kind body ++ rest)) e ∙ sym (drop-drop (length body) 6 (record_of kind body ++ rest)) ∙ ap (drop (length body)) past_6 ∙ drop_at body rest (length body) refl

  long : length (record_of kind body ++ rest) ≡ 6 + length body + length rest
  long =
      ap length parts
      ∙ omega (arith, length-append (le 4 (2 + length body)) (le 2 kind ++ (body ++ rest)), length-append (le 2 kind) (body ++ rest), length-append body rest, le_long 4 (2 + length body), le_long 2 kind)

  pub at_whole : whole (record_of kind body ++ rest) ≡ true
  unfolding whole
  at_whole =
      join (leb 4 (length (record_of kind body ++ rest)) && leb 2 (size_at (record_of kind body ++ rest))) (leb (4 + size_at (record_of kind body ++ rest)) (length (record_of kind body ++ rest)))
      (join (leb 4 (length (record_of kind body ++ rest))) (leb 2 (size_at (record_of kind body ++ rest))) (le-leb 4 (length (record_of kind body ++ rest)) (omega (arith, long))) (le-leb 2 (size_at (record_of kind body ++ rest)) (omega (arith, at_size))))
      (le-leb (4 + size_at (record_of kind body ++ rest)) (length (record_of kind body ++ rest)) (omega (arith, at_size, long)))

-- ---- and back

pub bytes_take : (n : ℕ) (s : List ℕ) → Bytes s → n ≤ length s → Bytes (take n s)
bytes_take n s h l i k = let e : i < n = omega (arith, length-take-le n s l) in omega (arith, get_or-take n s i 0 e, h i (omega arith))

pub bytes_drop : (n : ℕ) (s : List ℕ) → Bytes s → Bytes (drop n s)
bytes_drop n s h i k = omega (arith, get_or-drop n s i 0, h (n + i) (omega (arith, length-drop n s)))

module _ (s : List ℕ) (bytes : Bytes s) (is : whole s ≡ true) where
  sizes : (4 ≤ length s) × (2 ≤ size_at s) × (4 + size_at s ≤ length s)
  unfolding whole
  sizes =
      let a = both (leb 4 (length s) && leb 2 (size_at s)) (leb (4 + size_at s) (length s)) is in
      let b = both (leb 4 (length s)) (leb 2 (size_at s)) a.0 in
      (leb-true 4 (length s) b.0, leb-true 2 (size_at s) b.1, leb-true (4 + size_at s) (length s) a.1)

  pub body_bytes : Bytes (body_at s)
  unfolding body_at
  body_bytes = bytes_take (size_at s - 2) (drop 6 s) (bytes_drop 6 s bytes) (omega (arith, sizes, length-drop 6 s))

  pub body_long : 2 + length (body_at s) ≡ size_at s
  unfolding body_at
  body_long = omega (arith, sizes, length-drop 6 s, length-take-le (size_at s - 2) (drop 6 s) (omega (arith, sizes, length-drop 6 s)))

  pub behind_bytes : Bytes (behind s)
  unfolding behind
  behind_bytes = bytes_drop (4 + size_at s) s bytes

  pub behind_long : length (behind s) + (6 + length (body_at s)) ≡ length s
  unfolding behind
  behind_long = omega (arith, length-drop (4 + size_at s) s, body_long, sizes)

  size : value (take 4 s) ≡ size_at s
  unfolding size_at
  size = refl

  first : take 4 s ≡ le 4 (2 + length (body_at s))
  first = sym (le_value (take 4 s) (bytes_take 4 s bytes sizes.0)) ∙ ap (λ (k : ℕ). le k (value (take 4 s))) (length-take-le 4 s sizes.0) ∙ ap (le 4) (size ∙ sym body_long)

  second : take 2 (drop 4 s) ≡ le 2 (kind_at s)
  unfolding kind_at
  second =
      let l : 2 ≤ length (drop 4 s) = omega (arith, length-drop 4 s, sizes) in
      sym (le_value (take 2 (drop 4 s)) (bytes_take 2 (drop 4 s) (bytes_drop 4 s bytes) l)) ∙ ap (λ (k : ℕ). le k (value (take 2 (drop 4 s)))) (length-take-le 2 (drop 4 s) l)

  third : drop 6 s ≡ body_at s ++ behind s
  unfolding body_at behind
  third =
      let e : 6 + (size_at s - 2) ≡ 4 + size_at s = omega (arith, sizes) in
      sym (take-append-drop (size_at s - 2) (drop 6 s)) ∙ ap (λ (l : List ℕ). take (size_at s - 2) (drop 6 s) ++ l) (drop-drop (size_at s - 2) 6 s ∙ ap (λ (k : ℕ). drop k s) e)

  -- the bytes are the record and what is behind it
  pub record_is : s ≡ record_of (kind_at s) (body_at s) ++ behind s
  record_is =
      sym (take-append-drop 4 s) ∙ ap (λ (l : List ℕ). l ++ drop 4 s) first
      ∙ ap (λ (l : List ℕ). le 4 (2 + length (body_at s)) ++ l) (sym (take-append-drop 2 (drop 4 s)) ∙ ap (λ (l : List ℕ). l ++ drop 2 (drop 4 s)) second
      ∙ ap (λ (l : List ℕ). le 2 (kind_at s) ++ l) (drop-drop 2 4 s ∙ third) ∙ sym (append_assoc (le 2 (kind_at s)) (body_at s) (behind s)))
      ∙ sym (append_assoc (le 4 (2 + length (body_at s))) (le 2 (kind_at s) ++ body_at s) (behind s))
