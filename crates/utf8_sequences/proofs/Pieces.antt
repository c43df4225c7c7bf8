-- The first scalar of bytes that start with a well-formed sequence: its first byte tells the rest.
-- Assumes nothing.
use Prim.Native.Nat.{ℕ, suc, ◌+◌, ◌-◌, ◌*◌, ◌%◌, ◌≤◌, ◌<◌}
use native.Mathlib.Omega.{arith}
use native.Mathlib.Nat.{add-zero}
use mathlib.Core.Path.{◌≡◌, refl, sym, ◌∙◌}
use mathlib.Core.Bool.{Bool, true, false, cond}
use mathlib.Core.List.{List, [], ◌∷◌}
use lib.ListN.{length, get_or, take, drop, length-drop}
use lib.Seq.{get_or-drop}
use lib.Dec.{ltb}
use borrow.Author.Tests.{ltb-true, ltb-false}
use Rattle.utf8_sequences.specs.declared.Piece.{Piece}
use Rattle.utf8_sequences.specs.Utf8.{Range, scalar_of}
use Rattle.utf8_sequences.specs.Sequences.{starts, size_of}
use Rattle.utf8_sequences.specs.inner.Pieces.{piece_of}
use Rattle.utf8_sequences.proofs.FirstBytes.{Opens, Kind, shut, one, two, three, four, kind_of}
use Rattle.utf8_sequences.proofs.Sizes.{third_range, fourth_range, size_inside}
use Rattle.utf8_sequences.proofs.Quick.{AfterE0, after_first}

some : (t : Bool) (k : ℕ) → 0 < cond t k 0 → cond t k 0 ≡ k
some true k h = refl
some false k h = absurd (omega arith)

sized : {b : ℕ} {row : List Range} (s : List ℕ) → Opens b row → 0 < size_of (b ∷ s) → size_of (b ∷ s) ≡ suc (length row)
sized {b} {row} s o h = o.size s ∙ some (starts row s) (suc (length row)) (omega (arith, o.size s))

-- how long the sequence is, by its first byte
size_1 : (b : ℕ) (s : List ℕ) → Kind b → 0 < size_of (b ∷ s) → b < 0x80 → size_of (b ∷ s) ≡ 1
size_1 b s (shut x c) h k = absurd (omega (arith, c.size s))
size_1 b s (one x o) h k = sized s o h
size_1 b s (two x y o) h k = absurd (omega arith)
size_1 b s (three r o) h k = let z = third_range r in absurd (omega arith)
size_1 b s (four r o) h k = let z = fourth_range r in absurd (omega arith)

size_2 : (b : ℕ) (s : List ℕ) → Kind b → 0 < size_of (b ∷ s) → 0x80 ≤ b → b < 0xE0 → size_of (b ∷ s) ≡ 2
size_2 b s (shut x c) h j k = absurd (omega (arith, c.size s))
size_2 b s (one x o) h j k = absurd (omega arith)
size_2 b s (two x y o) h j k = sized s o h
size_2 b s (three r o) h j k = let z = third_range r in absurd (omega arith)
size_2 b s (four r o) h j k = let z = fourth_range r in absurd (omega arith)

size_3 : (b : ℕ) (s : List ℕ) → Kind b → 0 < size_of (b ∷ s) → 0xE0 ≤ b → b < 0xF0 → size_of (b ∷ s) ≡ 3
size_3 b s (shut x c) h j k = absurd (omega (arith, c.size s))
size_3 b s (one x o) h j k = absurd (omega arith)
size_3 b s (two x y o) h j k = absurd (omega arith)
size_3 b s (three r o) h j k = sized s o h
size_3 b s (four r o) h j k = let z = fourth_range r in absurd (omega arith)

size_4 : (b : ℕ) (s : List ℕ) → Kind b → 0 < size_of (b ∷ s) → 0xF0 ≤ b → size_of (b ∷ s) ≡ 4
size_4 b s (shut x c) h j = absurd (omega (arith, c.size s))
size_4 b s (one x o) h j = absurd (omega arith)
size_4 b s (two x y o) h j = absurd (omega arith)
size_4 b s (three r o) h j = let z = third_range r in absurd (omega arith)
size_4 b s (four r o) h j = sized s o h

-- bytes that are long enough for the sequence, and the piece at their start
record Has (s : List ℕ) (k v : ℕ) : Type 0 where
  room : k ≤ length s
  is : ◌≡◌ {A = Piece} (record { scalar = v; size = k }) (piece_of s)

has : (s : List ℕ) (k v : ℕ) → size_of s ≡ k → (k ≤ length s → v ≡ scalar_of (take k s)) → Has s k v
has s k v e g =
    let r : k ≤ length s = omega (arith, e, size_inside s) in
    let w : v ≡ scalar_of (take k s) = g r in
    record { room = r; is = (λ i. record { scalar = w i; size = k }) ∙ (λ i. record { scalar = scalar_of (take (sym e i) s); size = sym e i }) }

has_1 : (s : List ℕ) → 0 < size_of s → get_or s 0 0 < 0x80 → Has s 1 (get_or s 0 0)
has_1 [] h k = absurd (omega (arith, size_inside []))
has_1 (a ∷ s) h k = has (a ∷ s) 1 a (size_1 a s (kind_of a) h k) (λ r. refl)

value_2 : (s : List ℕ) → 2 ≤ length s → get_or s 0 0 % 32 * 64 + get_or s 1 0 % 64 ≡ scalar_of (take 2 s)
value_2 [] r = absurd (omega arith)
value_2 (a ∷ []) r = absurd (omega arith)
value_2 (a ∷ b ∷ s) r = refl

value_3 : (s : List ℕ) → 3 ≤ length s → get_or s 0 0 % 16 * 4096 + get_or s 1 0 % 64 * 64 + get_or s 2 0 % 64 ≡ scalar_of (take 3 s)
value_3 [] r = absurd (omega arith)
value_3 (a ∷ []) r = absurd (omega arith)
value_3 (a ∷ b ∷ []) r = absurd (omega arith)
value_3 (a ∷ b ∷ c ∷ s) r = refl

value_4 : (s : List ℕ) → 4 ≤ length s → get_or s 0 0 % 8 * 262144 + get_or s 1 0 % 64 * 4096 + get_or s 2 0 % 64 * 64 + get_or s 3 0 % 64 ≡ scalar_of (take 4 s)
value_4 [] r = absurd (omega arith)
value_4 (a ∷ []) r = absurd (omega arith)
value_4 (a ∷ b ∷ []) r = absurd (omega arith)
value_4 (a ∷ b ∷ c ∷ []) r = absurd (omega arith)
value_4 (a ∷ b ∷ c ∷ d ∷ s) r = refl

has_2 : (s : List ℕ) → 0 < size_of s → 0x80 ≤ get_or s 0 0 → get_or s 0 0 < 0xE0 → Has s 2 (get_or s 0 0 % 32 * 64 + get_or s 1 0 % 64)
has_2 [] h j k = absurd (omega (arith, size_inside []))
has_2 (b ∷ t) h j k = has (b ∷ t) 2 _ (size_2 b t (kind_of b) h j k) (value_2 (b ∷ t))

has_3 : (s : List ℕ) → 0 < size_of s → 0xE0 ≤ get_or s 0 0 → get_or s 0 0 < 0xF0 → Has s 3 (get_or s 0 0 % 16 * 4096 + get_or s 1 0 % 64 * 64 + get_or s 2 0 % 64)
has_3 [] h j k = absurd (omega (arith, size_inside []))
has_3 (b ∷ t) h j k = has (b ∷ t) 3 _ (size_3 b t (kind_of b) h j k) (value_3 (b ∷ t))

has_4 : (s : List ℕ) → 0 < size_of s → 0xF0 ≤ get_or s 0 0 → Has s 4 (get_or s 0 0 % 8 * 262144 + get_or s 1 0 % 64 * 4096 + get_or s 2 0 % 64 * 64 + get_or s 3 0 % 64)
has_4 [] h j = absurd (omega (arith, size_inside []))
has_4 (b ∷ t) h j = has (b ∷ t) 4 _ (size_4 b t (kind_of b) h j) (value_4 (b ∷ t))

-- the same at a place, for the bytes as they were read
module _ (s : List ℕ) (at : ℕ) (h : 0 < size_of (drop at s)) where
  pub room_1 : at < length s
  room_1 = omega (arith, h, size_inside (drop at s), length-drop at s)

  head_is : get_or (drop at s) 0 0 ≡ get_or s at 0
  head_is = simp (get_or-drop, add-zero)

  pub is_1 : (a : ℕ) → a ≡ get_or s at 0 → a < 0x80 → ◌≡◌ {A = Piece} (record { scalar = a; size = 1 }) (piece_of (drop at s))
  is_1 a ea k =
      (λ i. record { scalar = (ea ∙ sym head_is) i; size = 1 }) ∙ (has_1 (drop at s) h (omega (arith, ea, head_is))).is

  module _ (a : ℕ) (ea : a ≡ get_or s at 0) (j : 0x80 ≤ a) where
    at_2 : (k : a < 0xE0) → Has (drop at s) 2 (get_or (drop at s) 0 0 % 32 * 64 + get_or (drop at s) 1 0 % 64)
    at_2 k = has_2 (drop at s) h (omega (arith, ea, head_is)) (omega (arith, ea, head_is))

    at_3 : (j' : 0xE0 ≤ a) (k : a < 0xF0) → Has (drop at s) 3 (get_or (drop at s) 0 0 % 16 * 4096 + get_or (drop at s) 1 0 % 64 * 64 + get_or (drop at s) 2 0 % 64)
    at_3 j' k = has_3 (drop at s) h (omega (arith, ea, head_is)) (omega (arith, ea, head_is))

    at_4 : (j' : 0xF0 ≤ a) → Has (drop at s) 4 (get_or (drop at s) 0 0 % 8 * 262144 + get_or (drop at s) 1 0 % 64 * 4096 + get_or (drop at s) 2 0 % 64 * 64 + get_or (drop at s) 3 0 % 64)
    at_4 j' = has_4 (drop at s) h (omega (arith, ea, head_is))

    pub room_4 : 0xF0 ≤ a → at + 3 < length s
    room_4 j' = omega (arith, (at_4 j').room, length-drop at s)

    room_3_by : 0xE0 ≤ a → (t : Bool) → ltb a 0xF0 ≡ t → at + 2 < length s
    room_3_by j' true e = omega (arith, (at_3 j' (ltb-true a 0xF0 e)).room, length-drop at s)
    room_3_by j' false e = omega (arith, room_4 (ltb-false a 0xF0 e))

    pub room_3 : 0xE0 ≤ a → at + 2 < length s
    room_3 j' = room_3_by j' _ refl

    room_2_by : (t : Bool) → ltb a 0xE0 ≡ t → at + 1 < length s
    room_2_by true e = omega (arith, (at_2 (ltb-true a 0xE0 e)).room, length-drop at s)
    room_2_by false e = omega (arith, room_3 (ltb-false a 0xE0 e))

    pub room_2 : at + 1 < length s
    room_2 = room_2_by _ refl

    a_is : a ≡ get_or (drop at s) 0 0
    a_is = ea ∙ sym head_is

    behind : (k : ℕ) {x : ℕ} → x ≡ get_or s (at + k) 0 → x ≡ get_or (drop at s) k 0
    behind k e = e ∙ sym (get_or-drop at s k 0)

    module _ (b : ℕ) (eb : b ≡ get_or s (at + 1) 0) where
      b_is : b ≡ get_or (drop at s) 1 0
      b_is = behind 1 eb

      pub is_2 : a < 0xE0 → ◌≡◌ {A = Piece} (record { scalar = a % 32 * 64 + b % 64; size = 2 }) (piece_of (drop at s))
      is_2 k = (λ i. record { scalar = a_is i % 32 * 64 + b_is i % 64; size = 2 }) ∙ (at_2 k).is

      module _ (j' : 0xE0 ≤ a) (c : ℕ) (ec : c ≡ get_or s (at + 2) 0) where
        c_is : c ≡ get_or (drop at s) 2 0
        c_is = behind 2 ec

        pub is_3 : a < 0xF0 → ◌≡◌ {A = Piece} (record { scalar = a % 16 * 4096 + b % 64 * 64 + c % 64; size = 3 }) (piece_of (drop at s))
        is_3 k = (λ i. record { scalar = a_is i % 16 * 4096 + b_is i % 64 * 64 + c_is i % 64; size = 3 }) ∙ (at_3 j' k).is

        pub is_4 : 0xF0 ≤ a → (d : ℕ) → d ≡ get_or s (at + 3) 0 → ◌≡◌ {A = Piece} (record { scalar = a % 8 * 262144 + b % 64 * 4096 + c % 64 * 64 + d % 64; size = 4 }) (piece_of (drop at s))
        is_4 k d ed = (λ i. record { scalar = a_is i % 8 * 262144 + b_is i % 64 * 4096 + c_is i % 64 * 64 + behind 3 ed i % 64; size = 4 }) ∙ (at_4 k).is

-- behind the first byte of all of Thai
pub room_e0 : (s : List ℕ) (at : ℕ) → 0 < size_of (drop at s) → get_or s at 0 ≡ 0xE0 → at + 2 < length s
room_e0 s at h e = room_3 s at h 0xE0 (sym e) (omega arith) (omega arith)

module _ (s : List ℕ) (at : ℕ) (h : 0 < size_of (drop at s)) (e : get_or s at 0 ≡ 0xE0) (b : ℕ) (eb : b ≡ get_or s (at + 1) 0) (c : ℕ) (ec : c ≡ get_or s (at + 2) 0) where
  pub after_e0 : AfterE0 b c
  after_e0 =
      let z = after_first (drop at s) (omega (arith, room_e0 s at h e, length-drop at s)) h (head_is s at h ∙ e) in
      let x : b ≡ get_or (drop at s) 1 0 = eb ∙ sym (get_or-drop at s 1 0) in
      let y : c ≡ get_or (drop at s) 2 0 = ec ∙ sym (get_or-drop at s 2 0) in
      record { least = omega (arith, z.least, x); most = omega (arith, z.most, x); least' = omega (arith, z.least', y); most' = omega (arith, z.most', y) }

  pub is_e0 : ◌≡◌ {A = Piece} (record { scalar = b * 64 + c - 0x2080; size = 3 }) (piece_of (drop at s))
  is_e0 =
      let w = after_e0 in
      let z : b * 64 + c - 0x2080 ≡ 0xE0 % 16 * 4096 + b % 64 * 64 + c % 64 = omega (arith, w.least, w.most, w.least', w.most') in
      (λ i. record { scalar = z i; size = 3 }) ∙ is_3 s at h 0xE0 (sym e) (omega arith) b eb (omega arith) c ec (omega arith)
