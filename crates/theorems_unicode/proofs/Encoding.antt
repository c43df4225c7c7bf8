-- Encoding and decoding are each other's inverse (table 3-6 from left to right and back). Assumes
-- nothing.
use Prim.Native.Nat.{ℕ, suc, ◌+◌, ◌*◌, ◌/◌, ◌%◌, ◌≤◌, ◌<◌}
use native.Mathlib.Omega.{arith}
use mathlib.Core.Path.{◌≡◌, refl, sym, ◌∙◌, ap, subst}
use mathlib.Core.Bool.{Bool, true, false, ◌&&◌, ◌||◌}
use mathlib.Core.List.{List, [], ◌∷◌, ◌++◌}
use lib.ListN.{length}
use lib.Dec.{T, ltb, leb}
use borrow.Author.Tests.{lt-ltb, le-ltb, le-leb, ltb-true, ltb-false, leb-true}
use Rattle.lists.specs.Scans.{within}
use Rattle.lists.proofs.Scans.{leading_all, leading_yes, leading_nil}
use Rattle.char_string_scalars.specs.Scalars.{is_scalar, first_non_scalar}
use Rattle.utf8_sequences.specs.Utf8.{◌‥◌, fits, is_sequence, scalar_of, bytes_of, encode, Utf8, empty, next}
use Rattle.lists.proofs.Ranges.{within_yes}
use Rattle.utf8_sequences.proofs.FirstBytes.{Third, e0, e1, ed, ee, Fourth, f0, f1, f4, low, high, trail, Kind, shut, one, two, three, four, kind_of}
use Rattle.utf8_sequences.proofs.Sizes.{third_range, fourth_range}
use Rattle.theorems_unicode.proofs.Standard.{no, true_is, is_true, not_empty}

-- the bytes of a scalar value, by its size
pub bytes_1 : (v : ℕ) → v < 0x80 → bytes_of v ≡ v ∷ []
bytes_1 v h = simp (lt-ltb _ _ h)

pub bytes_2 : (v : ℕ) → 0x80 ≤ v → v < 0x800 → bytes_of v ≡ (0xC0 + v / 64) ∷ (0x80 + v % 64) ∷ []
bytes_2 v h k = simp (le-ltb v 0x80 h, lt-ltb v 0x800 k)

pub bytes_3 : (v : ℕ) → 0x800 ≤ v → v < 0x10000 → bytes_of v ≡ (0xE0 + v / 4096) ∷ (0x80 + v / 64 % 64) ∷ (0x80 + v % 64) ∷ []
bytes_3 v h k = simp (le-ltb v 0x80 (omega arith), le-ltb v 0x800 h, lt-ltb v 0x10000 k)

pub bytes_4 : (v : ℕ) → 0x10000 ≤ v → bytes_of v ≡ (0xF0 + v / 262144) ∷ (0x80 + v / 4096 % 64) ∷ (0x80 + v / 64 % 64) ∷ (0x80 + v % 64) ∷ []
bytes_4 v h = simp (le-ltb v 0x80 (omega arith), le-ltb v 0x800 (omega arith), le-ltb v 0x10000 h)

scalar_low : (v : ℕ) → v < 0xD800 → is_scalar v ≡ true
unfolding is_scalar
scalar_low v h = simp (lt-ltb _ _ h)

scalar_high : (v : ℕ) → 0xE000 ≤ v → v ≤ 0x10FFFF → is_scalar v ≡ true
unfolding is_scalar
scalar_high v h k = simp (le-ltb v 0xD800 (omega arith), le-leb _ _ h, le-leb _ _ k)

-- a sequence's value is a scalar value, and the sequence is its bytes
record Coded (q : List ℕ) : Type 0 where
  back : bytes_of (scalar_of q) ≡ q
  scalar : is_scalar (scalar_of q) ≡ true

within_in : (lo hi b : ℕ) (t : Bool) → (within lo hi b && t) ≡ true → (lo ≤ b) × (b ≤ hi) × (t ≡ true)
within_in lo hi b t h = go (leb lo b) refl (leb b hi) refl h
  where
    go : (x : Bool) → leb lo b ≡ x → (y : Bool) → leb b hi ≡ y → ((x && y) && t) ≡ true → (lo ≤ b) × (b ≤ hi) × (t ≡ true)
    go true e true f k = (leb-true lo b e, leb-true b hi f, k)
    go true e false f k = no k
    go false e y f k = no k

and_true : (x : Bool) → x ≡ true → (x && true) ≡ true
and_true true e = e
and_true false e = no e

coded_1 : (a : ℕ) → a ≤ 0x7F → Coded (a ∷ [])
coded_1 a h = record { back = bytes_1 a (omega arith); scalar = scalar_low a (omega arith) }

same_2 : {a b x y : ℕ} → x ≡ a → y ≡ b → ◌≡◌ {A = List ℕ} (x ∷ y ∷ []) (a ∷ b ∷ [])
same_2 e f = λ i. e i ∷ f i ∷ []

same_3 : {a b c x y z : ℕ} → x ≡ a → y ≡ b → z ≡ c → ◌≡◌ {A = List ℕ} (x ∷ y ∷ z ∷ []) (a ∷ b ∷ c ∷ [])
same_3 e f g = λ i. e i ∷ f i ∷ g i ∷ []

same_4 : {a b c d x y z w : ℕ} → x ≡ a → y ≡ b → z ≡ c → w ≡ d → ◌≡◌ {A = List ℕ} (x ∷ y ∷ z ∷ w ∷ []) (a ∷ b ∷ c ∷ d ∷ [])
same_4 e f g h = λ i. e i ∷ f i ∷ g i ∷ h i ∷ []

coded_2 : (a b v : ℕ) → v ≡ a % 32 * 64 + b % 64 → 0xC2 ≤ a → a ≤ 0xDF → 0x80 ≤ b → b ≤ 0xBF → (bytes_of v ≡ a ∷ b ∷ []) × (is_scalar v ≡ true)
coded_2 a b v e h k i j =
    (bytes_2 v (omega arith) (omega arith) ∙ same_2 (omega arith) (omega arith), scalar_low v (omega arith))

coded_3 : (a b c v lo hi : ℕ) → v ≡ a % 16 * 4096 + b % 64 * 64 + c % 64 → Third a lo hi → lo ≤ b → b ≤ hi → 0x80 ≤ c → c ≤ 0xBF → (bytes_of v ≡ a ∷ b ∷ c ∷ []) × (is_scalar v ≡ true)
coded_3 a b c v lo hi e (e0 h k) i j l m =
    (bytes_3 v (omega arith) (omega arith) ∙ same_3 (omega arith) (omega arith) (omega arith), scalar_low v (omega arith))
coded_3 a b c v lo hi e (e1 h k) i j l m =
    (bytes_3 v (omega arith) (omega arith) ∙ same_3 (omega arith) (omega arith) (omega arith), scalar_low v (omega arith))
coded_3 a b c v lo hi e (ed h k) i j l m =
    (bytes_3 v (omega arith) (omega arith) ∙ same_3 (omega arith) (omega arith) (omega arith), scalar_low v (omega arith))
coded_3 a b c v lo hi e (ee h k) i j l m =
    (bytes_3 v (omega arith) (omega arith) ∙ same_3 (omega arith) (omega arith) (omega arith), scalar_high v (omega arith) (omega arith))

coded_4 : (a b c d v lo hi : ℕ) → v ≡ a % 8 * 262144 + b % 64 * 4096 + c % 64 * 64 + d % 64 → Fourth a lo hi → lo ≤ b → b ≤ hi → 0x80 ≤ c → c ≤ 0xBF → 0x80 ≤ d → d ≤ 0xBF → (bytes_of v ≡ a ∷ b ∷ c ∷ d ∷ []) × (is_scalar v ≡ true)
coded_4 a b c d v lo hi e (f0 h k) i j l m n o =
    (bytes_4 v (omega arith) ∙ same_4 (omega arith) (omega arith) (omega arith) (omega arith), scalar_high v (omega arith) (omega arith))
coded_4 a b c d v lo hi e (f1 h k) i j l m n o =
    (bytes_4 v (omega arith) ∙ same_4 (omega arith) (omega arith) (omega arith) (omega arith), scalar_high v (omega arith) (omega arith))
coded_4 a b c d v lo hi e (f4 h k) i j l m n o =
    (bytes_4 v (omega arith) ∙ same_4 (omega arith) (omega arith) (omega arith) (omega arith), scalar_high v (omega arith) (omega arith))

row_2 : (a : ℕ) (q : List ℕ) → 0xC2 ≤ a → a ≤ 0xDF → fits (trail ∷ []) q ≡ true → Coded (a ∷ q)
row_2 a [] h k e = no e
row_2 a (b ∷ []) h k e =
    let w = within_in 0x80 0xBF b true e in
    let r = coded_2 a b _ refl h k w.0 w.1 in
    record { back = r.0; scalar = r.1 }
row_2 a (b ∷ c ∷ q) h k e = no (within_in 0x80 0xBF b false e).2

row_3 : (a lo hi : ℕ) (q : List ℕ) → Third a lo hi → fits (lo ‥ hi ∷ trail ∷ []) q ≡ true → Coded (a ∷ q)
row_3 a lo hi [] t e = no e
row_3 a lo hi (b ∷ []) t e = no (within_in lo hi b false e).2
row_3 a lo hi (b ∷ c ∷ []) t e =
    let w = within_in lo hi b _ e in
    let x = within_in 0x80 0xBF c true w.2 in
    let r = coded_3 a b c _ lo hi refl t w.0 w.1 x.0 x.1 in
    record { back = r.0; scalar = r.1 }
row_3 a lo hi (b ∷ c ∷ d ∷ q) t e = no (within_in 0x80 0xBF c false (within_in lo hi b _ e).2).2

row_4 : (a lo hi : ℕ) (q : List ℕ) → Fourth a lo hi → fits (lo ‥ hi ∷ trail ∷ trail ∷ []) q ≡ true → Coded (a ∷ q)
row_4 a lo hi [] t e = no e
row_4 a lo hi (b ∷ []) t e = no (within_in lo hi b false e).2
row_4 a lo hi (b ∷ c ∷ []) t e = no (within_in 0x80 0xBF c false (within_in lo hi b _ e).2).2
row_4 a lo hi (b ∷ c ∷ d ∷ []) t e =
    let w = within_in lo hi b _ e in
    let x = within_in 0x80 0xBF c _ w.2 in
    let y = within_in 0x80 0xBF d true x.2 in
    let r = coded_4 a b c d _ lo hi refl t w.0 w.1 x.0 x.1 y.0 y.1 in
    record { back = r.0; scalar = r.1 }
row_4 a lo hi (b ∷ c ∷ d ∷ f ∷ q) t e = no (within_in 0x80 0xBF d false (within_in 0x80 0xBF c _ (within_in lo hi b _ e).2).2).2

row_1 : (a : ℕ) (q : List ℕ) → a ≤ 0x7F → fits [] q ≡ true → Coded (a ∷ q)
row_1 a [] h e = coded_1 a h
row_1 a (b ∷ q) h e = no e

kind_coded : (a : ℕ) (q : List ℕ) → Kind a → is_sequence (a ∷ q) ≡ true → Coded (a ∷ q)
kind_coded a q (shut x c) h = no (sym (c.fit q) ∙ h)
kind_coded a q (one x o) h = row_1 a q x (sym (o.fit q) ∙ h)
kind_coded a q (two x y o) h = row_2 a q x y (sym (o.fit q) ∙ h)
kind_coded a q (three {lo} {hi} r o) h = row_3 a lo hi q r (sym (o.fit q) ∙ h)
kind_coded a q (four {lo} {hi} r o) h = row_4 a lo hi q r (sym (o.fit q) ∙ h)

coded : (q : List ℕ) → T (is_sequence q) → Coded q
coded [] t = no (sym not_empty ∙ true_is _ t)
coded (a ∷ q) t = kind_coded a q (kind_of a) (true_is _ t)

-- the bytes of a scalar value are a sequence, and its value is the scalar
record Spelled (v : ℕ) (q : List ℕ) : Type 0 where
  sequence : is_sequence q ≡ true
  value : scalar_of q ≡ v

spelled_1 : (v : ℕ) → Kind v → v < 0x80 → Spelled v (v ∷ [])
spelled_1 v (shut (low x y) c) h = absurd (omega arith)
spelled_1 v (shut (high x) c) h = absurd (omega arith)
spelled_1 v (one x o) h = record { sequence = o.fit []; value = refl }
spelled_1 v (two x y o) h = absurd (omega arith)
spelled_1 v (three r o) h = let z = third_range r in absurd (omega arith)
spelled_1 v (four r o) h = let z = fourth_range r in absurd (omega arith)

spelled_2 : (v a : ℕ) → a ≡ 0xC0 + v / 64 → Kind a → 0x80 ≤ v → v < 0x800 → Spelled v (a ∷ (0x80 + v % 64) ∷ [])
spelled_2 v a e (shut (low x y) c) h k = absurd (omega arith)
spelled_2 v a e (shut (high x) c) h k = absurd (omega arith)
spelled_2 v a e (one x o) h k = absurd (omega arith)
spelled_2 v a e (two x y o) h k =
    record {
      sequence = o.fit _ ∙ simp (within_yes 0x80 0xBF (0x80 + v % 64) (omega arith) (omega arith));
      value = omega arith;
    }
spelled_2 v a e (three r o) h k = let z = third_range r in absurd (omega arith)
spelled_2 v a e (four r o) h k = let z = fourth_range r in absurd (omega arith)

-- the second byte of three is in its first byte's range, surrogates left out
third_in : (v a lo hi : ℕ) → a ≡ 0xE0 + v / 4096 → Third a lo hi → 0x800 ≤ v → v < 0x10000 → is_scalar v ≡ true → (lo ≤ 0x80 + v / 64 % 64) × (0x80 + v / 64 % 64 ≤ hi)
unfolding is_scalar
third_in v a lo hi e (e0 x y) h k s = (omega arith, omega arith)
third_in v a lo hi e (e1 x y) h k s = (omega arith, omega arith)
third_in v a lo hi e (ed x y) h k s = (omega arith, let z = not_surrogate v s (omega arith) in omega arith)
  where
    not_surrogate : (v : ℕ) → is_scalar v ≡ true → v < 0xE000 → v < 0xD800
    not_surrogate v s h = go (ltb v 0xD800) refl s
      where
        go : (t : Bool) → ltb v 0xD800 ≡ t → (t || (leb 0xE000 v && leb v 0x10FFFF)) ≡ true → v < 0xD800
        go true e f = ltb-true v 0xD800 e
        go false e f = absurd (omega (arith, within_in 0xE000 0x10FFFF v true (and_true (within 0xE000 0x10FFFF v) f)))
third_in v a lo hi e (ee x y) h k s = (omega arith, omega arith)

spelled_3 : (v a : ℕ) → a ≡ 0xE0 + v / 4096 → Kind a → 0x800 ≤ v → v < 0x10000 → is_scalar v ≡ true → Spelled v (a ∷ (0x80 + v / 64 % 64) ∷ (0x80 + v % 64) ∷ [])
spelled_3 v a e (shut (low x y) c) h k s = absurd (omega arith)
spelled_3 v a e (shut (high x) c) h k s = absurd (omega arith)
spelled_3 v a e (one x o) h k s = absurd (omega arith)
spelled_3 v a e (two x y o) h k s = absurd (omega arith)
spelled_3 v a e (three {lo} {hi} r o) h k s =
    let i = third_in v a lo hi e r h k s in
    record {
      sequence = o.fit _ ∙ simp (within_yes lo hi (0x80 + v / 64 % 64) i.0 i.1, within_yes 0x80 0xBF (0x80 + v % 64) (omega arith) (omega arith));
      value = let z = third_range r in omega arith;
    }
spelled_3 v a e (four r o) h k s = let z = fourth_range r in absurd (omega arith)

fourth_in : (v a lo hi : ℕ) → a ≡ 0xF0 + v / 262144 → Fourth a lo hi → 0x10000 ≤ v → v ≤ 0x10FFFF → (lo ≤ 0x80 + v / 4096 % 64) × (0x80 + v / 4096 % 64 ≤ hi)
fourth_in v a lo hi e (f0 x y) h k = (omega arith, omega arith)
fourth_in v a lo hi e (f1 x y) h k = (omega arith, omega arith)
fourth_in v a lo hi e (f4 x y) h k = (omega arith, omega arith)

-- the bits of a scalar value, put together again
low_bits : (y : ℕ) → (0x80 + y % 64) % 64 ≡ y % 64
low_bits y = omega arith

by_64 : (y : ℕ) → y ≡ y / 64 * 64 + y % 64
by_64 y = omega arith

value_4 : (v a : ℕ) → a ≡ 0xF0 + v / 262144 → v ≤ 0x10FFFF → a % 8 * 262144 + (0x80 + v / 4096 % 64) % 64 * 4096 + (0x80 + v / 64 % 64) % 64 * 64 + (0x80 + v % 64) % 64 ≡ v
value_4 v a e h =
    let z : a % 8 ≡ v / 262144 = omega arith in
    let x : v / 64 / 64 ≡ v / 4096 = omega arith in
    let y : v / 4096 / 64 ≡ v / 262144 = omega arith in
    rw (z, low_bits, low_bits, low_bits) (join v (v / 64) (v / 4096) (v / 262144) (by_64 v) (by_64 (v / 64) ∙ ap (λ (k : ℕ). k * 64 + v / 64 % 64) x) (by_64 (v / 4096) ∙ ap (λ (k : ℕ). k * 64 + v / 4096 % 64) y))
  where
    join : (v x y z : ℕ) → v ≡ x * 64 + v % 64 → x ≡ y * 64 + x % 64 → y ≡ z * 64 + y % 64 → z * 262144 + y % 64 * 4096 + x % 64 * 64 + v % 64 ≡ v
    join v x y z p q r = sum z (y % 64) (x % 64) (v % 64) v x y p q r
      where
        sum : (z b c d v x y : ℕ) → v ≡ x * 64 + d → x ≡ y * 64 + c → y ≡ z * 64 + b → z * 262144 + b * 4096 + c * 64 + d ≡ v
        sum z b c d v x y p q r = omega arith

spelled_4 : (v a : ℕ) → a ≡ 0xF0 + v / 262144 → Kind a → 0x10000 ≤ v → v ≤ 0x10FFFF → Spelled v (a ∷ (0x80 + v / 4096 % 64) ∷ (0x80 + v / 64 % 64) ∷ (0x80 + v % 64) ∷ [])
spelled_4 v a e (shut (low x y) c) h k = absurd (omega arith)
spelled_4 v a e (shut (high x) c) h k = absurd (omega arith)
spelled_4 v a e (one x o) h k = absurd (omega arith)
spelled_4 v a e (two x y o) h k = absurd (omega arith)
spelled_4 v a e (three r o) h k = let z = third_range r in absurd (omega arith)
spelled_4 v a e (four {lo} {hi} r o) h k =
    let i = fourth_in v a lo hi e r h k in
    record {
      sequence = o.fit _ ∙ simp (within_yes lo hi (0x80 + v / 4096 % 64) i.0 i.1, within_yes 0x80 0xBF (0x80 + v / 64 % 64) (omega arith) (omega arith), within_yes 0x80 0xBF (0x80 + v % 64) (omega arith) (omega arith));
      value = value_4 v a e k;
    }

spelled : (v : ℕ) → is_scalar v ≡ true → Spelled v (bytes_of v)
unfolding is_scalar
spelled v s = go (ltb v 0x80) refl (ltb v 0x800) refl (ltb v 0x10000) refl
  where
    largest : (t : Bool) → ltb v 0xD800 ≡ t → (t || within 0xE000 0x10FFFF v) ≡ true → v ≤ 0x10FFFF
    largest true e f = omega (arith, ltb-true v 0xD800 e)
    largest false e f = (within_in 0xE000 0x10FFFF v true (and_true (within 0xE000 0x10FFFF v) f)).1

    go : (x : Bool) → ltb v 0x80 ≡ x → (y : Bool) → ltb v 0x800 ≡ y → (z : Bool) → ltb v 0x10000 ≡ z → Spelled v (bytes_of v)
    go true e y f z g = subst (Spelled v) (sym (bytes_1 v (ltb-true v 0x80 e))) (spelled_1 v (kind_of v) (ltb-true v 0x80 e))
    go false e true f z g =
        let h = ltb-false v 0x80 e in
        let k = ltb-true v 0x800 f in
        subst (Spelled v) (sym (bytes_2 v h k)) (spelled_2 v _ refl (kind_of _) h k)
    go false e false f true g =
        let h = ltb-false v 0x800 f in
        let k = ltb-true v 0x10000 g in
        subst (Spelled v) (sym (bytes_3 v h k)) (spelled_3 v _ refl (kind_of _) h k s)
    go false e false f false g =
        let h = ltb-false v 0x10000 g in
        subst (Spelled v) (sym (bytes_4 v h)) (spelled_4 v _ refl (kind_of _) h (largest (ltb v 0xD800) refl s))

-- Encoding the scalars of well-formed bytes gives the bytes back.
pub encode_back : {bytes scalars : List ℕ} → Utf8 bytes scalars → encode scalars ≡ bytes
unfolding encode
encode_back empty = refl
encode_back (next q {bytes} {scalars} t u) = ap (λ (l : List ℕ). l ++ encode scalars) (coded q t).back ∙ ap (λ (l : List ℕ). q ++ l) (encode_back u)

-- What well-formed bytes encode are scalar values.
pub all_scalars : {bytes scalars : List ℕ} → Utf8 bytes scalars → first_non_scalar scalars ≡ length scalars
all_scalars empty = leading_nil is_scalar
all_scalars (next q {bytes} {scalars} t u) = leading_yes is_scalar (scalar_of q) scalars (coded q t).scalar ∙ ap suc (all_scalars u)

-- Every list of scalar values is the decoding of its encoding.
pub encoded : (scalars : List ℕ) → first_non_scalar scalars ≡ length scalars → Utf8 (encode scalars) scalars
unfolding encode
encoded [] h = empty
encoded (v ∷ vs) h =
    let k = leading_all is_scalar v vs h in
    let s = spelled v k.0 in
    subst (λ (x : ℕ). Utf8 (bytes_of v ++ encode vs) (x ∷ vs)) s.value (next (bytes_of v) (is_true s.sequence) (encoded vs k.1))
