-- The row of table 3-7 that a first byte opens. Assumes nothing.
use Prim.Native.Nat.{ℕ, suc, ◌≤◌, ◌<◌}
use native.Mathlib.Omega.{arith}
use mathlib.Core.Path.{◌≡◌, refl, ◌∙◌}
use mathlib.Core.Bool.{Bool, true, false, cond, ◌||◌}
use mathlib.Core.List.{List, [], ◌∷◌}
use lib.ListN.{length}
use lib.Dec.{ltb}
use borrow.Author.Tests.{ltb-true, ltb-false}
use Rattle.lists.proofs.Ranges.{within_yes, within_no}
use Rattle.utf8_sequences.specs.Utf8.{Range, ◌‥◌, table37, fits, fits_any, is_sequence}
use Rattle.utf8_sequences.specs.Sequences.{packed, lead_in, lead_of, starts, size_in, size_of}

-- what the table says of the byte is what these rows of it say
record Seen (rows : List (List Range)) (b : ℕ) : Type 0 where
  size : (s : List ℕ) → size_of (b ∷ s) ≡ size_in rows (b ∷ s)
  fit : (q : List ℕ) → is_sequence (b ∷ q) ≡ fits_any rows (b ∷ q)
  lead : lead_of b ≡ lead_in rows b

seen_all : (b : ℕ) → Seen table37 b
unfolding size_of is_sequence lead_of
seen_all b = record { size = λ s. refl; fit = λ q. refl; lead = refl }

seen_past : {lo hi b : ℕ} {row : List Range} {rows : List (List Range)} → hi < b → Seen ((lo ‥ hi ∷ row) ∷ rows) b → Seen rows b
seen_past {lo} {hi} {b} h v =
    let e = within_no lo hi b (λ l k. omega arith) in
    record { size = λ s. v.size s ∙ simp e; fit = λ q. v.fit q ∙ simp e; lead = v.lead ∙ simp e }

-- no row of these is the byte's
record Ahead (rows : List (List Range)) (b : ℕ) : Type 0 where
  size : (s : List ℕ) → size_in rows (b ∷ s) ≡ 0
  fit : (q : List ℕ) → fits_any rows (b ∷ q) ≡ false
  lead : lead_in rows b ≡ 0

ahead_none : (b : ℕ) → Ahead [] b
ahead_none b = record { size = λ s. refl; fit = λ q. refl; lead = refl }

ahead_more : (lo hi : ℕ) (row : List Range) {b : ℕ} {rows : List (List Range)} → b < lo → Ahead rows b → Ahead ((lo ‥ hi ∷ row) ∷ rows) b
ahead_more lo hi row {b} h a =
    let e = within_no lo hi b (λ l k. omega arith) in
    record { size = λ s. simp e (a.size s); fit = λ q. simp e (a.fit q); lead = simp e a.lead }

-- the byte opens sequences whose later bytes are in these ranges
pub record Opens (b : ℕ) (row : List Range) : Type 0 where
  pub size : (s : List ℕ) → size_of (b ∷ s) ≡ cond (starts row s) (suc (length row)) 0
  pub fit : (q : List ℕ) → is_sequence (b ∷ q) ≡ fits row q
  pub lead : lead_of b ≡ packed (0 ‥ 0 ∷ row)

or_false : (t : Bool) → (t || false) ≡ t
or_false true = refl
or_false false = refl

packed_same : (a b : Range) (row : List Range) → packed (a ∷ row) ≡ packed (b ∷ row)
packed_same a b [] = refl
packed_same a b (r ∷ row) = refl

opened : {lo hi b : ℕ} {row : List Range} {rows : List (List Range)} → lo ≤ b → b ≤ hi → Seen ((lo ‥ hi ∷ row) ∷ rows) b → Ahead rows b → Opens b row
opened {lo} {hi} {b} {row} h k v a =
    let e = within_yes lo hi b h k in
    record {
      size = λ s. v.size s ∙ simp (e, a.size s);
      fit = λ q. v.fit q ∙ simp (e, a.fit q) (or_false (fits row q));
      lead = v.lead ∙ simp e (packed_same (lo ‥ hi) (0 ‥ 0) row);
    }

-- no sequence starts with the byte
pub record Closed (b : ℕ) : Type 0 where
  pub size : (s : List ℕ) → size_of (b ∷ s) ≡ 0
  pub fit : (q : List ℕ) → is_sequence (b ∷ q) ≡ false
  pub lead : lead_of b ≡ 0

closed : {b : ℕ} {rows : List (List Range)} → Seen rows b → Ahead rows b → Closed b
closed v a = record { size = λ s. v.size s ∙ a.size s; fit = λ q. v.fit q ∙ a.fit q; lead = v.lead ∙ a.lead }

-- the second byte's range after a first byte of three, and of four
pub data Third (b : ℕ) : ℕ → ℕ → Type 0 where
  e0 : 0xE0 ≤ b → b ≤ 0xE0 → Third b 0xA0 0xBF
  e1 : 0xE1 ≤ b → b ≤ 0xEC → Third b 0x80 0xBF
  ed : 0xED ≤ b → b ≤ 0xED → Third b 0x80 0x9F
  ee : 0xEE ≤ b → b ≤ 0xEF → Third b 0x80 0xBF

pub data Fourth (b : ℕ) : ℕ → ℕ → Type 0 where
  f0 : 0xF0 ≤ b → b ≤ 0xF0 → Fourth b 0x90 0xBF
  f1 : 0xF1 ≤ b → b ≤ 0xF3 → Fourth b 0x80 0xBF
  f4 : 0xF4 ≤ b → b ≤ 0xF4 → Fourth b 0x80 0x8F

-- a byte that is the first of none
pub data Stray (b : ℕ) : Type 0 where
  low : 0x80 ≤ b → b < 0xC2 → Stray b
  high : 0xF5 ≤ b → Stray b

abbrev pub trail : Range
trail = 0x80 ‥ 0xBF

pub data Kind (b : ℕ) : Type 0 where
  shut : Stray b → Closed b → Kind b
  one : b ≤ 0x7F → Opens b [] → Kind b
  two : 0xC2 ≤ b → b ≤ 0xDF → Opens b (trail ∷ []) → Kind b
  three : {lo hi : ℕ} → Third b lo hi → Opens b (lo ‥ hi ∷ trail ∷ []) → Kind b
  four : {lo hi : ℕ} → Fourth b lo hi → Opens b (lo ‥ hi ∷ trail ∷ trail ∷ []) → Kind b

-- the table's rows from one on
abbrev from_f4 : List (List Range)
from_f4 = (0xF4 ‥ 0xF4 ∷ 0x80 ‥ 0x8F ∷ trail ∷ trail ∷ []) ∷ []

abbrev from_f1 : List (List Range)
from_f1 = (0xF1 ‥ 0xF3 ∷ trail ∷ trail ∷ trail ∷ []) ∷ from_f4

abbrev from_f0 : List (List Range)
from_f0 = (0xF0 ‥ 0xF0 ∷ 0x90 ‥ 0xBF ∷ trail ∷ trail ∷ []) ∷ from_f1

abbrev from_ee : List (List Range)
from_ee = (0xEE ‥ 0xEF ∷ trail ∷ trail ∷ []) ∷ from_f0

abbrev from_ed : List (List Range)
from_ed = (0xED ‥ 0xED ∷ 0x80 ‥ 0x9F ∷ trail ∷ []) ∷ from_ee

abbrev from_e1 : List (List Range)
from_e1 = (0xE1 ‥ 0xEC ∷ trail ∷ trail ∷ []) ∷ from_ed

abbrev from_e0 : List (List Range)
from_e0 = (0xE0 ‥ 0xE0 ∷ 0xA0 ‥ 0xBF ∷ trail ∷ []) ∷ from_e1

abbrev from_c2 : List (List Range)
from_c2 = (0xC2 ‥ 0xDF ∷ trail ∷ []) ∷ from_e0

module _ (b : ℕ) where
  no_f4 : b < 0xF4 → Ahead from_f4 b
  no_f4 h = ahead_more _ _ _ h (ahead_none b)

  no_f1 : b < 0xF1 → Ahead from_f1 b
  no_f1 h = ahead_more _ _ _ h (no_f4 (omega arith))

  no_f0 : b < 0xF0 → Ahead from_f0 b
  no_f0 h = ahead_more _ _ _ h (no_f1 (omega arith))

  no_ee : b < 0xEE → Ahead from_ee b
  no_ee h = ahead_more _ _ _ h (no_f0 (omega arith))

  no_ed : b < 0xED → Ahead from_ed b
  no_ed h = ahead_more _ _ _ h (no_ee (omega arith))

  no_e1 : b < 0xE1 → Ahead from_e1 b
  no_e1 h = ahead_more _ _ _ h (no_ed (omega arith))

  no_e0 : b < 0xE0 → Ahead from_e0 b
  no_e0 h = ahead_more _ _ _ h (no_e1 (omega arith))

  no_c2 : b < 0xC2 → Ahead from_c2 b
  no_c2 h = ahead_more _ _ _ h (no_e0 (omega arith))

  at_f4 : Seen from_f4 b → 0xF4 ≤ b → (t : Bool) → ltb b 0xF5 ≡ t → Kind b
  at_f4 v h true e = let k = ltb-true b 0xF5 e in four (f4 h (omega arith)) (opened h (omega arith) v (ahead_none b))
  at_f4 v h false e = let k = ltb-false b 0xF5 e in shut (high k) (closed (seen_past (omega arith) v) (ahead_none b))

  at_f1 : Seen from_f1 b → 0xF1 ≤ b → (t : Bool) → ltb b 0xF4 ≡ t → Kind b
  at_f1 v h true e = let k = ltb-true b 0xF4 e in four (f1 h (omega arith)) (opened h (omega arith) v (no_f4 (omega arith)))
  at_f1 v h false e = let k = ltb-false b 0xF4 e in at_f4 (seen_past (omega arith) v) (omega arith) _ refl

  at_f0 : Seen from_f0 b → 0xF0 ≤ b → (t : Bool) → ltb b 0xF1 ≡ t → Kind b
  at_f0 v h true e = let k = ltb-true b 0xF1 e in four (f0 h (omega arith)) (opened h (omega arith) v (no_f1 (omega arith)))
  at_f0 v h false e = let k = ltb-false b 0xF1 e in at_f1 (seen_past (omega arith) v) (omega arith) _ refl

  at_ee : Seen from_ee b → 0xEE ≤ b → (t : Bool) → ltb b 0xF0 ≡ t → Kind b
  at_ee v h true e = let k = ltb-true b 0xF0 e in three (ee h (omega arith)) (opened h (omega arith) v (no_f0 (omega arith)))
  at_ee v h false e = let k = ltb-false b 0xF0 e in at_f0 (seen_past (omega arith) v) (omega arith) _ refl

  at_ed : Seen from_ed b → 0xED ≤ b → (t : Bool) → ltb b 0xEE ≡ t → Kind b
  at_ed v h true e = let k = ltb-true b 0xEE e in three (ed h (omega arith)) (opened h (omega arith) v (no_ee (omega arith)))
  at_ed v h false e = let k = ltb-false b 0xEE e in at_ee (seen_past (omega arith) v) (omega arith) _ refl

  at_e1 : Seen from_e1 b → 0xE1 ≤ b → (t : Bool) → ltb b 0xED ≡ t → Kind b
  at_e1 v h true e = let k = ltb-true b 0xED e in three (e1 h (omega arith)) (opened h (omega arith) v (no_ed (omega arith)))
  at_e1 v h false e = let k = ltb-false b 0xED e in at_ed (seen_past (omega arith) v) (omega arith) _ refl

  at_e0 : Seen from_e0 b → 0xE0 ≤ b → (t : Bool) → ltb b 0xE1 ≡ t → Kind b
  at_e0 v h true e = let k = ltb-true b 0xE1 e in three (e0 h (omega arith)) (opened h (omega arith) v (no_e1 (omega arith)))
  at_e0 v h false e = let k = ltb-false b 0xE1 e in at_e1 (seen_past (omega arith) v) (omega arith) _ refl

  at_c2 : Seen from_c2 b → 0xC2 ≤ b → (t : Bool) → ltb b 0xE0 ≡ t → Kind b
  at_c2 v h true e = let k = ltb-true b 0xE0 e in two h (omega arith) (opened h (omega arith) v (no_e0 (omega arith)))
  at_c2 v h false e = let k = ltb-false b 0xE0 e in at_e0 (seen_past (omega arith) v) (omega arith) _ refl

  at_80 : Seen from_c2 b → 0x80 ≤ b → (t : Bool) → ltb b 0xC2 ≡ t → Kind b
  at_80 v h true e = let k = ltb-true b 0xC2 e in shut (low h k) (closed v (no_c2 k))
  at_80 v h false e = at_c2 v (ltb-false b 0xC2 e) _ refl

  at_00 : (t : Bool) → ltb b 0x80 ≡ t → Kind b
  at_00 true e = let k = ltb-true b 0x80 e in one (omega arith) (opened (omega arith) (omega arith) (seen_all b) (no_c2 (omega arith)))
  at_00 false e = let k = ltb-false b 0x80 e in at_80 (seen_past (omega arith) (seen_all b)) k _ refl

  pub kind_of : Kind b
  kind_of = at_00 _ refl
