-- The length of the sequence at the start of bytes, from its first byte's entry and the bytes
-- behind it. Assumes nothing.
use Prim.Native.Nat.{ℕ, suc, ◌+◌, ◌-◌, ◌*◌, ◌/◌, ◌%◌, ◌≤◌, ◌<◌}
use native.Mathlib.Omega.{arith}
use native.Mathlib.Nat.{add-zero}
use mathlib.Core.Path.{◌≡◌, refl, sym, ◌∙◌, ap, subst}
use mathlib.Core.Bool.{Bool, true, false, cond, ◌&&◌}
use mathlib.Core.List.{List, [], ◌∷◌}
use lib.ListN.{length, get_or, drop, length-drop}
use lib.Seq.{get_or-drop}
use lib.Dec.{leb, ltb, eqb}
use borrow.Author.Tests.{lt-ltb, le-ltb, leb-true, leb-false}
use Rattle.lists.specs.Scans.{within}
use Rattle.utf8_sequences.specs.Utf8.{Range, ◌‥◌, table37}
use Rattle.utf8_sequences.specs.Sequences.{lead_of, starts, size_in, size_of}
use Rattle.utf8_sequences.proofs.FirstBytes.{Opens, Third, e0, e1, ed, ee, Fourth, f0, f1, f4, trail, Kind, shut, one, two, three, four, kind_of}

-- the decoder's tests, one after the other: the size that the first byte asks, its second byte's
-- range, n bytes in all
unfoldable pub size_by : (size lo hi n b c d : ℕ) → ℕ
size_by size lo hi n b c d =
    cond (ltb n size) 0
    (cond (ltb size 2) size
    (cond (ltb b lo) 0
    (cond (ltb hi b) 0
    (cond (eqb size 2) 2
    (cond (within 0x80 0xBF c)
    (cond (eqb size 3) 3
    (cond (within 0x80 0xBF d) 4 0))
    0)))))

range : (lo hi b v : ℕ) → cond (ltb b lo) 0 (cond (ltb hi b) 0 v) ≡ cond (within lo hi b) v 0
range lo hi b v = go (leb lo b) (leb b hi) refl refl
  where
    go : (x y : Bool) → leb lo b ≡ x → leb b hi ≡ y → cond (ltb b lo) 0 (cond (ltb hi b) 0 v) ≡ cond (leb lo b && leb b hi) v 0
    go true true p q = simp (p, q, le-ltb b lo (leb-true lo b p), le-ltb hi b (leb-true b hi q))
    go true false p q = simp (p, q, le-ltb b lo (leb-true lo b p), lt-ltb hi b (leb-false b hi q))
    go false y p q = simp (p, lt-ltb b lo (leb-false lo b p))

short : (size lo hi n b c d : ℕ) → n < size → size_by size lo hi n b c d ≡ 0
unfolding size_by
short size lo hi n b c d h = simp (lt-ltb _ _ h)

none : (lo hi n b c d : ℕ) → size_by 0 lo hi n b c d ≡ 0
unfolding size_by
none lo hi n b c d = simp (le-ltb n 0 (omega arith))

single : (lo hi n b c d : ℕ) → 1 ≤ n → size_by 1 lo hi n b c d ≡ 1
unfolding size_by
single lo hi n b c d h = simp (le-ltb n 1 h)

lone : (x : Bool) (v : ℕ) → cond x v 0 ≡ cond (x && true) v 0
lone true v = refl
lone false v = refl

nest : (x y : Bool) (v : ℕ) → cond x (cond y v 0) 0 ≡ cond (x && y) v 0
nest true y v = refl
nest false y v = refl

cut_off : (x : Bool) (v : ℕ) → 0 ≡ cond (x && false) v 0
cut_off true v = refl
cut_off false v = refl

pair : (lo hi n b c d : ℕ) → 2 ≤ n → size_by 2 lo hi n b c d ≡ cond (within lo hi b && true) 2 0
unfolding size_by
pair lo hi n b c d h = simp (le-ltb n 2 h) (range lo hi b 2 ∙ lone (within lo hi b) 2)

triple : (lo hi n b c d : ℕ) → 3 ≤ n → size_by 3 lo hi n b c d ≡ cond (within lo hi b && (within 0x80 0xBF c && true)) 3 0
unfolding size_by
triple lo hi n b c d h =
    simp (le-ltb n 3 h)
    (range lo hi b (cond (within 0x80 0xBF c) 3 0)
    ∙ ap (λ (k : ℕ). cond (within lo hi b) k 0) (lone (within 0x80 0xBF c) 3)
    ∙ nest (within lo hi b) (within 0x80 0xBF c && true) 3)

quad : (lo hi n b c d : ℕ) → 4 ≤ n → size_by 4 lo hi n b c d ≡ cond (within lo hi b && (within 0x80 0xBF c && (within 0x80 0xBF d && true))) 4 0
unfolding size_by
quad lo hi n b c d h =
    simp (le-ltb n 4 h)
    (range lo hi b (cond (within 0x80 0xBF c) (cond (within 0x80 0xBF d) 4 0) 0)
    ∙ ap (λ (k : ℕ). cond (within lo hi b) (cond (within 0x80 0xBF c) k 0) 0) (lone (within 0x80 0xBF d) 4)
    ∙ ap (λ (k : ℕ). cond (within lo hi b) k 0) (nest (within 0x80 0xBF c) (within 0x80 0xBF d && true) 4)
    ∙ nest (within lo hi b) (within 0x80 0xBF c && (within 0x80 0xBF d && true)) 4)

-- the fields of an entry
record Entry (e size lo hi : ℕ) : Type 0 where
  size_is : e / 65536 ≡ size
  lo_is : e / 256 % 256 ≡ lo
  hi_is : e % 256 ≡ hi

entry : (e size lo hi : ℕ) → e ≡ size * 65536 + lo * 256 + hi → lo ≤ 255 → hi ≤ 255 → Entry e size lo hi
entry e size lo hi h k m = record { size_is = omega arith; lo_is = omega arith; hi_is = omega arith }

by_entry : {e size lo hi : ℕ} (n b c d : ℕ) → Entry e size lo hi → size_by (e / 65536) (e / 256 % 256) (e % 256) n b c d ≡ size_by size lo hi n b c d
by_entry n b c d h = rw (h.size_is, h.lo_is, h.hi_is)

pub third_range : {b lo hi : ℕ} → Third b lo hi → (lo ≤ 255) × (hi ≤ 255) × (0xE0 ≤ b) × (b ≤ 0xEF)
third_range (e0 h k) = (omega arith, omega arith, omega arith, omega arith)
third_range (e1 h k) = (omega arith, omega arith, omega arith, omega arith)
third_range (ed h k) = (omega arith, omega arith, omega arith, omega arith)
third_range (ee h k) = (omega arith, omega arith, omega arith, omega arith)

pub fourth_range : {b lo hi : ℕ} → Fourth b lo hi → (lo ≤ 255) × (hi ≤ 255) × (0xF0 ≤ b) × (b ≤ 0xF4)
fourth_range (f0 h k) = (omega arith, omega arith, omega arith, omega arith)
fourth_range (f1 h k) = (omega arith, omega arith, omega arith, omega arith)
fourth_range (f4 h k) = (omega arith, omega arith, omega arith, omega arith)

abbrev By : ℕ → List ℕ → ℕ
By b s = size_by (lead_of b / 65536) (lead_of b / 256 % 256) (lead_of b % 256) (suc (length s)) (get_or s 0 0) (get_or s 1 0) (get_or s 2 0)

two_by : (s : List ℕ) → size_by 2 0x80 0xBF (suc (length s)) (get_or s 0 0) (get_or s 1 0) (get_or s 2 0) ≡ cond (starts (trail ∷ []) s) 2 0
two_by [] = short _ _ _ _ _ _ _ (omega arith)
two_by (x ∷ s) = pair _ _ _ _ _ _ (omega arith)

three_by : (lo hi : ℕ) (s : List ℕ) → size_by 3 lo hi (suc (length s)) (get_or s 0 0) (get_or s 1 0) (get_or s 2 0) ≡ cond (starts (lo ‥ hi ∷ trail ∷ []) s) 3 0
three_by lo hi [] = short _ _ _ _ _ _ _ (omega arith)
three_by lo hi (x ∷ []) = short _ _ _ _ _ _ _ (omega arith) ∙ cut_off (within lo hi x) 3
three_by lo hi (x ∷ y ∷ s) = triple _ _ _ _ _ _ (omega arith)

four_by : (lo hi : ℕ) (s : List ℕ) → size_by 4 lo hi (suc (length s)) (get_or s 0 0) (get_or s 1 0) (get_or s 2 0) ≡ cond (starts (lo ‥ hi ∷ trail ∷ trail ∷ []) s) 4 0
four_by lo hi [] = short _ _ _ _ _ _ _ (omega arith)
four_by lo hi (x ∷ []) = short _ _ _ _ _ _ _ (omega arith) ∙ cut_off (within lo hi x) 4
four_by lo hi (x ∷ y ∷ []) =
    short _ _ _ _ _ _ _ (omega arith) ∙ cut_off (within lo hi x && within 0x80 0xBF y) 4
    ∙ ap (λ (t : Bool). cond t 4 0) (assoc (within lo hi x) (within 0x80 0xBF y))
  where
    assoc : (t u : Bool) → ((t && u) && false) ≡ (t && (u && false))
    assoc true u = refl
    assoc false u = refl
four_by lo hi (x ∷ y ∷ z ∷ s) = quad _ _ _ _ _ _ (omega arith)

by_kind : (b : ℕ) (s : List ℕ) → Kind b → By b s ≡ size_of (b ∷ s)
by_kind b s (shut x h) = by_entry _ _ _ _ (entry _ 0 0 0 h.lead (omega arith) (omega arith)) ∙ none _ _ _ _ _ _ ∙ sym (h.size s)
by_kind b s (one r h) = by_entry _ _ _ _ (entry _ 1 0 0 h.lead (omega arith) (omega arith)) ∙ single _ _ _ _ _ _ (omega arith) ∙ sym (h.size s)
by_kind b s (two r q h) = by_entry _ _ _ _ (entry _ 2 0x80 0xBF h.lead (omega arith) (omega arith)) ∙ two_by s ∙ sym (h.size s)
by_kind b s (three {lo} {hi} r h) = let k = third_range r in by_entry _ _ _ _ (entry _ 3 lo hi h.lead k.0 k.1) ∙ three_by lo hi s ∙ sym (h.size s)
by_kind b s (four {lo} {hi} r h) = let k = fourth_range r in by_entry _ _ _ _ (entry _ 4 lo hi h.lead k.0 k.1) ∙ four_by lo hi s ∙ sym (h.size s)

whole_by : (s : List ℕ) → 0 < length s → size_by (lead_of (get_or s 0 0) / 65536) (lead_of (get_or s 0 0) / 256 % 256) (lead_of (get_or s 0 0) % 256) (length s) (get_or s 1 0) (get_or s 2 0) (get_or s 3 0) ≡ size_of s
whole_by [] h = absurd (omega arith)
whole_by (b ∷ s) h = by_kind b s (kind_of b)

-- the same at a place, with the entry and the bytes that were read in the place of what they are
pub read : (s : List ℕ) (at : ℕ) {e b : ℕ} → at < length s → e ≡ lead_of (get_or s at 0) → b ≡ get_or s (at + 1) 0 → size_by (e / 65536) (e / 256 % 256) (e % 256) (length s - at) b (get_or s (at + 2) 0) (get_or s (at + 3) 0) ≡ size_of (drop at s)
read s at h he hb = rw (he, hb) (simp (length-drop, get_or-drop, add-zero) at (whole_by (drop at s) (simp length-drop (omega arith))))

-- the tests as the code takes them
module _ (size lo hi n b c d : ℕ) (t1 : ltb n size ≡ false) where
  pub few : ltb size 2 ≡ true → size_by size lo hi n b c d ≡ size
  unfolding size_by
  few t2 = simp (t1, t2)

  pub low : ltb size 2 ≡ false → ltb b lo ≡ true → size_by size lo hi n b c d ≡ 0
  unfolding size_by
  low t2 t3 = simp (t1, t2, t3)

  pub high : ltb size 2 ≡ false → ltb b lo ≡ false → ltb hi b ≡ true → size_by size lo hi n b c d ≡ 0
  unfolding size_by
  high t2 t3 t4 = simp (t1, t2, t3, t4)

  module _ (t2 : ltb size 2 ≡ false) (t3 : ltb b lo ≡ false) (t4 : ltb hi b ≡ false) where
    pub is_two : eqb size 2 ≡ true → size_by size lo hi n b c d ≡ 2
    unfolding size_by
    is_two t5 = simp (t1, t2, t3, t4, t5)

    pub no_third : eqb size 2 ≡ false → within 0x80 0xBF c ≡ false → size_by size lo hi n b c d ≡ 0
    unfolding size_by
    no_third t5 t6 = simp (t1, t2, t3, t4, t5, t6)

    pub is_three : eqb size 2 ≡ false → within 0x80 0xBF c ≡ true → eqb size 3 ≡ true → size_by size lo hi n b c d ≡ 3
    unfolding size_by
    is_three t5 t6 t7 = simp (t1, t2, t3, t4, t5, t6, t7)

    pub last : eqb size 2 ≡ false → within 0x80 0xBF c ≡ true → eqb size 3 ≡ false → (t : Bool) → within 0x80 0xBF d ≡ t → size_by size lo hi n b c d ≡ cond t 4 0
    unfolding size_by
    last t5 t6 t7 t t8 = simp (t1, t2, t3, t4, t5, t6, t7, t8)

pub too_short : (size lo hi n b c d : ℕ) → n < size → size_by size lo hi n b c d ≡ 0
too_short = short

-- a sequence lies within its bytes
starts_inside : (row : List Range) (s : List ℕ) → starts row s ≡ true → length row ≤ length s
starts_inside [] s h = omega arith
starts_inside (r ∷ row) [] h = absurd (let z : false ≡ true = h in let y : ◌≡◌ {A = ℕ} 0 1 = cc in omega arith)
starts_inside (r ∷ row) (b ∷ s) h = go (λ e. starts_inside row s e) (within r.lo r.hi b) h
  where
    go : (starts row s ≡ true → length row ≤ length s) → (t : Bool) → (t && starts row s) ≡ true → suc (length row) ≤ suc (length s)
    go ih true e = let k = ih e in omega arith
    go ih false e = absurd (let z : false ≡ true = e in let y : ◌≡◌ {A = ℕ} 0 1 = cc in omega arith)

size_in_fits : (rows : List (List Range)) (s : List ℕ) → size_in rows s ≤ length s
size_in_fits [] s = omega arith
size_in_fits (row ∷ rows) s = go (size_in_fits rows s) (starts row s) refl
  where
    go : size_in rows s ≤ length s → (t : Bool) → starts row s ≡ t → cond t (length row) (size_in rows s) ≤ length s
    go ih true e = starts_inside row s e
    go ih false e = ih

pub size_inside : (s : List ℕ) → size_of s ≤ length s
unfolding size_of
size_inside s = size_in_fits table37 s

-- and is four bytes long at most
open_most : {b : ℕ} {row : List Range} (s : List ℕ) → Opens b row → size_of (b ∷ s) ≤ suc (length row)
open_most {b} {row} s o = subst (λ (k : ℕ). k ≤ suc (length row)) (sym (o.size s)) (go (starts row s))
  where
    go : (t : Bool) → cond t (suc (length row)) 0 ≤ suc (length row)
    go true = omega arith
    go false = omega arith

kind_most : (b : ℕ) (s : List ℕ) → Kind b → size_of (b ∷ s) ≤ 4
kind_most b s (shut x c) = omega (arith, c.size s)
kind_most b s (one x o) = let z : size_of (b ∷ s) ≤ 1 = open_most s o in omega arith
kind_most b s (two x y o) = let z : size_of (b ∷ s) ≤ 2 = open_most s o in omega arith
kind_most b s (three r o) = let z : size_of (b ∷ s) ≤ 3 = open_most s o in omega arith
kind_most b s (four r o) = open_most s o

pub size_most : (s : List ℕ) → size_of s ≤ 4
size_most [] = omega (arith, size_inside [])
size_most (b ∷ s) = kind_most b s (kind_of b)
