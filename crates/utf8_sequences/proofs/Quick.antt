-- Sequences that are told without the table: ASCII, the Thai block, and what may follow its first
-- byte. Assumes nothing.
use Prim.Native.Nat.{ℕ, ◌+◌, ◌*◌, ◌-◌, ◌/◌, ◌%◌, ◌^◌, ◌≤◌, ◌<◌}
use native.Mathlib.Omega.{arith}
use native.Mathlib.Nat.{add-zero, mod-eq_of_lt}
use mathlib.Core.Path.{◌≡◌, refl, sym, ◌∙◌, ap}
use mathlib.Core.Bool.{Bool, true, false, cond, ◌&&◌}
use mathlib.Core.List.{List, [], ◌∷◌}
use lib.ListN.{length, get_or, drop, length-drop}
use lib.Seq.{get_or-drop}
use lib.Dec.{leb}
use lib.Bits.{bit_and, and_zero_r, and_le_r, and_mask, and_block, and_high}
use borrow.Author.Tests.{leb-true}
use Rattle.lists.specs.Scans.{within}
use Rattle.lists.proofs.Ranges.{within_yes}
use Rattle.utf8_sequences.specs.Sequences.{size_of}
use Rattle.utf8_sequences.specs.inner.Pieces.{FourBytes}
use Rattle.utf8_sequences.proofs.FirstBytes.{low, high, e0, e1, ed, ee, Kind, shut, one, two, three, four, kind_of}
use Rattle.utf8_sequences.proofs.Sizes.{fourth_range, third_range}

-- where it isn't told, nothing is
pub untold : {P : Type 0} → false ≡ true → P
untold h = absurd (let z : ◌≡◌ {A = ℕ} 0 1 = cc in omega arith)

-- a byte below 0x80 is a sequence
ascii_kind : (b : ℕ) (s : List ℕ) → Kind b → b < 0x80 → size_of (b ∷ s) ≡ 1
ascii_kind b s (shut (low h k) x) i = absurd (omega arith)
ascii_kind b s (shut (high h) x) i = absurd (omega arith)
ascii_kind b s (one h o) i = o.size s
ascii_kind b s (two h k o) i = absurd (omega arith)
ascii_kind b s (three r o) i = let z = third_range r in absurd (omega arith)
ascii_kind b s (four r o) i = let z = fourth_range r in absurd (omega arith)

-- E0, B8 or B9, and a trailing byte are one
thai_kind : (b x y : ℕ) (s : List ℕ) → Kind b → b ≡ 0xE0 → x / 2 ≡ 0x5C → within 0x80 0xBF y ≡ true → size_of (b ∷ x ∷ y ∷ s) ≡ 3
thai_kind b x y s (shut (low h k) z) e i j = absurd (omega arith)
thai_kind b x y s (shut (high h) z) e i j = absurd (omega arith)
thai_kind b x y s (one h o) e i j = absurd (omega arith)
thai_kind b x y s (two h k o) e i j = absurd (omega arith)
thai_kind b x y s (three (e0 h k) o) e i j = o.size (x ∷ y ∷ s) ∙ simp (within_yes 0xA0 0xBF x (omega arith) (omega arith), j)
thai_kind b x y s (three (e1 h k) o) e i j = absurd (omega arith)
thai_kind b x y s (three (ed h k) o) e i j = absurd (omega arith)
thai_kind b x y s (three (ee h k) o) e i j = absurd (omega arith)
thai_kind b x y s (four r o) e i j = let z = fourth_range r in absurd (omega arith)

ascii_first : (s : List ℕ) → 0 < length s → get_or s 0 0 < 0x80 → size_of s ≡ 1
ascii_first [] h i = absurd (omega arith)
ascii_first (b ∷ s) h i = ascii_kind b s (kind_of b) i

thai_first : (s : List ℕ) → 3 ≤ length s → get_or s 0 0 ≡ 0xE0 → get_or s 1 0 / 2 ≡ 0x5C → within 0x80 0xBF (get_or s 2 0) ≡ true → size_of s ≡ 3
thai_first [] h e i j = absurd (omega arith)
thai_first (b ∷ []) h e i j = absurd (omega arith)
thai_first (b ∷ x ∷ []) h e i j = absurd (omega arith)
thai_first (b ∷ x ∷ y ∷ s) h e i j = thai_kind b x y s (kind_of b) e i j

-- the bytes behind E0
pub record AfterE0 (b c : ℕ) : Type 0 where
  pub least : 0xA0 ≤ b
  pub most : b ≤ 0xBF
  pub least' : 0x80 ≤ c
  pub most' : c ≤ 0xBF

both : (u v : Bool) → 0 < cond (u && (v && true)) 3 0 → (u ≡ true) × (v ≡ true)
both true true h = (refl, refl)
both true false h = absurd (omega arith)
both false v h = absurd (omega arith)

inside : (lo hi x : ℕ) → within lo hi x ≡ true → (lo ≤ x) × (x ≤ hi)
inside lo hi x h = go (leb lo x) (leb x hi) refl refl h
  where
    go : (u v : Bool) → leb lo x ≡ u → leb x hi ≡ v → (u && v) ≡ true → (lo ≤ x) × (x ≤ hi)
    go true true p q e = (leb-true lo x p, leb-true x hi q)
    go true false p q e = untold e
    go false v p q e = untold e

after_kind : (a b c : ℕ) (s : List ℕ) → Kind a → a ≡ 0xE0 → 0 < size_of (a ∷ b ∷ c ∷ s) → AfterE0 b c
after_kind a b c s (shut x k) e h = absurd (omega (arith, k.size (b ∷ c ∷ s)))
after_kind a b c s (one x o) e h = absurd (omega arith)
after_kind a b c s (two x y o) e h = absurd (omega arith)
after_kind a b c s (three (e0 x y) o) e h =
    let t = both (within 0xA0 0xBF b) (within 0x80 0xBF c) (omega (arith, o.size (b ∷ c ∷ s))) in
    let u = inside 0xA0 0xBF b t.0 in
    let v = inside 0x80 0xBF c t.1 in
    record { least = u.0; most = u.1; least' = v.0; most' = v.1 }
after_kind a b c s (three (e1 x y) o) e h = absurd (omega arith)
after_kind a b c s (three (ed x y) o) e h = absurd (omega arith)
after_kind a b c s (three (ee x y) o) e h = absurd (omega arith)
after_kind a b c s (four r o) e h = let z = fourth_range r in absurd (omega arith)

pub after_first : (s : List ℕ) → 3 ≤ length s → 0 < size_of s → get_or s 0 0 ≡ 0xE0 → AfterE0 (get_or s 1 0) (get_or s 2 0)
after_first [] r h e = absurd (omega arith)
after_first (a ∷ []) r h e = absurd (omega arith)
after_first (a ∷ b ∷ []) r h e = absurd (omega arith)
after_first (a ∷ b ∷ c ∷ s) r h e = after_kind a b c s (kind_of a) e h

digits : (x y z : ℕ) → y < 256 → z < 256 → (x * 256 + y) * 256 + z ≡ 0x80B8E0 → (z ≡ 0xE0) × ((y ≡ 0xB8) × (x ≡ 0x80))
digits x y z h k e = (omega arith, (omega arith, omega arith))

second : (b : ℕ) → b < 256 → (b / 2 ^ 1 % 2 ^ 7) * 2 ^ 1 ≡ 0xB8 → b / 2 ≡ 0x5C
second b h e = let l : b / 2 < 128 = omega arith in let k = mod-eq_of_lt l in omega (arith, k, e)

third : (c : ℕ) → c < 256 → (c / 2 ^ 6 % 2 ^ 2) * 2 ^ 6 ≡ 0x80 → c / 64 ≡ 2
third c h e = let l : c / 64 < 4 = omega arith in let k = mod-eq_of_lt l in omega (arith, k, e)

-- the bits of four bytes that tell E0, B8 or B9, and a trailing byte
told_apart : (a b c d : ℕ) → a < 256 → b < 256 → c < 256 → d < 256 → bit_and (a + b * 0x100 + c * 0x10000 + d * 0x1000000) 0xC0FEFF ≡ 0x80B8E0 → (a ≡ 0xE0) × ((b / 2 ≡ 0x5C) × (c / 64 ≡ 2))
told_apart a b c d ha hb hc hd e =
    let n : a + b * 0x100 + c * 0x10000 + d * 0x1000000 ≡ ((d * 2 ^ 8 + c) * 2 ^ 8 + b) * 2 ^ 8 + a = omega arith in
    let x = and_block 8 ((d * 2 ^ 8 + c) * 2 ^ 8 + b) ((0 * 2 ^ 8 + 0xC0) * 2 ^ 8 + 0xFE) a 0xFF (omega arith) (omega arith) in
    let y = and_block 8 (d * 2 ^ 8 + c) (0 * 2 ^ 8 + 0xC0) b 0xFE (omega arith) (omega arith) in
    let z = and_block 8 d 0 c 0xC0 (omega arith) (omega arith) in
    let o = and_zero_r d in
    let p : bit_and a 0xFF ≡ a % 2 ^ 8 = and_mask a 8 in
    let q : bit_and b 0xFE ≡ (b / 2 ^ 1 % 2 ^ 7) * 2 ^ 1 = and_high b 7 1 in
    let r : bit_and c 0xC0 ≡ (c / 2 ^ 6 % 2 ^ 2) * 2 ^ 6 = and_high c 2 6 in
    let w : bit_and (a + b * 0x100 + c * 0x10000 + d * 0x1000000) 0xC0FEFF ≡ bit_and (((d * 2 ^ 8 + c) * 2 ^ 8 + b) * 2 ^ 8 + a) 0xC0FEFF = ap (λ (k : ℕ). bit_and k 0xC0FEFF) n in
    let sum : (bit_and c 0xC0 * 256 + bit_and b 0xFE) * 256 + bit_and a 0xFF ≡ 0x80B8E0 = omega (arith, w, x, y, z, o, e) in
    let u = digits (bit_and c 0xC0) (bit_and b 0xFE) (bit_and a 0xFF) (omega (arith, and_le_r b 0xFE)) (omega (arith, and_le_r a 0xFF)) sum in
    (omega (arith, p, u.0), (second b hb (sym q ∙ u.1.0), third c hc (sym r ∙ u.1.1)))

-- the same at a place, for the bytes as they were read
module _ (s : List ℕ) (at : ℕ) where
  pub ascii_at : (a : ℕ) → a ≡ get_or s at 0 → at < length s → a < 0x80 → 1 ≡ size_of (drop at s)
  ascii_at a ea h i =
      let e : get_or (drop at s) 0 0 ≡ get_or s at 0 = simp (get_or-drop, add-zero) in
      sym (ascii_first (drop at s) (simp length-drop (omega arith)) (omega (arith, ea, e)))

  pub thai_at : (a b : ℕ) → a ≡ get_or s at 0 → b ≡ get_or s (at + 1) 0 → 3 ≤ length s - at → a ≡ 0xE0 → b / 2 ≡ 0x5C → within 0x80 0xBF (get_or s (at + 2) 0) ≡ true → 3 ≡ size_of (drop at s)
  thai_at a b ea eb h e i j =
      let x : get_or (drop at s) 0 0 ≡ get_or s at 0 = simp (get_or-drop, add-zero) in
      let y : get_or (drop at s) 1 0 / 2 ≡ 0x5C = simp get_or-drop (omega (arith, eb, i)) in
      let z : within 0x80 0xBF (get_or (drop at s) 2 0) ≡ true = simp get_or-drop j in
      sym (thai_first (drop at s) (simp length-drop (omega arith)) (x ∙ sym ea ∙ e) y z)

  -- and for four bytes that were read as one number
  pub thai_bits : (n : ℕ) → FourBytes s at n → at + 3 < length s → bit_and n 0xC0FEFF ≡ 0x80B8E0 → 3 ≡ size_of (drop at s)
  thai_bits n f h e =
      let t = told_apart (get_or s at 0) (get_or s (at + 1) 0) (get_or s (at + 2) 0) (get_or s (at + 3) 0) f.first f.second f.third f.fourth (ap (λ (x : ℕ). bit_and x 0xC0FEFF) (sym f.is) ∙ e) in
      thai_at (get_or s at 0) (get_or s (at + 1) 0) refl refl (omega arith) t.0 t.1.0 (within_yes 0x80 0xBF (get_or s (at + 2) 0) (omega (arith, t.1.1)) (omega (arith, t.1.1)))
