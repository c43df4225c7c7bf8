-- The scalars of all blocks of children rise exactly if as many nodes fall as first children do.
-- Assumes nothing.
use mathlib.Core.Path.{◌≡◌, refl, sym, ap, ◌∙◌}
use mathlib.Core.Bool.{Bool, true, false, cond}
use Prim.Native.Nat.{ℕ, zero, suc, ◌+◌, ◌-◌, ◌≤◌, ◌<◌}
use native.Mathlib.Omega.{arith}
use native.Mathlib.Decide.{dec_lt}
use borrow.Author.Tests.{le-leb, lt-leb}
use Rattle.trie_nodes.specs.inner.Falls.{fall_to, fall, falls, place, first, starts}

-- how many others fall
abbrev pub inner : (ℕ → ℕ) → (ℕ → ℕ) → ℕ → ℕ
inner c k zero = 0
inner c k (suc i) = inner c k i + falls c (place k i) (k i - 1)

split : (c : ℕ → ℕ) (a j m : ℕ) → falls c a (j + m) ≡ falls c a j + falls c (a + j) m
unfolding falls
split c a j zero = ap (λ (t : ℕ). falls c a t) (let e : j + 0 ≡ j = omega arith in e) ∙ (let e : falls c a j ≡ falls c a j + 0 = omega arith in e)
split c a j (suc m) =
    let e : j + suc m ≡ suc (j + m) = omega arith in
    let f : a + (j + m) ≡ a + j + m = omega arith in
    let g : fall c (a + (j + m)) ≡ fall c (a + j + m) = ap (λ (t : ℕ). fall c t) f in
    ap (λ (t : ℕ). falls c a t) e ∙ (let h : falls c a (j + m) + fall c (a + (j + m)) ≡ falls c a j + (falls c (a + j) m + fall c (a + j + m)) = omega (arith, split c a j m, g) in h)

some : (k : ℕ → ℕ) (i : ℕ) → 1 ≤ place k i
unfolding place
some k zero = omega arith
some k (suc i) = omega (arith, some k i)

pub sum : (c k : ℕ → ℕ) (i : ℕ) → falls c 0 (place k i - 1) ≡ starts c k i + inner c k i
unfolding falls place first starts
sum c k zero = refl
sum c k (suc i) = go (k i) (sum c k i) (some k i)
  where
    go : (m : ℕ) → falls c 0 (place k i - 1) ≡ starts c k i + inner c k i → 1 ≤ place k i → falls c 0 (place k i + m - 1) ≡ starts c k i + first c (place k i) m + (inner c k i + falls c (place k i) (m - 1))
    go zero ih l =
        let e : place k i + 0 - 1 ≡ place k i - 1 = omega arith in
        ap (λ (t : ℕ). falls c 0 t) e ∙ (let h : falls c 0 (place k i - 1) ≡ starts c k i + 0 + (inner c k i + 0) = omega (arith, ih) in h)
    go (suc m) ih l =
        let e : place k i + suc m - 1 ≡ (place k i - 1) + (1 + m) = omega arith in
        let s : falls c 0 ((place k i - 1) + (1 + m)) ≡ falls c 0 (place k i - 1) + falls c (0 + (place k i - 1)) (1 + m) = split c 0 (place k i - 1) (1 + m) in
        let t : falls c (place k i - 1) (1 + m) ≡ falls c (place k i - 1) 1 + falls c (place k i - 1 + 1) m = split c (place k i - 1) 1 m in
        let r : falls c (0 + (place k i - 1)) (1 + m) ≡ falls c (place k i - 1) (1 + m) = ap (λ (x : ℕ). falls c x (1 + m)) (let z : 0 + (place k i - 1) ≡ place k i - 1 = omega arith in z) in
        let u : place k i - 1 + 1 ≡ place k i = omega arith in
        let v : falls c (place k i - 1 + 1) m ≡ falls c (place k i) m = ap (λ (x : ℕ). falls c x m) u in
        let y : fall c (place k i - 1 + 0) ≡ fall c (place k i - 1) = ap (λ (x : ℕ). fall c x) (let z : place k i - 1 + 0 ≡ place k i - 1 = omega arith in z) in
        let w : 0 + fall c (place k i - 1 + 0) ≡ fall c (place k i - 1) = omega (arith, y) in
        let q : falls c (place k i) (suc m - 1) ≡ falls c (place k i) m = ap (λ (x : ℕ). falls c (place k i) x) (let z : suc m - 1 ≡ m = omega arith in z) in
        ap (λ (x : ℕ). falls c 0 x) e ∙ (let h : falls c 0 ((place k i - 1) + (1 + m)) ≡ starts c k i + fall c (place k i - 1) + (inner c k i + falls c (place k i) (suc m - 1)) = omega (arith, ih, s, r, t, v, w, q) in h)

-- none falls exactly if all rise
pub rises : (c : ℕ → ℕ) (a m : ℕ) → falls c a m ≡ 0 → (t : ℕ) → t < m → c (a + t) < c (suc (a + t))
unfolding fall_to falls
rises c a zero e t l = absurd (omega arith)
rises c a (suc m) e t l = pick (λ z. rises c a m z t) (dec_lt t m) (dec_lt (c (a + m)) (c (suc (a + m))))
  where
    pick : (falls c a m ≡ 0 → t < m → c (a + t) < c (suc (a + t))) → Dec (t < m) → Dec (c (a + m) < c (suc (a + m))) → c (a + t) < c (suc (a + t))
    pick r (yes q) d = r (omega (arith, e)) q
    pick r (no q) (yes d) = let z : t ≡ m = omega arith in let x : c (a + t) ≡ c (a + m) = ap (λ (y : ℕ). c (a + y)) z in let w : c (suc (a + t)) ≡ c (suc (a + m)) = ap (λ (y : ℕ). c (suc (a + y))) z in omega (arith, x, w, d)
    pick r (no q) (no d) = let b : fall c (a + m) ≡ 1 = ap (λ (y : Bool). cond y 1 0) (le-leb (c (suc (a + m))) (c (a + m)) (omega arith)) in absurd (omega (arith, e, b))

pub level : (c : ℕ → ℕ) (a m : ℕ) → ((t : ℕ) → t < m → c (a + t) < c (suc (a + t))) → falls c a m ≡ 0
unfolding fall_to falls
level c a zero f = refl
level c a (suc m) f =
    let b : fall c (a + m) ≡ 0 = ap (λ (y : Bool). cond y 1 0) (lt-leb (c (suc (a + m))) (c (a + m)) (f m (omega arith))) in
    let h : falls c a m ≡ 0 = level c a m (λ t l. f t (omega arith)) in
    omega (arith, b, h)

part : (c k : ℕ → ℕ) (n i : ℕ) → i < n → falls c (place k i) (k i - 1) ≤ inner c k n
part c k zero i l = absurd (omega arith)
part c k (suc n) i l = pick (part c k n i) (dec_lt i n)
  where
    pick : (i < n → falls c (place k i) (k i - 1) ≤ inner c k n) → Dec (i < n) → falls c (place k i) (k i - 1) ≤ inner c k (suc n)
    pick r (yes q) = omega (arith, r q)
    pick r (no q) = let z : i ≡ n = omega arith in let x : falls c (place k i) (k i - 1) ≡ falls c (place k n) (k n - 1) = ap (λ (y : ℕ). falls c (place k y) (k y - 1)) z in omega (arith, x)

none : (c k : ℕ → ℕ) (n : ℕ) → ((i : ℕ) → i < n → falls c (place k i) (k i - 1) ≡ 0) → inner c k n ≡ 0
none c k zero f = refl
none c k (suc n) f = omega (arith, none c k n (λ i l. f i (omega arith)), f n (omega arith))

-- the check's last test: where as many fall as first children do, the children of each node rise
pub all_rise : (c k : ℕ → ℕ) (n : ℕ) → falls c 0 (place k n - 1) ≡ starts c k n → (i : ℕ) → i < n → (t : ℕ) → t < k i - 1 → c (place k i + t) < c (suc (place k i + t))
all_rise c k n e i l = rises c (place k i) (k i - 1) (omega (arith, sum c k n, part c k n i l, e))

-- and where they rise, as many fall
pub as_many : (c k : ℕ → ℕ) (n : ℕ) → ((i : ℕ) → i < n → (t : ℕ) → t < k i - 1 → c (place k i + t) < c (suc (place k i + t))) → falls c 0 (place k n - 1) ≡ starts c k n
as_many c k n f = omega (arith, sum c k n, none c k n (λ i l. level c (place k i) (k i - 1) (f i l)))
