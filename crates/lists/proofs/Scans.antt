-- Scans from the front and from the back, a cell at a time. Assumes nothing.
use Prim.Native.Nat.{ℕ, zero, suc, ◌+◌, ◌-◌, ◌≤◌, ◌<◌}
use native.Mathlib.Omega.{arith}
use native.Mathlib.Numerals.{add-one}
use mathlib.Core.Path.{◌≡◌, refl, sym, ◌∙◌, ap}
use mathlib.Core.Bool.{Bool, true, false, cond}
use mathlib.Core.List.{List, [], ◌∷◌}
use lib.ListN.{length, get_or, take, drop}
use lib.Seq.{drop-cons, take-length}
use lib.ListN.{drop_of_length-le}
use lib.Dec.{eqb}
use borrow.Author.Tests.{ne_eqb}
use Rattle.std.specs.List.{prefix_len, take_while}
use Rattle.std.proofs.lemmas.List.Folds.{length-prefix_len}
use Rattle.lists.specs.Scans.{leading, behind_last}

pub leading_yes : (p : ℕ → Bool) (x : ℕ) (xs : List ℕ) → p x ≡ true → leading p (x ∷ xs) ≡ suc (leading p xs)
unfolding leading
leading_yes p x xs h = simp h

leading_no : (p : ℕ → Bool) (x : ℕ) (xs : List ℕ) → p x ≡ false → leading p (x ∷ xs) ≡ 0
unfolding leading
leading_no p x xs h = simp h

pub leading_nil : (p : ℕ → Bool) → leading p [] ≡ 0
unfolding leading
leading_nil p = refl

-- what `take_while(..).count()` tells
leading_prefix : (p : ℕ → Bool) (xs : List ℕ) → prefix_len p xs ≡ leading p xs
unfolding leading
leading_prefix p [] = refl
leading_prefix p (x ∷ xs) = ap (λ (n : ℕ). cond (p x) n 0) (let z : 1 + prefix_len p xs ≡ suc (leading p xs) = omega (arith, leading_prefix p xs) in z)

pub leading_counted : (p : ℕ → Bool) (xs : List ℕ) → length (take_while p xs) ≡ leading p xs
leading_counted p xs = length-prefix_len p xs ∙ leading_prefix p xs

-- the first i cells pass the test
pub record Passed (p : ℕ → Bool) (s : List ℕ) (i : ℕ) : Type 0 where
  pub inside : i ≤ length s
  pub rest : leading p s ≡ i + leading p (drop i s)

pub passed_none : (p : ℕ → Bool) (s : List ℕ) → Passed p s 0
passed_none p s = record { inside = omega arith; rest = omega arith }

pub passed_more : {p : ℕ → Bool} {s : List ℕ} {i : ℕ} → Passed p s i → i < length s → p (get_or s i 0) ≡ true → Passed p s (i + 1)
passed_more {p} {s} {i} h k e =
    let d : leading p (drop i s) ≡ suc (leading p (drop (suc i) s)) = ap (λ (l : List ℕ). leading p l) (drop-cons s i 0 k) ∙ leading_yes p _ _ e in
    record { inside = omega arith; rest = rw add-one (omega (arith, h.rest, d)) }

pub passed_stop : {p : ℕ → Bool} {s : List ℕ} {i : ℕ} → Passed p s i → i < length s → p (get_or s i 0) ≡ false → i ≡ leading p s
passed_stop {p} {s} {i} h k e =
    let d : leading p (drop i s) ≡ 0 = ap (λ (l : List ℕ). leading p l) (drop-cons s i 0 k) ∙ leading_no p _ _ e in
    omega (arith, h.rest, d)

pub passed_all : {p : ℕ → Bool} {s : List ℕ} {i : ℕ} → Passed p s i → length s ≤ i → i ≡ leading p s
passed_all {p} {s} {i} h k =
    let d : leading p (drop i s) ≡ 0 = ap (λ (l : List ℕ). leading p l) (drop_of_length-le s k) ∙ leading_nil p in
    omega (arith, h.rest, d)

pub leading_inside : (p : ℕ → Bool) (s : List ℕ) → leading p s ≤ length s
unfolding leading
leading_inside p [] = omega arith
leading_inside p (x ∷ xs) = go (leading_inside p xs) (p x)
  where
    go : leading p xs ≤ length xs → (b : Bool) → cond b (suc (leading p xs)) 0 ≤ suc (length xs)
    go ih true = omega arith
    go ih false = omega arith

-- all cells pass the test where the first does and the later ones do
pub leading_all : (p : ℕ → Bool) (x : ℕ) (xs : List ℕ) → leading p (x ∷ xs) ≡ length (x ∷ xs) → (p x ≡ true) × (leading p xs ≡ length xs)
leading_all p x xs h = go (p x) refl
  where
    go : (b : Bool) → p x ≡ b → (p x ≡ true) × (leading p xs ≡ length xs)
    go true e = (e, let k : suc (leading p xs) ≡ suc (length xs) = sym (leading_yes p x xs e) ∙ h in omega arith)
    go false e = absurd (let k : 0 ≡ suc (length xs) = sym (leading_no p x xs e) ∙ h in omega arith)

last_nil : (p : ℕ → Bool) → behind_last p [] ≡ 0
unfolding behind_last
last_nil p = refl

last_later : (p : ℕ → Bool) (x : ℕ) (xs : List ℕ) (k : ℕ) → behind_last p xs ≡ suc k → behind_last p (x ∷ xs) ≡ suc (suc k)
unfolding behind_last
last_later p x xs k h = simp (h, ne_eqb (suc k) 0 (λ e. omega arith))

last_here : (p : ℕ → Bool) (x : ℕ) (xs : List ℕ) (b : Bool) → behind_last p xs ≡ 0 → p x ≡ b → behind_last p (x ∷ xs) ≡ cond b 1 0
unfolding behind_last
last_here p x xs b h e = simp (h, e)

last_yes : (p : ℕ → Bool) (s : List ℕ) (i : ℕ) → i < length s → p (get_or s i 0) ≡ true → behind_last p (take (suc i) s) ≡ suc i
last_yes p [] i h e = absurd (omega arith)
last_yes p (x ∷ xs) zero h e = last_here p x (take 0 xs) true (last_nil p) e
last_yes p (x ∷ xs) (suc i) h e = last_later p x (take (suc i) xs) i (last_yes p xs i (omega arith) e)

-- one cell more in front changes equal scans alike
last_same : (p : ℕ → Bool) (x : ℕ) (xs ys : List ℕ) → behind_last p xs ≡ behind_last p ys → behind_last p (x ∷ xs) ≡ behind_last p (x ∷ ys)
unfolding behind_last
last_same p x xs ys h = simp h

last_no : (p : ℕ → Bool) (s : List ℕ) (i : ℕ) → i < length s → p (get_or s i 0) ≡ false → behind_last p (take (suc i) s) ≡ behind_last p (take i s)
last_no p [] i h e = absurd (omega arith)
last_no p (x ∷ xs) zero h e = last_here p x (take 0 xs) false (last_nil p) e ∙ sym (last_nil p)
last_no p (x ∷ xs) (suc i) h e = last_same p x (take (suc i) xs) (take i xs) (last_no p xs i (omega arith) e)

-- where no cell passes the test, and where the one at k is the last that does
pub last_unfound : (p : ℕ → Bool) (s : List ℕ) → ((j : ℕ) → j < length s → p (get_or s j 0) ≡ false) → behind_last p s ≡ 0
last_unfound p [] f = last_nil p
last_unfound p (x ∷ xs) f = last_here p x xs false (last_unfound p xs (λ j h. f (suc j) (omega arith))) (f 0 (omega arith))

pub last_found : (p : ℕ → Bool) (s : List ℕ) (k : ℕ) → k < length s → p (get_or s k 0) ≡ true → ((j : ℕ) → k < j → j < length s → p (get_or s j 0) ≡ false)
    → behind_last p s ≡ suc k
last_found p [] k h e f = absurd (omega arith)
last_found p (x ∷ xs) zero h e f = last_here p x xs true (last_unfound p xs (λ j l. f (suc j) (omega arith) (omega arith))) e
last_found p (x ∷ xs) (suc k) h e f = last_later p x xs k (last_found p xs k (omega arith) e (λ j l m. f (suc j) (omega arith) (omega arith)))

-- no cell from e on passes the test
pub record Left (p : ℕ → Bool) (s : List ℕ) (e : ℕ) : Type 0 where
  pub inside : e ≤ length s
  pub same : behind_last p s ≡ behind_last p (take e s)

pub left_all : (p : ℕ → Bool) (s : List ℕ) (e : ℕ) → e ≡ length s → Left p s e
left_all p s e h = record { inside = omega arith; same = sym (ap (λ (l : List ℕ). behind_last p l) (ap (λ (k : ℕ). take k s) h ∙ take-length s)) }

back_one : (e : ℕ) → 0 < e → e ≡ suc (e - 1)
back_one e h = omega arith

pub left_less : {p : ℕ → Bool} {s : List ℕ} {e : ℕ} → Left p s e → 0 < e → p (get_or s (e - 1) 0) ≡ false → Left p s (e - 1)
left_less {p} {s} {e} h k t =
    record {
      inside = omega (arith, h.inside);
      same = h.same ∙ ap (λ (k : ℕ). behind_last p (take k s)) (back_one e k) ∙ last_no p s (e - 1) (omega (arith, h.inside)) t;
    }

pub left_stop : {p : ℕ → Bool} {s : List ℕ} {e : ℕ} → Left p s e → 0 < e → p (get_or s (e - 1) 0) ≡ true → e ≡ behind_last p s
left_stop {p} {s} {e} h k t =
    let y = last_yes p s (e - 1) (omega (arith, h.inside)) t in
    let x : behind_last p (take e s) ≡ suc (e - 1) = ap (λ (k : ℕ). behind_last p (take k s)) (back_one e k) ∙ y in
    omega (arith, h.same, x)

pub left_none : {p : ℕ → Bool} {s : List ℕ} {e : ℕ} → Left p s e → e ≤ 0 → e ≡ behind_last p s
left_none {p} {s} {e} h k =
    let z : e ≡ 0 = omega arith in
    let x : behind_last p (take e s) ≡ 0 = ap (λ (k : ℕ). behind_last p (take k s)) z ∙ last_nil p in
    omega (arith, h.same, x)

pub last_inside : (p : ℕ → Bool) (s : List ℕ) → behind_last p s ≤ length s
unfolding behind_last
last_inside p [] = omega arith
last_inside p (x ∷ xs) = go (last_inside p xs) (eqb (behind_last p xs) 0) (p x)
  where
    go : behind_last p xs ≤ length xs → (a b : Bool) → cond a (cond b 1 0) (suc (behind_last p xs)) ≤ suc (length xs)
    go ih true true = omega arith
    go ih true false = omega arith
    go ih false b = omega arith
