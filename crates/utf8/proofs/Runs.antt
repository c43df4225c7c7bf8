-- How a run over bytes goes on after a sequence. Assumes nothing.
use Rattle.std.specs.Prelude.{Ok, Err}
use Prim.Native.Nat.{ℕ, zero, suc, ◌+◌, ◌-◌, ◌≤◌, ◌<◌}
use native.Mathlib.Omega.{arith}
use native.Mathlib.Numerals.{add-one}
use mathlib.Core.Path.{◌≡◌, refl, sym, ◌∙◌, ap}
use mathlib.Core.Bool.{Bool, true, false, cond}
use mathlib.Core.List.{List, ◌∷◌, ◌++◌}
use lib.ListN.{length, get_or, set, take, drop, length-drop, length-set}
use lib.Seq.{drop-drop, drop-cons, take-length}
use lib.Dec.{eqb}
use borrow.Author.Tests.{eqb-true, eqb-false, eq-eqb, ne_eqb}
use Rattle.lists.proofs.Rows.{store}
use Rattle.utf8_sequences.specs.declared.Piece.{Piece}
use Rattle.refusal.specs.declared.Refusal.TheVariants.{IllFormed}
use Rattle.utf8_sequences.specs.Utf8.{scalar_of}
use Rattle.utf8_sequences.specs.Sequences.{size_of}
use Rattle.utf8.specs.Decoding.{Run, run, run_all, scalars_of, more, stop}
use Rattle.utf8_sequences.specs.inner.Pieces.{piece_of}
use Rattle.utf8.specs.inner.Passes.{counted, Read}
use Rattle.utf8_sequences.proofs.Quick.{ascii_at}
use Rattle.utf8_sequences.proofs.Sizes.{size_inside}

run_empty_at : (f : ℕ) (s : List ℕ) → length s ≡ 0 → run f s ≡ stop true
unfolding run
run_empty_at zero s h = simp (eq-eqb _ _ h)
run_empty_at (suc f) s h = simp (eq-eqb _ _ h)

run_broken_at : (f : ℕ) (s : List ℕ) → 0 < length s → size_of s ≡ 0 → run (suc f) s ≡ stop false
unfolding run
run_broken_at f s h e = simp (ne_eqb (length s) 0 (λ z. omega arith), eq-eqb _ _ e)

run_more_at : (f : ℕ) (s : List ℕ) → 0 < size_of s → run (suc f) s ≡ more (size_of s) s (run f (drop (size_of s) s))
unfolding run
run_more_at f s h = simp (ne_eqb (length s) 0 (λ z. omega (arith, size_inside s)), ne_eqb (size_of s) 0 (λ z. omega arith))

-- more fuel than bytes changes nothing
fuel : (f g : ℕ) (s : List ℕ) → length s ≤ f → length s ≤ g → run f s ≡ run g s
fuel zero g s hf hg = run_empty_at zero s (omega arith) ∙ sym (run_empty_at g s (omega arith))
fuel (suc f) zero s hf hg = run_empty_at (suc f) s (omega arith) ∙ sym (run_empty_at zero s (omega arith))
fuel (suc f) (suc g) s hf hg = go (λ t. fuel f g t) (eqb (length s) 0) refl (eqb (size_of s) 0) refl
  where
    go : ((t : List ℕ) → length t ≤ f → length t ≤ g → run f t ≡ run g t) → (x : Bool) → eqb (length s) 0 ≡ x → (y : Bool) → eqb (size_of s) 0 ≡ y → run (suc f) s ≡ run (suc g) s
    go ih true e y k = run_empty_at (suc f) s (eqb-true (length s) 0 e) ∙ sym (run_empty_at (suc g) s (eqb-true (length s) 0 e))
    go ih false e true k =
        let p : 0 < length s = omega (arith, eqb-false (length s) 0 e) in
        run_broken_at f s p (eqb-true (size_of s) 0 k) ∙ sym (run_broken_at g s p (eqb-true (size_of s) 0 k))
    go ih false e false k =
        let p : 0 < size_of s = omega (arith, eqb-false (size_of s) 0 k) in
        let i = size_inside s in
        run_more_at f s p
        ∙ ap (more (size_of s) s) (ih (drop (size_of s) s) (simp length-drop (omega arith)) (simp length-drop (omega arith)))
        ∙ sym (run_more_at g s p)

pub run_empty : (s : List ℕ) → length s ≡ 0 → run_all s ≡ stop true
run_empty s h = run_empty_at (length s) s h

at_length : (n : ℕ) (s : List ℕ) → length s ≡ n → 0 < n → run n s ≡ run (suc (n - 1)) s
at_length zero s e h = absurd (omega arith)
at_length (suc n) s e h = ap (λ (k : ℕ). run k s) (let z : suc n ≡ suc (suc n - 1) = omega arith in z)

pub run_broken : (s : List ℕ) → 0 < length s → size_of s ≡ 0 → run_all s ≡ stop false
run_broken s h e = at_length (length s) s refl h ∙ run_broken_at (length s - 1) s h e

pub run_more : (s : List ℕ) → 0 < size_of s → run_all s ≡ more (size_of s) s (run_all (drop (size_of s) s))
run_more s h =
    let i = size_inside s in
    at_length (length s) s refl (omega arith) ∙ run_more_at (length s - 1) s h
    ∙ ap (more (size_of s) s) (fuel (length s - 1) (length (drop (size_of s) s)) (drop (size_of s) s) (simp length-drop (omega arith)) (omega arith))

-- a run has no more scalars than bytes, and takes no more than there are
run_bounds : (f : ℕ) (s : List ℕ) → (length (run f s).scalars ≤ f) × ((run f s).taken ≤ length s)
unfolding run
run_bounds zero s = (omega arith, omega arith)
run_bounds (suc f) s = go (run_bounds f (drop (size_of s) s)) (eqb (length s) 0) (eqb (size_of s) 0)
  where
    go : (length (run f (drop (size_of s) s)).scalars ≤ f) × ((run f (drop (size_of s) s)).taken ≤ length (drop (size_of s) s)) → (x y : Bool) → (length (cond x (stop true) (cond y (stop false) (more (size_of s) s (run f (drop (size_of s) s))))).scalars ≤ suc f) × ((cond x (stop true) (cond y (stop false) (more (size_of s) s (run f (drop (size_of s) s))))).taken ≤ length s)
    go ih true y = (omega arith, omega arith)
    go ih false true = (omega arith, omega arith)
    go ih false false = (omega (arith, ih.0), omega (arith, ih.1, size_inside s, length-drop (size_of s) s))

pub read_none : (s : List ℕ) → Read s 0 0
read_none s = record { inside = omega arith; few = omega arith; number = omega arith; bytes = omega arith; all = refl }

-- the run from `at` by one sequence more
pub onward : (s : List ℕ) (at k : ℕ) → k ≡ size_of (drop at s) → 0 < k → run_all (drop at s) ≡ more k (drop at s) (run_all (drop (at + k) s))
onward s at k e h =
    run_more (drop at s) (omega arith)
    ∙ ap (λ (j : ℕ). more j (drop at s) (run_all (drop j (drop at s)))) (sym e)
    ∙ ap (λ (l : List ℕ). more k (drop at s) (run_all l)) (drop-drop k at s)

pub read_inside : (s : List ℕ) (at k : ℕ) → at ≤ length s → k ≡ size_of (drop at s) → at + k ≤ length s
read_inside s at k i e = omega (arith, size_inside (drop at s), length-drop at s)

pub read_more : {s : List ℕ} {at n : ℕ} (k : ℕ) → Read s at n → k ≡ size_of (drop at s) → 0 < k → Read s (at + k) (n + 1)
read_more {s} {at} {n} k h e p =
    let r = onward s at k e p in
    record {
      inside = read_inside s at k h.inside e;
      few = omega arith;
      number = omega (arith, ap (λ (q : Run). length q.scalars) r);
      bytes = omega (arith, ap (λ (q : Run). q.taken) r);
      all = h.all ∙ ap (λ (q : Run). q.whole) r;
    }

-- the same over a byte of ASCII
pub read_ascii : {s : List ℕ} {at n : ℕ} → Read s at n → at < length s → get_or s at 0 < 0x80 → Read s (at + 1) (n + 1)
read_ascii {s} {at} h i a = read_more 1 h (ascii_at s at (get_or s at 0) refl i a) (omega arith)

-- the run stops here
record Stopped (s : List ℕ) (at n : ℕ) (w : Bool) : Type 0 where
  number : n ≡ length (scalars_of s)
  bytes : at ≡ (run_all s).taken
  all : (run_all s).whole ≡ w

read_stop : {s : List ℕ} {at n : ℕ} (w : Bool) → Read s at n → run_all (drop at s) ≡ stop w → Stopped s at n w
read_stop {s} {at} {n} w h r =
    record {
      number = omega (arith, h.number, ap (λ (q : Run). length q.scalars) r);
      bytes = omega (arith, h.bytes, ap (λ (q : Run). q.taken) r);
      all = h.all ∙ ap (λ (q : Run). q.whole) r;
    }

pub read_broken : {s : List ℕ} {at n : ℕ} → Read s at n → at < length s → size_of (drop at s) ≡ 0 → Err (IllFormed at) ≡ counted (run_all s)
read_broken {s} {at} h i e =
    let t = read_stop false h (run_broken (drop at s) (simp length-drop (omega arith)) e) in
    ap (λ (k : ℕ). Err (IllFormed k)) t.bytes ∙ sym (ap (λ (b : Bool). cond b (Ok (length (scalars_of s))) (Err (IllFormed (run_all s).taken))) t.all)

read_end : {s : List ℕ} {at n : ℕ} → Read s at n → length s ≤ at → Stopped s at n true
read_end {s} {at} h i = read_stop true h (run_empty (drop at s) (simp length-drop (omega arith)))

pub read_done : {s : List ℕ} {at n : ℕ} → Read s at n → length s ≤ at → Ok n ≡ counted (run_all s)
read_done {s} {at} h i =
    let t = read_end h i in
    ap Ok t.number ∙ sym (ap (λ (b : Bool). cond b (Ok (length (scalars_of s))) (Err (IllFormed (run_all s).taken))) t.all)

-- the first n scalars are written
pub record Filled (s out₀ out : List ℕ) (at n : ℕ) : Type 0 where
  pub read : Read s at n
  pub rest : drop n (scalars_of s) ≡ scalars_of (drop at s)
  pub written : out ≡ take n (scalars_of s) ++ drop n out₀
  pub long : length out ≡ length out₀

pub filled_none : (s out : List ℕ) → Filled s out out 0 0
filled_none s out = record { read = read_none s; rest = refl; written = refl; long = refl }

-- a sequence stands at each place that is not the end
pub filled_next : {s out₀ out : List ℕ} {at n : ℕ} → (run_all s).whole ≡ true → Filled s out₀ out at n → at < length s → 0 < size_of (drop at s)
filled_next {s} {out₀} {out} {at} {n} w h i = go (eqb (size_of (drop at s)) 0) refl
  where
    go : (t : Bool) → eqb (size_of (drop at s)) 0 ≡ t → 0 < size_of (drop at s)
    go false e = omega (arith, eqb-false (size_of (drop at s)) 0 e)
    go true e =
        let r = run_broken (drop at s) (simp length-drop (omega arith)) (eqb-true (size_of (drop at s)) 0 e) in
        let z : false ≡ true = sym (ap (λ (q : Run). q.whole) r) ∙ sym h.read.all ∙ w in
        absurd (let y : ◌≡◌ {A = ℕ} 0 1 = cc in omega arith)

module _ {s out₀ out : List ℕ} {at n : ℕ} (p : Piece) (h : Filled s out₀ out at n) (i : 0 < size_of (drop at s)) (e : p ≡ piece_of (drop at s)) where
  pub size_is : p.size ≡ size_of (drop at s)
  size_is = ap (λ (q : Piece). q.size) e

  head_is : p.scalar ≡ scalar_of (take p.size (drop at s))
  head_is = ap (λ (q : Piece). q.scalar) e ∙ ap (λ (k : ℕ). scalar_of (take k (drop at s))) (sym size_is)

  went : run_all (drop at s) ≡ more p.size (drop at s) (run_all (drop (at + p.size) s))
  went = onward s at p.size size_is (omega (arith, size_is))

  pub filled_room : n < length (scalars_of s)
  filled_room = omega (arith, h.read.number, ap (λ (q : Run). length q.scalars) went)

  pub filled_inside : (0 < p.size) × (at + p.size ≤ length s)
  filled_inside = (omega (arith, size_is), read_inside s at p.size h.read.inside size_is)

  pub filled_more : length (scalars_of s) ≤ length out₀ → Filled s out₀ (set out n p.scalar) (at + p.size) (n + 1)
  filled_more room =
      let S = scalars_of s in
      let later = scalars_of (drop (at + p.size) s) in
      let d : drop n S ≡ scalar_of (take p.size (drop at s)) ∷ later = h.rest ∙ ap (λ (q : Run). q.scalars) went in
      let c : get_or S n 0 ∷ drop (suc n) S ≡ scalar_of (take p.size (drop at s)) ∷ later = sym (drop-cons S n 0 filled_room) ∙ d in
      let x : p.scalar ≡ get_or S n 0 = let y : get_or S n 0 ≡ scalar_of (take p.size (drop at s)) = cc in head_is ∙ sym y in
      record {
        read = read_more p.size h.read size_is filled_inside.0;
        rest = rw add-one (let y : drop (suc n) S ≡ later = cc in y);
        written =
            ap (λ (l : List ℕ). set l n p.scalar) h.written ∙ ap (λ (w : ℕ). set (take n S ++ drop n out₀) n w) x
            ∙ store S out₀ n filled_room (omega (arith, filled_room));
        long = length-set out n p.scalar ∙ h.long;
      }

-- one scalar more is to come where the bytes are not at their end
pub filled_open : {s out₀ out : List ℕ} {at n : ℕ} → (run_all s).whole ≡ true → Filled s out₀ out at n → at < length s → n < length (scalars_of s)
filled_open {s} {out₀} {out} {at} w h i = filled_room (piece_of (drop at s)) h (filled_next w h i) refl

-- all is written where the run is at its end
pub filled_done : {s out₀ out : List ℕ} {at n : ℕ} → Filled s out₀ out at n → length s ≤ at → out ≡ scalars_of s ++ drop (length (scalars_of s)) out₀
filled_done {s} {out₀} {out} {at} {n} h i =
    let t : length (scalars_of s) ≡ n = sym (read_end h.read i).number in
    h.written ∙ rw (← t, take-length)
