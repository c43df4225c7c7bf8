-- Rows that are filled and cleared from the left. Assumes nothing.
use Prim.Native.Nat.{ℕ, zero, suc, ◌<◌, ◌≤◌}
use native.Mathlib.Omega.{arith}
use mathlib.Core.Path.{◌≡◌, refl, sym, ◌∙◌, ap}
use mathlib.Core.List.{List, [], ◌∷◌, ◌++◌}
use lib.ListN.{length, get_or, set, drop, replicate, length-set, length-append, length-replicate}
use lib.Seq.{get_or-set_other}
use Rattle.newmm_records.specs.declared.Record.{Record}
use Rattle.newmm_records.specs.inner.Cells.{record_of, records}

-- the records' row after i records, and the row of told ends
unfoldable pub cur : List ℕ → List Record → ℕ → List Record
cur us ys zero = ys
cur us ys (suc i) = set (cur us ys i) i (record_of (get_or us i 0))

unfoldable pub taken : List ℕ → ℕ → List ℕ
taken us zero = us
taken us (suc i) = set (taken us i) i 0

pub cur_length : (us : List ℕ) (ys : List Record) (i : ℕ) → length (cur us ys i) ≡ length ys
unfolding cur
cur_length us ys zero = refl
cur_length us ys (suc i) = length-set (cur us ys i) i _ ∙ cur_length us ys i

pub taken_length : (us : List ℕ) (i : ℕ) → length (taken us i) ≡ length us
unfolding taken
taken_length us zero = refl
taken_length us (suc i) = length-set (taken us i) i 0 ∙ taken_length us i

-- ---- a store right behind the first cells, at any type

module _ {A : Type 0} where
  here : (ys : List A) (k : ℕ) (r : A) → k < length ys → set (drop k ys) 0 r ≡ r ∷ drop (suc k) ys
  here [] k r h = absurd (omega arith)
  here (y ∷ ys) zero r h = refl
  here (y ∷ ys) (suc k) r h = here ys k r (omega arith)

  behind : (xs zs : List A) (r : A) → set (xs ++ zs) (length xs) r ≡ xs ++ set zs 0 r
  behind [] zs r = refl
  behind (x ∷ xs) zs r = ap (λ (l : List A). x ∷ l) (behind xs zs r)

  assoc : (xs zs : List A) (r : A) → xs ++ (r ∷ zs) ≡ (xs ++ (r ∷ [])) ++ zs
  assoc [] zs r = refl
  assoc (x ∷ xs) zs r = ap (λ (l : List A). x ∷ l) (assoc xs zs r)

  next : (xs ys zs : List A) (k : ℕ) (r : A) → zs ≡ xs ++ drop k ys → length xs ≡ k → k < length ys → set zs k r ≡ (xs ++ (r ∷ [])) ++ drop (suc k) ys
  next xs ys zs k r e l h =
      ap (λ (z : List A). set z k r) e ∙ ap (λ (j : ℕ). set (xs ++ drop k ys) j r) (sym l) ∙ behind xs (drop k ys) r ∙ ap (λ (z : List A). xs ++ z) (here ys k r h) ∙ assoc xs (drop (suc k) ys) r

records_length : (us : List ℕ) (i : ℕ) → length (records us i) ≡ i
unfolding records
records_length us zero = refl
records_length us (suc i) = length-append (records us i) (_ ∷ []) ∙ (let e = records_length us i in omega arith)

pub cur_is : (us : List ℕ) (ys : List Record) (i : ℕ) → i ≤ length ys → cur us ys i ≡ records us i ++ drop i ys
unfolding cur records
cur_is us ys zero h = refl
cur_is us ys (suc i) h = next (records us i) ys (cur us ys i) i (record_of (get_or us i 0)) (cur_is us ys i (omega arith)) (records_length us i) (omega arith)

zero_more : (i : ℕ) → replicate {A = ℕ} i 0 ++ (0 ∷ []) ≡ replicate {A = ℕ} (suc i) 0
zero_more zero = refl
zero_more (suc i) = ap (λ (l : List ℕ). 0 ∷ l) (zero_more i)

pub taken_is : (us : List ℕ) (i : ℕ) → i ≤ length us → taken us i ≡ replicate i 0 ++ drop i us
unfolding taken
taken_is us zero h = refl
taken_is us (suc i) h = next (replicate i 0) us (taken us i) i 0 (taken_is us i (omega arith)) (length-replicate i 0) (omega arith) ∙ ap (λ (l : List ℕ). l ++ drop (suc i) us) (zero_more i)

-- what is not taken yet is as it was
pub taken_later : (us : List ℕ) (i k : ℕ) → i ≤ k → get_or (taken us i) k 0 ≡ get_or us k 0
unfolding taken
taken_later us zero k h = refl
taken_later us (suc i) k h = get_or-set_other (taken us i) i k 0 0 (omega arith) ∙ taken_later us i k (omega arith)

pub taken_at : (us : List ℕ) (i : ℕ) → get_or (taken us i) i 0 ≡ get_or us i 0
taken_at us i = taken_later us i i (omega arith)
