-- Which characters are trimmed: the laws of `is_trimmed`, and that they are Unicode's White_Space.
-- Assumes nothing.
use Prim.Native.Nat.{ℕ, zero, suc, ◌+◌, ◌≤◌, ◌<◌}
use native.Mathlib.Omega.{arith}
use native.Mathlib.Decide.{dec_lt, ℕ_discrete}
use mathlib.Core.Path.{◌≡◌, refl, sym, ap, ◌∙◌}
use mathlib.Core.Bool.{true, false, or-true, false≢true}
use mathlib.Core.List.Memᴰ
use mathlib.Core.List.{List, [], ◌∷◌}
use mathlib.Core.Logic.{◌⊎◌, ⊎_elim, inl, inr}
use lib.ListN.{length, get_or, drop}
use borrow.Author.Tests.{ne_eqb}
use Rattle.lists.specs.Scans.{leading}
use Rattle.lists.proofs.Scans.{leading_all}
use Rattle.lists.proofs.Ranges.{within_yes, within_no}
use Rattle.char_string_white_space.specs.Trimmed.{is_trimmed}
use Rattle.char_string_white_space.specs.WhiteSpace.{white_space, In, TrimsWhiteSpace}

-- ---- those that stand alone, as the arms of the code have them

abbrev pub Low : ℕ → Type 0
Low x = (x ≡ 0x20) ⊎ ((x ≡ 0x85) ⊎ ((x ≡ 0xA0) ⊎ (x ≡ 0x1680)))

abbrev pub High : ℕ → Type 0
High x = (x ≡ 0x202F) ⊎ ((x ≡ 0x205F) ⊎ (x ≡ 0x3000))

is : (x y : ℕ) → is_trimmed y ≡ true → x ≡ y → true ≡ is_trimmed x
is x y t e = sym (ap is_trimmed e ∙ t)

pub low : (x : ℕ) → Low x → true ≡ is_trimmed x
unfolding is_trimmed
low x = ⊎_elim (is x 0x20 refl) (⊎_elim (is x 0x85 refl) (⊎_elim (is x 0xA0 refl) (is x 0x1680 refl)))

pub high : (x : ℕ) → High x → true ≡ is_trimmed x
unfolding is_trimmed
high x = ⊎_elim (is x 0x202F refl) (⊎_elim (is x 0x205F refl) (is x 0x3000 refl))

-- ---- those in a row

pub controls : (x : ℕ) → 0x9 ≤ x → x < 0xE → true ≡ is_trimmed x
unfolding is_trimmed
controls x l h = simp (within_yes 0x9 0xD x l (omega arith))

pub spaces : (x : ℕ) → 0x2000 ≤ x → x < 0x200B → true ≡ is_trimmed x
unfolding is_trimmed
spaces x l h = simp (within_yes 0x2000 0x200A x l (omega arith), or-true)

pub separators : (x : ℕ) → 0x2028 ≤ x → x < 0x202A → true ≡ is_trimmed x
unfolding is_trimmed
separators x l h = pick (dec_lt x 0x2029)
  where
    pick : Dec (x < 0x2029) → true ≡ is_trimmed x
    pick (yes q) = is x 0x2028 refl (omega arith)
    pick (no q) = is x 0x2029 refl (omega arith)

-- ---- and no other

module _ (x : ℕ) (l : Low x → ⊥) (h : High x → ⊥) where
  other : (0x9 ≤ x → x ≤ 0xD → ⊥) → (0x2000 ≤ x → x ≤ 0x200A → ⊥) → (x ≡ 0x2028 → ⊥) → (x ≡ 0x2029 → ⊥) → false ≡ is_trimmed x
  unfolding is_trimmed
  other a b c d =
      simp (
        within_no 0x9 0xD x a,
        ne_eqb x 0x20 (λ e. l (inl e)),
        ne_eqb x 0x85 (λ e. l (inr (inl e))),
        ne_eqb x 0xA0 (λ e. l (inr (inr (inl e)))),
        ne_eqb x 0x1680 (λ e. l (inr (inr (inr e)))),
        within_no 0x2000 0x200A x b,
        ne_eqb x 0x2028 c,
        ne_eqb x 0x2029 d,
        ne_eqb x 0x202F (λ e. h (inl e)),
        ne_eqb x 0x205F (λ e. h (inr (inl e))),
        ne_eqb x 0x3000 (λ e. h (inr (inr e))),
      )

  pub below : x < 0x9 → false ≡ is_trimmed x
  below q = other (λ a b. omega arith) (λ a b. omega arith) (λ e. omega arith) (λ e. omega arith)

  pub behind_controls : 0xE ≤ x → x < 0x2000 → false ≡ is_trimmed x
  behind_controls p q = other (λ a b. omega arith) (λ a b. omega arith) (λ e. omega arith) (λ e. omega arith)

  pub behind_spaces : 0x200B ≤ x → x < 0x2028 → false ≡ is_trimmed x
  behind_spaces p q = other (λ a b. omega arith) (λ a b. omega arith) (λ e. omega arith) (λ e. omega arith)

  pub behind_separators : 0x202A ≤ x → false ≡ is_trimmed x
  behind_separators p = other (λ a b. omega arith) (λ a b. omega arith) (λ e. omega arith) (λ e. omega arith)

not_low : (x : ℕ) → 0xA0 < x → (x ≡ 0x1680 → ⊥) → Low x → ⊥
not_low x p n = ⊎_elim (λ e. omega arith) (⊎_elim (λ e. omega arith) (⊎_elim (λ e. omega arith) n))

-- so none above the ideographic space
pub above : (x : ℕ) → 0x3000 < x → false ≡ is_trimmed x
above x p =
    behind_separators x (not_low x (omega arith) (λ e. omega arith)) (⊎_elim (λ e. omega arith) (⊎_elim (λ e. omega arith) (λ e. omega arith))) (omega arith)

-- and none between the no-break space and the ogham space mark
pub stays_between : (x : ℕ) → 0xA0 < x → x < 0x1680 → is_trimmed x ≡ false
stays_between x p q =
    sym (behind_controls x (not_low x p (λ e. omega arith)) (⊎_elim (λ e. omega arith) (⊎_elim (λ e. omega arith) (λ e. omega arith))) (omega arith) (omega arith))

-- ---- the 25

all_of : (xs : List ℕ) → leading is_trimmed xs ≡ length xs → (x : ℕ) → In x xs → is_trimmed x ≡ true
all_of [] e x x4 = elim x4 [ ]
all_of (y ∷ xs) e x (Memᴰ.head q) = ap is_trimmed q ∙ (leading_all is_trimmed y xs e).0
all_of (y ∷ xs) e x (Memᴰ.tail m) = all_of xs (leading_all is_trimmed y xs e).1 x m

look : (x : ℕ) (xs : List ℕ) → Dec (In x xs)
look x [] = no Memᴰ.not-nil
look x (y ∷ xs) = pick (ℕ_discrete x y) (look x xs)
  where
    pick : Dec (x ≡ y) → Dec (In x xs) → Dec (In x (y ∷ xs))
    pick (yes e) d = yes (Memᴰ.head e)
    pick (no n) (yes m) = yes (Memᴰ.tail m)
    pick (no n) (no o) = no (λ m. ⊎_elim n o (Memᴰ.cases_cons m))

-- the number at a place of the list
nth : (xs : List ℕ) (k x : ℕ) → k < length xs → x ≡ get_or xs k 0 → In x xs
nth [] k x l e = absurd (omega arith)
nth (y ∷ xs) zero x l e = Memᴰ.head e
nth (y ∷ xs) (suc k) x l e = Memᴰ.tail (nth xs k x (omega arith) e)

-- n numbers from lo on, and then those of a list
abbrev run : ℕ → ℕ → List ℕ → List ℕ
run zero lo xs = xs
run (suc n) lo xs = lo ∷ run n (suc lo) xs

inside : (n lo : ℕ) (xs : List ℕ) (x : ℕ) → lo ≤ x → x < lo + n → In x (run n lo xs)
inside zero lo xs x l h = absurd (omega arith)
inside (suc n) lo xs x l h = pick (dec_lt lo x) (λ q. inside n (suc lo) xs x q (omega arith))
  where
    pick : Dec (lo < x) → (lo < x → In x (run n (suc lo) xs)) → In x (lo ∷ run n (suc lo) xs)
    pick (yes q) later = Memᴰ.tail (later q)
    pick (no q) later = let e : x ≡ lo = omega arith in Memᴰ.head e

further : (k : ℕ) (xs : List ℕ) (x : ℕ) → In x (drop k xs) → In x xs
further zero xs x m = m
further (suc k) [] x m = m
further (suc k) (y ∷ xs) x m = Memᴰ.tail (further k xs x m)

absent : (x : ℕ) → (In x white_space → ⊥) → false ≡ is_trimmed x
absent x n =
    let here : (k : ℕ) → k < 25 → x ≡ get_or white_space k 0 → ⊥ = λ k l e. n (nth white_space k x l e) in
    other x
    (⊎_elim (here 5 (omega arith)) (⊎_elim (here 6 (omega arith)) (⊎_elim (here 7 (omega arith)) (here 8 (omega arith)))))
    (⊎_elim (here 22 (omega arith)) (⊎_elim (here 23 (omega arith)) (here 24 (omega arith))))
    (λ l h. n (inside 5 0x9 (drop 5 white_space) x l (omega arith)))
    (λ l h. n (further 9 white_space x (inside 11 0x2000 (drop 20 white_space) x l (omega arith))))
    (here 20 (omega arith))
    (here 21 (omega arith))

pub trims_white_space : TrimsWhiteSpace
unfolding is_trimmed leading
trims_white_space = record { all = all_of white_space refl; only = λ x t. pick x t (look x white_space); rising = omega arith; number = refl }
  where
    pick : (x : ℕ) → is_trimmed x ≡ true → Dec (In x white_space) → In x white_space
    pick x t (yes m) = m
    pick x t (no n) = absurd (false≢true (absent x n ∙ t))
