-- The positions of a stretch that pass a test. Assumes nothing.
use Prim.Native.Nat.{ℕ, zero, suc, ◌+◌, ◌-◌, ◌≤◌, ◌<◌}
use native.Mathlib.Omega.{arith}
use mathlib.Core.Path.{◌≡◌, refl, sym, ◌∙◌, ap, ap₂, subst}
use mathlib.Core.Bool.{Bool, true, false, ◌||◌}
use mathlib.Core.List.Memᴰ
use mathlib.Core.List.{List, [], ◌∷◌, ◌++◌}
use lib.ListN.{length, length-append}
use lib.Dec.{eqb}
use borrow.Author.Tests.{eqb-true, eqb-false, ne_eqb}
use Rattle.newmm_rules.specs.Positions.{up_from, keep, those, how_many, any, member, In, Rises, none, next}
use Rattle.newmm_rules.proofs.Positions.{at_least, member_in, in_member, those_in, in_those, in_up}

pub differ : {P : Type 0} → true ≡ false → P
differ e = absurd (let z : ◌≡◌ {A = ℕ} 0 1 = cc in omega arith)

pub not_member : (x : ℕ) (xs : List ℕ) → (In x xs → ⊥) → member x xs ≡ false
not_member x xs h = go (member x xs) refl
  where
    go : (b : Bool) → member x xs ≡ b → member x xs ≡ false
    go true e = absurd (h (member_in x xs e))
    go false e = e

-- ---- one stretch behind another

module _ (f : ℕ → Bool) where
  pub those_split : (a D b p : ℕ) → D ≡ a + b → those f (up_from D p) ≡ those f (up_from a p) ++ those f (up_from b (p + a))
  unfolding up_from those
  those_split zero D b p e =
      let i : D ≡ b = omega arith in
      let j : p ≡ p + 0 = omega arith in
      ap₂ (λ (k q : ℕ). those f (up_from k q)) i j
  those_split (suc a) zero b p e = absurd (omega arith)
  those_split (suc a) (suc D) b p e =
      let j : suc p + a ≡ p + suc a = omega arith in
      ap (keep (f p) p) (those_split a D b (suc p) (omega arith) ∙ ap (λ (q : ℕ). those f (up_from a (suc p)) ++ those f (up_from b q)) j)
      ∙ kept (f p) (those f (up_from a (suc p))) (those f (up_from b (p + suc a)))
    where
      kept : (t : Bool) (xs ys : List ℕ) → keep t p (xs ++ ys) ≡ keep t p xs ++ ys
      kept true xs ys = refl
      kept false xs ys = refl

  pub many_split : (a b p : ℕ) → how_many f (a + b) p ≡ how_many f a p + how_many f b (p + a)
  unfolding how_many
  many_split a b p = ap length (those_split a (a + b) b p refl) ∙ length-append (those f (up_from a p)) (those f (up_from b (p + a)))

  -- ---- which pass

  pub member_those : (k p x : ℕ) → p ≤ x → x < p + k → member x (those f (up_from k p)) ≡ f x
  member_those k p x l h = go (f x) refl
    where
      go : (b : Bool) → f x ≡ b → member x (those f (up_from k p)) ≡ f x
      go true e = in_member x (those f (up_from k p)) (in_those f x (up_from k p) (in_up k p x l h) e) ∙ sym e
      go false e = not_member x (those f (up_from k p)) (λ m. differ (sym (those_in f x (up_from k p) m).1 ∙ e)) ∙ sym e

  pub none_passes : (k p x : ℕ) → those f (up_from k p) ≡ [] → p ≤ x → x < p + k → f x ≡ false
  none_passes k p x e l h = sym (member_those k p x l h) ∙ ap (member x) e ∙ nil
    where
      nil : member x [] ≡ false
      nil = not_member x [] Memᴰ.not-nil

  -- the first that passes, and the others behind it
  pub those_next : (k p q : ℕ) (qs : List ℕ) → those f (up_from k p) ≡ q ∷ qs → (p ≤ q) × (q < p + k) × (qs ≡ those f (up_from (p + k - suc q) (suc q)))
  unfolding up_from those
  those_next zero p q qs e = absurd (let z : ◌≡◌ {A = ℕ} 0 (suc (length qs)) = ap length e in omega arith)
  those_next (suc k) p q qs e = go (f p) e (those_next k (suc p) q qs)
    where
      go : (b : Bool) → keep b p (those f (up_from k (suc p))) ≡ q ∷ qs
          → (those f (up_from k (suc p)) ≡ q ∷ qs → (suc p ≤ q) × (q < suc p + k) × (qs ≡ those f (up_from (suc p + k - suc q) (suc q))))
          → (p ≤ q) × (q < p + suc k) × (qs ≡ those f (up_from (p + suc k - suc q) (suc q)))
      go true h ih =
          let i : p ≡ q = head h in
          let j : k ≡ p + suc k - suc q = omega arith in
          let t : those f (up_from k (suc p)) ≡ qs = tail h in (
            omega arith,
            omega arith,
            sym t ∙ ap₂ (λ (a b : ℕ). those f (up_from a (suc b))) j i,
          )
        where
          head : {x y : ℕ} {xs ys : List ℕ} → x ∷ xs ≡ y ∷ ys → x ≡ y
          head w = cc

          tail : {x y : ℕ} {xs ys : List ℕ} → x ∷ xs ≡ y ∷ ys → xs ≡ ys
          tail w = cc
      go false h ih =
          let z = ih h in
          let j : suc p + k - suc q ≡ p + suc k - suc q = omega arith in (
            omega (arith, z.0),
            omega (arith, z.1),
            z.2 ∙ ap (λ (a : ℕ). those f (up_from a (suc q))) j,
          )

-- ---- equal tests

pub those_same : (f g : ℕ → Bool) (k p : ℕ) → ((x : ℕ) → p ≤ x → x < p + k → g x ≡ f x) → those g (up_from k p) ≡ those f (up_from k p)
unfolding up_from those
those_same f g zero p h = refl
those_same f g (suc k) p h =
    ap₂ (λ (b : Bool) (xs : List ℕ). keep b p xs) (h p (omega arith) (omega arith)) (those_same f g k (suc p) (λ x l u. h x (omega arith) (omega arith)))

-- ---- rising positions are those of their stretch that stand among them

member_later : (q x : ℕ) (xs : List ℕ) → (q ≡ x → ⊥) → member q (x ∷ xs) ≡ member q xs
unfolding any
member_later q x xs h = ap (λ (b : Bool). b || member q xs) (ne_eqb q x h)

pub those_members : (k p : ℕ) (es : List ℕ) → Rises p es → ((x : ℕ) → In x es → x < p + k) → those (λ (q : ℕ). member q es) (up_from k p) ≡ es
unfolding up_from those
those_members zero p [] r h = refl
those_members zero p (x ∷ xs) (next l r) h = absurd (let z = h x (Memᴰ.head refl) in omega arith)
those_members (suc k) p [] r h =
    ap (λ (b : Bool). keep b p (those (λ (q : ℕ). member q []) (up_from k (suc p)))) (not_member p [] Memᴰ.not-nil)
    ∙ those_members k (suc p) [] none (λ x m. absurd (Memᴰ.not-nil m))
those_members (suc k) p (x ∷ xs) (next l r) h = go (eqb p x) refl (those_members k (suc p) xs) (those_members k (suc p) (x ∷ xs))
  where
    test : ℕ → Bool
    test q = member q (x ∷ xs)

    inside : (y : ℕ) → In y (x ∷ xs) → y < suc p + k
    inside y m = let z = h y m in omega arith

    go : (t : Bool) → eqb p x ≡ t
        → (Rises (suc p) xs → ((y : ℕ) → In y xs → y < suc p + k) → those (λ (q : ℕ). member q xs) (up_from k (suc p)) ≡ xs)
        → (Rises (suc p) (x ∷ xs) → ((y : ℕ) → In y (x ∷ xs) → y < suc p + k) → those test (up_from k (suc p)) ≡ x ∷ xs)
        → keep (test p) p (those test (up_from k (suc p))) ≡ x ∷ xs
    go true e later same =
        let i : p ≡ x = eqb-true p x e in
        ap (λ (b : Bool). keep b p (those test (up_from k (suc p)))) (in_member p (x ∷ xs) (Memᴰ.head i))
        ∙ ap₂ (λ (y : ℕ) (ys : List ℕ). y ∷ ys) i
        (those_same (λ (q : ℕ). member q xs) test k (suc p) (λ q a b. member_later q x xs (λ z. omega arith))
        ∙ later (subst (λ (y : ℕ). Rises (suc y) xs) (sym i) r) (λ y m. inside y (Memᴰ.tail m)))
    go false e later same =
        let i = eqb-false p x e in
        let up : Rises (suc p) (x ∷ xs) = next {low = suc p} {x = x} (omega arith) r in
        ap (λ (b : Bool). keep b p (those test (up_from k (suc p)))) (not_member p (x ∷ xs) (λ m. let z = at_least up m in omega arith))
        ∙ same up inside

pub those_none : (f : ℕ → Bool) (k p : ℕ) → ((x : ℕ) → p ≤ x → x < p + k → f x ≡ false) → those f (up_from k p) ≡ []
those_none f k p h =
    those_same (λ (q : ℕ). member q []) f k p (λ x l u. h x l u ∙ sym (not_member x [] Memᴰ.not-nil))
    ∙ those_members k p [] none (λ x m. absurd (Memᴰ.not-nil m))
