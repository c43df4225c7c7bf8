-- A set of words has one number. Assumes nothing.
use Prim.Native.Nat.{ℕ, suc, ◌≤◌}
use native.Mathlib.Omega.{arith}
use mathlib.Core.Path.{◌≡◌, refl, sym, ap, subst, ◌∙◌}
use mathlib.Core.List.{List, [], ◌∷◌}
use mathlib.Core.Logic.{inl, inr}
use lib.ListN.{length}
use Rattle.trie_pool.specs.Listing.{Member, Distinct, Number}

-- a list without one of its members
record Less (v : List ℕ) (ws : List (List ℕ)) : Type 0 where
  rest : List (List ℕ)
  long : length ws ≡ suc (length rest)
  keeps : (u : List ℕ) → Member u ws → (u ≡ v → ⊥) → Member u rest

less : (v : List ℕ) (ws : List (List ℕ)) → Member v ws → Less v ws
less v [] m = absurd m
less v (w ∷ ws) (inl e) = record { rest = ws; long = refl; keeps = keep }
  where
    keep : (u : List ℕ) → Member u (w ∷ ws) → (u ≡ v → ⊥) → Member u ws
    keep u (inl f) ne = absurd (ne (f ∙ sym e))
    keep u (inr k) ne = k
less v (w ∷ ws) (inr m) = go (less v ws m)
  where
    go : Less v ws → Less v (w ∷ ws)
    go l = record { rest = w ∷ l.rest; long = ap suc l.long; keeps = keep }
      where
        keep : (u : List ℕ) → Member u (w ∷ ws) → (u ≡ v → ⊥) → Member u (w ∷ l.rest)
        keep u (inl f) ne = inl f
        keep u (inr k) ne = inr (l.keeps u k ne)

-- distinct words that all stand in a list are no more than it has
no_more : (vs ws : List (List ℕ)) → Distinct vs → ((v : List ℕ) → Member v vs → Member v ws) → length vs ≤ length ws
no_more [] ws d f = omega arith
no_more (v ∷ vs) ws d f = go (less v ws (f v (inl refl))) (λ us g. no_more vs us d.1 g)
  where
    go : Less v ws → ((us : List (List ℕ)) → ((u : List ℕ) → Member u vs → Member u us) → length vs ≤ length us) → suc (length vs) ≤ length ws
    go l ih = omega (arith, l.long, ih l.rest (λ u m. l.keeps u (f u (inr m)) (λ e. d.0 (subst (λ (z : List ℕ). Member z vs) e m))))

pub one_number : (P : List ℕ → Type 0) (j k : ℕ) → Number P j → Number P k → j ≡ k
one_number P j k a b =
    omega (
      arith,
      a.long,
      b.long,
      no_more a.words b.words a.distinct (λ v m. b.all v (a.only v m)),
      no_more b.words a.words b.distinct (λ v m. a.all v (b.only v m)),
    )
