-- The loop that clears nodes, one by one. Assumes nothing.
use mathlib.Core.Path.{◌≡◌, refl, sym, ap, subst, ◌∙◌}
use mathlib.Core.List.{List, [], ◌∷◌, ◌++◌, append_assoc}
use borrow.Rule.Slice.PartMut.{put_mid}
use native.Mathlib.Numerals.{add-one}
use lib.Seq.{drop-drop, sets-eq}
use Prim.Native.Nat.{ℕ, suc, ◌+◌, ◌*◌, ◌≤◌, ◌<◌}
use native.Mathlib.Omega.{arith}
use native.Mathlib.Decide.{dec_lt}
use lib.ListN.{length, get_or, set, take, drop, replicate, length-set}
use Rattle.trie_leaf.specs.inner.Moving.{Put}
use Rattle.trie_leaf.proofs.Halves.{put, zeros}
use Rattle.image_build.specs.inner.Building.{Clears, Cleared}

-- the nodes before i are cleared
pub record Going (p₀ p : List ℕ) (n i : ℕ) : Type 0 where
  pub past : 0 < i
  pub upto : i ≤ n
  pub long : length p ≡ length p₀
  pub so_far : Cleared p₀ p i

pub clear_none : {p : List ℕ} {n : ℕ} → Clears p n → Going p p n 1
clear_none c = record {
  past = omega arith;
  upto = c.some;
  long = refl;
  so_far = record { blank = λ i r a b h. absurd (omega arith); other = λ k ne. refl };
}

abbrev no_node : List ℕ → ℕ → List ℕ
no_node p a = set (set (set (set p a 0) (a + 1) 0) (a + 2) 0) (a + 3) 0

-- four zeros written as a part are four cells set
filled : (p zs : List ℕ) (a k : ℕ) → a + 4 ≤ length p → k ≡ 4 → zs ≡ 0 ∷ 0 ∷ 0 ∷ 0 ∷ [] → put_mid a k p zs ≡ no_node p a
filled p zs a k h e z =
    let two : suc (suc a) ≡ a + 2 = omega arith in
    let three : suc (suc (suc a)) ≡ a + 3 = omega arith in
    ap (λ (l : List ℕ). put_mid a k p l) z
    ∙ ap (λ (j : ℕ). put_mid a j p (0 ∷ 0 ∷ 0 ∷ 0 ∷ [])) e
    ∙ ap (λ (l : List ℕ). take a p ++ ((0 ∷ 0 ∷ 0 ∷ 0 ∷ []) ++ l)) (drop-drop 4 a p)
    ∙ sym (append_assoc (take a p) (0 ∷ 0 ∷ 0 ∷ 0 ∷ []) (drop (a + 4) p))
    ∙ sym (sets-eq (0 ∷ 0 ∷ 0 ∷ 0 ∷ []) p a h)
    ∙ ap (λ (j : ℕ). set (set (set (set p a 0) j 0) (suc (suc a)) 0) (suc (suc (suc a))) 0) (sym (add-one a))
    ∙ ap (λ (j : ℕ). set (set (set (set p a 0) (a + 1) 0) j 0) (suc (suc (suc a))) 0) two
    ∙ ap (λ (j : ℕ). set (set (set (set p a 0) (a + 1) 0) (a + 2) 0) j 0) three

module _ {p₀ p : List ℕ} {n i : ℕ} (g : Going p₀ p n i) where
  pub clear_all : n ≤ i → Cleared p₀ p n
  clear_all h = let c = g.so_far in let u = g.upto in record { blank = λ j r a b l. c.blank j r a (omega arith) l; other = λ k ne. c.other k (λ j r a b l e. ne j r a (omega arith) l e) }

  module _ (c : Clears p₀ n) (more : i < n) where
    inside : 8 * i + 4 ≤ length p
    inside = omega (arith, g.long, c.fits)

    clear_next : Going p₀ (no_node p (8 * i)) n (i + 1)
    clear_next = record {
      past = omega arith;
      upto = omega arith;
      long = simp length-set g.long;
      so_far = record { blank = λ j r a b l. blank j r a b l (dec_lt j i); other = λ k ne. h.other k (λ r l e. ne i r g.past (omega arith) l e) ∙ g.so_far.other k (λ j r a b l e. ne j r a (omega arith) l e) };
    }
      where
        h : Put p (no_node p (8 * i)) (8 * i) 0 0 0 0
        h = put p (8 * i) 0 0 0 0 inside

        blank : (j r : ℕ) → 0 < j → j < i + 1 → r < 4 → Dec (j < i) → get_or (no_node p (8 * i)) (8 * j + r) 0 ≡ 0
        blank j r a b l (yes q) = h.other (8 * j + r) (λ s m e. omega arith) ∙ g.so_far.blank j r a q l
        blank j r a b l (no q) = let z : j ≡ i = omega arith in ap (λ (k : ℕ). get_or (no_node p (8 * i)) (8 * k + r) 0) z ∙ zeros p (no_node p (8 * i)) (8 * i) h r l

    -- a turn, as the code takes it
    pub clear_turn : {zs : List ℕ} {k m : ℕ} → k ≡ 4 → zs ≡ replicate m 0 → m ≡ 4 → Going p₀ (put_mid (8 * i) k p zs) n (i + 1)
    clear_turn {zs} {k} {m} e z f = subst (λ (q : List ℕ). Going p₀ q n (i + 1)) (sym (filled p zs (8 * i) k inside e (z ∙ ap (λ (j : ℕ). replicate {A = ℕ} j 0) f))) clear_next
