-- What `halves_ok` decides by the nodes up to n, behind which all cells are 0. Assumes nothing.
use Prim.Native.Nat.{ℕ, ◌+◌, ◌-◌, ◌*◌, ◌/◌, ◌%◌, ◌≤◌, ◌<◌, max}
use native.Mathlib.Omega.{arith}
use native.Mathlib.Decide.{dec_lt}
use mathlib.Core.Path.{◌≡◌, sym, ap, ◌∙◌}
use mathlib.Core.Bool.{Bool, true, false}
use mathlib.Core.List.{List}
use lib.ListN.{length, get_or, take, drop, length-drop, get_or-eq_default}
use lib.Seq.{get_or-take, get_or-drop, length-take-le}
use Rattle.trie_pool.specs.Cells.{used}
use Rattle.trie_pool.specs.Rules.{in_half}
use Rattle.trie_pool.proofs.Rules.{clash, sound_half, passes_half}
use Rattle.trie_node.specs.inner.Checks.{Decides}
use Rattle.trie_node.proofs.Decide.{denied}
use Rattle.trie_plants.proofs.Parts.{used_in_half}
use Rattle.trie_plants.proofs.Same.{used_same, sound_used}

-- the first k cells are those of a list with 0 behind them
cut_same : (p : List ℕ) (k : ℕ) → k ≤ length p → ((i : ℕ) → k ≤ i → get_or p i 0 ≡ 0) → (i : ℕ) → get_or (take k p) i 0 ≡ get_or p i 0
cut_same p k fit zeros i = go (dec_lt i k)
  where
    go : Dec (i < k) → get_or (take k p) i 0 ≡ get_or p i 0
    go (yes l) = get_or-take k p i 0 l
    go (no l) = get_or-eq_default (take k p) 0 {n = i} (omega (arith, length-take-le k p fit)) ∙ sym (zeros i (omega arith))

-- the room may differ, if both have the nodes in use
half_on : (p q : List ℕ) → ((i : ℕ) → get_or q i 0 ≡ get_or p i 0) → (most room : ℕ) → in_half most p ≡ true → 8 * most ≤ length p + 4 → most ≤ 1048576
    → used p ≤ room → 8 * used p ≤ length q + 4 → in_half room q ≡ true
half_on p q same most room h fit small l fit' =
    let s : (i r : ℕ) → r < 4 → (8 * i + r ≡ 3 → ⊥) → get_or q (8 * i + r) 0 ≡ get_or p (8 * i + r) 0 = λ i r a b. same (8 * i + r) in
    passes_half room q (sound_used p q s fit' (sound_half most p h fit small)) (omega (arith, used_same p q s))

module _ (p : List ℕ) (a b : ℕ) where
  abbrev pub Both : Type 0
  Both = (in_half a p ≡ true) × (in_half b (drop 4 p) ≡ true)

  module _ {u : ℕ} (u_is : u ≡ get_or p 0 0) where
    pub none_used : u ≡ 0 → Decides false Both
    none_used z = denied (λ h. omega (arith, (used_in_half a p h.0).0))

    pub over_a : a < u → Decides false Both
    over_a l = denied (λ h. omega (arith, (used_in_half a p h.0).1))

    module _ {v : ℕ} (v_is : v ≡ get_or p 4 0) where
      used_b : v ≡ used (drop 4 p)
      used_b = v_is ∙ sym (get_or-drop 4 p 0 0)

      pub over_b : b < v → Decides false Both
      over_b l = denied (λ h. omega (arith, (used_in_half b (drop 4 p) h.1).1, used_b))

      module _ (asks : (8 ≤ length p) × (length p % 8 ≡ 0) × (a ≤ 1048576) × (b ≤ 1048576) × (8 * a ≤ length p) × (8 * b ≤ length p))
          (some : u ≡ 0 → ⊥) (in_a : u ≤ a) (in_b : v ≤ b) {n : ℕ} (n_is : n ≡ max u v) where
        fits : (1 ≤ n) × (8 * n ≤ length p) × (n ≤ 1048576) × (u ≤ n) × (v ≤ n)
        fits = (omega arith, omega (arith, asks), omega (arith, asks), omega arith, omega arith)

        long_b : length (drop 4 p) ≡ length p - 4
        long_b = length-drop 4 p

        -- the cells behind both dictionaries
        pub filled : {r : Bool} → Decides r ((i : ℕ) → 8 * n ≤ i → get_or p i 0 ≡ 0) → r ≡ false → Decides false Both
        filled d e = denied (λ h. d.no' e (zeros h))
          where
            zeros : Both → (i : ℕ) → 8 * n ≤ i → get_or p i 0 ≡ 0
            zeros h i l = go (dec_lt (i % 8) 4)
              where
                go : Dec (i % 8 < 4) → get_or p i 0 ≡ 0
                go (yes m) =
                    let z : i ≡ 8 * (i / 8) + i % 8 = omega arith in
                    ap (λ (j : ℕ). get_or p j 0) z ∙ (sound_half a p h.0 (omega (arith, asks)) asks.2).spare.blank (i / 8) (i % 8) (omega (arith, fits)) m
                go (no m) =
                    let z : i ≡ 4 + (8 * (i / 8) + (i % 8 - 4)) = omega arith in
                    ap (λ (j : ℕ). get_or p j 0) z ∙ sym (get_or-drop 4 p (8 * (i / 8) + (i % 8 - 4)) 0)
                    ∙ (sound_half b (drop 4 p) h.1 (omega (arith, asks, long_b)) asks.3).spare.blank (i / 8) (i % 8 - 4) (omega (arith, fits, used_b)) (omega arith)

        pub long_a : length (take (8 * n) p) ≡ 8 * n
        long_a = length-take-le (8 * n) p fits.1

        long_cut : length (take (8 * n - 4) (drop 4 p)) ≡ 8 * n - 4
        long_cut = length-take-le (8 * n - 4) (drop 4 p) (omega (arith, fits, long_b))

        pub asks_a : (4 ≤ length (take (8 * n) p)) × (length (take (8 * n) p) % 4 ≡ 0) × (n ≤ 1048576) × (8 * n ≤ length (take (8 * n) p) + 4)
        asks_a = (omega (arith, long_a, fits), omega (arith, long_a), fits.2, omega (arith, long_a))

        pub asks_b : (4 ≤ length (take (8 * n - 4) (drop 4 p))) × (length (take (8 * n - 4) (drop 4 p)) % 4 ≡ 0) × (n ≤ 1048576) × (8 * n ≤ length (take (8 * n - 4) (drop 4 p)) + 4)
        asks_b = (omega (arith, long_cut, fits), omega (arith, long_cut, fits), fits.2, omega (arith, long_cut))

        module _ (zeros : (i : ℕ) → 8 * n ≤ i → get_or p i 0 ≡ 0) where
          same_a : (i : ℕ) → get_or (take (8 * n) p) i 0 ≡ get_or p i 0
          same_a = cut_same p (8 * n) fits.1 zeros

          same_b : (i : ℕ) → get_or (take (8 * n - 4) (drop 4 p)) i 0 ≡ get_or (drop 4 p) i 0
          same_b = cut_same (drop 4 p) (8 * n - 4) (omega (arith, fits, long_b)) (λ i l. get_or-drop 4 p i 0 ∙ zeros (4 + i) (omega arith))

          to_a : in_half a p ≡ true → in_half n (take (8 * n) p) ≡ true
          to_a h = half_on p (take (8 * n) p) same_a a n h (omega (arith, asks)) asks.2 (omega (arith, fits)) (omega (arith, fits, long_a))

          to_b : in_half b (drop 4 p) ≡ true → in_half n (take (8 * n - 4) (drop 4 p)) ≡ true
          to_b h = half_on (drop 4 p) (take (8 * n - 4) (drop 4 p)) same_b b n h (omega (arith, asks, long_b)) asks.3 (omega (arith, fits, used_b)) (omega (arith, fits, used_b, long_cut))

          of_a : in_half n (take (8 * n) p) ≡ true → in_half a p ≡ true
          of_a h = half_on (take (8 * n) p) p (λ i. sym (same_a i)) n a h asks_a.3 fits.2 (omega (arith, same_a 0)) (omega (arith, same_a 0, fits))

          of_b : in_half n (take (8 * n - 4) (drop 4 p)) ≡ true → in_half b (drop 4 p) ≡ true
          of_b h = half_on (take (8 * n - 4) (drop 4 p)) (drop 4 p) (λ i. sym (same_b i)) n b h asks_b.3 fits.2 (omega (arith, same_b 0, used_b)) (omega (arith, same_b 0, used_b, fits, long_b))

          pub not_a : {r : Bool} → r ≡ in_half n (take (8 * n) p) → r ≡ false → Decides false Both
          not_a is e = denied (λ h. clash (sym e ∙ is ∙ to_a h.0))

          pub all : {r q : Bool} → r ≡ in_half n (take (8 * n) p) → r ≡ true → q ≡ in_half n (take (8 * n - 4) (drop 4 p)) → Decides q Both
          all r_is e q_is = record {
            yes' = λ y. (of_a (sym r_is ∙ e), of_b (sym q_is ∙ y));
            no' = λ y h. clash (sym y ∙ q_is ∙ to_b h.1);
          }
