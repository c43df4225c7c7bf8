-- The cells from k on, or-ed. Assumes nothing.
use mathlib.Core.Path.{◌≡◌, refl, ap, ◌∙◌}
use mathlib.Core.List.{List}
use Prim.Native.Nat.{ℕ, ◌+◌, ◌≤◌, ◌<◌}
use native.Mathlib.Omega.{arith}
use native.Mathlib.Decide.{dec_lt}
use borrow.Author.Tests.{eqb-true, eqb-false}
use lib.Bits.{bit_or}
use lib.Dec.{eqb}
use lib.ListN.{length, get_or, get_or-eq_default}
use Rattle.trie_node.specs.inner.Checks.{Decides}
use Rattle.trie_nodes.proofs.Ors.{or_left, or_right, or_both}

-- b is 0 exactly if the cells from k to i are
pub record Zeros (p : List ℕ) (k i b : ℕ) : Type 0 where
  pub low : k ≤ i
  pub none : b ≡ 0 → (a : ℕ) → k ≤ a → a < i → get_or p a 0 ≡ 0
  pub all : ((a : ℕ) → k ≤ a → get_or p a 0 ≡ 0) → b ≡ 0

pub zeros_none : (p : List ℕ) (k : ℕ) → Zeros p k k 0
zeros_none p k = record { low = omega arith; none = λ e a l h. absurd (omega arith); all = λ f. refl }

pub zeros_more : {p : List ℕ} {k i b : ℕ} → Zeros p k i b → Zeros p k (i + 1) (bit_or b (get_or p i 0))
zeros_more {p} {k} {i} {b} v = record {
  low = omega (arith, v.low);
  none = λ e a l h. pick e a l h (dec_lt a i);
  all = λ f. or_both b (get_or p i 0) (v.all f) (f i v.low);
}
  where
    pick : bit_or b (get_or p i 0) ≡ 0 → (a : ℕ) → k ≤ a → a < i + 1 → Dec (a < i) → get_or p a 0 ≡ 0
    pick e a l h (yes q) = v.none (or_left b (get_or p i 0) e) a l q
    pick e a l h (no q) = let z : a ≡ i = omega arith in ap (λ (t : ℕ). get_or p t 0) z ∙ or_right b (get_or p i 0) e

pub zeros_done : {p : List ℕ} {k i b : ℕ} → Zeros p k i b → length p ≤ i → Decides (eqb b 0) ((a : ℕ) → k ≤ a → get_or p a 0 ≡ 0)
zeros_done {p} {k} {i} {b} v h = record {
  yes' = λ e a l. pick (eqb-true b 0 e) a l (dec_lt a i);
  no' = λ e f. eqb-false b 0 e (v.all f);
}
  where
    pick : b ≡ 0 → (a : ℕ) → k ≤ a → Dec (a < i) → get_or p a 0 ≡ 0
    pick e a l (yes q) = v.none e a l q
    pick e a l (no q) = get_or-eq_default p 0 {n = a} (omega arith)
