use mathlib.Core.Path.{◌≡◌, refl, sym, ap, ◌∙◌}
use mathlib.Core.List.{List}
use Prim.Native.Nat.{ℕ, suc, ◌+◌, ◌-◌, ◌*◌, ◌≤◌, ◌<◌}
use native.Mathlib.Omega.{arith}
use native.Mathlib.Decide.{dec_lt}
use lib.ListN.{get_or, set, length-set}
use lib.Seq.{get_or-set_same, get_or-set_other}
use Rattle.trie_leaf.specs.inner.Moving.{Bumps, Bumped}
use Rattle.trie_leaf.proofs.one_more.bump.Invariants.{Inv}
use Rattle.trie_leaf.proofs.one_more.bump.Goals as goal

here : (s₀ s : List ℕ) (low high i : ℕ) → Inv s₀ s low high i → get_or s (8 * i + 1) 0 ≡ get_or s₀ (8 * i + 1) 0
here s₀ s low high i v = v.other (8 * i + 1) (λ k a b e. omega arith)

turn : (s₀ s : List ℕ) (low high i : ℕ) → Bumps s₀ low high → Inv s₀ s low high i → i < high → Inv s₀ (set s (8 * i + 1) (get_or s (8 * i + 1) 0 + 1)) low high (i + 1)
turn s₀ s low high i q v h = record {
  from = omega (arith, v.from);
  upto = omega arith;
  long = length-set s (8 * i + 1) (get_or s (8 * i + 1) 0 + 1) ∙ v.long;
  first = λ k le lt. pick k le (dec_lt k i) lt;
  other = λ a f. get_or-set_other s (8 * i + 1) a (get_or s (8 * i + 1) 0 + 1) 0 (λ e. f i v.from (omega arith) e) ∙ v.other a (λ k le lt e. f k le (omega arith) e);
}
  where
    plus : get_or s (8 * i + 1) 0 + 1 ≡ suc (get_or s₀ (8 * i + 1) 0)
    plus = omega (arith, here s₀ s low high i v)

    pick : (k : ℕ) → low ≤ k → Dec (k < i) → k < i + 1 → get_or (set s (8 * i + 1) (get_or s (8 * i + 1) 0 + 1)) (8 * k + 1) 0 ≡ suc (get_or s₀ (8 * k + 1) 0)
    pick k le (yes l) lt = get_or-set_other s (8 * i + 1) (8 * k + 1) (get_or s (8 * i + 1) 0 + 1) 0 (omega arith) ∙ v.first k le l
    pick k le (no l) lt =
        let z : k ≡ i = omega arith in
        ap (λ (j : ℕ). get_or (set s (8 * i + 1) (get_or s (8 * i + 1) 0 + 1)) (8 * j + 1) 0) z ∙ get_or-set_same s (8 * i + 1) (get_or s (8 * i + 1) 0 + 1) 0 (omega (arith, q.fits, v.long))
        ∙ plus ∙ ap (λ (j : ℕ). suc (get_or s₀ (8 * j + 1) 0)) (sym z)

done : (s₀ s : List ℕ) (low high i : ℕ) → Inv s₀ s low high i → high ≤ i → Bumped s₀ s low high
done s₀ s low high i v h = record { first = λ k le lt. v.first k le (omega arith); other = λ a f. v.other a (λ k le lt e. f k le (omega (arith, v.upto)) e) }

pub loop-i-init : goal.loop-i-init
loop-i-init c = record { from = omega arith; upto = omega arith; long = refl; first = λ k le lt. absurd (omega arith); other = λ a f. refl }

pub overflow_add-p : goal.overflow_add-p
overflow_add-p c =
    omega (
      arith,
      c.requires.small c.loop-i.i c.loop-i.invariant.from c.loop-i-test.true,
      here _ _ _ _ _
          c.loop-i.invariant,
    )

pub loop-i-preserved : goal.loop-i-preserved
loop-i-preserved c = turn _ _ _ _ _ c.requires c.loop-i.invariant c.loop-i-test.true

pub returns : goal.returns
returns c = done _ _ _ _ _ c.loop-i.invariant c.loop-i-test.false
