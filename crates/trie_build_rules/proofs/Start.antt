-- Before the first word: the root alone, and every level empty where it is to start. Assumes
-- nothing.
use mathlib.Core.Path.{◌≡◌, refl, sym, ap, subst, ◌∙◌}
use mathlib.Core.Bool.{false}
use mathlib.Core.List.{List, [], ◌∷◌}
use mathlib.Core.Option.{some}
use mathlib.Core.Option as option
use Prim.Native.Nat.{ℕ, zero, suc, ◌+◌, ◌-◌, ◌*◌, ◌≤◌, ◌<◌}
use native.Mathlib.Omega.{arith}
use native.Mathlib.Decide.{dec_lt}
use lib.ListN.{length, get_or, take}
use Rattle.trie_pool.specs.Cells.{scalar_at, first_at, count_at, mark_at}
use Rattle.trie_pool.specs.Words.{at, rev}
use Rattle.trie_pool.specs.Meaning.{no_term}
use Rattle.trie_pool.specs.inner.Paths.{reach}
use Rattle.trie_pool.specs.inner.Sound.{Fit}
use Rattle.trie_pool.proofs.Shape.{first_is, count_is, mark_is}
use Rattle.trie_pool.proofs.Held.{root_mark}
use Rattle.trie_build_rules.specs.inner.Laid.{Laid}
use Rattle.trie_build_rules.specs.inner.Growing.{Grown, Path, Blank, Marked, Ended, Built, Bare, Starts}
use Rattle.trie_build_rules.proofs.Whole.{scalar_is}

first_cell : (i : ℕ) → 8 * i ≡ 8 * i + 0
first_cell i = omega arith

module _ (p : List ℕ) (s next : ℕ → ℕ) (b : Bare p (s 256)) (t : Starts s next) where
  first_root : first_at p 0 ≡ 1
  first_root = first_is p 0 ∙ b.first

  no_count : (i : ℕ) → count_at p i ≡ 0
  no_count zero = count_is p 0 ∙ b.count
  no_count (suc i) = count_is p (suc i) ∙ b.blank (suc i) 2 (omega arith) (omega arith)

  no_mark : (i : ℕ) → mark_at p i ≡ 0
  no_mark zero = root_mark p
  no_mark (suc i) = mark_is p (suc i) (omega arith) ∙ b.blank (suc i) 3 (omega arith) (omega arith)

  -- only the root stands
  only_root : (d i : ℕ) → d ≤ 256 → s d ≤ i → i < next d → (d ≡ 0) × (i ≡ 0)
  only_root d i l a c = go (dec_lt 0 d)
    where
      go : Dec (0 < d) → (d ≡ 0) × (i ≡ 0)
      go (yes q) = absurd (omega (arith, t.empty d q l))
      go (no q) = let z : d ≡ 0 = omega arith in (z, omega (arith, ap next z, t.root))

  laid : Laid p s next
  laid = record {
    root = t.root;
    zero' = t.zero';
    low = low';
    high = high';
    first = λ d i l a c. let z = only_root d i (omega arith) (omega arith) c in ap (first_at p) z.1 ∙ first_root ∙ sym t.one ∙ ap (λ (k : ℕ). s (suc k)) (sym z.0);
    follow = λ d i l a c. let z = only_root d (suc i) (omega arith) (omega arith) c in absurd (omega (arith, z.1));
    tip = λ d i l a c.
        let z = only_root d i (omega arith) a (omega arith) in
        let f : first_at p i ≡ 1 = ap (first_at p) z.1 ∙ first_root in
        let n : next (suc d) ≡ 1 = ap (λ (k : ℕ). next (suc k)) z.0 ∙ t.empty 1 (omega arith) (omega arith) ∙ t.one in
        omega (arith, no_count i);
    none' = λ d l e. t.empty (suc d) (omega arith) (omega arith);
    from = λ d i l a c.
        let z = only_root d i (omega arith) a c in
        let f : first_at p i ≡ 1 = ap (first_at p) z.1 ∙ first_root in
        let n : s (suc d) ≡ 1 = ap (λ (k : ℕ). s (suc k)) z.0 ∙ t.one in
        omega arith;
    upto = λ d i l a c.
        let z = only_root d i (omega arith) a c in
        let f : first_at p i ≡ 1 = ap (first_at p) z.1 ∙ first_root in
        let n : next (suc d) ≡ 1 = ap (λ (k : ℕ). next (suc k)) z.0 ∙ t.empty 1 (omega arith) (omega arith) ∙ t.one in
        omega (arith, no_count i);
    rising = λ d i l a c k m n. absurd (omega (arith, no_count i));
  }
    where
      low' : (d : ℕ) → d ≤ 256 → s d ≤ next d
      low' zero l = omega (arith, t.zero')
      low' (suc d) l = omega (arith, t.empty (suc d) (omega arith) l)

      high' : (d : ℕ) → d < 256 → next d ≤ s (suc d)
      high' zero l = omega (arith, t.root, t.one)
      high' (suc d) l = omega (arith, t.empty (suc d) (omega arith) (omega arith), t.rise (suc d) (omega arith) l)

  none_yet : (d i : ℕ) → 0 < d → d ≤ 256 → s d ≤ i → i < next d → ⊥
  none_yet d i o l a c = omega (arith, t.empty d o l)

  blank' : (i : ℕ) → ((d : ℕ) → d ≤ 256 → s d ≤ i → i < next d → ⊥) → Blank p i
  blank' zero no' = absurd (no' 0 (omega arith) (omega (arith, t.zero')) (omega (arith, t.root)))
  blank' (suc i) no' = record {
    scalar = scalar_is p (suc i) ∙ ap (λ (k : ℕ). get_or p k 0) (first_cell (suc i)) ∙ b.blank (suc i) 0 (omega arith) (omega arith);
    first = first_is p (suc i) ∙ b.blank (suc i) 1 (omega arith) (omega arith);
    count = no_count (suc i);
    mark = no_mark (suc i);
  }

  pub start_grown : Grown p s next no_term 0
  start_grown = record {
    laid = laid;
    top = t.empty 256 (omega arith) (omega arith);
    in_use = scalar_is p 0 ∙ b.used;
    fits = b.fits;
    small = b.small;
    fit = λ d i o l a c. absurd (none_yet d i o l a c);
    alive = λ d i o l a c ne. absurd (none_yet d i o l a c);
    start = λ i a c. absurd (none_yet 1 i (omega arith) (omega arith) a c);
    blank = blank';
    words = λ v c e. let z : ◌≡◌ {A = ℕ} 0 1 = cc in absurd (omega arith);
    marks = λ i m. absurd (omega (arith, no_mark i));
  }

  pub start_built : Built p s next [] no_term
  start_built = record {
    grown = start_grown;
    path = record { along = λ k l. let z : 0 ≡ next k - 1 = omega (arith, ap next (zero_is k l), t.root) in ap (λ (j : ℕ). reach p (rev (take j []) [])) (zero_is k l) ∙ ap at z };
    short = omega arith;
    ends = λ i e. no_count i;
  }
    where
      zero_is : (k : ℕ) → k ≤ 0 → k ≡ 0
      zero_is k l = omega arith
