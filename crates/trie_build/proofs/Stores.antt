-- What the stores of a leaf and of a mark change. Assumes nothing.
use mathlib.Core.Path.{◌≡◌, refl, sym, ap, subst, ◌∙◌}
use mathlib.Core.List.{List, [], ◌∷◌}
use Prim.Native.Nat.{ℕ, zero, suc, ◌+◌, ◌-◌, ◌*◌, ◌≤◌, ◌<◌}
use native.Mathlib.Omega.{arith}
use lib.ListN.{length, get_or, set, length-set}
use lib.Seq.{get_or-set_same, get_or-set_other}
use Rattle.trie_pool.specs.Cells.{scalar_at, first_at, count_at, mark_at}
use Rattle.trie_leaf.specs.inner.Planting.{Beside}
use Rattle.trie_pool.proofs.Shape.{first_is, count_is, mark_is}
use Rattle.trie_pool.proofs.Held.{root_mark}
use Rattle.trie_build_rules.specs.inner.Laid.{Appended}
use Rattle.trie_build_rules.proofs.Whole.{scalar_is}
use Rattle.trie_build_rules.proofs.Leaf.{Done}
use Rattle.trie_build_rules.proofs.Mark.{Sets}
use Rattle.trie_build.specs.inner.Appending.{row, leaf_cells, one_more}

record Cells (p p' : List ℕ) (b r x f : ℕ) : Type 0 where
  scalar : get_or p' (8 * r) 0 ≡ x
  first : get_or p' (8 * r + 1) 0 ≡ f
  count : get_or p' (8 * b + 2) 0 ≡ suc (get_or p (8 * b + 2) 0)
  other : (k : ℕ) → (k ≡ 8 * r → ⊥) → (k ≡ 8 * r + 1 → ⊥) → (k ≡ 8 * b + 2 → ⊥) → get_or p' k 0 ≡ get_or p k 0
  long : length p' ≡ length p

cells : (p : List ℕ) (b r x f : ℕ) → 8 * r + 4 ≤ length p → 8 * b + 4 ≤ length p → Cells p (one_more (leaf_cells p r x f) b) b r x f
cells p b r x f h k = record {
  scalar = get_or-set_other (leaf_cells p r x f) (8 * b + 2) (8 * r) _ 0 (omega arith) ∙ get_or-set_other (set p (8 * r) x) (8 * r + 1) (8 * r) f 0 (omega arith) ∙ get_or-set_same p (8 * r) x 0 (omega arith);
  first = get_or-set_other (leaf_cells p r x f) (8 * b + 2) (8 * r + 1) _ 0 (omega arith) ∙ get_or-set_same (set p (8 * r) x) (8 * r + 1) f 0 (simp length-set (omega arith));
  count = get_or-set_same (leaf_cells p r x f) (8 * b + 2) _ 0 (omega (arith, long2)) ∙ sum (get_or (leaf_cells p r x f) (8 * b + 2) 0) (get_or p (8 * b + 2) 0) (inner (8 * b + 2) (omega arith) (omega arith));
  other = λ i a c d. get_or-set_other (leaf_cells p r x f) (8 * b + 2) i _ 0 d ∙ inner i a c;
  long = length-set (leaf_cells p r x f) (8 * b + 2) _ ∙ long2;
}
  where
    inner : (i : ℕ) → (i ≡ 8 * r → ⊥) → (i ≡ 8 * r + 1 → ⊥) → get_or (leaf_cells p r x f) i 0 ≡ get_or p i 0
    inner i a c = get_or-set_other (set p (8 * r) x) (8 * r + 1) i f 0 c ∙ get_or-set_other p (8 * r) i x 0 a

    long2 : length (leaf_cells p r x f) ≡ length p
    long2 = length-set (set p (8 * r) x) (8 * r + 1) f ∙ length-set p (8 * r) x

    sum : (y z : ℕ) → y ≡ z → y + 1 ≡ suc z
    sum y z e = omega arith

-- the stores of a leaf leave the counts
pub counts_stay : (p : List ℕ) (r x f b : ℕ) → get_or (leaf_cells p r x f) (8 * b + 2) 0 ≡ get_or p (8 * b + 2) 0
counts_stay p r x f b = get_or-set_other (set p (8 * r) x) (8 * r + 1) (8 * b + 2) f 0 (omega arith) ∙ get_or-set_other p (8 * r) (8 * b + 2) x 0 (omega arith)

pub leaf_long : (p : List ℕ) (r x f : ℕ) → length (leaf_cells p r x f) ≡ length p
leaf_long p r x f = length-set (set p (8 * r) x) (8 * r + 1) f ∙ length-set p (8 * r) x

appended : (p p' : List ℕ) (b r x f : ℕ) → Cells p p' b r x f → (b ≡ r → ⊥) → count_at p r ≡ 0 → Appended p p' b r x f
appended p p' b r x f h ne z = record {
  scalar_new = scalar_is p' r ∙ h.scalar;
  first_new = first_is p' r ∙ h.first;
  count_new = count_is p' r ∙ h.other (8 * r + 2) (omega arith) (omega arith) (λ e. ne (omega arith)) ∙ sym (count_is p r) ∙ z;
  count_parent = count_is p' b ∙ h.count ∙ ap suc (sym (count_is p b));
  scalar_other = λ i n. scalar_is p' i ∙ h.other (8 * i) (λ e. n (omega arith)) (omega arith) (omega arith) ∙ sym (scalar_is p i);
  first_other = λ i n. first_is p' i ∙ h.other (8 * i + 1) (omega arith) (λ e. n (omega arith)) (omega arith) ∙ sym (first_is p i);
  count_other = λ i n m. count_is p' i ∙ h.other (8 * i + 2) (omega arith) (omega arith) (λ e. m (omega arith)) ∙ sym (count_is p i);
  mark_same = marks;
}
  where
    marks : (i : ℕ) → mark_at p' i ≡ mark_at p i
    marks zero = root_mark p' ∙ sym (root_mark p)
    marks (suc i) = mark_is p' (suc i) (omega arith) ∙ h.other (8 * suc i + 3) (omega arith) (omega arith) (omega arith) ∙ sym (mark_is p (suc i) (omega arith))

-- the leaf
pub leaf_done : (p next : List ℕ) (d b x : ℕ) (p' next' : List ℕ) → suc b ≡ row next d → d < 255 → length next ≡ 257 → 8 * row next d ≤ length p + 4 → 8 * row next (d + 1) + 4 ≤ length p
    → (b ≡ row next (d + 1) → ⊥) → count_at p (row next (d + 1)) ≡ 0
    → p' ≡ one_more (leaf_cells p (row next (d + 1)) x (row next (d + 2))) (row next d - 1) → next' ≡ set next (d + 1) (row next (d + 1) + 1)
    → Done p p' (row next) (row next') d b x
leaf_done p next d b x p' next' parent deep many fb fr ne z e f =
    let b' : row next d - 1 ≡ b = omega arith in
    let s1 : d + 1 ≡ suc d = omega arith in
    let s2 : d + 2 ≡ suc (suc d) = omega arith in
    let h : Cells p p' b (row next (d + 1)) x (row next (d + 2))
    = subst (λ (q : List ℕ). Cells p q b (row next (d + 1)) x (row next (d + 2))) (ap (one_more (leaf_cells p (row next (d + 1)) x (row next (d + 2)))) (sym b') ∙ sym e) (cells p b (row next (d + 1)) x (row next (d + 2)) fr (omega arith)) in
    record {
      appended = subst (λ (k : ℕ). Appended p p' b (row next (suc d)) x (row next k)) s2 (subst (λ (k : ℕ). Appended p p' b (row next k) x (row next (d + 2))) s1 (appended p p' b (row next (d + 1)) x (row next (d + 2)) h ne z));
      up = ap (λ (l : List ℕ). row l (suc d)) f ∙ ap (row (set next (d + 1) (row next (d + 1) + 1))) (sym s1) ∙ get_or-set_same next (d + 1) (row next (d + 1) + 1) 0 (omega arith) ∙ next_one (row next (d + 1)) (row next (suc d)) (ap (row next) s1);
      other = λ i n. ap (λ (l : List ℕ). row l i) f ∙ get_or-set_other next (d + 1) i (row next (d + 1) + 1) 0 (λ t. n (omega arith));
      same_long = h.long;
    }
  where
    next_one : (y z : ℕ) → y ≡ z → y + 1 ≡ suc z
    next_one y z e = omega arith

-- the mark
pub mark_set : (p : List ℕ) (i m : ℕ) (p' : List ℕ) → 0 < i → 8 * i + 4 ≤ length p → p' ≡ set p (8 * i + 3) m → Sets p p' i m
mark_set p i m p' o l e = record {
  scalar_same = λ k. scalar_is p' k ∙ other (8 * k) (omega arith) ∙ sym (scalar_is p k);
  first_same = λ k. first_is p' k ∙ other (8 * k + 1) (omega arith) ∙ sym (first_is p k);
  count_same = λ k. count_is p' k ∙ other (8 * k + 2) (omega arith) ∙ sym (count_is p k);
  mark_new = mark_is p' i o ∙ ap (λ (q : List ℕ). get_or q (8 * i + 3) 0) e ∙ get_or-set_same p (8 * i + 3) m 0 (omega arith);
  mark_other = marks;
  same_long = ap length e ∙ length-set p (8 * i + 3) m;
}
  where
    other : (k : ℕ) → (k ≡ 8 * i + 3 → ⊥) → get_or p' k 0 ≡ get_or p k 0
    other k n = ap (λ (q : List ℕ). get_or q k 0) e ∙ get_or-set_other p (8 * i + 3) k m 0 n

    marks : (k : ℕ) → (k ≡ i → ⊥) → mark_at p' k ≡ mark_at p k
    marks zero n = root_mark p' ∙ sym (root_mark p)
    marks (suc k) n = mark_is p' (suc k) (omega arith) ∙ other (8 * suc k + 3) (λ t. n (omega arith)) ∙ sym (mark_is p (suc k) (omega arith))

-- what is beside the dictionary stays
pub leaf_beside : (p : List ℕ) (r x f b : ℕ) → Beside p (one_more (leaf_cells p r x f) b)
leaf_beside p r x f b = record { root = same 3 (omega arith) (omega arith) (omega arith); aside = λ i k l m. same (8 * i + k) (omega arith) (omega arith) (omega arith) }
  where
    same : (k : ℕ) → (k ≡ 8 * r → ⊥) → (k ≡ 8 * r + 1 → ⊥) → (k ≡ 8 * b + 2 → ⊥) → get_or (one_more (leaf_cells p r x f) b) k 0 ≡ get_or p k 0
    same k a c d = get_or-set_other (leaf_cells p r x f) (8 * b + 2) k _ 0 d ∙ get_or-set_other (set p (8 * r) x) (8 * r + 1) k f 0 c ∙ get_or-set_other p (8 * r) k x 0 a

pub mark_beside : (p : List ℕ) (i m : ℕ) → 0 < i → Beside p (set p (8 * i + 3) m)
mark_beside p i m o = record { root = get_or-set_other p (8 * i + 3) 3 m 0 (omega arith); aside = λ k r l h. get_or-set_other p (8 * i + 3) (8 * k + r) m 0 (omega arith) }
