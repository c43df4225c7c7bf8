-- A start leaves two roots, whose fourth cells say the limits. Assumes nothing.
use Rattle.std.specs.Prelude.{Ok, Err}
use Prim.Native.Nat.{ℕ, zero, suc, ◌+◌, ◌-◌, ◌*◌, ◌/◌, ◌≤◌, ◌<◌, min}
use native.Mathlib.Omega.{arith}
use native.Mathlib.Decide.{dec_lt}
use native.Mathlib.Nat.{zero-add}
use mathlib.Core.Path.{◌≡◌, sym, ap, ◌∙◌}
use mathlib.Core.Bool.{Bool, true, cond}
use mathlib.Core.List.{List, ◌++◌}
use mathlib.Core.Option.{some}
use borrow.Author.Tests.{lt-ltb, le-ltb, le-leb}
use lib.ListN.{length, get_or, set, drop, length-set, length-append, length-drop, get_or-append, get_or-eq_default}
use lib.Seq.{get_or-set_same, get_or-set_other, drop-set-lt, drop_at}
use Rattle.refusal.specs.declared.Refusal.TheVariants.{TooFewNodes, LimitsTooLarge}
use Rattle.refusal.specs.Answers.{answer}
use Rattle.refusal.proofs.Causes.{cause_yes, cause_no}
use Rattle.trie_pool.specs.Cells.{used}
use Rattle.trie_pool.specs.Rules.{capacity}
use Rattle.trie_pool.proofs.Rules.{passes_half}
use Rattle.trie_change.specs.inner.Resetting.{RootAlone}
use Rattle.trie_check.proofs.Parts.{inside}
use Rattle.trie_char_answers.specs.Refusals.{fresh_causes}
use Rattle.trie_char_answers.proofs.Freshness.{alone_sound, alone_terms}
use Rattle.trie_plants.specs.declared.Plant.{Plant}
use Rattle.trie_plants.specs.declared.Plant.TheVariants.{A, B}
use Rattle.trie_plants.specs.Halves.{half_of, room_of}
use Rattle.trie_plants.specs.Rules.{in_own_half, is_plants}
use Rattle.trie_plants.proofs.Parts.{half_low, half_long, is_plants_holds, terms_yes}
use Rattle.trie_plants.proofs.Same.{used_same, term_same, sound_used, cell_of, cell_past}
use Rattle.trie_plants_answers.specs.Refusals.{limits_cause, start_causes}
use Rattle.trie_plants_answers.specs.Changes.{PlantsBegin}

-- ---- refusals

pub start_short : (limit_a limit_b : ℕ) (old : List ℕ) → length old < 8 → Err (TooFewNodes 1) ≡ answer (start_causes limit_a limit_b old) 0
start_short limit_a limit_b old l = sym (ap (λ (b : Bool). cond b (Err (TooFewNodes 1)) (cond (limits_cause limit_a limit_b old).holds (Err LimitsTooLarge) (Ok 0))) (lt-ltb (length old) 8 l))

module _ (limit_a limit_b : ℕ) (old : List ℕ) (room : 8 ≤ length old) where
  first : answer (fresh_causes old) 0 ≡ Ok 0
  first = ap (λ (b : Bool). cond b (Err (TooFewNodes 1)) (Ok 0)) (le-ltb (length old) 8 room)

  pub start_large : capacity old - 1 < limit_a + limit_b → Err LimitsTooLarge ≡ answer (start_causes limit_a limit_b old) 0
  start_large l = cause_yes (fresh_causes old) (limits_cause limit_a limit_b old) 0 0 first (lt-ltb (capacity old - 1) (limit_a + limit_b) l)

  pub start_fits : limit_a + limit_b ≤ capacity old - 1 → Ok 0 ≡ answer (start_causes limit_a limit_b old) 0
  start_fits l = cause_no (fresh_causes old) (limits_cause limit_a limit_b old) 0 0 first (le-ltb (capacity old - 1) (limit_a + limit_b) l)

-- ---- the pool: roots is what the nodes were set to before the last four cells were written

module _ (limit_a limit_b : ℕ) (old : List ℕ) (room : 8 ≤ length old) (n : ℕ) (n_is : n ≡ min (length old / 8) 1048576) (fits : limit_a + limit_b ≤ n - 1)
    (roots : List ℕ) (size : length roots ≡ 8 * n) (h : RootAlone roots) (a b : ℕ) (a_is : a ≡ limit_a + 1) (b_is : b ≡ limit_b + 1) where
  abbrev base : List ℕ
  base = roots ++ drop (8 * n) old

  abbrev new : List ℕ
  new = set (set (set (set base 3 a) 4 1) 5 1) 7 b

  base_long : length base ≡ length old
  base_long = omega (arith, length-append roots (drop (8 * n) old), length-drop (8 * n) old, inside old n n_is, size)

  pub start_long : length new ≡ length old
  start_long = length-set (set (set (set base 3 a) 4 1) 5 1) 7 b ∙ length-set (set (set base 3 a) 4 1) 5 1 ∙ length-set (set base 3 a) 4 1 ∙ length-set base 3 a ∙ base_long

  n_new : n ≡ capacity new
  n_new = n_is ∙ ap (λ (k : ℕ). min (k / 8) 1048576) (sym start_long)

  some_node : 1 ≤ n
  some_node = omega arith

  -- ---- cells

  past_7 : (k : ℕ) → (k ≡ 7 → ⊥) → get_or new k 0 ≡ get_or (set (set (set base 3 a) 4 1) 5 1) k 0
  past_7 k ne = get_or-set_other (set (set (set base 3 a) 4 1) 5 1) 7 k b 0 ne

  past_5 : (k : ℕ) → (k ≡ 5 → ⊥) → get_or (set (set (set base 3 a) 4 1) 5 1) k 0 ≡ get_or (set (set base 3 a) 4 1) k 0
  past_5 k ne = get_or-set_other (set (set base 3 a) 4 1) 5 k 1 0 ne

  past_4 : (k : ℕ) → (k ≡ 4 → ⊥) → get_or (set (set base 3 a) 4 1) k 0 ≡ get_or (set base 3 a) k 0
  past_4 k ne = get_or-set_other (set base 3 a) 4 k 1 0 ne

  cell : (k : ℕ) → (k ≡ 3 → ⊥) → (k ≡ 4 → ⊥) → (k ≡ 5 → ⊥) → (k ≡ 7 → ⊥) → k < 8 * n → get_or new k 0 ≡ get_or roots k 0
  cell k n3 n4 n5 n7 l = past_7 k n7 ∙ past_5 k n5 ∙ past_4 k n4 ∙ get_or-set_other base 3 k a 0 n3 ∙ get_or-append roots (drop (8 * n) old) 0 k (omega (arith, size))

  cell_3 : get_or new 3 0 ≡ a
  cell_3 = past_7 3 (omega arith) ∙ past_5 3 (omega arith) ∙ past_4 3 (omega arith) ∙ get_or-set_same base 3 a 0 (omega (arith, base_long))

  cell_4 : get_or new 4 0 ≡ 1
  cell_4 = past_7 4 (omega arith) ∙ past_5 4 (omega arith) ∙ get_or-set_same (set base 3 a) 4 1 0 (omega (arith, base_long, length-set base 3 a))

  cell_5 : get_or new 5 0 ≡ 1
  cell_5 = past_7 5 (omega arith) ∙ get_or-set_same (set (set base 3 a) 4 1) 5 1 0 (omega (arith, base_long, length-set base 3 a, length-set (set base 3 a) 4 1))

  cell_7 : get_or new 7 0 ≡ b
  cell_7 = get_or-set_same (set (set (set base 3 a) 4 1) 5 1) 7 b 0
      (omega (arith, base_long, length-set base 3 a, length-set (set base 3 a) 4 1, length-set (set (set base 3 a) 4 1) 5 1))

  zero_at : (k : ℕ) → 2 ≤ k → get_or roots k 0 ≡ 0
  zero_at k l = h.others k (omega arith) (omega arith)

  -- each half is the root alone, but for its fourth cell
  in_a : (i r : ℕ) → r < 4 → (8 * i + r ≡ 3 → ⊥) → Dec (8 * i + r < 8 * n) → get_or (half_of A new) (8 * i + r) 0 ≡ get_or roots (8 * i + r) 0
  in_a i r l ne (yes d) =
      cell_of A new (8 * i + r) (omega (arith, n_new)) ∙ ap (λ (k : ℕ). get_or new k 0) (zero-add (8 * i + r)) ∙ cell (8 * i + r) ne (omega arith) (omega arith) (omega arith) d
  in_a i r l ne (no d) = cell_past A new (8 * i + r) (omega (arith, n_new)) ∙ sym (get_or-eq_default roots 0 {n = 8 * i + r} (omega (arith, size)))

  root_b : (r : ℕ) → r < 3 → get_or new (4 + (8 * 0 + r)) 0 ≡ get_or roots (8 * 0 + r) 0
  root_b zero l = cell_4 ∙ sym h.used
  root_b (suc zero) l = cell_5 ∙ sym h.first
  root_b (suc (suc zero)) l = cell 6 (omega arith) (omega arith) (omega arith) (omega arith) (omega arith) ∙ zero_at 6 (omega arith) ∙ sym (zero_at 2 (omega arith))
  root_b (suc (suc (suc r))) l = absurd (omega arith)

  in_b : (i r : ℕ) → r < 4 → (8 * i + r ≡ 3 → ⊥) → Dec (4 + (8 * i + r) < 8 * n) → get_or (half_of B new) (8 * i + r) 0 ≡ get_or roots (8 * i + r) 0
  in_b zero r l ne (yes d) = cell_of B new (8 * 0 + r) (omega (arith, n_new)) ∙ root_b r (omega arith)
  in_b (suc i) r l ne (yes d) =
      cell_of B new (8 * suc i + r) (omega (arith, n_new)) ∙ cell (4 + (8 * suc i + r)) (omega arith) (omega arith) (omega arith) (omega arith) d
      ∙ zero_at (4 + (8 * suc i + r)) (omega arith) ∙ sym (zero_at (8 * suc i + r) (omega arith))
  in_b i r l ne (no d) = cell_past B new (8 * i + r) (omega (arith, n_new)) ∙ sym (zero_at (8 * i + r) (omega (arith, some_node)))

  alone : (plant : Plant) (i r : ℕ) → r < 4 → (8 * i + r ≡ 3 → ⊥) → get_or (half_of plant new) (8 * i + r) 0 ≡ get_or roots (8 * i + r) 0
  alone A i r l ne = in_a i r l ne (dec_lt (8 * i + r) (8 * n))
  alone B i r l ne = in_b i r l ne (dec_lt (4 + (8 * i + r)) (8 * n))

  -- ---- the pool

  room_a : room_of A new ≡ a
  room_a = cell_of A new 3 (omega (arith, n_new, some_node)) ∙ cell_3

  room_b : room_of B new ≡ b
  room_b = cell_of B new 3 (omega (arith, n_new, some_node)) ∙ cell_7

  some_room : (plant : Plant) → 1 ≤ room_of plant new
  some_room A = omega (arith, room_a, a_is)
  some_room B = omega (arith, room_b, b_is)

  own : (plant : Plant) → in_own_half plant new ≡ true
  own plant =
      let u : used roots ≡ 1 = h.used in
      let s = sound_used roots (half_of plant new) (alone plant) (omega (arith, u, half_long plant new, half_low plant, n_new, some_node)) (alone_sound roots h (omega (arith, size, some_node))) in
      passes_half (room_of plant new) (half_of plant new) s (omega (arith, u, used_same roots (half_of plant new) (alone plant), some_room plant))

  passes : is_plants new ≡ true
  passes = is_plants_holds A new (own A) (own B) (le-leb (room_of A new + room_of B new) (suc (capacity new)) (omega (arith, room_a, room_b, a_is, b_is, n_new, some_node, fits)))

  pub started : PlantsBegin limit_a limit_b old new
  started = record {
    means = λ plant. terms_yes plant new passes ∙ ap some (λ i v. (term_same roots (half_of plant new) (alone plant) v ∙ alone_terms roots h (omega (arith, size, some_node)) v) i);
    limit_of_a = omega (arith, room_a, a_is);
    limit_of_b = omega (arith, room_b, b_is);
    later = ap (λ (k : ℕ). drop (8 * k) new) (sym n_is) ∙ later ∙ ap (λ (k : ℕ). drop (8 * k) old) n_is;
    kept = start_long;
  }
    where
      later : drop (8 * n) new ≡ drop (8 * n) old
      later =
          drop-set-lt (8 * n) (set (set (set base 3 a) 4 1) 5 1) 7 b (omega (arith, some_node))
          ∙ drop-set-lt (8 * n) (set (set base 3 a) 4 1) 5 1 (omega (arith, some_node))
          ∙ drop-set-lt (8 * n) (set base 3 a) 4 1 (omega (arith, some_node))
          ∙ drop-set-lt (8 * n) base 3 a (omega (arith, some_node))
          ∙ drop_at roots (drop (8 * n) old) (8 * n) size
