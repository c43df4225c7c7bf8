-- That a node may stand where it does, from its cells. Assumes nothing.
use mathlib.Core.Path.{◌≡◌, sym, subst, ◌∙◌}
use mathlib.Core.Bool.{Bool, true, false, not}
use mathlib.Core.List.{List}
use Prim.Native.Nat.{ℕ, suc, ◌+◌, ◌*◌, ◌≤◌, ◌<◌}
use native.Mathlib.Omega.{arith}
use borrow.Author.Tests.{lt-ltb, not-true, not-false}
use lib.ListN.{get_or}
use Rattle.char_string_scalars.specs.Scalars.{is_scalar}
use Rattle.char_string_white_space.specs.Trimmed.{is_trimmed}
use Rattle.char_string_white_space.proofs.WhiteSpace.{stays_between}
use Rattle.trie_pool.specs.Cells.{scalar_at, first_at, count_at, mark_at}
use Rattle.trie_pool.proofs.Shape.{mark_is}
use Rattle.trie_node.specs.inner.Checks.{Decides, Legal, Inner, Stands}
use Rattle.trie_node.proofs.Decide.{clash}

-- ---- the scalar

thai_legal : (c : ℕ) → c ≤ 0xE5B → is_scalar c ≡ true
unfolding is_scalar
thai_legal c h = simp (lt-ltb c 0xD800 (omega arith))

pub legal_thai : (c m : ℕ) → (0xE01 ≤ c) × (c ≤ 0xE5B) → Legal c m
legal_thai c m h = record { legal = thai_legal c h.1; stop = λ l. stays_between c (omega (arith, h.0)) (omega (arith, h.1)) }

pub legal_inside : (c m : ℕ) → is_scalar c ≡ true → m ≡ 0 → Legal c m
legal_inside c m legal none = record { legal = legal; stop = λ l. absurd (omega arith) }

-- where a word ends, the scalar must not be trimmed
pub legal_end : (c m : ℕ) → is_scalar c ≡ true → (t : Bool) → (m ≡ 0 → ⊥) → t ≡ is_trimmed c → Decides (not t) (Legal c m)
legal_end c m legal t some e = record {
  yes' = λ y. record { legal = legal; stop = λ l. sym e ∙ not-true _ y };
  no' = λ y h. clash (sym (h.stop (omega arith)) ∙ sym e ∙ not-false _ y);
}

-- ---- the node

pub inner_legal : {c k m : ℕ} → Inner c k m → Legal c m
inner_legal h = record { legal = h.fit.legal; stop = h.fit.stop }

pub inner_join : {c k m : ℕ} → Legal c m → 1 ≤ k + m → m ≤ 65536 → Inner c k m
inner_join h leaf mark = record { fit = record { legal = h.legal; mark = mark; stop = h.stop }; leaf = leaf }

module _ (p : List ℕ) (i : ℕ) (l : 0 < i) where
  cells : Inner (scalar_at p i) (count_at p i) (mark_at p i) → Inner (get_or p (8 * i) 0) (get_or p (8 * i + 2) 0) (get_or p (8 * i + 3) 0)
  unfolding scalar_at count_at
  cells h = subst (λ (m : ℕ). Inner (scalar_at p i) (count_at p i) m) (mark_is p i l) h

  back : Inner (get_or p (8 * i) 0) (get_or p (8 * i + 2) 0) (get_or p (8 * i + 3) 0) → Inner (scalar_at p i) (count_at p i) (mark_at p i)
  unfolding scalar_at count_at
  back h = subst (λ (m : ℕ). Inner (scalar_at p i) (count_at p i) m) (sym (mark_is p i l)) h

  -- what is decided of its cells is decided of the node
  pub stands : (s f : ℕ) (b : Bool) → get_or p (8 * i + 1) 0 ≡ f → f ≡ s → Decides b (Inner (get_or p (8 * i) 0) (get_or p (8 * i + 2) 0) (get_or p (8 * i + 3) 0)) → Decides b (Stands p i s)
  unfolding first_at
  stands s f b e e' d = record {
    yes' = λ y. record { first = e ∙ e'; inner = back (d.yes' y) };
    no' = λ y h. d.no' y (cells h.inner);
  }

  pub first_not : (s f : ℕ) → f ≡ s → (get_or p (8 * i + 1) 0 ≡ f → ⊥) → Stands p i s → ⊥
  unfolding first_at
  first_not s f e ne h = ne (h.first ∙ sym e)
