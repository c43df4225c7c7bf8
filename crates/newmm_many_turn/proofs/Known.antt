-- The refusals of a text by the view of a pool, if it has words. Assumes nothing.
use Rattle.std.specs.Prelude.{Result, Some, None, IfSome}
use Rattle.std.specs.Prelude.{Option as Maybe}
use Rattle.std.specs.Borrow.{Bor}
use Rattle.refusal.specs.declared.Refusal.{Refusal}
use Prim.Native.Nat.{ℕ}
use mathlib.Core.Path.{◌≡◌, refl, sym, ap, subst}
use mathlib.Core.Bool.{Bool, true, false}
use mathlib.Core.List.{List}
use Rattle.trie_pool.specs.inner.Sound.{Readable}
use Rattle.trie_check.specs.Refusals.{is_none}
use Rattle.newmm_answers.proofs.Views.{Viewed}
use Rattle.newmm_many_turn.specs.inner.Knowing.{seen_in}

pub none_yes : {view : Maybe (Bor (List ℕ))} → view ≡ None → is_none (seen_in view) ≡ true
none_yes e = ap (λ (x : Maybe (Bor (List ℕ))). is_none (seen_in x)) e

pub none_no : {view : Maybe (Bor (List ℕ))} {v : Bor (List ℕ)} → view ≡ Some v → is_none (seen_in view) ≡ false
none_no e = ap (λ (x : Maybe (Bor (List ℕ))). is_none (seen_in x)) e

-- a pool that has words has them in the view
pub seen_view : {view : Maybe (Bor (List ℕ))} {v : Bor (List ℕ)} → view ≡ Some v → IfSome view (λ w. Readable w.now 0) → Viewed (seen_in view) v.now
seen_view {v = v} e r =
    record {
      means = ap seen_in e;
      readable = subst (λ (x : Maybe (Bor (List ℕ))). IfSome x (λ w. Readable w.now 0)) e r;
    }
