-- Optional characters. Assumes nothing.
use Prim.Native.Nat.{ℕ, ◌+◌, ◌≤◌, ◌<◌}
use native.Mathlib.Omega.{arith}
use mathlib.Core.Path.{◌≡◌, refl, ◌∙◌, ap}
use mathlib.Core.Bool.{Bool, true, false, cond, not, ◌&&◌, ◌||◌}
use mathlib.Core.List.{List}
use lib.ListN.{length, get_or}
use lib.Dec.{T}
use Rattle.tcc_rules.specs.Patterns.{Range, holds, holds_at, Pattern}
use Rattle.tcc_rules.specs.inner.Optional.{some, skipped}
use Rattle.tcc_rules.proofs.Known.{T_left, T_right, there, at_inside, at_not}
use Rattle.tcc_rules.proofs.Steps.{stops, next, asked, prune, end_by, end_sure, step, stay}

module _ (cl : List Range) (text : List ℕ) (p : ℕ) where
  pub class_there : T (not (holds cl 0)) → holds cl (get_or text p 0) ≡ true → p < length text
  class_there t h = there (some cl) text p (h, refl) t

  pub skip_yes : T (not (holds cl 0)) → holds cl (get_or text p 0) ≡ true → p + 1 ≡ skipped cl text p
  unfolding skipped
  skip_yes t h = rw (at_inside cl text p (class_there t h) ∙ h)

  pub skip_no : holds cl (get_or text p 0) ≡ false → p ≡ skipped cl text p
  unfolding skipped
  skip_no h = rw (at_not cl text p h)

  pub skip_near : skipped cl text p ≤ p + 1
  unfolding skipped
  skip_near = go (holds_at cl text p)
    where
      go : (b : Bool) → cond b (p + 1) p ≤ p + 1
      go true = omega arith
      go false = omega arith

  pub skip_either : (P : ℕ → Type 0) → P p → P (p + 1) → P (skipped cl text p)
  unfolding skipped
  skip_either P stays goes = go (holds_at cl text p)
    where
      go : (b : Bool) → P (cond b (p + 1) p)
      go true = goes
      go false = stays

-- an optional character in front of all that is left: the rest is the same behind it or without it
abbrev pub skips : List Range → Pattern → Pattern → Bool
skips cl a l = (not (holds cl 0) && (asked (some cl) a && (asked (some cl) l && not (stops l)))) && (not (stops a) || stops (prune cl a))

pub skip : (cl : List Range) (a l : Pattern) (text : List ℕ) (p e : ℕ) → T (skips cl a l) → next (some cl) a ≡ prune cl a → next (some cl) l ≡ prune cl l
    → end_by a l text p e ≡ end_by (prune cl a) (prune cl l) text (skipped cl text p) e
skip cl a l text p e t ea el = go (holds cl (get_or text p 0)) refl
  where
    t1 : T (not (holds cl 0) && (asked (some cl) a && (asked (some cl) l && not (stops l))))
    t1 = T_left (not (holds cl 0) && (asked (some cl) a && (asked (some cl) l && not (stops l)))) (not (stops a) || stops (prune cl a)) t

    t2 : T (asked (some cl) a && (asked (some cl) l && not (stops l)))
    t2 = T_right (not (holds cl 0)) (asked (some cl) a && (asked (some cl) l && not (stops l))) t1

    t3 : T (asked (some cl) l && not (stops l))
    t3 = T_right (asked (some cl) a) (asked (some cl) l && not (stops l)) t2

    real_cl : T (not (holds cl 0))
    real_cl = T_left (not (holds cl 0)) (asked (some cl) a && (asked (some cl) l && not (stops l))) t1

    fall : (b : Bool) → T (not b || stops (prune cl a)) → (q : ℕ) → end_by (prune cl a) (prune cl l) text q (cond b p e) ≡ end_by (prune cl a) (prune cl l) text q e
    fall true u q = end_sure (prune cl a) (prune cl l) text q p e u
    fall false u q = refl

    go : (b : Bool) → holds cl (get_or text p 0) ≡ b → end_by a l text p e ≡ end_by (prune cl a) (prune cl l) text (skipped cl text p) e
    go true h =
        step (some cl) a l text p e (h, refl) real_cl (T_left (asked (some cl) a) (asked (some cl) l && not (stops l)) t2) (T_left (asked (some cl) l) (not (stops l)) t3) (T_right (asked (some cl) l) (not (stops l)) t3)
        ∙ ap (λ (b : Pattern). end_by b (next (some cl) l) text (p + 1) (cond (stops a) p e)) ea
        ∙ ap (λ (m : Pattern). end_by (prune cl a) m text (p + 1) (cond (stops a) p e)) el
        ∙ fall (stops a) (T_right (not (holds cl 0) && (asked (some cl) a && (asked (some cl) l && not (stops l)))) (not (stops a) || stops (prune cl a)) t) (p + 1)
        ∙ ap (λ (q : ℕ). end_by (prune cl a) (prune cl l) text q e) (skip_yes cl text p real_cl h)
    go false h = stay cl a l text p e h real_cl ∙ ap (λ (q : ℕ). end_by (prune cl a) (prune cl l) text q e) (skip_no cl text p h)
