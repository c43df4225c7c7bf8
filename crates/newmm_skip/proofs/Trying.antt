-- The walk over the words at a place, for one at which the search stops. Assumes nothing.
use Prim.Native.Nat.{ℕ, ◌+◌, ◌-◌, ◌≤◌, ◌<◌, min}
use native.Mathlib.Omega.{arith}
use mathlib.Core.Path.{◌≡◌, sym, ◌∙◌, subst}
use mathlib.Core.Bool.{Bool, true, false}
use mathlib.Core.List.{List}
use lib.ListN.{length}
use Rattle.newmm_rules.specs.Words.{span}
use Rattle.newmm_rules.specs.NonDictionary.{is_short, starts_word}
use Rattle.tcc.specs.Flags.{end_flags}
use Rattle.newmm_word_step.specs.declared.Step.{Step}
use Rattle.newmm_word_step.specs.declared.Step.TheVariants.{Nothing, Word, Part}
use Rattle.newmm_word_step.specs.inner.Places.{Place}
use Rattle.newmm_word_step.specs.inner.Walks.{given_by, Walked, Asks, Next, StepIs}
use Rattle.newmm_skip.proofs.Skipping.{Trying, try_first, try_end, try_none, try_part, try_short, try_word}

pub trying_first : {text pool flags : List ℕ} {p limit : ℕ} → Place text pool flags p → limit ≡ p + min 255 (length text - p) → Trying text pool p limit p 0
trying_first {text} {pool} {flags} {p} {limit} a l = try_first text pool p limit (let i = a.inside in omega arith) a.root_is l

module _ {text pool : List ℕ} {p limit e node : ℕ} (t : Trying text pool p limit e node) where
  pub asks : {flags : List ℕ} → flags ≡ end_flags text → e < limit → Asks text pool flags e node
  asks f h = record { inside = omega (arith, t.far); node_is = t.node_is; flags_are = f }

  pub trying_end : limit ≤ e → false ≡ starts_word (given_by text pool) p
  trying_end h = sym (try_end text pool p limit t h)

  module _ (r : Step) (told : (b : ℕ) → Walked text pool b e node → StepIs r text pool b e) where
    here : {x : Step} → r ≡ x → StepIs x text pool p e
    here q = subst (λ (x : Step). StepIs x text pool p e) q (told p t.walked)

    pub trying_none : r ≡ Nothing → false ≡ starts_word (given_by text pool) p
    trying_none q = sym (try_none text pool p limit t (here q))

    module _ (more : e < limit) where
      pub trying_part : {k : ℕ} → r ≡ Part k → Trying text pool p limit (e + 1) k
      trying_part q = try_part text pool p limit t more (here q)

      module _ {k : ℕ} (q : r ≡ Word k) {s : Bool} (is : s ≡ is_short (span (given_by text pool) p (e + 1))) where
        pub trying_short : s ≡ true → Trying text pool p limit (e + 1) k
        trying_short h = try_short text pool p limit t more (here q) (sym is ∙ h)

        pub trying_word : s ≡ false → true ≡ starts_word (given_by text pool) p
        trying_word h = sym (try_word text pool p limit t more (here q) (sym is ∙ h))

  -- the part of the text that is tried
  pub spans : e < limit → (p ≤ e) × (e + 1 ≤ length text)
  spans h = (t.walked.order, omega (arith, t.far))
