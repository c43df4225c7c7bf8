-- The numbers of a text's answer fit cells of 32 bits. Assumes nothing.
use Rattle.std.specs.Prelude.{Ok, Result, Err}
use Rattle.newmm_rules.specs.declared.Ends.{Ends}
use Prim.Native.Nat.{ℕ, ◌*◌, ◌≤◌}
use native.Mathlib.Omega.{arith}
use mathlib.Core.Path.{◌≡◌, refl, sym, ◌∙◌, ap, subst}
use mathlib.Core.Bool.{Bool, true, false, cond}
use mathlib.Core.List.{List, [], ◌∷◌}
use mathlib.Core.Option.{Option}
use lib.ListN.{length}
use borrow.Author.Tests.{ltb-true, ltb-false}
use Rattle.refusal.specs.declared.Refusal.{Refusal}
use Rattle.refusal.specs.Numbers.{detail_of}
use Rattle.refusal.specs.Answers.{Cause, answer}
use Rattle.refusal.proofs.Order.{not_both}
use Rattle.refusal.proofs.Causes.{none_of}
use Rattle.char_string_scalars.specs.Scalars.{first_non_scalar}
use Rattle.trie_pool.specs.Meaning.{Words}
use Rattle.trie_check.specs.Refusals.{held}
use Rattle.newmm_rules.specs.declared.Mode.{Mode}
use Rattle.newmm_answers.specs.Answers.{cut_of, cut_causes, accepts, cut_answer}
use Rattle.newmm_answers.proofs.Cuts.{few_ends, few_edges}
use Rattle.newmm_answers.proofs.Told.{told_ends, told_refused, accepted_is}
use Rattle.newmm_many_answers.specs.Turns.{ends_told}
use Rattle.newmm_many_answers.specs.inner.Small.{Small}

-- the detail of each cause fits, where it is the first that holds
abbrev EachFits : List Cause → Type 0
EachFits [] = Unit {0}
EachFits (q ∷ qs) = (q.holds ≡ true → detail_of q.refusal ≤ 4294967295) × (q.holds ≡ false → EachFits qs)

detail_fits : (rs : List Cause) (n : ℕ) (r : Refusal) → EachFits rs → answer rs n ≡ Err r → detail_of r ≤ 4294967295
detail_fits [] n r e h = not_both h
detail_fits (q ∷ rs) n r e h = go q.holds refl h (λ f k. detail_fits rs n r f k)
  where
    same : ◌≡◌ {A = Result ℕ Refusal} (Err q.refusal) (Err r) → q.refusal ≡ r
    same e = cc

    go : (b : Bool) → q.holds ≡ b → cond b (Err q.refusal) (answer rs n) ≡ Err r → (EachFits rs → answer rs n ≡ Err r → detail_of r ≤ 4294967295) → detail_of r ≤ 4294967295
    go true t k ih = subst (λ (x : Refusal). detail_of x ≤ 4294967295) (same k) (e.0 t)
    go false t k ih = ih (e.1 t) k

module _ (mode : Mode) (text : List ℕ) (m : Option Words) (cells room : ℕ) (size : length text ≤ 4294967295) where
  abbrev words : Words
  words = held m

  abbrev causes : List Cause
  causes = cut_causes mode text m cells room

  each : EachFits causes
  each = (
    λ t. size,
    λ t. let short = ltb-false 65535 (length text) t in (
      λ u. omega (arith, size, ltb-true (first_non_scalar text) (length text) u),
      λ u. (λ v. omega arith, λ v. (λ w. omega (arith, short), λ w. (λ x. omega (arith, short, few_ends mode words text), λ x. tt))),
    ),
  )

  pub small : Small (cut_answer mode text m cells room)
  small =
      record {
        counts = λ n e h.
            let t = told_ends (accepts mode text m cells room) (cut_of mode words text).edges n e h in
            let q = none_of causes (length (cut_of mode words text).ends) n t.0 in
            let short = ltb-false 65535 (length text) q.0 in (
              omega (arith, short, few_ends mode words text, accepted_is causes (length (cut_of mode words text).ends) n t.0),
              omega (arith, short, few_edges mode words text, t.1),
            );
        detail = λ r h.
            detail_fits causes (length (cut_of mode words text).ends) r each
            (told_refused (accepts mode text m cells room) (cut_of mode words text).edges r h);
      }

-- ---- the cells that are written for an answer

pub few_told : {told : Result Ends Refusal} → Small told → ends_told told ≤ 4294967295
few_told {told} s = go told refl
  where
    go : (x : Result Ends Refusal) → told ≡ x → ends_told x ≤ 4294967295
    go (Ok told) h = (s.counts told.ends told.edges h).0
    go (Err r) h = omega arith
