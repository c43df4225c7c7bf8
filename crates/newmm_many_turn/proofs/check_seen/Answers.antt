use Rattle.std.specs.Prelude.{Ok, Err, Result, IfErr}
use Rattle.std.specs.Borrow.{Bor}
use native.Mathlib.Omega.{arith}
use Prim.Native.Nat.{ℕ}
use mathlib.Core.Path.{◌≡◌, refl, sym, subst}
use mathlib.Core.List.{List}
use lib.ListN.{length}
use Rattle.refusal.specs.declared.Refusal.{Refusal}
use Rattle.refusal.specs.Answers.{answer}
use Rattle.refusal.proofs.Causes.{again, handed_on}
use Rattle.trie_check.specs.Refusals.{read_causes}
use Rattle.trie_check.proofs.Refusals.{check_text, check_pool, check_all}
use Rattle.newmm_answers.specs.Answers.{first_causes}
use Rattle.newmm_answers.proofs.Checks.{refused_early, short, refused_scratch, accepted_early}
use Rattle.newmm_many_turn.specs.inner.Knowing.{seen_in}
use Rattle.newmm_many_turn.proofs.Known.{none_yes, none_no}
use Rattle.newmm_many_turn.proofs.check_seen.Goals as goal

pub returns-in_err-n-clause-refused : goal.returns-in_err-n-clause-refused
returns-in_err-n-clause-refused c =
    subst
    (λ (x : Result (Bor (List ℕ)) Refusal). IfErr x
    (λ r. ◌≡◌ {A = Result ℕ Refusal} (Err r) (answer (first_causes c.args.text.now (seen_in c.args.view) c.args.cells) (length c.args.text.now))))
    (sym (handed_on c.from_residual.ensures.1))
    (refused_early c.args.text.now (seen_in c.args.view) c.args.cells (check_text c.args.text.now (seen_in c.args.view) c.in_err-n.ensures refl) refl)

pub returns-in_default-clause-refused : goal.returns-in_default-clause-refused
returns-in_default-clause-refused c =
    refused_early c.args.text.now (seen_in c.args.view) c.args.cells
    (check_pool c.args.text.now (seen_in c.args.view) c.in_ok-n.ensures refl (none_yes c.in_default.is)) refl

pub scratch_for-needed-requires : goal.scratch_for-needed-requires
scratch_for-needed-requires c =
    let read : ◌≡◌ {A = Result ℕ Refusal} (Ok c.in_ok-n.n) (answer (read_causes c.args.text.now (seen_in c.args.view)) (length c.args.text.now)) = check_all c.args.text.now (seen_in c.args.view) c.in_ok-n.ensures refl (none_no c.in-Some.is) in
    omega (arith, short c.args.text.now (seen_in c.args.view) 0 read refl)

pub returns-then-cells-needed-clause-refused : goal.returns-then-cells-needed-clause-refused
returns-then-cells-needed-clause-refused c =
    let read : ◌≡◌ {A = Result ℕ Refusal} (Ok c.in_ok-n.n) (answer (read_causes c.args.text.now (seen_in c.args.view)) (length c.args.text.now)) = check_all c.args.text.now (seen_in c.args.view) c.in_ok-n.ensures refl (none_no c.in-Some.is) in
    refused_scratch c.args.text.now (seen_in c.args.view) c.args.cells read refl
    c.scratch_for-needed.ensures c.if-cells-needed.true

pub returns-clause-seen : goal.returns-clause-seen
returns-clause-seen c =
    let read : ◌≡◌ {A = Result ℕ Refusal} (Ok c.in_ok-n.n) (answer (read_causes c.args.text.now (seen_in c.args.view)) (length c.args.text.now)) = check_all c.args.text.now (seen_in c.args.view) c.in_ok-n.ensures refl (none_no c.in-Some.is) in (
      c.in-Some.is,
      again (first_causes c.args.text.now (seen_in c.args.view) c.args.cells) (length c.args.text.now) (length c.args.text.now)
          (sym (accepted_early c.args.text.now (seen_in c.args.view) c.args.cells read refl
          c.scratch_for-needed.ensures c.if-cells-needed.false)),
    )
