use Prim.Native.Nat.{◌+◌}
use lib.ListN.{get_or}
use borrow.Author.Tests.{not-true, eqb-false}
use Rattle.tcc_rules.proofs.Classes.{is_no}
use Rattle.tcc_rules.proofs.Tails.{k_unmarked}
use Rattle.tcc_match.proofs.group.unmarked.Goals as goal

pub returns : goal.returns
returns c =
    λ e.
    let a = c.args in
    k_unmarked a.text.now a.p
    (is_no (get_or a.text.now (a.p + 1) 0) 0xE4C c.if-text-p-eq-THANTHAKHAT.false)
    (is_no (get_or a.text.now (a.p + 2) 0) 0xE4C c.if-text-p-eq-THANTHAKHAT-2.false)
    (is_no (get_or a.text.now (a.p + 3) 0) 0xE4C (eqb-false _ _ (not-true _ e)))
