use native.Mathlib.Omega.{arith}
use mathlib.Core.Path.{refl, sym, ◌∙◌}
use lib.ListN.{length}
use Rattle.refusal.proofs.Causes.{handed_on}
use Rattle.tcc_rules.proofs.Rising.{few}
use Rattle.tcc.proofs.Deciding.{right, refused, short, fitting}
use Rattle.tcc.proofs.tcc_pos.Goals as goal

pub returns-in_err-n-clause-value : goal.returns-in_err-n-clause-value
returns-in_err-n-clause-value c =
    let e = handed_on c.from_residual.ensures.1 in
    refused c.args.text.now (length c.args.out.now) (e ∙ c.in_err-n.ensures) e

pub put_ends-requires : goal.put_ends-requires
put_ends-requires c = (
  (right c.args.text.now (sym c.in_ok-n.ensures)).small,
  omega (
    arith,
    (right c.args.text.now (sym c.in_ok-n.ensures)).whole,
    few
        c.args.text.now,
    c.if-n-out.true,
  ),
)

pub returns-then-n-out : goal.returns-then-n-out
returns-then-n-out c =
    record {
      value = fitting c.args.text.now (length c.args.out.now)
          (sym c.in_ok-n.ensures) c.put_ends.ensures.value
          (omega (
            arith,
            c.put_ends.ensures.value,
            (right c.args.text.now
                (sym c.in_ok-n.ensures)).whole,
            few c.args.text.now,
            c.if-n-out.true,
          ));
      out_after = c.put_ends.ensures.out_after;
    }

pub returns-then-out-needed : goal.returns-then-out-needed
returns-then-out-needed c =
    record {
      value = short c.args.text.now (length c.args.out.now) (sym c.in_ok-n.ensures)
          c.count_ends-needed.ensures c.if-out-needed.true;
      out_after = refl;
    }

pub put_ends-requires-2 : goal.put_ends-requires-2
put_ends-requires-2 c = (
  (right c.args.text.now (sym c.in_ok-n.ensures)).small,
  omega
      (arith, c.count_ends-needed.ensures, c.if-out-needed.false),
)

pub returns : goal.returns
returns c =
    record {
      value = fitting c.args.text.now (length c.args.out.now)
          (sym c.in_ok-n.ensures) c.put_ends-2.ensures.value
          (omega (arith, c.put_ends-2.ensures.value, c.count_ends-needed.ensures, c.if-out-needed.false));
      out_after = c.put_ends-2.ensures.out_after;
    }
