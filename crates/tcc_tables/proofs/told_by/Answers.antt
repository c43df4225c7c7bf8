use native.Mathlib.Omega.{arith}
use mathlib.Core.Path.{refl}
use Rattle.tcc.proofs.Deciding.{right}
use Rattle.tcc_tables.proofs.Putting.{ends_short, winners_short, both_fit}
use Rattle.tcc_tables.proofs.told_by.Goals as goal

pub returns-then-ends-needed : goal.returns-then-ends-needed
returns-then-ends-needed c = (
  ends_short c.args.text.now c.args.ends.now c.args.winners.now c.requires.text_value
      c.count_clusters-needed.ensures c.if-ends-needed.true,
  (refl, refl),
)

pub returns-then-winners-needed : goal.returns-then-winners-needed
returns-then-winners-needed c = (
  winners_short c.args.text.now c.args.ends.now c.args.winners.now c.requires.text_value
      c.count_clusters-needed.ensures c.if-winners-needed.true,
  (refl, refl),
)

pub put_clusters-requires : goal.put_clusters-requires
put_clusters-requires c =
    record {
      text_len_bound = (right c.args.text.now c.requires.text_value).small;
      text_in_bounds = omega (arith, c.count_clusters-needed.ensures, c.if-ends-needed.false);
      text_in_bounds_2 = omega
          (arith, c.count_clusters-needed.ensures, c.if-winners-needed.false);
    }

pub returns : goal.returns
returns c = (
  both_fit c.args.text.now c.args.ends.now c.args.winners.now c.requires.text_value
      c.count_clusters-needed.ensures c.if-ends-needed.false c.if-winners-needed.false,
  (c.put_clusters.ensures.ends_after, c.put_clusters.ensures.winners_after),
)
