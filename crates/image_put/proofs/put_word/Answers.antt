use native.Mathlib.Omega.{arith}
use mathlib.Core.Path.{refl}
use Rattle.image_put.proofs.Records.{word_put}
use Rattle.image_put.proofs.put_word.Goals as goal

pub put_four-requires : goal.put_four-requires
put_four-requires c = omega (arith, c.requires)

pub put_two-requires : goal.put_two-requires
put_two-requires c = omega (arith, c.requires, c.put_four.auto.row)

pub put_two-requires-2 : goal.put_two-requires-2
put_two-requires-2 c = omega (arith, c.requires, c.put_four.auto.row, c.put_two.auto.row)

pub put_bytes-requires : goal.put_bytes-requires
put_bytes-requires c = omega (arith, c.requires, c.put_four.auto.row, c.put_two.auto.row, c.put_two-2.auto.row)

pub returns : goal.returns
returns c =
    record {
      value = refl;
      row_after = word_put c.args.row.now c.args.at c.args.class c.args.word.now
          c.put_four.ensures c.put_two.ensures c.put_two-2.ensures c.put_bytes.ensures c.requires;
    }
