use native.Mathlib.Omega.{arith}
use Rattle.newmm_skip.proofs.Skipping.{token_skips, token_matches, match_inside}
use Rattle.newmm_skip.proofs.token_end.Goals as goal

pub returns-then-k-eq0 : goal.returns-then-k-eq0
returns-then-k-eq0 c =
    token_skips c.args.text.now c.args.pool.now _ _ c.non_thai_length-k.ensures _
    c.if-k-eq0.true c.skip_end.ensures

pub overflow_add-result : goal.overflow_add-result
overflow_add-result c =
    let h = c.requires.inside in
    omega (
      arith,
      match_inside c.args.text.now c.args.pool.now c.args.b _
          c.non_thai_length-k.ensures (omega arith),
    )

pub returns : goal.returns
returns c = token_matches c.args.text.now c.args.pool.now _ _ c.non_thai_length-k.ensures c.if-k-eq0.false
