use native.Mathlib.Omega.{arith}
use mathlib.Core.Path.{refl}
use lib.ListN.{length-set}
use Rattle.newmm_rules.proofs.Spans.{token_spans}
use Rattle.newmm_word_step.specs.inner.Walks.{given_by}
use Rattle.newmm_one_cut.proofs.put_token.Goals as goal

pub token_end-e-requires : goal.token_end-e-requires
token_end-e-requires c = record { inside = c.requires.inside; root_is = c.requires.root_is; flags_are = c.requires.flags_are }

pub overflow_mul-row : goal.overflow_mul-row
overflow_mul-row c = omega (arith, c.requires.sized.small)

pub overflow_add-row : goal.overflow_add-row
overflow_add-row c =
    let t = token_spans (given_by c.args.text.now c.args.pool.now) c.args.b c.requires.inside in
    omega (arith, t.1, c.token_end-e.ensures, c.requires.size, c.requires.sized.small)

pub offset_bounds-row-m : goal.offset_bounds-row-m
offset_bounds-row-m c =
    let t = token_spans (given_by c.args.text.now c.args.pool.now) c.args.b c.requires.inside in
    omega (arith, t.1, c.token_end-e.ensures, c.requires.size, c.requires.sized.small)

pub bounds-row-m : goal.bounds-row-m
bounds-row-m c =
    let t = token_spans (given_by c.args.text.now c.args.pool.now) c.args.b c.requires.inside in
    omega (arith, t.1, c.token_end-e.ensures, c.requires.size, c.requires.sized.long)

pub overflow_cast-row : goal.overflow_cast-row
overflow_cast-row c =
    let t = token_spans (given_by c.args.text.now c.args.pool.now) c.args.b c.requires.inside in
    omega (arith, t.1, c.token_end-e.ensures, c.requires.size, c.requires.sized.small)

pub offset_bounds-row-ends : goal.offset_bounds-row-ends
offset_bounds-row-ends c = omega (arith, c.requires.room, c.requires.sized.small)

pub bounds-row-ends : goal.bounds-row-ends
bounds-row-ends c = simp length-set (omega (arith, c.requires.room, c.requires.sized.long))

pub returns : goal.returns
returns c =
    record {
      value = c.token_end-e.ensures;
      row_after = refl;
    }
