use native.Mathlib.Omega.{arith}
use mathlib.Core.Path.{◌∙◌}
use Rattle.refusal.proofs.Causes.{handed_on}
use Rattle.trie_plants.specs.Meaning.{plant_meaning}
use Rattle.newmm_answers.proofs.Checks.{refused_early, short, refused_scratch, accepted_early}
use Rattle.newmm_plants.proofs.check_plant_cut.Goals as goal

pub returns-in_err-n : goal.returns-in_err-n
returns-in_err-n c =
    let e = handed_on c.from_residual.ensures.1 in
    refused_early c.args.text.now (plant_meaning c.args.plant c.args.pool.now) c.args.cells
    (e ∙ c.in_err-n.ensures) e

pub scratch_for-needed-requires : goal.scratch_for-needed-requires
scratch_for-needed-requires c =
    omega (
      arith,
      short c.args.text.now (plant_meaning c.args.plant c.args.pool.now) 0
          c.check_plant.ensures c.in_ok-n.was,
    )

pub returns-then-cells-needed : goal.returns-then-cells-needed
returns-then-cells-needed c =
    refused_scratch c.args.text.now (plant_meaning c.args.plant c.args.pool.now) c.args.cells
    c.check_plant.ensures c.in_ok-n.was c.scratch_for-needed.ensures c.if-cells-needed.true

pub returns : goal.returns
returns c =
    accepted_early c.args.text.now (plant_meaning c.args.plant c.args.pool.now) c.args.cells
    c.check_plant.ensures c.in_ok-n.was c.scratch_for-needed.ensures c.if-cells-needed.false
