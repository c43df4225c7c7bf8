use mathlib.Core.Path.{sym, ◌∙◌}
use Rattle.std.proofs.lemmas.Result.{err_from_is_err_and}
use Rattle.trie_check.proofs.Refusals.{check_text, check_pool, check_all}
use Rattle.trie_plants.specs.Meaning.{plant_meaning}
use Rattle.trie_plants.proofs.Parts.{meaning_is_none}
use Rattle.trie_plants_check.proofs.check_plant.Goals as goal

pub returns-in_err-n : goal.returns-in_err-n
returns-in_err-n c =
    let p = err_from_is_err_and c.from_residual.result c.from_residual.ensures.1 in
    rw (p.1, p.2) (sym c.in_err-n.was ∙ check_text c.args.text.now (plant_meaning c.args.plant c.args.pool.now) c.check_text.ensures c.in_err-n.was)

pub returns-then-not-is_plants : goal.returns-then-not-is_plants
returns-then-not-is_plants c =
    check_pool c.args.text.now (plant_meaning c.args.plant c.args.pool.now) c.check_text.ensures
    c.in_ok-n.was
    (meaning_is_none c.args.plant c.args.pool.now _
    (sym c.if-not-is_plants.true ∙ c.is_plants.ensures))

pub returns : goal.returns
returns c =
    check_all c.args.text.now (plant_meaning c.args.plant c.args.pool.now) c.check_text.ensures
    c.in_ok-n.was
    (meaning_is_none c.args.plant c.args.pool.now _
    (sym c.if-not-is_plants.false ∙ c.is_plants.ensures))
