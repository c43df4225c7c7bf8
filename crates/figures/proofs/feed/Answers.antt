use native.Mathlib.Omega.{arith}
use mathlib.Core.Path.{◌≡◌, refl, sym, ◌∙◌}
use Rattle.newmm_many_answers.specs.Turns.{ends_told}
use Rattle.trie_pool.specs.Meaning.{meaning}
use Rattle.newmm_answers.specs.Calls.{call}
use Rattle.newmm_reasons_answers.specs.Answers.{pair_room}
use Rattle.newmm_told.proofs.Told.{Came, came, told_room, told_fits, cleared_told}
use Rattle.newmm_reasons.proofs.Pairs.{wrote}
use Rattle.figures.specs.Calls.{text_figures}
use Rattle.figures.proofs.Told.{countable, figures_are}
use Rattle.figures.proofs.Calls.{fed_full, fed_joined}
use borrow.Author.Rules.{rules}
use Rattle.figures.proofs.feed.Goals as goal

pub of_told-one-requires : goal.of_told-one-requires
of_told-one-requires c =
    countable c.args.mode c.args.text.now c.args.pool.now c.args.scratch.now
    (pair_room c.args.out.now) c.tell-told.ensures

pub clear_first-requires : goal.clear_first-requires
clear_first-requires c =
    let come : Came c.args.mode c.args.text.now (meaning c.args.pool.now) c.args.scratch.now c.tell-told.new.scratch (pair_room c.args.out.now) c.ends_told-k.result = came c.tell-told.ensures c.ends_told-k.ensures in
    omega (arith, told_fits come)

pub returns-then-is_full : goal.returns-then-is_full
returns-then-is_full c =
    let ones : c.of_told-one.result ≡ text_figures (call c.args.text.now c.args.pool.now c.args.out.now c.args.scratch.now c.args.mode) = c.of_told-one.ensures ∙ figures_are c.args.mode c.args.text.now c.args.pool.now c.args.scratch.now (pair_room c.args.out.now) c.tell-told.ensures in
    let come : Came c.args.mode c.args.text.now (meaning c.args.pool.now) c.args.scratch.now c.tell-told.new.scratch (pair_room c.args.out.now) c.ends_told-k.result = came c.tell-told.ensures c.ends_told-k.ensures in
    fed_full c.args.figures.now
    (call c.args.text.now c.args.pool.now c.args.out.now c.args.scratch.now
    c.args.mode) ones (cleared_told come c.tell-told.auto.scratch c.clear_first.ensures)
    c.is_full.ensures c.if-is_full.true

pub join_cells-requires : goal.join_cells-requires
join_cells-requires c = (search rules, search rules, sym c.is_full.ensures ∙ c.if-is_full.false)

pub take_pairs-requires : goal.take_pairs-requires
take_pairs-requires c =
    let come : Came c.args.mode c.args.text.now (meaning c.args.pool.now) c.args.scratch.now c.tell-told.new.scratch (pair_room c.args.out.now) (ends_told c.tell-told.result) = came c.tell-told.ensures refl in
    (told_fits come, omega (arith, told_room come))

pub returns : goal.returns
returns c =
    let ones : c.of_told-one.result ≡ text_figures (call c.args.text.now c.args.pool.now c.args.out.now c.args.scratch.now c.args.mode) = c.of_told-one.ensures ∙ figures_are c.args.mode c.args.text.now c.args.pool.now c.args.scratch.now (pair_room c.args.out.now) c.tell-told.ensures in
    let come : Came c.args.mode c.args.text.now (meaning c.args.pool.now) c.args.scratch.now c.tell-told.new.scratch (pair_room c.args.out.now) (ends_told c.tell-told.result) = came c.tell-told.ensures refl in
    fed_joined c.args.figures.now
    (call c.args.text.now c.args.pool.now c.args.out.now c.args.scratch.now
    c.args.mode) ones (cleared_told come c.tell-told.auto.scratch c.take_pairs.ensures.scratch)
    c.is_full.ensures c.if-is_full.false c.tell-told.ensures.0 c.join_cells.ensures
    (wrote c.args.out.now come c.take_pairs.ensures.out)
