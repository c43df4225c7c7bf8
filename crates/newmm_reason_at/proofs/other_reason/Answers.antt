use Rattle.newmm_reason_at.proofs.Telling.{run_here, to_end, to_word, to_run, place_behind}
use Rattle.newmm_reason_at.proofs.other_reason.Goals as goal

pub returns-then-starts_non_thai : goal.returns-then-starts_non_thai
returns-then-starts_non_thai c =
    run_here c.args.text.now c.args.pool.now c.requires.token c.requires.b_value
    c.starts_non_thai.ensures c.if-starts_non_thai.true

pub returns-then-e-text : goal.returns-then-e-text
returns-then-e-text c =
    to_end c.args.text.now c.args.pool.now c.requires.token c.requires.b_value c.starts_non_thai.ensures
    c.if-starts_non_thai.false c.if-e-text.true

pub starts_word-requires : goal.starts_word-requires
starts_word-requires c = place_behind c.requires.place c.requires.token c.if-e-text.false

pub returns-then-starts_word : goal.returns-then-starts_word
returns-then-starts_word c =
    to_word c.args.text.now c.args.pool.now c.requires.token c.requires.b_value c.starts_non_thai.ensures
    c.if-starts_non_thai.false c.if-e-text.false c.starts_word.ensures c.if-starts_word.true

pub returns : goal.returns
returns c =
    to_run c.args.text.now c.args.pool.now c.requires.token c.requires.b_value c.starts_non_thai.ensures
    c.if-starts_non_thai.false c.if-e-text.false c.starts_word.ensures c.if-starts_word.false
