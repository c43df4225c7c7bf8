use Rattle.std.proofs.Common.{sym, ap, ◌∙◌}
use Rattle.sheet_bytes.proofs.Scanning.{leading_is}
use Rattle.word_lines.specs.Lines.{answered}
use Rattle.word_lines.proofs.Taking.{no_class, word_added}
use Rattle.word_lines.proofs.take_line.Goals as goal

pub returns-then-class-gt-MAX_CLASS : goal.returns-then-class-gt-MAX_CLASS
returns-then-class-gt-MAX_CLASS c =
    let both = no_class c.args.line.now c.args.pool.now c.args.scalars.now c.args.positions.now (c.count_before-tab.ensures ∙ sym (leading_is _ _)) c.class_behind-class.ensures c.if-class-gt-MAX_CLASS.true in
    record { value = both.0; pool_by = both.1.0; scalars_after = both.1.1.0; positions_after = both.1.1.1 }

pub returns-in-Ok : goal.returns-in-Ok
returns-in-Ok c =
    let both = word_added c.args.line.now c.args.pool.now c.args.scalars.now c.args.positions.now (c.count_before-tab.ensures ∙ sym (leading_is _ _)) c.class_behind-class.ensures c.if-class-gt-MAX_CLASS.false c.front.ensures.result_value c.add_term.new.pool (c.add_term.ensures.value, (c.add_term.ensures.after, (c.add_term.ensures.scalars_after, c.add_term.ensures.positions_after))) in
    record { value = sym (ap answered c.in-Ok.is) ∙ both.0; pool_by = both.1.0; scalars_after = both.1.1.0; positions_after = both.1.1.1 }

pub returns-in-Err : goal.returns-in-Err
returns-in-Err c =
    let both = word_added c.args.line.now c.args.pool.now c.args.scalars.now c.args.positions.now (c.count_before-tab.ensures ∙ sym (leading_is _ _)) c.class_behind-class.ensures c.if-class-gt-MAX_CLASS.false c.front.ensures.result_value c.add_term.new.pool (c.add_term.ensures.value, (c.add_term.ensures.after, (c.add_term.ensures.scalars_after, c.add_term.ensures.positions_after))) in
    record { value = sym (ap answered c.in-Err.is) ∙ both.0; pool_by = both.1.0; scalars_after = both.1.1.0; positions_after = both.1.1.1 }
