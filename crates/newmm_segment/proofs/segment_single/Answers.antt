use native.Mathlib.Omega.{arith}
use mathlib.Core.Path.{sym, ◌∙◌}
use Rattle.trie_pool.specs.Words.{holds}
use Rattle.newmm_segment.proofs.Samples.{lent, written}
use Rattle.newmm_segment.proofs.Rounds.{in_parts_is}
use Rattle.newmm_segment.proofs.Modes.{plain_is, whole_is, chosen, short_is, as_cut}
use Rattle.newmm_segment.proofs.segment_single.Goals as goal

pub one_cut-requires : goal.one_cut-requires
one_cut-requires c = lent c.requires c.args.text.now (omega arith)

pub returns-then-text-lt-TEXT_SCAN_END : goal.returns-then-text-lt-TEXT_SCAN_END
returns-then-text-lt-TEXT_SCAN_END c =
    as_cut (short_is (holds c.args.pool.now) c.args.text.now c.args.mode c.if-text-lt-TEXT_SCAN_END.true)
    (written c.args.pool.now c.one_cut.ensures)

pub one_cut-requires-in_default : goal.one_cut-requires-in_default
one_cut-requires-in_default c = lent c.requires c.args.text.now (omega arith)

pub returns-in_default : goal.returns-in_default
returns-in_default c =
    as_cut (plain_is (holds c.args.pool.now) c.args.text.now c.args.mode
    (whole_is c.args.mode (sym c.space_cut.ensures ∙ c.in_default.is))) (written c.args.pool.now c.one_cut-in_default.ensures)

pub in_parts-requires : goal.in_parts-requires
in_parts-requires c =
    let s = chosen (holds c.args.pool.now) c.args.text.now c.args.mode _ (sym c.space_cut.ensures ∙ c.in-Some.is) in
    (c.requires, c.if-text-lt-TEXT_SCAN_END.false, s.some, s.most)

pub returns : goal.returns
returns c =
    let s = chosen (holds c.args.pool.now) c.args.text.now c.args.mode _ (sym c.space_cut.ensures ∙ c.in-Some.is) in
    as_cut s.is (as_cut (in_parts_is (holds c.args.pool.now) _ _ c.if-text-lt-TEXT_SCAN_END.false) c.in_parts.ensures)
