use native.Mathlib.Omega.{arith}
use mathlib.Core.Path.{sym, ◌∙◌}
use Rattle.trie_pool.specs.Words.{holds}
use Rattle.newmm_segment.proofs.Modes.{whole_is, as_cut}
use Rattle.newmm_tell.proofs.Parts.{text_in_parts, plain_is, short_cells, chosen}
use Rattle.newmm_tell.proofs.tell_text.Goals as goal

pub returns-then-text-lt-TEXT_SCAN_END : goal.returns-then-text-lt-TEXT_SCAN_END
returns-then-text-lt-TEXT_SCAN_END c =
    as_cut (short_cells (holds c.args.pool.now) c.args.text.now c.args.mode c.if-text-lt-TEXT_SCAN_END.true) c.write.ensures

pub returns-in_default : goal.returns-in_default
returns-in_default c =
    as_cut (plain_is (holds c.args.pool.now) c.args.text.now c.args.mode (whole_is c.args.mode (sym c.space_cut.ensures ∙ c.in_default.is)))
    c.write-in_default.ensures

pub in_parts-requires : goal.in_parts-requires
in_parts-requires c =
    let s = chosen (holds c.args.pool.now) c.args.text.now c.args.mode _ (sym c.space_cut.ensures ∙ c.in-Some.is) in
    (c.requires, c.if-text-lt-TEXT_SCAN_END.false, s.some, s.most)

pub returns : goal.returns
returns c =
    let s = chosen (holds c.args.pool.now) c.args.text.now c.args.mode _ (sym c.space_cut.ensures ∙ c.in-Some.is) in
    as_cut s.is (as_cut (text_in_parts (holds c.args.pool.now) _ _ c.if-text-lt-TEXT_SCAN_END.false) c.in_parts.ensures)
