use mathlib.Core.List.{[], ◌∷◌}
use Rattle.why_texts.proofs.Adding.{added, added_same, all_added}
use Rattle.why_texts.proofs.Lines.{no_token, some_tokens, written_by}
use Rattle.why_texts.proofs.write_cut.Goals as goal

pub returns-then-n-eq0 : goal.returns-then-n-eq0
returns-then-n-eq0 c = let both = all_added (added_same (no_token c.args.text.now c.args.positions.now c.args.pairs.now c.args.n c.if-n-eq0.true) (added c.args.out.now 0 (10 ∷ []) c.keep.ensures.value c.keep.ensures.row_after)) in record { value = both.0; out_after = both.1 }

pub returns : goal.returns
returns c = let both = written_by c.args.out.now (some_tokens c.args.text.now c.args.positions.now c.args.pairs.now c.args.n c.if-n-eq0.false c.first_pairs.ensures) c.write_tokens.ensures.value c.write_tokens.ensures.out_after in record { value = both.0; out_after = both.1 }
