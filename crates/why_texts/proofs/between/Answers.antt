use mathlib.Core.Path.{refl}
use Rattle.lists.proofs.Parts.{tail_drop}
use Rattle.why_texts.proofs.Lines.{bytes_back, bytes_behind, bytes_are}
use Rattle.why_texts.proofs.between.Goals as goal

pub slice_bounds-result-end : goal.slice_bounds-result-end
slice_bounds-result-end c = refl

pub returns-then-to-from : goal.returns-then-to-from
returns-then-to-from c = bytes_back c.args.text.now c.args.from c.args.to c.if-to-from.true

pub slice_bounds-result-end-then-text-from : goal.slice_bounds-result-end-then-text-from
slice_bounds-result-end-then-text-from c = refl

pub returns-then-text-from : goal.returns-then-text-from
returns-then-text-from c = bytes_behind c.args.text.now c.args.from c.args.to c.if-text-from.true

pub returns : goal.returns
returns c = bytes_are c.args.text.now c.args.from c.args.to (tail_drop c.args.text.now c.args.from) c.front.ensures.result_value
