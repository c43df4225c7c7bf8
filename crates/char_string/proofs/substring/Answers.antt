use mathlib.Core.Path.{ap}
use Rattle.char_string.specs.declared.Span.{Span}
use Rattle.char_string.specs.Parts.{between, cell_at}
use Rattle.char_string.proofs.Pairs.{within_is}
use borrow.Author.Rules.{rules}
use Rattle.char_string.proofs.substring.Goals as goal

pub offset_bounds-text-a : goal.offset_bounds-text-a
offset_bounds-text-a c = let h = within_is _ _ c.fit-s.ensures in search rules

pub slice_bounds-result-count : goal.slice_bounds-result-count
slice_bounds-result-count c = let h = within_is _ _ c.fit-s.ensures in search rules

pub slice_bounds-result-start : goal.slice_bounds-result-start
slice_bounds-result-start c = (within_is _ _ c.fit-s.ensures).order

pub slice_bounds-result-end : goal.slice_bounds-result-end
slice_bounds-result-end c = (within_is _ _ c.fit-s.ensures).inside

pub returns : goal.returns
returns c =
    record {
      result_value = ap (between c.args.text.now) c.fit-s.ensures;
      ref_ptr_value = ap
          (λ (s : Span). cell_at c.args.text.ref_ptr s.start) c.fit-s.ensures;
    }
