use mathlib.Core.Path.{◌∙◌, ap}
use Prim.Native.Nat.{ℕ}
use Rattle.char_string.specs.Parts.{cell_at}
use Rattle.char_string_trim.proofs.Trimming.{part_is, start_is}
use Rattle.char_string_trim.proofs.trimmed.Goals as goal

pub returns : goal.returns
returns c =
    record {
      result_value = c.substring.ensures.result_value ∙ part_is c.args.word.now _ c.trim-s.ensures;
      ref_ptr_value = c.substring.ensures.ref_ptr_value
          ∙ ap (λ (i : ℕ). cell_at c.args.word.ref_ptr i) (start_is c.args.word.now _ c.trim-s.ensures);
    }
