-- The single calls that a call with many texts stands for, the pool having a meaning: which words
-- it holds, or nothing where it is refused.
use Rattle.std.specs.Prelude.{◌*◌, length}
use Rattle.std.proofs.Math.Option.{Option}
use Rattle.trie_pool.specs.Meaning.{Words}
use Rattle.newmm_rules.specs.declared.Mode.{Mode}
use Rattle.newmm_answers.specs.Answers.{cut_answer, out_after, scratch_after}
use Rattle.newmm_reasons_answers.specs.Answers.{pair_room, reasons_answer, pairs_after}
use Rattle.newmm_many_answers.specs.declared.Wanted.{Wanted}
use Rattle.newmm_many_answers.specs.declared.Wanted.TheVariants as wants
use Rattle.newmm_many_answers.specs.Turns.{Singly, ends_told}

-- The cut: a cell for each end.
abbrev pub cut_singly : Mode → Option Words → Singly
cut_singly mode m text out scratch =
    record {
      told = cut_answer mode text m (length scratch) (length out);
      out = out_after mode text m (length scratch) out;
      scratch = scratch_after text m scratch;
      cells = ends_told (cut_answer mode text m (length scratch) (length out));
    }

-- The cut with reasons: two cells for each token, its end and its reason.
abbrev pub reasons_singly : Mode → Option Words → Singly
reasons_singly mode m text out scratch =
    record {
      told = reasons_answer mode text m (length scratch) (pair_room out);
      out = pairs_after mode text m (length scratch) out;
      scratch = scratch_after text m scratch;
      cells = 2 * ends_told (reasons_answer mode text m (length scratch) (pair_room out));
    }

-- the one or the other
abbrev pub singly : Wanted → Mode → Option Words → Singly
singly wants.Ends mode m = cut_singly mode m
singly wants.Pairs mode m = reasons_singly mode m
