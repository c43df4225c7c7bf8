use mathlib.Core.Path.{refl, sym, ◌∙◌}
use Rattle.std.proofs.lemmas.Result.{err_from_is_err_and}
use Rattle.refusal.proofs.Causes.{no_output}
use Rattle.trie_pool.specs.Meaning.{meaning}
use Rattle.trie_check.proofs.Parts.{long}
use Rattle.trie_char_answers.proofs.Reading.{view, asks, prefix_short, prefix_done, prefix_refused}
use Rattle.trie_char_read.proofs.prefix_lengths.Goals as goal

pub returns-in_err-check : goal.returns-in_err-check
returns-in_err-check c =
    let p = err_from_is_err_and c.from_residual.result c.from_residual.ensures.1 in
    let e = p.1 ∙ rw p.2 (sym c.in_err-check.was) in
    record {
      value = e ∙ prefix_refused (meaning c.args.pool.now) c.args.text.now c.check.ensures
          c.in_err-check.was c.args.out.now _;
      out_after = no_output _ _ p.1;
    }

pub slice_bounds-prefix_count-end : goal.slice_bounds-prefix_count-end
slice_bounds-prefix_count-end c = sym (long c.args.pool.now _ c.capacity-cells.ensures)

pub prefix_count-needed-requires : goal.prefix_count-needed-requires
prefix_count-needed-requires c =
    (view c.args.pool.now c.args.text.now c.check.ensures c.in_ok-check.was _
    c.capacity-cells.ensures).readable

pub returns-then-out-needed : goal.returns-then-out-needed
returns-then-out-needed c =
    record {
      value = prefix_short (view c.args.pool.now c.args.text.now c.check.ensures
          c.in_ok-check.was _ c.capacity-cells.ensures) c.args.text.now c.check.ensures
          c.in_ok-check.was c.args.out.now _ c.prefix_count-needed.ensures _ c.if-out-needed.true;
      out_after = refl;
    }

pub slice_bounds-prefix_lengths-end : goal.slice_bounds-prefix_lengths-end
slice_bounds-prefix_lengths-end c = sym (long c.args.pool.now _ c.capacity-cells.ensures)

pub prefix_lengths-written-requires : goal.prefix_lengths-written-requires
prefix_lengths-written-requires c =
    asks (view c.args.pool.now c.args.text.now c.check.ensures c.in_ok-check.was _
    c.capacity-cells.ensures) c.args.text.now c.check.ensures c.in_ok-check.was
    c.args.out.now _ c.prefix_count-needed.ensures c.if-out-needed.false

pub returns : goal.returns
returns c =
    let both = prefix_done (view c.args.pool.now c.args.text.now c.check.ensures c.in_ok-check.was _
    c.capacity-cells.ensures) c.args.text.now c.check.ensures c.in_ok-check.was
    c.args.out.now _ c.prefix_count-needed.ensures c.if-out-needed.false _ _ c.prefix_lengths-written.ensures in record { value = both.0; out_after = both.1 }
