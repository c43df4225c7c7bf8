use Rattle.std.proofs.Common.{ℕ, List, ◌∙◌}
use Rattle.utf8.specs.Decoding.{scalars_of}
use Rattle.refusal.proofs.Causes.{handed_on}
use Rattle.trie_char_answers.specs.Answers.{add_answer, added}
use Rattle.sheet_replies.proofs.Replying.{decoded_are, stops, pool_stop, lent_fits, lent_size, pool_text}
use Rattle.word_lines.proofs.Taking.{answered_text}
use Rattle.word_lines.proofs.add_term.Goals as goal

pub returns-in_err-n : goal.returns-in_err-n
returns-in_err-n c =
    let both = decoded_are c.args.word.now c.args.scalars.now c.args.positions.now (c.decode.ensures.value, (c.decode.ensures.out_after, c.decode.ensures.positions_after)) in
    record {
      value = handed_on c.from_residual.ensures.1 ∙ stops c.args.word.now c.args.scalars.now c.args.positions.now (c.decode.ensures.value, (c.decode.ensures.out_after, c.decode.ensures.positions_after)) c.in_err-n.was (add_answer (scalars_of c.args.word.now) c.args.class c.args.pool.now);
      after = pool_stop c.args.word.now c.args.scalars.now c.args.positions.now (c.decode.ensures.value, (c.decode.ensures.out_after, c.decode.ensures.positions_after)) c.in_err-n.was (add_answer (scalars_of c.args.word.now) c.args.class c.args.pool.now) c.args.pool.now (added (scalars_of c.args.word.now) c.args.class c.args.pool.now);
      scalars_after = both.0;
      positions_after = both.1;
    }

pub slice_bounds-add_class-end : goal.slice_bounds-add_class-end
slice_bounds-add_class-end c = lent_fits c.args.word.now c.args.scalars.now c.args.positions.now (c.decode.ensures.value, (c.decode.ensures.out_after, c.decode.ensures.positions_after)) c.in_ok-n.was

pub slice_bounds-add_class-end-2 : goal.slice_bounds-add_class-end-2
slice_bounds-add_class-end-2 c = lent_size c.args.word.now c.args.scalars.now c.args.positions.now (c.decode.ensures.value, (c.decode.ensures.out_after, c.decode.ensures.positions_after)) c.in_ok-n.was

pub returns : goal.returns
returns c =
    let both = decoded_are c.args.word.now c.args.scalars.now c.args.positions.now (c.decode.ensures.value, (c.decode.ensures.out_after, c.decode.ensures.positions_after)) in
    record {
      value = answered_text c.args.word.now c.args.scalars.now c.args.positions.now (c.decode.ensures.value, (c.decode.ensures.out_after, c.decode.ensures.positions_after)) c.in_ok-n.was (λ (w : List ℕ). add_answer w c.args.class c.args.pool.now) c.add_class.ensures.value;
      after = pool_text c.args.word.now c.args.scalars.now c.args.positions.now (c.decode.ensures.value, (c.decode.ensures.out_after, c.decode.ensures.positions_after)) c.in_ok-n.was (λ (w : List ℕ). add_answer w c.args.class c.args.pool.now) (λ (w : List ℕ). added w c.args.class c.args.pool.now) c.args.pool.now c.add_class.new.pool c.add_class.ensures.value c.add_class.ensures.after;
      scalars_after = both.0;
      positions_after = both.1;
    }
