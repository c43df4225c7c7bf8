use Prim.Native.Nat.{ℕ, ◌/◌}
use mathlib.Core.List.{List}
use lib.ListN.{length}
use Rattle.refusal.specs.Answers.{answer}
use Rattle.utf8.specs.Decoding.{scalars_of}
use Rattle.trie_pool.specs.Meaning.{meaning}
use Rattle.trie_check.specs.Refusals.{held}
use Rattle.newmm_answers.specs.Answers.{accepts, first_causes}
use Rattle.newmm_reasons_answers.specs.Told.{told_of}
use Rattle.newmm_reasons_answers.specs.Answers.{pairs as pairs_of}
use Rattle.sheet_replies.proofs.Replying.{decoded_are, ended_stop, out_stop, clear_stop, lent_fits, lent_size, ended_text, out_text, clear_text}
use Rattle.why_replies.proofs.cut.Goals as goal

pub slice_bounds-cut_reasons-end : goal.slice_bounds-cut_reasons-end
slice_bounds-cut_reasons-end c =
    lent_fits c.args.text.now c.args.scalars.now c.args.positions.now (c.decode-decoded.ensures.value, (c.decode-decoded.ensures.out_after, c.decode-decoded.ensures.positions_after))
    c.in-Ok.is

pub slice_bounds-cut_reasons-end-in-Ok : goal.slice_bounds-cut_reasons-end-in-Ok
slice_bounds-cut_reasons-end-in-Ok c =
    lent_size c.args.text.now c.args.scalars.now c.args.positions.now (c.decode-decoded.ensures.value, (c.decode-decoded.ensures.out_after, c.decode-decoded.ensures.positions_after))
    c.in-Ok.is

pub returns-in-Err : goal.returns-in-Err
returns-in-Err c =
    record {
      value = ended_stop c.args.text.now c.args.scalars.now c.args.positions.now (c.decode-decoded.ensures.value, (c.decode-decoded.ensures.out_after, c.decode-decoded.ensures.positions_after))
          c.in-Err.is
          (accepts c.args.mode (scalars_of c.args.text.now) (meaning c.args.pool.now)
          (length c.args.scratch.now) (length c.args.pairs.now / 2));
      scalars_after = (decoded_are c.args.text.now c.args.scalars.now c.args.positions.now
          (c.decode-decoded.ensures.value, (c.decode-decoded.ensures.out_after, c.decode-decoded.ensures.positions_after))).0;
      positions_after = (decoded_are c.args.text.now c.args.scalars.now c.args.positions.now
          (c.decode-decoded.ensures.value, (c.decode-decoded.ensures.out_after, c.decode-decoded.ensures.positions_after))).1;
      pairs_after = out_stop c.args.text.now c.args.scalars.now c.args.positions.now (c.decode-decoded.ensures.value, (c.decode-decoded.ensures.out_after, c.decode-decoded.ensures.positions_after))
          c.in-Err.is
          (accepts c.args.mode (scalars_of c.args.text.now) (meaning c.args.pool.now)
          (length c.args.scratch.now) (length c.args.pairs.now / 2))
          (pairs_of (told_of c.args.mode (held (meaning c.args.pool.now)) (scalars_of c.args.text.now)))
          c.args.pairs.now;
      scratch_after = clear_stop c.args.text.now c.args.scalars.now c.args.positions.now
          (c.decode-decoded.ensures.value, (c.decode-decoded.ensures.out_after, c.decode-decoded.ensures.positions_after)) c.in-Err.is
          (answer (first_causes (scalars_of c.args.text.now) (meaning c.args.pool.now)
          (length c.args.scratch.now)) 0) c.args.scratch.now;
    }

pub returns-in-Ok : goal.returns-in-Ok
returns-in-Ok c =
    record {
      value = ended_text c.args.text.now c.args.scalars.now c.args.positions.now (c.decode-decoded.ensures.value, (c.decode-decoded.ensures.out_after, c.decode-decoded.ensures.positions_after))
          c.in-Ok.is c.args.mode c.args.pool.now (length c.args.scratch.now)
          (length c.args.pairs.now / 2) c.cut_reasons.ensures.0 c.ended.ensures;
      scalars_after = (decoded_are c.args.text.now c.args.scalars.now c.args.positions.now
          (c.decode-decoded.ensures.value, (c.decode-decoded.ensures.out_after, c.decode-decoded.ensures.positions_after))).0;
      positions_after = (decoded_are c.args.text.now c.args.scalars.now c.args.positions.now
          (c.decode-decoded.ensures.value, (c.decode-decoded.ensures.out_after, c.decode-decoded.ensures.positions_after))).1;
      pairs_after = out_text c.args.text.now c.args.scalars.now c.args.positions.now (c.decode-decoded.ensures.value, (c.decode-decoded.ensures.out_after, c.decode-decoded.ensures.positions_after))
          c.in-Ok.is
          (λ (w : List ℕ). accepts c.args.mode w (meaning c.args.pool.now) (length c.args.scratch.now)
          (length c.args.pairs.now / 2))
          (λ (w : List ℕ). pairs_of (told_of c.args.mode (held (meaning c.args.pool.now)) w)) c.args.pairs.now
          c.cut_reasons.ensures.1.0;
      scratch_after = clear_text c.args.text.now c.args.scalars.now c.args.positions.now
          (c.decode-decoded.ensures.value, (c.decode-decoded.ensures.out_after, c.decode-decoded.ensures.positions_after)) c.in-Ok.is
          (λ (w : List ℕ). answer (first_causes w (meaning c.args.pool.now) (length c.args.scratch.now)) 0)
          c.args.scratch.now c.cut_reasons.ensures.1.1;
    }
