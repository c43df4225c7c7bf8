use Prim.Native.Nat.{ℕ}
use mathlib.Core.List.{List}
use Rattle.utf8.specs.Decoding.{scalars_of}
use Rattle.trie_char_answers.specs.Answers.{remove_answer, removed}
use Rattle.sheet_replies.proofs.Replying.{decoded_are, reported_stop, pool_stop, lent_fits, lent_size, reported_text, pool_text}
use Rattle.sheet_replies.proofs.remove.Goals as goal

pub slice_bounds-remove-end : goal.slice_bounds-remove-end
slice_bounds-remove-end c =
    lent_fits c.args.text.now c.args.scalars.now c.args.positions.now (c.decode-decoded.ensures.value, (c.decode-decoded.ensures.out_after, c.decode-decoded.ensures.positions_after))
    c.in-Ok.is

pub slice_bounds-remove-end-in-Ok : goal.slice_bounds-remove-end-in-Ok
slice_bounds-remove-end-in-Ok c =
    lent_size c.args.text.now c.args.scalars.now c.args.positions.now (c.decode-decoded.ensures.value, (c.decode-decoded.ensures.out_after, c.decode-decoded.ensures.positions_after))
    c.in-Ok.is

pub returns-in-Err : goal.returns-in-Err
returns-in-Err c =
    let both = decoded_are
    c.args.text.now c.args.scalars.now c.args.positions.now (c.decode-decoded.ensures.value, (c.decode-decoded.ensures.out_after, c.decode-decoded.ensures.positions_after)) in record {
      value = reported_stop c.args.text.now c.args.scalars.now c.args.positions.now (c.decode-decoded.ensures.value, (c.decode-decoded.ensures.out_after, c.decode-decoded.ensures.positions_after))
          c.in-Err.is (remove_answer (scalars_of c.args.text.now) c.args.pool.now);
      after = pool_stop c.args.text.now c.args.scalars.now c.args.positions.now (c.decode-decoded.ensures.value, (c.decode-decoded.ensures.out_after, c.decode-decoded.ensures.positions_after))
          c.in-Err.is (remove_answer (scalars_of c.args.text.now) c.args.pool.now)
          c.args.pool.now (removed (scalars_of c.args.text.now) c.args.pool.now);
      scalars_after = both.0;
      positions_after = both.1;
    }

pub returns-in-Ok : goal.returns-in-Ok
returns-in-Ok c =
    let both = decoded_are c.args.text.now c.args.scalars.now
    c.args.positions.now (c.decode-decoded.ensures.value, (c.decode-decoded.ensures.out_after, c.decode-decoded.ensures.positions_after)) in record {
      value = reported_text c.args.text.now c.args.scalars.now c.args.positions.now
          (c.decode-decoded.ensures.value, (c.decode-decoded.ensures.out_after, c.decode-decoded.ensures.positions_after)) c.in-Ok.is (λ (w : List ℕ). remove_answer w c.args.pool.now)
          c.remove.ensures.value c.reported.ensures;
      after = pool_text c.args.text.now c.args.scalars.now c.args.positions.now (c.decode-decoded.ensures.value, (c.decode-decoded.ensures.out_after, c.decode-decoded.ensures.positions_after))
          c.in-Ok.is (λ (w : List ℕ). remove_answer w c.args.pool.now)
          (λ (w : List ℕ). removed w c.args.pool.now) c.args.pool.now c.remove.new.pool
          c.remove.ensures.value c.remove.ensures.after;
      scalars_after = both.0;
      positions_after = both.1;
    }
