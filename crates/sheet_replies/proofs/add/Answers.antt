use Prim.Native.Nat.{ℕ}
use mathlib.Core.List.{List}
use Rattle.utf8.specs.Decoding.{scalars_of}
use Rattle.trie_char_answers.specs.Answers.{add_answer, added}
use Rattle.sheet_replies.proofs.Replying.{decoded_are, reported_stop, pool_stop, lent_fits, lent_size, reported_text, pool_text}
use Rattle.sheet_replies.proofs.add.Goals as goal

pub slice_bounds-add-end : goal.slice_bounds-add-end
slice_bounds-add-end c =
    lent_fits c.args.text.now c.args.scalars.now c.args.positions.now (c.decode-decoded.ensures.value, (c.decode-decoded.ensures.out_after, c.decode-decoded.ensures.positions_after))
    c.in-Ok.is

pub slice_bounds-add-end-in-Ok : goal.slice_bounds-add-end-in-Ok
slice_bounds-add-end-in-Ok c =
    lent_size c.args.text.now c.args.scalars.now c.args.positions.now (c.decode-decoded.ensures.value, (c.decode-decoded.ensures.out_after, c.decode-decoded.ensures.positions_after))
    c.in-Ok.is

pub returns-in-Err : goal.returns-in-Err
returns-in-Err c =
    let both = decoded_are
    c.args.text.now c.args.scalars.now c.args.positions.now (c.decode-decoded.ensures.value, (c.decode-decoded.ensures.out_after, c.decode-decoded.ensures.positions_after)) in record {
      value = reported_stop c.args.text.now c.args.scalars.now c.args.positions.now (c.decode-decoded.ensures.value, (c.decode-decoded.ensures.out_after, c.decode-decoded.ensures.positions_after))
          c.in-Err.is (add_answer (scalars_of c.args.text.now) 0 c.args.pool.now);
      after = pool_stop c.args.text.now c.args.scalars.now c.args.positions.now (c.decode-decoded.ensures.value, (c.decode-decoded.ensures.out_after, c.decode-decoded.ensures.positions_after))
          c.in-Err.is (add_answer (scalars_of c.args.text.now) 0 c.args.pool.now)
          c.args.pool.now (added (scalars_of c.args.text.now) 0 c.args.pool.now);
      scalars_after = both.0;
      positions_after = both.1;
    }

pub returns-in-Ok : goal.returns-in-Ok
returns-in-Ok c =
    let both = decoded_are c.args.text.now c.args.scalars.now c.args.positions.now
    (c.decode-decoded.ensures.value, (c.decode-decoded.ensures.out_after, c.decode-decoded.ensures.positions_after)) in record {
      value = reported_text c.args.text.now c.args.scalars.now c.args.positions.now
          (c.decode-decoded.ensures.value, (c.decode-decoded.ensures.out_after, c.decode-decoded.ensures.positions_after)) c.in-Ok.is (λ (w : List ℕ). add_answer w 0 c.args.pool.now)
          c.add.ensures.value c.reported.ensures;
      after = pool_text c.args.text.now c.args.scalars.now c.args.positions.now (c.decode-decoded.ensures.value, (c.decode-decoded.ensures.out_after, c.decode-decoded.ensures.positions_after))
          c.in-Ok.is (λ (w : List ℕ). add_answer w 0 c.args.pool.now)
          (λ (w : List ℕ). added w 0 c.args.pool.now) c.args.pool.now c.add.new.pool c.add.ensures.value
          c.add.ensures.after;
      scalars_after = both.0;
      positions_after = both.1;
    }
