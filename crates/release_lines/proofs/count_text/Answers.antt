use Rattle.sheet_replies.proofs.Replying.{lent_fits, lent_size}
use Rattle.release_lines.proofs.Counting.{stopped_figures, stopped_full, fed_figures, full_once_fed}
use Rattle.release_lines.proofs.count_text.Goals as goal

pub slice_bounds-feed-end : goal.slice_bounds-feed-end
slice_bounds-feed-end c =
    lent_fits c.args.text.now c.args.scalars.now c.args.positions.now (c.decode-decoded.ensures.value, (c.decode-decoded.ensures.out_after, c.decode-decoded.ensures.positions_after))
    c.in-Ok.is

pub slice_bounds-feed-end-in-Ok : goal.slice_bounds-feed-end-in-Ok
slice_bounds-feed-end-in-Ok c =
    lent_size c.args.text.now c.args.scalars.now c.args.positions.now (c.decode-decoded.ensures.value, (c.decode-decoded.ensures.out_after, c.decode-decoded.ensures.positions_after))
    c.in-Ok.is

pub returns-in-Err : goal.returns-in-Err
returns-in-Err c =
    record {
      value = stopped_full c.args.text.now c.args.scalars.now c.args.positions.now (c.decode-decoded.ensures.value, (c.decode-decoded.ensures.out_after, c.decode-decoded.ensures.positions_after))
          c.args.figures.now c.args.pool.now c.args.pairs.now c.args.scratch.now
          c.args.mode c.in-Err.is c.number.ensures c.feed_refused.ensures.0
          c.is_refused_full.ensures;
      figures_after = stopped_figures c.args.text.now c.args.scalars.now
          c.args.positions.now (c.decode-decoded.ensures.value, (c.decode-decoded.ensures.out_after, c.decode-decoded.ensures.positions_after)) c.args.figures.now c.args.pool.now
          c.args.pairs.now c.args.scratch.now c.args.mode c.in-Err.is c.number.ensures
          c.feed_refused.ensures.1;
    }

pub returns-in-Ok : goal.returns-in-Ok
returns-in-Ok c =
    record {
      value = full_once_fed c.args.text.now c.args.scalars.now c.args.positions.now (c.decode-decoded.ensures.value, (c.decode-decoded.ensures.out_after, c.decode-decoded.ensures.positions_after))
          c.args.figures.now c.args.pool.now c.args.pairs.now c.args.scratch.now
          c.args.mode c.in-Ok.is c.feed.ensures.0 c.is_fed_full.ensures;
      figures_after = fed_figures
          c.args.text.now c.args.scalars.now c.args.positions.now (c.decode-decoded.ensures.value, (c.decode-decoded.ensures.out_after, c.decode-decoded.ensures.positions_after))
          c.args.figures.now c.args.pool.now c.args.pairs.now c.args.scratch.now
          c.args.mode c.in-Ok.is c.feed.ensures.1.0;
    }
