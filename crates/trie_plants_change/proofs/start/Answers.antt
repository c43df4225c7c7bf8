use mathlib.Core.Path.{refl, sym, ◌∙◌}
use native.Mathlib.Omega.{arith}
use lib.ListN.{length-set}
use Rattle.trie_check.proofs.Parts.{long}
use Rattle.trie_plants_answers.proofs.Starting.{start_short, start_large, start_fits, started}
use Rattle.trie_plants_change.proofs.start.Goals as goal

pub returns-then-pool-lt-NODE : goal.returns-then-pool-lt-NODE
returns-then-pool-lt-NODE c = record { value = start_short c.args.limit_a c.args.limit_b c.args.pool.now c.if-pool-lt-NODE.true; started = refl }

pub returns-then-room-limit_a : goal.returns-then-room-limit_a
returns-then-room-limit_a c =
    record {
      value = start_large c.args.limit_a c.args.limit_b c.args.pool.now c.if-pool-lt-NODE.false
          (omega (arith, c.capacity-nodes.ensures, c.if-room-limit_a.true));
      started = refl;
    }

pub returns-then-room-limit_a-2 : goal.returns-then-room-limit_a-2
returns-then-room-limit_a-2 c =
    record {
      value = start_large c.args.limit_a c.args.limit_b c.args.pool.now c.if-pool-lt-NODE.false
          (omega (arith, c.capacity-nodes.ensures, c.if-room-limit_a.false, c.if-room-limit_a-2.true));
      started = refl;
    }

pub slice_bounds-reset-end-2 : goal.slice_bounds-reset-end-2
slice_bounds-reset-end-2 c = sym (long c.args.pool.now _ c.capacity-nodes.ensures)

pub reset-requires : goal.reset-requires
reset-requires c = omega (arith, long c.args.pool.now _ c.capacity-nodes.ensures, c.capacity-nodes.ensures, c.if-pool-lt-NODE.false)

pub bounds-pool : goal.bounds-pool
bounds-pool c = simp length-set (omega arith)

pub bounds-pool-2 : goal.bounds-pool-2
bounds-pool-2 c = simp length-set (omega arith)

pub bounds-pool-4 : goal.bounds-pool-4
bounds-pool-4 c = simp length-set (omega arith)

pub returns : goal.returns
returns c =
    record {
      value = start_fits c.args.limit_a c.args.limit_b c.args.pool.now c.if-pool-lt-NODE.false
          (omega (arith, c.capacity-nodes.ensures, c.if-room-limit_a.false, c.if-room-limit_a-2.false));
      started = started c.args.limit_a
          c.args.limit_b c.args.pool.now c.if-pool-lt-NODE.false _ c.capacity-nodes.ensures
          (omega (arith, c.capacity-nodes.ensures, c.if-room-limit_a.false, c.if-room-limit_a-2.false)) _
          (c.reset.auto.cells ∙ long c.args.pool.now _ c.capacity-nodes.ensures) c.reset.ensures _ _
          refl refl;
    }
