use mathlib.Core.Path.{refl, sym, ◌∙◌}
use native.Mathlib.Omega.{arith}
use Rattle.trie_check.proofs.Parts.{long}
use Rattle.trie_char_answers.proofs.Freshness.{fresh_short, fresh_done}
use Rattle.trie_char.proofs.fresh.Goals as goal

pub returns-then-pool-lt-NODE : goal.returns-then-pool-lt-NODE
returns-then-pool-lt-NODE c = record { value = fresh_short c.args.pool.now c.if-pool-lt-NODE.true; after = refl }

pub slice_bounds-reset-end-2 : goal.slice_bounds-reset-end-2
slice_bounds-reset-end-2 c = sym (long c.args.pool.now _ c.capacity-cells.ensures)

pub reset-requires : goal.reset-requires
reset-requires c =
    omega (
      arith,
      long c.args.pool.now _
          c.capacity-cells.ensures,
      c.capacity-cells.ensures,
      c.if-pool-lt-NODE.false,
    )

pub returns : goal.returns
returns c =
    let both = fresh_done c.args.pool.now _ c.capacity-cells.ensures c.if-pool-lt-NODE.false _
    (c.reset.auto.cells ∙ long c.args.pool.now _ c.capacity-cells.ensures) c.reset.ensures in record { value = both.0; after = both.1 }
