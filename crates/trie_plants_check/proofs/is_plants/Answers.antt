use mathlib.Core.Path.{refl, sym}
use Rattle.trie_check.proofs.Parts as whole
use Rattle.trie_plants_check.proofs.Whole.{empty, over_a, over_b, over_both, asks, all}
use Rattle.trie_plants_check.proofs.is_plants.Goals as goal

pub returns-then-n-eq0 : goal.returns-then-n-eq0
returns-then-n-eq0 c = empty c.args.pool.now _ c.capacity-n.ensures c.if-n-eq0.true

pub returns-then-n-a : goal.returns-then-n-a
returns-then-n-a c = over_a c.args.pool.now _ c.capacity-n.ensures c.if-n-eq0.false refl c.if-n-a.true

pub returns-then-n-b : goal.returns-then-n-b
returns-then-n-b c =
    over_b c.args.pool.now _ c.capacity-n.ensures c.if-n-eq0.false refl
    refl c.if-n-b.true

pub returns-then-n-a-2 : goal.returns-then-n-a-2
returns-then-n-a-2 c =
    over_both c.args.pool.now _ c.capacity-n.ensures c.if-n-eq0.false refl
    refl c.if-n-a-2.true

pub slice_bounds-halves_ok-end : goal.slice_bounds-halves_ok-end
slice_bounds-halves_ok-end c = sym (whole.long c.args.pool.now _ c.capacity-n.ensures)

pub halves_ok-requires : goal.halves_ok-requires
halves_ok-requires c =
    asks c.args.pool.now _ c.capacity-n.ensures c.if-n-eq0.false refl refl
    c.if-n-a.false c.if-n-b.false

pub returns : goal.returns
returns c =
    all c.args.pool.now _ c.capacity-n.ensures c.if-n-eq0.false refl refl
    c.if-n-a-2.false c.halves_ok.ensures
