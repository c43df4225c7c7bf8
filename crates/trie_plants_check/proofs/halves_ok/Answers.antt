use mathlib.Core.Path.{refl, sym}
use Rattle.trie_plants_check.proofs.Cut.{none_used, over_a, over_b, filled, long_a, asks_a, asks_b, not_a, all}
use Rattle.trie_plants_check.proofs.halves_ok.Goals as goal

pub returns-then-u-eq0 : goal.returns-then-u-eq0
returns-then-u-eq0 c = none_used c.args.p.now _ _ refl c.if-u-eq0.true

pub returns-then-a-u : goal.returns-then-a-u
returns-then-a-u c = over_a c.args.p.now _ _ refl c.if-a-u.true

pub returns-then-b-v : goal.returns-then-b-v
returns-then-b-v c = over_b c.args.p.now _ _ refl refl c.if-b-v.true

pub returns-then-not-blank : goal.returns-then-not-blank
returns-then-not-blank c =
    filled c.args.p.now _ _ refl refl c.requires c.if-u-eq0.false c.if-a-u.false
    c.if-b-v.false c.max-n.ensures c.blank.ensures c.if-not-blank.true

pub slice_bounds-half_ok-end : goal.slice_bounds-half_ok-end
slice_bounds-half_ok-end c =
    sym (long_a c.args.p.now _ _ refl refl c.requires c.if-u-eq0.false
    c.if-a-u.false c.if-b-v.false c.max-n.ensures)

pub half_ok-requires : goal.half_ok-requires
half_ok-requires c =
    asks_a c.args.p.now _ _ refl refl c.requires c.if-u-eq0.false c.if-a-u.false
    c.if-b-v.false c.max-n.ensures

pub returns-then-not-half_ok : goal.returns-then-not-half_ok
returns-then-not-half_ok c =
    not_a c.args.p.now _ _ refl refl c.requires c.if-u-eq0.false
    c.if-a-u.false c.if-b-v.false c.max-n.ensures (c.blank.ensures.yes' c.if-not-blank.false)
    c.half_ok.ensures c.if-not-half_ok.true

pub half_ok-requires-2 : goal.half_ok-requires-2
half_ok-requires-2 c =
    asks_b c.args.p.now _ _ refl refl c.requires c.if-u-eq0.false
    c.if-a-u.false c.if-b-v.false c.max-n.ensures

pub returns : goal.returns
returns c =
    all c.args.p.now _ _ refl refl c.requires c.if-u-eq0.false c.if-a-u.false
    c.if-b-v.false c.max-n.ensures (c.blank.ensures.yes' c.if-not-blank.false)
    c.half_ok.ensures c.if-not-half_ok.false c.half_ok-2.ensures
