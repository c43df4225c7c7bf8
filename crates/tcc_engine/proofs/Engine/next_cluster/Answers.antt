use native.Mathlib.Omega.{arith}
use mathlib.Core.Path.{sym}
use lib.Seq.{length-take-le}
use Rattle.tcc_engine.proofs.Telling.{told_none, told_whole, told_shorter, end_inside, some_left}
use Rattle.tcc_engine.proofs.Engine.next_cluster.Goals as goal

pub returns-in_default : goal.returns-in_default
returns-in_default c = told_none c.args.text.now c.args.p c.first_behind-found.ensures c.in_default.is

pub slice_bounds-first_behind-end : goal.slice_bounds-first_behind-end
slice_bounds-first_behind-end c =
    sym (length-take-le _ c.args.text.now
    (end_inside c.args.text.now c.args.p c.first_behind-found.ensures c.in-Some.is
    (omega (arith, c.requires.p_in_bounds))))

pub returns-in_default-ahead : goal.returns-in_default-ahead
returns-in_default-ahead c =
    told_whole c.args.text.now c.args.p c.first_behind-found.ensures c.in-Some.is
    c.first_behind-ahead.ensures c.in_default-ahead.is

pub overflow_sub-result : goal.overflow_sub-result
overflow_sub-result c =
    some_left c.args.text.now c.args.p c.first_behind-found.ensures c.in-Some.is
    c.first_behind-ahead.ensures c.in-Some-ahead.is c.requires.p_in_bounds

pub returns : goal.returns
returns c =
    told_shorter c.args.text.now c.args.p c.first_behind-found.ensures c.in-Some.is
    c.first_behind-ahead.ensures c.in-Some-ahead.is
