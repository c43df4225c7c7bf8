use mathlib.Core.Path.{sym, ◌∙◌}
use Rattle.trie_search.proofs.Prefixes.{ends_there, written_none, written_on, written_more, roomy}
use Rattle.trie_search.proofs.search.prefix_lengths.Goals as goal

pub loop-i-init : goal.loop-i-init
loop-i-init c = written_none _ _ _ c.requires.here

pub ends_word-requires : goal.ends_word-requires
ends_word-requires c = ends_there _ _ c.find_child.ensures c.in-Some.is c.loop-i.invariant.here

pub loop-i-preserved-then-not-ends_word : goal.loop-i-preserved-then-not-ends_word
loop-i-preserved-then-not-ends_word c =
    written_on c.loop-i.invariant c.loop-i-test.true _ c.find_child.ensures _ c.in-Some.is (sym c.ends_word.ensures ∙ c.if-not-ends_word.true)

pub bounds-out-n : goal.bounds-out-n
bounds-out-n c =
    roomy c.loop-i.invariant c.loop-i-test.true _ c.find_child.ensures _ c.in-Some.is (sym c.ends_word.ensures ∙ c.if-not-ends_word.false)
    c.requires.room

pub loop-i-preserved : goal.loop-i-preserved
loop-i-preserved c =
    written_more c.loop-i.invariant c.loop-i-test.true _ c.find_child.ensures _ c.in-Some.is
    (sym c.ends_word.ensures ∙ c.if-not-ends_word.false) c.requires.room
