use mathlib.Core.Path.{sym, ◌∙◌}
use Rattle.trie_search.proofs.Prefixes.{ends_there, counted_none, counted_on, counted_more}
use Rattle.trie_search.proofs.search.prefix_count.Goals as goal

pub loop-x-init : goal.loop-x-init
loop-x-init c = counted_none _ _ c.requires

pub ends_word-requires : goal.ends_word-requires
ends_word-requires c = ends_there _ _ c.find_child.ensures c.in-Some.is c.loop-x.invariant.here

pub loop-x-preserved-then-not-ends_word : goal.loop-x-preserved-then-not-ends_word
loop-x-preserved-then-not-ends_word c =
    counted_on c.loop-x.invariant c.loop-x-test.true _ c.find_child.ensures _ c.in-Some.is (sym c.ends_word.ensures ∙ c.if-not-ends_word.true)

pub loop-x-preserved : goal.loop-x-preserved
loop-x-preserved c =
    counted_more c.loop-x.invariant c.loop-x-test.true _ c.find_child.ensures _ c.in-Some.is (sym c.ends_word.ensures ∙ c.if-not-ends_word.false)
