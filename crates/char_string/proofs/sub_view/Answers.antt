use Rattle.char_string.proofs.Pairs.{sub_is, sub_within}
use borrow.Author.Rules.{rules}
use Rattle.char_string.proofs.sub_view.Goals as goal

pub overflow_add-result : goal.overflow_add-result
overflow_add-result c =
    let h = sub_within c.args.text.now c.substring-view.result.now c.args.start c.args.end
    c.args.from c.args.to c.fit-v.result c.fit-s.result c.fit-v.ensures
    c.substring-view.ensures.result_value c.fit-s.ensures in
    search rules

pub overflow_add-result-2 : goal.overflow_add-result-2
overflow_add-result-2 c =
    let h = sub_within c.args.text.now c.substring-view.result.now c.args.start c.args.end
    c.args.from c.args.to c.fit-v.result c.fit-s.result c.fit-v.ensures
    c.substring-view.ensures.result_value c.fit-s.ensures in
    search rules

pub returns : goal.returns
returns c =
    sub_is c.args.text.now c.substring-view.result.now c.args.start c.args.end c.args.from
    c.args.to c.fit-v.result c.fit-s.result c.fit-v.ensures c.substring-view.ensures.result_value
    c.fit-s.ensures
