use mathlib.Core.Path.{sym, ◌∙◌}
use Rattle.std.proofs.lemmas.Result.{err_from_is_err_and}
use Rattle.trie_pool.specs.Meaning.{meaning}
use Rattle.trie_check.proofs.Refusals.{check_text, check_pool, check_all}
use Rattle.trie_check.proofs.Parts.{meaning_is_none}
use Rattle.trie_check.proofs.check.Goals as goal

pub returns-in_err-n : goal.returns-in_err-n
returns-in_err-n c =
    let p = err_from_is_err_and c.from_residual.result c.from_residual.ensures.1 in
    rw (p.1, p.2) (sym c.in_err-n.was ∙ check_text c.args.text.now (meaning c.args.pool.now) c.check_text.ensures c.in_err-n.was)

pub returns-then-not-is_dictionary : goal.returns-then-not-is_dictionary
returns-then-not-is_dictionary c =
    check_pool c.args.text.now (meaning c.args.pool.now) c.check_text.ensures c.in_ok-n.was
    (meaning_is_none c.args.pool.now _ (sym c.if-not-is_dictionary.true ∙ c.is_dictionary.ensures))

pub returns : goal.returns
returns c =
    check_all c.args.text.now (meaning c.args.pool.now) c.check_text.ensures c.in_ok-n.was
    (meaning_is_none c.args.pool.now _ (sym c.if-not-is_dictionary.false ∙ c.is_dictionary.ensures))
