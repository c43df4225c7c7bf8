use Rattle.tcc_rules.proofs.Tails.{shorter_yes, shorter_no}
use Rattle.tcc_match.proofs.group.shorter_k.Goals as goal

pub returns-then-p-e : goal.returns-then-p-e
returns-then-p-e c = shorter_yes c.group_k-e.ensures c.if-p-e.true

pub returns : goal.returns
returns c = shorter_no c.group_k-e.ensures c.if-p-e.false
