use Rattle.std.proofs.Common.{rules, tests, ◌≡◌}
use Rattle.std.proofs.lemmas.Iterator.{YieldsList-from_slice}
use Rattle.std.proofs.lemmas.Iterator.Search.{all_from_yields_List}
use mathlib.Core.Path.{◌∙◌}
use Rattle.std.specs.List.{list_all}
use Rattle.newmm_rules.specs.NonDictionary.{is_consonant}
use Rattle.newmm_skip.proofs.Skipping.{short_all}
use Rattle.newmm_skip.proofs.is_short.Goals as goal

pub returns-then-word-le2 : goal.returns-then-word-le2
returns-then-word-le2 c =
    let e : c.all.result ≡ list_all is_consonant c.args.word.now = all_from_yields_List is_consonant _ _ c.all.result c.all.ensures.ran (YieldsList-from_slice c.args.word.now cc) (λ x b q k. search (rules, tests)) in
    e ∙ short_all c.args.word.now c.if-word-le2.true
