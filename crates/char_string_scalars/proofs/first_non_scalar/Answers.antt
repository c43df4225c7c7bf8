use mathlib.Core.Path.{◌∙◌}
use native.Mathlib.Omega.{arith}
use borrow.Author.Tests.{tests}
use Rattle.std.proofs.Common.{rules}
use Rattle.std.proofs.lemmas.Iterator.{YieldsList-from_slice}
use Rattle.std.proofs.lemmas.Iterator.Search.{YieldsList-from_take_while}
use Rattle.std.proofs.lemmas.Iterator.Consumers.{count_from_yields_List}
use Rattle.lists.proofs.Scans.{leading_counted}
use Rattle.char_string_scalars.specs.Scalars.{is_scalar}
use Rattle.char_string_scalars.proofs.Low.{low}
use Rattle.char_string_scalars.proofs.first_non_scalar.Goals as goal

pub returns-then-highest-lt55296 : goal.returns-then-highest-lt55296
returns-then-highest-lt55296 c = low c.args.cells.now (λ a. omega (arith, c.highest.ensures a, c.if-highest-lt55296.true))

pub returns : goal.returns
returns c =
    count_from_yields_List c.take_while.result _ c.count.ensures.ran
    (YieldsList-from_take_while _ is_scalar (YieldsList-from_slice c.args.cells.now cc) c.take_while.ensures.closure c.take_while.ensures.done (λ x b q k. search (rules, tests)))
    ∙ leading_counted is_scalar c.args.cells.now
