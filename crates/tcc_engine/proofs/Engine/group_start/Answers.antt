use Prim.Native.Nat.{ℕ, ◌+◌, ◌%◌}
use mathlib.Core.Path.{◌≡◌, ◌∙◌, ap}
use lib.Dec.{eqb}
use mathlib.Core.List.{List}
use lib.ListN.{length}
use borrow.Author.Tests.{tests}
use Rattle.std.proofs.Common.{rules}
use Rattle.std.proofs.lemmas.Iterator.{YieldsList-from_slice}
use Rattle.std.proofs.lemmas.Iterator.Search.{YieldsList-from_take_while}
use Rattle.std.proofs.lemmas.Iterator.Consumers.{count_from_yields_List}
use Rattle.std.specs.List.{take_while}
use Rattle.tcc_engine.specs.inner.Trying.{part}
use Rattle.tcc_engine.proofs.Groups.{ungrouped_counted}
use Rattle.tcc_engine.proofs.Engine.group_start.Goals as goal

pub returns : goal.returns
unfolding part
returns c =
    let m : c.count.result ≡ length (take_while (λ (x : ℕ). eqb (x % 16) 0) c.iter.result.rest.now) =
    count_from_yields_List _ _ c.count.ensures.ran
    (YieldsList-from_take_while _ (λ (x : ℕ). eqb (x % 16) 0) (YieldsList-from_slice _ (ap (λ (i : _). i.rest.now) c.take_while.ensures.source)) c.take_while.ensures.closure c.take_while.ensures.done (λ x b q k. search (rules, tests)))
    in
    ap (λ (n : ℕ). c.args.a + n) (m ∙ ap (λ (l : List ℕ). length (take_while (λ (x : ℕ). eqb (x % 16) 0) l)) c.iter.ensures.rest ∙ ungrouped_counted (part c.args.self.items.now c.args.a c.args.e))
