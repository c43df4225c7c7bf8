use Rattle.std.proofs.Common.{rules, tests, ℕ, ◌∙◌}
use lib.Dec.{eqb}
use Rattle.std.specs.List.{zip}
use Rattle.std.proofs.lemmas.Iterator.{YieldsList-from_slice, YieldsList-from_zip}
use Rattle.std.proofs.lemmas.Iterator.Search.{YieldsList-from_take_while}
use Rattle.std.proofs.lemmas.Iterator.Consumers.{YieldsList-at, count_from_yields_List}
use Rattle.std.proofs.lemmas.List.Folds.{length-prefix_len}
use Rattle.image_word.proofs.Sharing.{alike}
use Rattle.image_word.proofs.shared.Goals as goal

pub returns : goal.returns
returns c =
    let pairs = YieldsList-from_zip (YieldsList-at c.zip.ensures.first (YieldsList-from_slice c.args.v.now c.iter.ensures.rest)) (YieldsList-at c.zip.ensures.second (YieldsList-from_slice c.args.w.now c.iter-2.ensures.rest)) in
    count_from_yields_List c.take_while.result _ c.count.ensures.ran
    (YieldsList-from_take_while _ (λ (p : ℕ × ℕ). eqb p.0 p.1) (YieldsList-at c.take_while.ensures.source pairs) c.take_while.ensures.closure c.take_while.ensures.done (λ x b q k. search (rules, tests)))
    ∙ length-prefix_len (λ (p : ℕ × ℕ). eqb p.0 p.1) (zip c.args.v.now c.args.w.now)
    ∙ alike c.args.v.now c.args.w.now
