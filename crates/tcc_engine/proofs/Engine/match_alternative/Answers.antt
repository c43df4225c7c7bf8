use native.Mathlib.Omega.{arith}
use mathlib.Core.Path.{refl}
use Rattle.tcc_engine.proofs.Groups.{group_inside}
use Rattle.tcc_engine.proofs.Reading.{items_inside}
use Rattle.tcc_engine.proofs.Finding.{tried_by}
use Rattle.tcc_engine.proofs.Engine.match_alternative.Goals as goal

pub group_start-g-requires : goal.group_start-g-requires
group_start-g-requires c =
    let i = items_inside c.args.k c.args.self.right c.requires.k_bound refl refl in
    (i.0, i.1)

pub match_items-requires : goal.match_items-requires
match_items-requires c =
    let i = items_inside c.args.k c.args.self.right c.requires.k_bound refl refl in (
      omega (arith, c.group_start-g.ensures),
      omega (
        arith,
        c.group_start-g.ensures,
        group_inside c.args.self.items.now _ _
            i.0,
      ),
      i.1,
    )

pub returns : goal.returns
returns c =
    tried_by c.args.self.classes.now c.args.self.items.now c.args.self.starts.now c.args.text.now
    c.args.k c.args.p refl refl c.group_start-g.ensures
    c.match_items.ensures
