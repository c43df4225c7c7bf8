use mathlib.Core.Path.{refl}
use Rattle.image_build.proofs.Building.{counts, opens}
use Rattle.image_build.proofs.build.Goals as goal

pub starts-requires : goal.starts-requires
starts-requires c = counts c.requires

pub place-requires : goal.place-requires
place-requires c = opens c.requires _ _ refl c.clear_nodes.ensures c.clear_nodes.auto.p _ _ refl c.starts.ensures
