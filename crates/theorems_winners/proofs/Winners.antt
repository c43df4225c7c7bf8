-- The texts of specs/Winning.antt are won as it says. Assumes nothing.
use mathlib.Core.Path.{refl}
use Rattle.tcc_rules.specs.Patterns.{holds_at, match, winner}
use Rattle.tcc_rules.specs.Clusters.{cluster_end, ends_from, cluster_ends}
use Rattle.tcc_tables.specs.Answers.{winners_of}
use Rattle.theorems_winners.specs.Winning.{TheOthersWin, ToldAsTheyAre}

pub the_others_win : TheOthersWin
unfolding holds_at match winner cluster_end ends_from cluster_ends winners_of
the_others_win = (refl, (refl, (refl, (refl, (refl, (refl, (refl, (refl, (refl, (refl, (refl, (refl, (refl, (refl, (refl, (refl, (refl, (refl, (refl, (refl, (refl, (refl, (refl, (refl, tt))))))))))))))))))))))))

pub told_as_they_are : ToldAsTheyAre
unfolding holds_at match winner cluster_end ends_from cluster_ends winners_of
told_as_they_are = (refl, (refl, tt))
