-- Texts of 139 and 140 characters, in the three modes. Assumes nothing.
use mathlib.Core.Path.{refl}
use Rattle.lists.specs.Scans.{leading, behind_last}
use Rattle.tcc_rules.specs.Patterns.{holds_at, match}
use Rattle.tcc_rules.specs.Clusters.{cluster_end, ends_from, cluster_ends}
use Rattle.tcc.specs.Flags.{is_end}
use Rattle.newmm_rules.specs.Positions.{up_from, those, first_or, any, inserted}
use Rattle.newmm_rules.specs.NonThai.{groups, number, first_match, non_thai}
use Rattle.newmm_rules.specs.Words.{word_ends}
use Rattle.newmm_rules.specs.Search.{queued, passed, after, searched, path_to}
use Rattle.newmm_rules.specs.NonDictionary.{stops_at, skip_end, token_end}
use Rattle.newmm_rules.specs.Cutting.{recorded, recorded_all, graph_of, settled, turn, turns, cut}
use Rattle.newmm_rules.specs.Longest.{lengths, longest, before_longest}
use Rattle.newmm_rules.specs.Parts.{cut_at, runs_of}
use Rattle.newmm_rules.specs.Modes.{part_ends, edges_of, in_parts}
use Rattle.newmm_answers.specs.Answers.{plain_cut, cut_of}
use Rattle.theorems_demands.specs.LongTexts.{LongTexts, SheetTexts}

pub long_texts : LongTexts
unfolding leading behind_last holds_at match cluster_end ends_from cluster_ends is_end up_from those first_or any inserted groups number first_match non_thai word_ends queued passed after searched path_to stops_at skip_end token_end recorded recorded_all graph_of settled turn turns cut lengths longest before_longest cut_at runs_of part_ends edges_of in_parts plain_cut cut_of
long_texts = (refl, refl, refl, refl, refl)

pub sheet_texts : SheetTexts
unfolding leading behind_last holds_at match cluster_end ends_from cluster_ends is_end up_from those first_or any inserted groups number first_match non_thai word_ends queued passed after searched path_to stops_at skip_end token_end recorded recorded_all graph_of settled turn turns cut lengths longest before_longest cut_at runs_of part_ends edges_of in_parts plain_cut cut_of
sheet_texts = (refl, refl, refl, refl)
