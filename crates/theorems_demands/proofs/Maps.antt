-- The ends that a cut wrote make a map. Assumes nothing.
use Prim.Native.Nat.{ℕ, suc, ◌≤◌}
use native.Mathlib.Omega.{arith}
use mathlib.Core.Path.{◌≡◌, sym, ◌∙◌, ap, subst}
use mathlib.Core.List.{List, [], ◌∷◌}
use lib.ListN.{length, take}
use borrow.Author.Tests.{le-ltb, ltb-false}
use Rattle.refusal.proofs.Causes.{none_of}
use Rattle.refusal.proofs.Firsts.{accepted_if_none}
use Rattle.trie_pool.specs.Meaning.{meaning}
use Rattle.trie_check.specs.Refusals.{held}
use Rattle.newmm_rules.specs.inner.Climbing.{Climbs, up}
use Rattle.newmm_rules.proofs.Climbing.{onward}
use Rattle.newmm_answers.specs.Answers.{accepted_with, cut_of, cut_causes, accepts}
use Rattle.newmm_answers.specs.Calls.{Call, answer_of, out_of}
use Rattle.newmm_answers.proofs.Cuts.{cut_climbs}
use Rattle.newmm_answers.proofs.Told.{told_ends}
use Rattle.break_map_rules.specs.Maps.{cells_for}
use Rattle.break_map_rules.specs.Ends.{right_from, first_wrong, AllRight}
use Rattle.break_map_rules.specs.Answers.{map_causes}
use Rattle.break_map_rules.proofs.Ends.{right_nil, right_yes}
use Rattle.theorems_break_map.proofs.Same.{ends_from_map}
use Rattle.theorems_break_map.proofs.Written.{written_count}
use Rattle.theorems_demands.specs.Maps.{CutsMakeMaps}
use Rattle.theorems_demands.proofs.Ends.{told}

-- ends that rise strictly from one position to another are right
climbs_right : (n before : ℕ) (ends : List ℕ) → Climbs before ends n → right_from n before ends ≡ length ends
climbs_right n before [] c = right_nil n before
climbs_right n before (e ∷ es) (up l c) = right_yes n before e es l (onward c) ∙ ap suc (climbs_right n e es c)

-- the text of a call that answered is no longer than 65,535
short_text : (c : Call) (k edges : ℕ) → answer_of c ≡ accepted_with k edges → length c.text ≤ 65535
short_text c k edges h =
    let cells = length c.scratch in
    let room = length c.out in
    let t = told_ends (accepts c.mode c.text (meaning c.pool) cells room) (cut_of c.mode (held (meaning c.pool)) c.text).edges k edges h in
    ltb-false 65535 (length c.text)
    (none_of (cut_causes c.mode c.text (meaning c.pool) cells room) (length (cut_of c.mode (held (meaning c.pool)) c.text).ends) k t.0).0

pub cuts_make_maps : CutsMakeMaps
cuts_make_maps c k edges old h room =
    let n = length c.text in
    let ends = take k (out_of c) in
    let t = told c k edges h in
    let right : AllRight n ends =
    subst (AllRight n) (sym t.front) (climbs_right n 0 (cut_of c.mode t.words c.text).ends (cut_climbs c.mode t.words c.text)) in
    let written =
    accepted_if_none (map_causes n ends (length old)) (cells_for n)
    (le-ltb 65535 n (short_text c k edges h), (le-ltb (length old) (cells_for n) room, (le-ltb (first_wrong n ends) (length ends) (omega (arith, right)), tt))) in
    record { right = right; written = written; breaks_are = ends_from_map n ends right; counted = written_count n ends old (cells_for n) written }
