-- Maps of breaks: no second answer fits, and what holds of their runs. Assumes nothing.
use Rattle.std.specs.Prelude.{Option, Result}
use Rattle.refusal.specs.declared.Refusal.{Refusal}
use Prim.Native.Nat.{ℕ}
use mathlib.Core.Path.{◌≡◌, sym, ◌∙◌, subst}
use mathlib.Core.List.{List}
use lib.ListN.{length, take}
use Rattle.break_map.proofs.break_map.Kinds as map_kinds
use Rattle.break_map.proofs.break_map.Reads as map_contract
use Rattle.break_map.proofs.breaks_up_to.Kinds as count_kinds
use Rattle.break_map.proofs.breaks_up_to.Reads as count_contract
use Rattle.break_map.proofs.next_break.Kinds as next_kinds
use Rattle.break_map.proofs.next_break.Reads as next_contract
use Rattle.break_map_rules.specs.Maps.{cells_for}
use Rattle.break_map_rules.specs.Answers.{map_answer, map_after, count_answer, next_answer}
use Rattle.theorems_break_map.proofs.Written.{written_answers}
use Rattle.theorems_demands.specs.Maps.{Mapped}
use Rattle.theorems_demands.proofs.Maps.{cuts_make_maps}
use Rattle.theorems_one_answer.specs.OneAnswer.{OneAnswer}
use Rattle.theorems_one_answer.specs.Runs.{call_of}
use Rattle.theorems_one_answer.specs.MapRuns.{map_left, count_of, next_of, text_long, ends_left, MapsOfRuns}
use Rattle.theorems_one_answer.proofs.Shapes.{answer, both}
use Rattle.theorems_one_answer.proofs.Demand3.{answered}

-- the answer and the map
pub break_map_one : OneAnswer {A = Result ℕ Refusal × List ℕ} 2 map_kinds.ps map_kinds.r map_contract.Post (λ κs x s. let map = s.1.1.0.now in (x, map))
break_map_one κs a x y s t p q = both (answer p.0 q.0) (answer p.1 q.1)

pub breaks_up_to_one : OneAnswer {A = Result ℕ Refusal} 1 count_kinds.ps count_kinds.r count_contract.Post (λ κs x s. x)
breaks_up_to_one κs a x y s t p q = answer p q

pub next_break_one : OneAnswer {A = Result (Option ℕ) Refusal} 1 next_kinds.ps next_kinds.r next_contract.Post (λ κs x s. x)
next_break_one κs a x y s t p q = answer p q

pub maps_of_runs : MapsOfRuns
maps_of_runs a k edges m h o =
    let n = text_long a in
    let ends = ends_left a k in
    let old = m.arguments.1.1.0.now in
    let d : Mapped n ends old =
    subst (λ (l : List ℕ). Mapped n (take k l) old) (sym (answered a).1) (cuts_make_maps (call_of a) k edges old (sym (answered a).0 ∙ h) o.room) in
    let left : map_left m ≡ map_after n ends old = m.promise.1 ∙ (λ i. map_after (o.length_is i) (o.ends_are i) old) in
    let told = written_answers n ends old (cells_for n) d.written in (
      m.promise.0 ∙ (λ i. map_answer (o.length_is i) (o.ends_are i) (length old)) ∙ d.written,
      (λ q b. q.promise ∙ (λ i. count_answer (b.length_is i) ((b.map_is ∙ left) i) (count_of q).position) ∙ (told (count_of q).position b.within).0),
      (λ q b. q.promise ∙ (λ i. next_answer (b.length_is i) ((b.map_is ∙ left) i) (next_of q).position) ∙ (told (next_of q).position b.within).1),
    )
