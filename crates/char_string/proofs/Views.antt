-- A view of a view shows the part of what the view shows. Assumes nothing.
use Prim.Native.Nat.{ℕ, ◌-◌}
use mathlib.Core.Path.{◌≡◌, sym, ◌∙◌, ap}
use mathlib.Core.List.{List}
use lib.ListN.{length}
use Rattle.lists.proofs.Parts.{part_of_part}
use Rattle.char_string.specs.declared.Span.{Span}
use Rattle.char_string.specs.Parts.{Within, fitted, between, part_of, sub_view}
use Rattle.char_string.proofs.Pairs.{within_fitted, length_between}

pub sub_view_shows : (text : List ℕ) (v : Span) (from to : ℕ) → Within (length text) v → between text (sub_view v from to) ≡ part_of (between text v) from to
unfolding sub_view
sub_view_shows text v from to w =
    let m = v.end - v.start in
    let s = fitted m from to in
    let n : length (between text v) ≡ m = length_between text v w in
    sym (part_of_part v.start v.end s.start s.end text (within_fitted m from to).inside)
    ∙ ap (λ (k : ℕ). between (between text v) (fitted k from to)) (sym n)
