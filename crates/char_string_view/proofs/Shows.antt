-- A sub-view shows that part of what the view shows, and lies where that part lies. Assumes
-- nothing.
use Prim.Native.Nat.{ℕ, ◌-◌}
use native.Mathlib.Omega.{arith}
use mathlib.Core.Path.{◌≡◌, sym, ◌∙◌, ap}
use mathlib.Core.Bool.{true}
use lib.ListN.{length}
use borrow.Author.Tests.{le-leb}
use Rattle.char_string.specs.declared.Span.{Span}
use Rattle.char_string.specs.Parts.{Within, right_pair, fitted, between, part_of, cell_at, sub_view}
use Rattle.char_string.proofs.Pairs.{fit_right, within_fitted}
use Rattle.char_string.proofs.Views.{sub_view_shows}
use Rattle.char_string_view.specs.declared.CharView.{CharView}
use Rattle.char_string_view.specs.Views.{positions, shown, shown_at, sub_view_of}

right : (n : ℕ) (s : Span) → Within n s → right_pair n s.start s.end ≡ true
right n s w = simp (le-leb s.start s.end w.order, le-leb s.end n w.inside)

-- a pair that fits is read as itself
fit_again : (n : ℕ) (s : Span) → Within n s → fitted n s.start s.end ≡ s
fit_again n s w = sym (fit_right n s.start s.end (right n s w))

sub_within : (n : ℕ) (v : Span) (from to : ℕ) → Within n v → Within n (sub_view v from to)
unfolding sub_view
sub_within n v from to w =
    let q = within_fitted (v.end - v.start) from to in
    record { order = omega (arith, q.order); inside = omega (arith, w.order, w.inside, q.inside) }

pub sub_positions : (v : CharView) (from to : ℕ) → positions (sub_view_of v from to) ≡ sub_view (positions v) from to
sub_positions v from to = fit_again (length v.text.now) (sub_view (positions v) from to) (sub_within (length v.text.now) (positions v) from to (within_fitted (length v.text.now) v.start v.end))

pub sub_shows : (v : CharView) (from to : ℕ) → shown (sub_view_of v from to) ≡ part_of (shown v) from to
sub_shows v from to =
    ap (between v.text.now) (sub_positions v from to)
    ∙ sub_view_shows v.text.now (positions v) from to (within_fitted (length v.text.now) v.start v.end)

pub sub_shown_at : (v : CharView) (from to : ℕ) → shown_at (sub_view_of v from to) ≡ cell_at v.text.ref_ptr (sub_view (positions v) from to).start
sub_shown_at v from to = ap (λ (s : Span). cell_at v.text.ref_ptr s.start) (sub_positions v from to)
