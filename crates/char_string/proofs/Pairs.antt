-- Right and wrong pairs of positions, and the parts between them. Assumes nothing.
use Prim.Native.Nat.{ℕ, ◌+◌, ◌-◌, ◌≤◌, ◌<◌}
use native.Mathlib.Omega.{arith}
use mathlib.Core.Path.{◌≡◌, refl, sym, ◌∙◌, ap}
use mathlib.Core.Bool.{Bool, true, false, cond, ◌&&◌}
use mathlib.Core.List.{List}
use lib.ListN.{length, get_or, drop, length-drop}
use lib.Seq.{length-take-le}
use lib.Dec.{leb}
use borrow.Author.Tests.{lt-leb, leb-true, lt-ltb, le-ltb}
use Rattle.char_string.specs.declared.Span.{Span}
use Rattle.std.specs.Prelude.{Some, None}
use Rattle.char_string.specs.Parts.{Within, right_pair, fitted, between, part_of, char_at, shifted, sub_view}

pub crossed : (n : ℕ) {a e : ℕ} → e < a → right_pair n a e ≡ false
crossed n h = simp (lt-leb _ _ h)

pub fit_right : (n a e : ℕ) → right_pair n a e ≡ true → ◌≡◌ {A = Span} (record { start = a; end = e }) (fitted n a e)
unfolding fitted
fit_right n a e h = simp h

pub fit_wrong : (n a e : ℕ) → right_pair n a e ≡ false → ◌≡◌ {A = Span} (record { start = 0; end = 0 }) (fitted n a e)
unfolding fitted
fit_wrong n a e h = simp h

-- a fitted pair is a right one
fitted_at : (n a e : ℕ) (x y : Bool) → leb a e ≡ x → leb e n ≡ y → Within n (cond (x && y) (record { start = a; end = e }) (record { start = 0; end = 0 }))
fitted_at n a e true true p q = record { order = leb-true a e p; inside = leb-true e n q }
fitted_at n a e true false p q = record { order = omega arith; inside = omega arith }
fitted_at n a e false y p q = record { order = omega arith; inside = omega arith }

pub within_fitted : (n a e : ℕ) → Within n (fitted n a e)
unfolding fitted
within_fitted n a e = fitted_at n a e (leb a e) (leb e n) refl refl

pub within_is : {n : ℕ} {s : Span} (a e : ℕ) → s ≡ fitted n a e → Within n s
within_is {n} {s} a e h = rw h (within_fitted n a e)

pub length_between : (text : List ℕ) (s : Span) → Within (length text) s → length (between text s) ≡ s.end - s.start
length_between text s h = length-take-le (s.end - s.start) (drop s.start text) (omega (arith, h.order, h.inside, length-drop s.start text))

-- what the view of a length is
pub length_is : (text : List ℕ) (a e : ℕ) (s : Span) → s ≡ fitted (length text) a e → s.end - s.start ≡ length (part_of text a e)
length_is text a e s h =
    sym (ap (λ (q : Span). length (between text q)) (sym h) ∙ length_between text s (within_is a e h))

pub char_some : (view : List ℕ) (i : ℕ) → i < length view → Some (get_or view i 0) ≡ char_at view i
char_some view i h = simp (lt-ltb _ _ h)

pub char_none : (view : List ℕ) (i : ℕ) → length view ≤ i → None ≡ char_at view i
char_none view i h = simp (le-ltb _ _ h)

-- a sub-view, by the view and the fitted pair in it
pub sub_is : (text view : List ℕ) (a e from to : ℕ) (v s : Span) → v ≡ fitted (length text) a e → view ≡ part_of text a e → s ≡ fitted (length view) from to → ◌≡◌ {A = Span} (record { start = v.start + s.start; end = v.start + s.end }) (sub_view (fitted (length text) a e) from to)
unfolding sub_view
sub_is text view a e from to v s hv hw hs =
    let n : length view ≡ v.end - v.start = ap length hw ∙ sym (length_is text a e v hv) in
    ap (λ (q : Span). shifted v.start q) (hs ∙ ap (λ (k : ℕ). fitted k from to) n)
    ∙ ap (λ (q : Span). shifted q.start (fitted (q.end - q.start) from to)) hv

-- the positions of a sub-view are positions of the text
pub sub_within : (text view : List ℕ) (a e from to : ℕ) (v s : Span) → v ≡ fitted (length text) a e → view ≡ part_of text a e → s ≡ fitted (length view) from to → (v.start + s.start ≤ length text) × (v.start + s.end ≤ length text)
sub_within text view a e from to v s hv hw hs =
    let p = within_is a e hv in
    let q = within_is from to hs in
    let n : length view ≡ v.end - v.start = ap length hw ∙ sym (length_is text a e v hv) in
    (omega (arith, p.order, p.inside, q.order, q.inside), omega (arith, p.order, p.inside, q.order, q.inside))
