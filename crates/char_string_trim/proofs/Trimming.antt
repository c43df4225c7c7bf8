-- Where a trimmed word stands. Assumes nothing.
use Prim.Native.Nat.{ℕ, ◌+◌, ◌-◌, ◌≤◌}
use native.Mathlib.Omega.{arith}
use mathlib.Core.Path.{◌≡◌, sym, ◌∙◌, ap}
use mathlib.Core.List.{List}
use lib.ListN.{length, take, drop, length-drop}
use Rattle.lists.specs.Scans.{behind_last}
use lib.Seq.{length-take-le}
use borrow.Author.Tests.{le-leb}
use Rattle.lists.proofs.Parts.{tail_drop}
use Rattle.lists.proofs.Scans.{leading_inside, last_inside}
use Rattle.char_string.specs.declared.Span.{Span}
use Rattle.char_string.proofs.Pairs.{fit_right}
use Rattle.char_string.specs.Parts.{fitted, between, part_of}
use Rattle.char_string_white_space.specs.Trimmed.{is_trimmed}
use Rattle.char_string_trim.specs.Trimming.{stays, trim_start, trim_end, trim_of, trimmed_of}

pub start_inside : (word : List ℕ) → trim_start word ≤ length word
start_inside word = leading_inside is_trimmed word

pub end_inside : (word : List ℕ) → trim_end word ≤ length word
end_inside word = omega (arith, start_inside word, last_inside stays (drop (trim_start word) word), length-drop (trim_start word) word)

-- the span that is made of a scan from each side
pub span_is : (word : List ℕ) (a k : ℕ) → a ≡ trim_start word → k ≡ behind_last stays (take (length word - a) (drop a word)) → ◌≡◌ {A = Span} (record { start = a; end = a + k }) (trim_of word)
span_is word a k e h =
    let t : k ≡ behind_last stays (drop (trim_start word) word) = h ∙ ap (behind_last stays) (tail_drop word a ∙ ap (λ (i : ℕ). drop i word) e) in
    λ i. record { start = e i; end = e i + t i }

pub span_inside : (word : List ℕ) (a k : ℕ) → a ≡ trim_start word → k ≡ behind_last stays (take (length word - a) (drop a word)) → a + k ≤ length word
span_inside word a k e h =
    omega (arith, start_inside word, e, h, last_inside stays (take (length word - a) (drop a word)), ap length (tail_drop word a), length-drop a word)

-- the two positions are a right pair
pub record Fits (word : List ℕ) (a b : ℕ) : Type 0 where
  pub order : a ≤ b
  pub inside : b ≤ length word

pub fits : (word : List ℕ) (s : Span) → s ≡ trim_of word → Fits word s.start s.end
fits word s e =
    let x : s.start ≡ trim_start word = ap (λ (q : Span). q.start) e in
    let y : s.end ≡ trim_end word = ap (λ (q : Span). q.end) e in
    record { order = omega arith; inside = omega (arith, end_inside word) }

-- the trimmed word is the part between them
right : (word : List ℕ) (s : Span) → s ≡ trim_of word → s ≡ fitted (length word) s.start s.end
right word s e =
    let f = fits word s e in
    fit_right (length word) s.start s.end (simp (le-leb s.start s.end f.order, le-leb s.end (length word) f.inside))

pub part_is : (word : List ℕ) (s : Span) → s ≡ trim_of word → part_of word s.start s.end ≡ trimmed_of word
unfolding trimmed_of
part_is word s e = ap (between word) (sym (right word s e) ∙ e)

pub start_is : (word : List ℕ) (s : Span) → s ≡ trim_of word → (fitted (length word) s.start s.end).start ≡ trim_start word
start_is word s e = ap (λ (q : Span). q.start) (sym (right word s e) ∙ e)

pub length_is : (word : List ℕ) (s : Span) → s ≡ trim_of word → s.end - s.start ≡ length (trimmed_of word)
unfolding trimmed_of
length_is word s e =
    let f = fits word s e in
    sym (length-take-le (s.end - s.start) (drop s.start word) (omega (arith, f.order, f.inside, length-drop s.start word)))
    ∙ ap (λ (q : Span). length (take (q.end - q.start) (drop q.start word))) e
