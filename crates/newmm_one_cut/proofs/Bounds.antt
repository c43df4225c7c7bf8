-- The strips before the first round and behind the last. Assumes nothing.
use Prim.Native.Nat.{ℕ, zero, suc, ◌+◌, ◌*◌, ◌-◌, ◌≤◌, ◌<◌}
use native.Mathlib.Omega.{arith}
use native.Mathlib.Decide.{dec_lt}
use mathlib.Core.Path.{◌≡◌, refl, sym, ◌∙◌, ap}
use mathlib.Core.Bool.{Bool, true, false, not}
use mathlib.Core.List.{List, [], ◌∷◌, ◌++◌, append-nil, head-eq_of_cons-eq, tail-eq_of_cons-eq}
use lib.ListN.{length, get_or, set, take, drop, length-set, length-append, length-drop, replicate, drop_of_length-le, get_or-append, get_or-eq_default}
use lib.Seq.{get_or-set_same, get_or-set_other, drop-set-lt, get_or-take, get_or-drop, length-take-le, take_at, drop_at}
use lib.Dec.{eqb}
use borrow.Author.Tests.{eq-eqb, ne_eqb, eqb-true, eqb-false}
use Rattle.newmm_rules.specs.Positions.{any, member}
use Rattle.newmm_rules.specs.Words.{Given, size}
use Rattle.newmm_rules.specs.Cutting.{State, begin, turns, cut}
use Rattle.newmm_rules.proofs.Turns.{Between, at_first, turn_off}
use Rattle.tcc.specs.Flags.{end_flags}
use Rattle.tcc.proofs.Marks.{ends_long}
use Rattle.newmm_word_step.specs.inner.Walks.{given_by}
use Rattle.newmm_edges.specs.declared.Progress.{Progress}
use Rattle.newmm_rules.specs.declared.Ends.{Ends}
use Rattle.newmm_one_cut.specs.inner.Strips.{Fresh, Marked, Done}
use Rattle.newmm_one_cut.proofs.Rounds.{Round, b_inside, ends_few, committed_low}

first_marks : (row : List ℕ) (m x : ℕ) → get_or row (5 * m) 0 ≡ 1 → ((x ≡ 0 → ⊥) → get_or row (5 * m + x) 0 ≡ 0) → member x (0 ∷ []) ≡ not (eqb (get_or row (5 * m + x) 0) 0)
unfolding any
first_marks row m x o z = go (eqb x 0) refl
  where
    go : (t : Bool) → eqb x 0 ≡ t → member x (0 ∷ []) ≡ not (eqb (get_or row (5 * m + x) 0) 0)
    go true e =
        let i : 5 * m + x ≡ 5 * m = omega (arith, eqb-true x 0 e) in
        let c : get_or row (5 * m + x) 0 ≡ 1 = ap (λ (j : ℕ). get_or row j 0) i ∙ o in
        simp (e, ne_eqb (get_or row (5 * m + x) 0) 0 (λ w. omega arith))
    go false e = simp (e, eq-eqb (get_or row (5 * m + x) 0) 0 (z (eqb-false x 0 e)))

-- ---- at the end

turns_off : (k : ℕ) {g : Given} (s : State) (h : Between g s) → size g ≤ h.least → turns k g s ≡ s
unfolding turns
turns_off zero s h l = refl
turns_off (suc k) {g} s h l = ap (λ (x : State). turns k g x) (turn_off h l) ∙ turns_off k s h l

-- a row of zeros
zeros_are : (l : List ℕ) → ((k : ℕ) → get_or l k 0 ≡ 0) → l ≡ replicate (length l) 0
zeros_are [] h = refl
zeros_are (x ∷ l) h = let z = h 0 in ap (λ (y : ℕ). y ∷ l) z ∙ ap (λ (t : List ℕ). 0 ∷ t) (zeros_are l (λ k. h (suc k)))

module _ {text pool row : List ℕ} {m b committed ends : ℕ} {p : Progress} (r : Round text pool row m b committed ends p) (over : length text ≤ b) where
  final : turns (length text) (given_by text pool) begin ≡ r.s
  final = r.rest ∙ turns_off r.k r.s r.between (omega (arith, r.b_is))

  ends_final : (cut (given_by text pool)).ends ≡ r.s.ends
  unfolding cut
  ends_final = ap (λ (x : State). x.ends) final

  edges_final : (cut (given_by text pool)).edges ≡ r.s.count
  unfolding cut
  edges_final = ap (λ (x : State). x.count) final

  pub marked : Marked (given_by text pool) text row (record { ends = ends; edges = p.total })
  marked =
      record {
        ends = r.ends_is ∙ ap length (sym ends_final);
        edges = r.total_is ∙ sym edges_final;
        size = r.exact ∙ ap (λ (k : ℕ). 8 * k + 50) r.size_is;
        few = omega (arith, ends_few r, committed_low r, b_inside r, r.size_is);
        front = r.ends_are ∙ sym ends_final;
        flags_are = ap (λ (k : ℕ). take (7 * k - 6 * k) (drop (6 * k) row)) (sym r.size_is) ∙ r.flags_are;
      }

-- all but the front of a row is cleared, as it was before
pub cleared_behind : {text pool row₀ row' : List ℕ} (row front : List ℕ) (k : ℕ) → Fresh text pool row₀ → length row ≡ length row₀ → k ≡ length front → take k row ≡ front
    → row' ≡ take k row ++ replicate {A = ℕ} (length row - k) 0 → row' ≡ front ++ drop (length front) row₀
cleared_behind {row₀ = row₀} row front k f sz n is e =
    let d : drop k row₀ ≡ replicate {A = ℕ} (length row - k) 0 =
    zeros_are (drop k row₀) (λ j. get_or-drop k row₀ j 0 ∙ f.blank (k + j)) ∙ ap (λ (i : ℕ). replicate {A = ℕ} i 0) (length-drop k row₀ ∙ ap (λ (i : ℕ). i - k) (sym sz))
    in
    e ∙ ap (λ (l : List ℕ). l ++ replicate {A = ℕ} (length row - k) 0) is ∙ ap (λ (l : List ℕ). front ++ l) (sym d) ∙ ap (λ (i : ℕ). front ++ drop i row₀) n

module _ {text pool row₀ row : List ℕ} {r : Ends} (f : Fresh text pool row₀) (d : Marked (given_by text pool) text row r) where
  pub same_size : length row ≡ length row₀
  same_size = d.size ∙ sym f.size

  pub ends_fit : r.ends ≤ length row
  ends_fit = omega (arith, d.few, d.size)

  pub done : {row' : List ℕ} → row' ≡ take r.ends row ++ replicate {A = ℕ} (length row - r.ends) 0 → Done (given_by text pool) row₀ row' r
  done e = record { ends = d.ends; edges = d.edges; is = cleared_behind row (cut (given_by text pool)).ends r.ends f same_size d.ends d.front e }

-- ---- at the start

module _ (text pool row : List ℕ) (m : ℕ) (f : Fresh text pool row) (size_is : m ≡ length text + 1) (t : List ℕ)
    (flags : t ≡ end_flags text ++ drop (length text + 1) (take (7 * m - 6 * m) (drop (6 * m) row))) where
  abbrev row₁ : List ℕ
  row₁ = take (6 * m) row ++ (t ++ drop (7 * m - 6 * m) (drop (6 * m) row))

  abbrev row₂ : List ℕ
  row₂ = set row₁ (5 * m) 1

  part_size : length (take (7 * m - 6 * m) (drop (6 * m) row)) ≡ m
  part_size = length-take-le (7 * m - 6 * m) (drop (6 * m) row) (omega (arith, length-drop (6 * m) row, f.size)) ∙ omega arith

  t_is : t ≡ end_flags text
  t_is = flags ∙ ap (λ (l : List ℕ). end_flags text ++ l) (drop_of_length-le (take (7 * m - 6 * m) (drop (6 * m) row)) {i = length text + 1} (omega (arith, part_size))) ∙ append-nil (end_flags text)

  t_size : length t ≡ 7 * m - 6 * m
  t_size = ap length t_is ∙ ends_long text ∙ omega arith

  front_size : length (take (6 * m) row) ≡ 6 * m
  front_size = length-take-le (6 * m) row (omega (arith, f.size))

  pub size₁ : length row₁ ≡ length row
  size₁ =
      length-append (take (6 * m) row) (t ++ drop (7 * m - 6 * m) (drop (6 * m) row))
      ∙ omega (arith, front_size, length-append t (drop (7 * m - 6 * m) (drop (6 * m) row)), t_size, length-drop (7 * m - 6 * m) (drop (6 * m) row), length-drop (6 * m) row, f.size)

  low₁ : (i : ℕ) → i < 6 * m → get_or row₁ i 0 ≡ 0
  low₁ i h = get_or-append (take (6 * m) row) (t ++ drop (7 * m - 6 * m) (drop (6 * m) row)) 0 i (omega (arith, front_size)) ∙ get_or-take (6 * m) row i 0 h ∙ f.blank i

  low₂ : (i : ℕ) → i < 6 * m → (i ≡ 5 * m → ⊥) → get_or row₂ i 0 ≡ 0
  low₂ i h n = get_or-set_other row₁ (5 * m) i 1 0 n ∙ low₁ i h

  pub first_round : Round text pool row₂ m 0 0 0 (record { edges = 0; left = 0; total = 0 })
  first_round =
      let b = at_first (given_by text pool) in
      record {
        size_is = size_is;
        sized = record { small = (let s = f.short in omega arith); long = omega (arith, length-set row₁ (5 * m) 1, size₁, f.size) };
        exact = length-set row₁ (5 * m) 1 ∙ size₁ ∙ omega (arith, f.size);
        root_is = f.root_is;
        flags_are = ap (take (7 * m - 6 * m)) (drop-set-lt (6 * m) row₁ (5 * m) 1 (omega arith) ∙ drop_at (take (6 * m) row) (t ++ drop (7 * m - 6 * m) (drop (6 * m) row)) (6 * m) front_size)
            ∙ take_at t (drop (7 * m - 6 * m) (drop (6 * m) row)) (7 * m - 6 * m) t_size ∙ t_is;
        s = begin;
        between = b;
        k = length text;
        enough = omega arith;
        rest = refl;
        b_is = head-eq_of_cons-eq b.is;
        committed_is = refl;
        stand = record { marks = marks_first; graph = λ v l h. absurd (omega arith); fits = λ v l h. absurd (omega arith); shown = λ x i. i };
        edges_is = refl;
        left_is = ap length (tail-eq_of_cons-eq b.is);
        total_is = refl;
        ends_is = refl;
        ends_are = refl;
        unmarked = λ x l h. low₂ (2 * m + x) (omega arith) (λ e. omega arith);
        firsts = λ v l h. low₂ (3 * m + v) (omega arith) (λ e. omega arith);
        counts = λ v l h. low₂ (4 * m + v) (omega arith) (λ e. omega arith);
      }
    where
      marks_first : (x : ℕ) → x < m → member x (0 ∷ []) ≡ not (eqb (get_or row₂ (5 * m + x) 0) 0)
      marks_first x h = first_marks row₂ m x (get_or-set_same row₁ (5 * m) 1 0 (omega (arith, size₁, f.size))) (λ n. low₂ (5 * m + x) (omega arith) (λ e. n (omega arith)))

-- the strip of the cluster ends, before they are marked
module _ {text pool row : List ℕ} {m : ℕ} (f : Fresh text pool row) (e : m ≡ length text + 1) where
  abbrev strip : List ℕ
  strip = take (7 * m - 6 * m) (drop (6 * m) row)

  strip_size : length strip ≡ length text + 1
  strip_size = length-take-le (7 * m - 6 * m) (drop (6 * m) row) (omega (arith, length-drop (6 * m) row, f.size)) ∙ omega arith

  pub part_long : length text < length strip
  part_long = omega (arith, strip_size)

  strip_cell : (k : ℕ) → get_or strip k 0 ≡ 0
  strip_cell k =
      elim (dec_lt k (7 * m - 6 * m)) [
        | yes h ↦ get_or-take (7 * m - 6 * m) (drop (6 * m) row) k 0 h ∙ get_or-drop (6 * m) row k 0 ∙ f.blank (6 * m + k)
        | no n ↦ get_or-eq_default strip 0 {n = k} (omega (arith, strip_size))
      ]

  pub part_blank : strip ≡ replicate {A = ℕ} (length text + 1) 0 ++ drop (length text + 1) strip
  part_blank =
      zeros_are strip strip_cell ∙ ap (λ (k : ℕ). replicate {A = ℕ} k 0) strip_size ∙ sym (append-nil (replicate {A = ℕ} (length text + 1) 0))
      ∙ ap (λ (l : List ℕ). replicate {A = ℕ} (length text + 1) 0 ++ l) (sym (drop_of_length-le strip {i = length text + 1} (omega (arith, strip_size))))
