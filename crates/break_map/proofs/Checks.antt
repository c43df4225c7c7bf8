-- The refusals of the three calls, and what a call that comes past them has. Assumes nothing.
use Rattle.std.specs.Prelude.{Option, Some, Result, Ok, Err}
use Prim.Native.Nat.{ℕ, ◌+◌, ◌*◌, ◌-◌, ◌/◌, ◌%◌, ◌≤◌, ◌<◌}
use native.Mathlib.Omega.{arith}
use mathlib.Core.Path.{◌≡◌, refl, sym, ◌∙◌, ap, ap₂}
use mathlib.Core.Bool.{Bool, cond}
use mathlib.Core.List.{List, [], ◌∷◌, ◌++◌, append-nil}
use lib.ListN.{length, get_or, take, drop}
use lib.Seq.{length-take-le}
use lib.Count.{count_trailing_zeros}
use lib.Dec.{ltb}
use borrow.Author.Tests.{lt-ltb, le-ltb, ltb-false}
use Rattle.refusal.specs.declared.Refusal.{Refusal}
use Rattle.refusal.specs.declared.Refusal.TheVariants.{TooManyScalars, OutputTooShort, WrongPosition, BitAboveEnd}
use Rattle.refusal.specs.Answers.{Cause, answer, output, long_cause, out_cause}
use Rattle.refusal.proofs.Order.{refused_first}
use Rattle.refusal.proofs.Causes.{none_of, again, still, handed, no_output, cause_yes, cause_no, out_short, out_fits}
use Rattle.newmm_rules.specs.Positions.{up_from, those, member}
use Rattle.break_map_rules.specs.Maps.{cells_for, bits_for, word, cells, map_of, is_break, breaks, breaks_up_to, breaks_above, bits_above}
use Rattle.break_map_rules.specs.Ends.{first_wrong, AllRight}
use Rattle.break_map_rules.specs.Answers.{size_causes, ends_cause, position_cause, above_cause, map_answer, map_after, read_causes, count_answer, first_of, unless_refused, next_answer}
use Rattle.break_map_rules.proofs.Bits.{none_are, first_is}
use Rattle.break_map_rules.proofs.Breaks.{those_split}
use Rattle.break_map_rules.proofs.Cells.{breaks_take}
use Rattle.break_map_rules.proofs.Ends.{right_most, end_at}
use Rattle.break_map_rules.proofs.Maps.{map_long}

same_number : {k m : ℕ} → ◌≡◌ {A = Result ℕ Refusal} (Ok k) (Ok m) → k ≡ m
same_number e = cc

-- the number that is told where a call is accepted
pub number_is : (rs : List Cause) (n : ℕ) {k : ℕ} → answer rs n ≡ Ok k → k ≡ n
number_is rs n h = same_number (sym h ∙ sym (again rs n n h))

-- ---- 2 and 6

module _ (n room m : ℕ) where
  pub too_long : 65535 < n → Err (TooManyScalars n) ≡ answer (size_causes n room) m
  too_long h = sym (ap (λ (b : Bool). cond b (Err (TooManyScalars n)) (answer (out_cause (cells_for n) room ∷ []) m)) (lt-ltb 65535 n h))

  module _ (h : n ≤ 65535) where
    short : answer (long_cause n ∷ []) 0 ≡ Ok 0
    short = ap (λ (b : Bool). cond b (Err (TooManyScalars n)) (Ok 0)) (le-ltb 65535 n h)

    pub row_short : room < n / 64 + 1 → Err (OutputTooShort (n / 64 + 1)) ≡ answer (size_causes n room) m
    row_short l = out_short (long_cause n ∷ []) (cells_for n) room 0 m (n / 64 + 1) short (omega arith) l

    pub row_fits : n / 64 + 1 ≤ room → Ok (n / 64 + 1) ≡ answer (size_causes n room) (cells_for n)
    row_fits l = out_fits (long_cause n ∷ []) (cells_for n) room 0 (n / 64 + 1) short (omega arith) l

-- what comes past them
module _ (n room : ℕ) {used : ℕ} (sized : answer (size_causes n room) (cells_for n) ≡ Ok used) where
  pub used_is : used ≡ cells_for n
  used_is = number_is (size_causes n room) (cells_for n) sized

  pub size_is : (n ≤ 65535) × (cells_for n ≤ room)
  size_is = let q = none_of (size_causes n room) (cells_for n) used sized in (ltb-false 65535 n q.0, ltb-false room (cells_for n) q.1.0)

-- ---- 10 of the ends

pub map_unsized : (n : ℕ) (ends old : List ℕ) {a : Result ℕ Refusal} {r : Refusal} → a ≡ answer (size_causes n (length old)) (cells_for n) → a ≡ Err r
    → (a ≡ map_answer n ends (length old)) × (old ≡ map_after n ends old)
map_unsized n ends old is e =
    let h = handed (size_causes n (length old)) (ends_cause n ends ∷ []) (cells_for n) (cells_for n) is e in (h, no_output (map_of n ends) old (sym h ∙ e))

module _ (n : ℕ) (ends old : List ℕ) {used wrong : ℕ} (sized : answer (size_causes n (length old)) (cells_for n) ≡ Ok used) (is : wrong ≡ first_wrong n ends) where
  pub wrong_end : wrong < length ends → (Err (WrongPosition wrong) ≡ map_answer n ends (length old)) × (old ≡ map_after n ends old)
  wrong_end l =
      let h : Err (WrongPosition wrong) ≡ map_answer n ends (length old) =
      ap (λ (k : ℕ). Err (WrongPosition k)) is
      ∙ cause_yes (size_causes n (length old)) (ends_cause n ends) (cells_for n) (cells_for n) sized (lt-ltb (first_wrong n ends) (length ends) (omega arith)) in
      (h, no_output (map_of n ends) old (sym h))

  module _ (l : length ends ≤ wrong) where
    all_ends : AllRight n ends
    all_ends = let z = right_most n ends in omega arith

    pub map_accepted : Ok used ≡ map_answer n ends (length old)
    map_accepted =
        ap Ok (used_is n (length old) sized)
        ∙ cause_no (size_causes n (length old)) (ends_cause n ends) (cells_for n) (cells_for n) sized (le-ltb (first_wrong n ends) (length ends) (omega arith))

    -- every end has its bit in the cells that the map takes
    pub bits_enough : (i : ℕ) → i < length ends → get_or ends i 0 < 64 * length (take used old)
    bits_enough i h =
        let u = used_is n (length old) sized in
        let t = length-take-le used old (let z = size_is n (length old) sized in omega (arith, z.1)) in
        let e = end_at n ends all_ends i h in
        omega arith

    -- the cells that are written, and those behind them
    pub map_written : (new : List ℕ) → new ≡ cells (λ (p : ℕ). member p ends) (length (take used old)) 0 → new ++ drop used old ≡ map_after n ends old
    unfolding map_of
    map_written new e =
        let u = used_is n (length old) sized in
        let t : length (take used old) ≡ cells_for n = length-take-le used old (let z = size_is n (length old) sized in omega (arith, z.1)) ∙ u in
        let k : used ≡ length (map_of n ends) = u ∙ sym (map_long n ends) in
        ap₂ (λ (l : List ℕ) (i : ℕ). l ++ drop i old) (e ∙ ap (λ (c : ℕ). cells (λ (p : ℕ). member p ends) c 0) t) k
        ∙ ap (λ (a : Result ℕ Refusal). output a (map_of n ends) old) map_accepted

-- ---- 10 of a position, and 11

module _ (n : ℕ) (map : List ℕ) (position : ℕ) {used : ℕ} (sized : answer (size_causes n (length map)) (cells_for n) ≡ Ok used) where
  abbrev size : List Cause
  size = size_causes n (length map)

  pub wrong_position : n < position → Err (WrongPosition position) ≡ answer (read_causes n map position) (cells_for n)
  wrong_position l =
      sym (refused_first (size ++ (position_cause n position ∷ [])) (above_cause n map ∷ []) (cells_for n) (cells_for n)
      (sym (cause_yes size (position_cause n position) (cells_for n) (cells_for n) sized (lt-ltb n position l))))

  module _ (l : position ≤ n) where
    abbrev placed : List Cause
    placed = size ++ (position_cause n position ∷ [])

    past : answer placed (cells_for n) ≡ Ok (cells_for n)
    past = sym (cause_no size (position_cause n position) (cells_for n) (cells_for n) sized (le-ltb n position l))

    pub none_above : bits_above n map ≡ [] → Ok used ≡ answer (read_causes n map position) (cells_for n)
    none_above e =
        ap Ok (used_is n (length map) sized)
        ∙ cause_no placed (above_cause n map) (cells_for n) (cells_for n) past (ap (λ (xs : List ℕ). ltb 0 (length xs)) e)

    some_above : {q : ℕ} (xs : List ℕ) → first_of xs ≡ Some q → bits_above n map ≡ xs → Err (BitAboveEnd q) ≡ answer (read_causes n map position) (cells_for n)
    some_above [] f e = absurd (let z : ◌≡◌ {A = ℕ} 0 1 = cc in omega arith)
    some_above {q} (x ∷ xs) f e =
        let k : q ≡ get_or (bits_above n map) 0 0 = sym (same f) ∙ ap (λ (ys : List ℕ). get_or ys 0 0) (sym e) in
        ap (λ (z : ℕ). Err (BitAboveEnd z)) k
        ∙ cause_yes placed (above_cause n map) (cells_for n) (cells_for n) past (lt-ltb 0 (length (bits_above n map)) (omega (arith, ap length e)))
      where
        same : Some x ≡ Some q → x ≡ q
        same w = cc

    -- the last used cell is full
    pub no_room_above : n + 1 ≡ 64 * used → Ok used ≡ answer (read_causes n map position) (cells_for n)
    unfolding up_from those
    no_room_above h =
        let k : bits_for n - (n + 1) ≡ 0 = (let u = used_is n (length map) sized in omega arith) in
        none_above (ap (λ (d : ℕ). breaks map d (n + 1)) k)

    -- or its bits from n + 1 on decide
    module _ (h : n + 1 ≡ 64 * used → ⊥) {bits : ℕ} (is : bits ≡ word (is_break map) (64 - (n + 1) % 64) (n + 1)) where
      to_the_end : 64 - (n + 1) % 64 ≡ bits_for n - (n + 1)
      to_the_end = let u = used_is n (length map) sized in omega (arith, h)

      pub clear_above : bits ≡ 0 → Ok used ≡ answer (read_causes n map position) (cells_for n)
      clear_above z =
          none_above (ap (λ (d : ℕ). breaks map d (n + 1)) (sym to_the_end) ∙ none_are (is_break map) (64 - (n + 1) % 64) (n + 1) (sym is ∙ z))

      pub bit_above : (bits ≡ 0 → ⊥) → {r : ℕ} → r ≡ count_trailing_zeros 64 bits → Err (BitAboveEnd (n + 1 + r)) ≡ answer (read_causes n map position) (cells_for n)
      bit_above b {r} e =
          let k : r ≡ count_trailing_zeros 64 (word (is_break map) (64 - (n + 1) % 64) (n + 1)) = e ∙ ap (count_trailing_zeros 64) is in
          ap (λ (x : ℕ). Err (BitAboveEnd (n + 1 + x))) k
          ∙ some_above (breaks map (64 - (n + 1) % 64) (n + 1))
          (first_is (is_break map) 64 (64 - (n + 1) % 64) (n + 1) (omega arith) (omega (arith, is, b)))
          (ap (λ (d : ℕ). breaks map d (n + 1)) (sym to_the_end))

-- ---- a map that is asked

pub record Asked (n : ℕ) (map : List ℕ) (position used : ℕ) : Type 0 where
  pub small : n ≤ 65535
  pub room : cells_for n ≤ length map
  pub within : position ≤ n
  pub clear : bits_above n map ≡ []
  pub cells_used : used ≡ cells_for n

module _ (n : ℕ) (map : List ℕ) (position : ℕ) {used : ℕ} (h : answer (read_causes n map position) (cells_for n) ≡ Ok used) where
  pub asked : Asked n map position used
  asked =
      let q = none_of (read_causes n map position) (cells_for n) used h in
      record {
        small = ltb-false 65535 n q.0;
        room = ltb-false (length map) (cells_for n) q.1.0;
        within = ltb-false n position q.1.1.0;
        clear = empty (bits_above n map) (ltb-false 0 (length (bits_above n map)) q.1.1.1.0);
        cells_used = number_is (read_causes n map position) (cells_for n) h;
      }
    where
      empty : (xs : List ℕ) → length xs ≤ 0 → xs ≡ []
      empty [] l = refl
      empty (x ∷ xs) l = absurd (omega arith)

  pub counted : (k : ℕ) → k ≡ breaks_up_to map position → Ok k ≡ count_answer n map position
  counted k e = ap Ok e ∙ again (read_causes n map position) (cells_for n) (breaks_up_to map position) h

  pub found : (r : Option ℕ) (cells : ℕ) → cells ≡ used → r ≡ first_of (breaks (take used map) (64 * cells - (position + 1)) (position + 1)) → Ok r ≡ next_answer n map position
  found r cells same e =
      let a = asked in
      let k : 64 * used - (position + 1) ≡ n - position + (bits_for n - (n + 1)) = omega (arith, a.within, a.cells_used) in
      let p : position + 1 + (n - position) ≡ n + 1 = omega (arith, a.within) in
      ap Ok (e
      ∙ ap first_of (ap (λ (c : ℕ). breaks (take used map) (64 * c - (position + 1)) (position + 1)) same
      ∙ breaks_take used map (64 * used - (position + 1)) (position + 1) (omega (arith, k))
      ∙ those_split (is_break map) (n - position) (64 * used - (position + 1)) (bits_for n - (n + 1)) (position + 1) k
      ∙ ap (λ (z : ℕ). breaks_above n map position ++ breaks map (bits_for n - (n + 1)) z) p
      ∙ ap (λ (xs : List ℕ). breaks_above n map position ++ xs) a.clear
      ∙ append-nil (breaks_above n map position)))
      ∙ ap (λ (z : Result ℕ Refusal). unless_refused z (first_of (breaks_above n map position))) (again (read_causes n map position) (cells_for n) 0 h)

pub not_asked : (n : ℕ) (map : List ℕ) (position : ℕ) {r : Refusal} → answer (read_causes n map position) (cells_for n) ≡ Err r
    → Err r ≡ next_answer n map position
not_asked n map position e =
    ap (λ (z : Result ℕ Refusal). unless_refused z (first_of (breaks_above n map position))) (still (read_causes n map position) (cells_for n) 0 e)
