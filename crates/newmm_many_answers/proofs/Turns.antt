-- Texts that are answered one after the other, met from the left. Assumes nothing.
use Rattle.std.specs.Prelude.{Ok, Result, Err}
use Rattle.newmm_rules.specs.declared.Ends.{Ends}
use Rattle.refusal.specs.declared.Refusal.{Refusal}
use Prim.Native.Nat.{ℕ, ◌*◌}
use native.Mathlib.Omega.{arith}
use mathlib.Core.Path.{◌≡◌, refl, sym, ◌∙◌, ap}
use mathlib.Core.List.{List, [], ◌∷◌, ◌++◌, append_assoc, append-nil}
use lib.ListN.{length, length-append}
use Rattle.newmm_many_answers.specs.Turns.{Single, Singly, Turns, cells_of, all_cells, wrote_of, rest_of, before, in_turn}

pub turn_first : (one : Singly) (text : List ℕ) (texts : List (List ℕ)) (out scratch : List ℕ)
    → in_turn one (text ∷ texts) out scratch ≡ before (one text out scratch) (in_turn one texts (rest_of (one text out scratch)) (one text out scratch).scratch)
unfolding in_turn
turn_first one text texts out scratch = refl

pub turn_none : (one : Singly) (out scratch : List ℕ) → in_turn one [] out scratch ≡ record { told = []; out = out; scratch = scratch }
unfolding in_turn
turn_none one out scratch = refl

-- the turns so far, and those that are left
abbrev pub onward : List (Result Ends Refusal) → List ℕ → Turns → Turns
onward told written t = record { told = told ++ t.told; out = written ++ t.out; scratch = t.scratch }

-- one turn more is done
pub onward_more : (told : List (Result Ends Refusal)) (written : List ℕ) (s : Single) (later : Turns)
    → onward told written (before s later) ≡ onward (told ++ (s.told ∷ [])) (written ++ wrote_of s) later
onward_more told written s later =
    (λ i. record {
      told = sym (append_assoc told (s.told ∷ []) later.told) i;
      out = sym (append_assoc written (wrote_of s) later.out) i;
      scratch = later.scratch;
    })

-- ---- the answers' cells

pub cells_long : (a : Result Ends Refusal) → length (cells_of a) ≡ 4
cells_long (Ok told) = refl
cells_long (Err r) = refl

pub all_cells_long : (told : List (Result Ends Refusal)) → length (all_cells told) ≡ 4 * length told
all_cells_long [] = refl
all_cells_long (a ∷ told) = omega (arith, length-append (cells_of a) (all_cells told), cells_long a, all_cells_long told)

pub cells_more : (told : List (Result Ends Refusal)) (a : Result Ends Refusal) → all_cells (told ++ (a ∷ [])) ≡ all_cells told ++ cells_of a
cells_more [] a = append-nil (cells_of a)
cells_more (b ∷ told) a = ap (λ (l : List ℕ). cells_of b ++ l) (cells_more told a) ∙ sym (append_assoc (cells_of b) (all_cells told) (cells_of a))
