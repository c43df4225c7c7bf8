-- Texts that are answered one after the other, text by text. Assumes nothing.
use Rattle.std.specs.Prelude.{Result, Ok, Err}
use Rattle.newmm_rules.specs.declared.Ends.{Ends}
use Rattle.refusal.specs.declared.Refusal.{Refusal}
use Prim.Native.Nat.{ℕ, zero, suc, ◌+◌, ◌*◌, ◌-◌, ◌≤◌, ◌<◌}
use native.Mathlib.Omega.{arith}
use mathlib.Core.Path.{◌≡◌, refl, sym, ◌∙◌, ap, subst}
use mathlib.Core.List.{List, [], ◌∷◌, ◌++◌, append_assoc}
use mathlib.Core.Option.{Option}
use lib.ListN.{length, get_or, take, drop, replicate, length-drop, length-replicate}
use lib.Seq.{take_at, drop_at, drop-drop}
use Rattle.refusal.specs.Answers.{answer}
use Rattle.refusal.proofs.Causes.{again}
use Rattle.trie_pool.specs.Meaning.{Words}
use Rattle.newmm_rules.specs.declared.Mode.{Mode}
use Rattle.newmm_answers.specs.Answers.{first_causes, cleared, scratch_after}
use Rattle.newmm_many_answers.specs.Texts.{texts_from}
use Rattle.newmm_many_answers.specs.Turns.{Singly, Turns, cells_of, all_cells, ends_told, rest_of, in_turn}
use Rattle.newmm_many_answers.proofs.Answered.{scratch_as_long}
use Rattle.newmm_many_answers.proofs.Turns.{turn_first, cells_long}
use Rattle.theorems_demands.specs.ManyTexts.{cells_at, counts_before}
use Rattle.theorems_demands.proofs.ManyShapes.{Shape, no_cells, telling, taking, writing, taking_fits, writing_long, rest_is, shaped}

-- ---- the texts

abbrev pub nth : ℕ → List (List ℕ) → List ℕ
nth i [] = []
nth zero (t ∷ ts) = t
nth (suc i) (t ∷ ts) = nth i ts

pub texts_number : (row : List ℕ) (from : ℕ) (ends : List ℕ) → length (texts_from row from ends) ≡ length ends
unfolding texts_from
texts_number row from [] = refl
texts_number row from (e ∷ es) = ap suc (texts_number row e es)

pub nth_text : (row : List ℕ) (from : ℕ) (ends : List ℕ) (i : ℕ) → i < length ends
    → nth i (texts_from row from ends) ≡ take (get_or ends i 0 - get_or (from ∷ ends) i 0) (drop (get_or (from ∷ ends) i 0) row)
unfolding texts_from
nth_text row from [] i h = absurd (omega arith)
nth_text row from (e ∷ es) zero h = refl
nth_text row from (e ∷ es) (suc i) h = nth_text row e es i (omega arith)

-- ---- the answers

-- as many ends as the first i answers tell
abbrev pub used_before : ℕ → List (Result Ends Refusal) → ℕ
used_before i [] = 0
used_before zero (a ∷ as') = 0
used_before (suc i) (a ∷ as') = ends_told a + used_before i as'

abbrev pub nth_told : ℕ → List (Result Ends Refusal) → List ℕ
nth_told i [] = []
nth_told zero (a ∷ as') = cells_of a
nth_told (suc i) (a ∷ as') = nth_told i as'

four_more : (a : Result Ends Refusal) (i : ℕ) (l : List ℕ) → drop (4 * suc i) (cells_of a ++ l) ≡ drop (4 * i) l
four_more a i l =
    let e : 4 * suc i ≡ 4 + 4 * i = omega arith in
    ap (λ (k : ℕ). drop k (cells_of a ++ l)) e ∙ sym (drop-drop (4 * i) 4 (cells_of a ++ l)) ∙ ap (drop (4 * i)) (drop_at (cells_of a) l 4 (cells_long a))

pub cells_at_nth : (told : List (Result Ends Refusal)) (rest : List ℕ) (i : ℕ) → i < length told → cells_at i (all_cells told ++ rest) ≡ nth_told i told
cells_at_nth [] rest i h = absurd (omega arith)
cells_at_nth (a ∷ told) rest zero h = ap (take 4) (append_assoc (cells_of a) (all_cells told) rest) ∙ take_at (cells_of a) (all_cells told ++ rest) 4 (cells_long a)
cells_at_nth (a ∷ told) rest (suc i) h =
    ap (take 4) (ap (drop (4 * suc i)) (append_assoc (cells_of a) (all_cells told) rest) ∙ four_more a i (all_cells told ++ rest)) ∙ cells_at_nth told rest i (omega arith)

pub counts_are : (told : List (Result Ends Refusal)) (rest : List ℕ) (i : ℕ) → i ≤ length told → counts_before i (all_cells told ++ rest) ≡ used_before i told
counts_are [] rest zero h = refl
counts_are [] rest (suc i) h = absurd (omega arith)
counts_are (a ∷ told) rest zero h = refl
counts_are (Ok made ∷ told) rest (suc i) h = ap (λ (k : ℕ). made.ends + k) (counts_are told rest i (omega arith))
counts_are (Err r ∷ told) rest (suc i) h = ap (λ (k : ℕ). 0 + k) (counts_are told rest i (omega arith))

-- ---- the turns

module _ (s : Shape) (mode : Mode) (m : Option Words) where
  abbrev one : Singly
  one = shaped s mode m

  pub told_number : (texts : List (List ℕ)) (out scratch : List ℕ) → length (in_turn one texts out scratch).told ≡ length texts
  unfolding in_turn
  told_number [] out scratch = refl
  told_number (t ∷ ts) out scratch = ap suc (told_number ts (rest_of (one t out scratch)) (scratch_after t m scratch))

  -- what is told of text i, and what stands at `start`, where its cells start
  pub record Answered (texts : List (List ℕ)) (out : List ℕ) (cells i : ℕ) (t : Turns) (start : ℕ) : Type 0 where
    pub fits : start ≤ length out
    pub told_is : nth_told i t.told ≡ cells_of (telling s mode m cells (nth i texts) (drop start out))
    pub wrote_is : take (taking s mode m cells (nth i texts) (drop start out)) (drop start t.out) ≡ writing s mode m cells (nth i texts) (drop start out)

  pub each : (texts : List (List ℕ)) (out scratch : List ℕ) (i : ℕ) → i < length texts
      → Answered texts out (length scratch) i (in_turn one texts out scratch) (s.cells (used_before i (in_turn one texts out scratch).told))
  each [] out scratch i h = absurd (omega arith)
  each (t ∷ ts) out scratch zero h =
      let later = in_turn one ts (rest_of (one t out scratch)) (scratch_after t m scratch) in
      subst (λ (r : Turns). Answered (t ∷ ts) out (length scratch) 0 r (s.cells (used_before 0 r.told))) (sym (turn_first one t ts out scratch))
      (subst (Answered (t ∷ ts) out (length scratch) 0 (record { told = (one t out scratch).told ∷ later.told; out = writing s mode m (length scratch) t out ++ later.out; scratch = later.scratch })) (sym (no_cells s))
      (record {
        fits = omega arith;
        told_is = refl;
        wrote_is = take_at (writing s mode m (length scratch) t out) later.out (taking s mode m (length scratch) t out) (writing_long s mode m (length scratch) t out);
      }))
  each (t ∷ ts) out scratch (suc i) h =
      let k = length scratch in
      let n = taking s mode m k t out in
      let later = in_turn one ts (rest_of (one t out scratch)) (scratch_after t m scratch) in
      let u = s.cells (used_before i later.told) in
      let ih : Answered ts (drop n out) k i later u =
      subst (λ (j : ℕ). Answered ts (drop n out) j i later u) (scratch_as_long t m scratch)
      (subst (λ (o : List ℕ). Answered ts o (length (scratch_after t m scratch)) i later u) (rest_is s mode m k t out) (each ts (rest_of (one t out scratch)) (scratch_after t m scratch) i (omega arith))) in
      let d : drop u (drop n out) ≡ drop (n + u) out = drop-drop u n out in
      let e : drop (n + u) (writing s mode m k t out ++ later.out) ≡ drop u later.out =
      sym (drop-drop u n (writing s mode m k t out ++ later.out)) ∙ ap (drop u) (drop_at (writing s mode m k t out) later.out n (writing_long s mode m k t out)) in
      subst (λ (r : Turns). Answered (t ∷ ts) out k (suc i) r (s.cells (used_before (suc i) r.told))) (sym (turn_first one t ts out scratch))
      (subst (Answered (t ∷ ts) out k (suc i) (record { told = (one t out scratch).told ∷ later.told; out = writing s mode m k t out ++ later.out; scratch = later.scratch })) (sym (s.sums (ends_told (one t out scratch).told) (used_before i later.told)))
      (record {
        fits = omega (arith, ih.fits, taking_fits s mode m k t out, length-drop n out);
        told_is = ih.told_is ∙ ap (λ (o : List ℕ). cells_of (telling s mode m k (nth i ts) o)) d;
        wrote_is = ap (take (taking s mode m k (nth i ts) (drop (n + u) out))) e
            ∙ ap (λ (o : List ℕ). take (taking s mode m k (nth i ts) o) (drop u later.out)) (sym d)
            ∙ ih.wrote_is
            ∙ ap (writing s mode m k (nth i ts)) d;
      }))

  -- ---- scratch

  abbrev first : List ℕ → ℕ → Result ℕ Refusal
  first text cells = answer (first_causes text m cells) 0

  -- cells of 0 stay so
  zeros_stay : (texts : List (List ℕ)) (out scratch : List ℕ) (k : ℕ) → scratch ≡ replicate {A = ℕ} k 0 → (in_turn one texts out scratch).scratch ≡ replicate {A = ℕ} k 0
  unfolding in_turn
  zeros_stay [] out scratch k e = e
  zeros_stay (t ∷ ts) out scratch k e = zeros_stay ts (rest_of (one t out scratch)) (scratch_after t m scratch) k (go (first t (length scratch)))
    where
      go : (x : Result ℕ Refusal) → cleared x scratch ≡ replicate {A = ℕ} k 0
      go (Ok n) = ap (λ (j : ℕ). replicate {A = ℕ} j 0) (ap length e ∙ length-replicate {A = ℕ} k 0)
      go (Err r) = e

  pub some_past : (texts : List (List ℕ)) (out scratch : List ℕ) (i : ℕ) → i < length texts → first (nth i texts) (length scratch) ≡ Ok 0
      → (in_turn one texts out scratch).scratch ≡ replicate {A = ℕ} (length scratch) 0
  unfolding in_turn
  some_past [] out scratch i h p = absurd (omega arith)
  some_past (t ∷ ts) out scratch zero h p =
      zeros_stay ts (rest_of (one t out scratch)) (scratch_after t m scratch) (length scratch) (ap (λ (x : Result ℕ Refusal). cleared x scratch) p)
  some_past (t ∷ ts) out scratch (suc i) h p =
      let l = scratch_as_long t m scratch in
      some_past ts (rest_of (one t out scratch)) (scratch_after t m scratch) i (omega arith) (ap (first (nth i ts)) l ∙ p)
      ∙ ap (λ (j : ℕ). replicate {A = ℕ} j 0) l

  pub none_past : (texts : List (List ℕ)) (out scratch : List ℕ) → ((i : ℕ) → i < length texts → first (nth i texts) (length scratch) ≡ Ok 0 → ⊥)
      → (in_turn one texts out scratch).scratch ≡ scratch
  unfolding in_turn
  none_past [] out scratch h = refl
  none_past (t ∷ ts) out scratch h =
      let e : scratch_after t m scratch ≡ scratch = go (first t (length scratch)) refl in
      none_past ts (rest_of (one t out scratch)) (scratch_after t m scratch)
      (λ i l p. h (suc i) (omega arith) (ap (first (nth i ts)) (sym (scratch_as_long t m scratch)) ∙ p)) ∙ e
    where
      zero_is : (n : ℕ) → first t (length scratch) ≡ Ok n → first t (length scratch) ≡ Ok 0
      zero_is n q = sym (again (first_causes t m (length scratch)) 0 0 q)

      go : (x : Result ℕ Refusal) → first t (length scratch) ≡ x → cleared x scratch ≡ scratch
      go (Ok n) q = absurd (h 0 (omega arith) (zero_is n q))
      go (Err r) q = refl
