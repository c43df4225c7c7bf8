-- The loop over the tokens of a part. Assumes nothing.
use Prim.Native.Nat.{ℕ, zero, suc, ◌+◌, ◌*◌, ◌-◌, ◌≤◌, ◌<◌}
use native.Mathlib.Omega.{arith}
use mathlib.Core.Path.{◌≡◌, refl, sym, ◌∙◌, ap, subst}
use mathlib.Core.List.{List, [], ◌∷◌, ◌++◌}
use lib.ListN.{length, get_or, set, take, drop}
use lib.Seq.{length-take-le, take-length, get_or-take, drop-append-add, drop-drop}
use Rattle.cells.proofs.Filling.{Filled, filled_none, filled_more, filled_all, unmoved, long}
use Rattle.tcc.specs.Flags.{end_flags}
use Rattle.trie_pool.specs.Words.{holds}
use Rattle.newmm_rules.specs.Words.{Given, size}
use Rattle.newmm_rules.specs.Tokens.{Token, Tokens, stop, then}
use Rattle.newmm_rules.proofs.Tokens.{spans}
use Rattle.newmm_rules.proofs.Climbing.{few}
use Rattle.newmm_reason_rules.specs.Reasons.{reason_at}
use Rattle.newmm_reason_rules.proofs.Reasons.{small}
use Rattle.newmm_answers.specs.Answers.{given, plain_cut}
use Rattle.newmm_answers.proofs.Plain.{plain_tokens, plain_right}
use Rattle.newmm_word_step.specs.inner.Places.{Place}
use Rattle.newmm_word_step.specs.inner.Walks.{given_by}
use Rattle.newmm_reasons_answers.specs.inner.Cells.{cells_part}
use Rattle.newmm_reasons_answers.proofs.Cells.{cells_many, cell_at}
use Rattle.newmm_bfs.specs.inner.Strips.{flags_in}
use Rattle.newmm_tell.specs.inner.Telling.{positions, CutPart}

-- token i of tokens one behind the other
token_at : {g : Given} {a z : ℕ} {es : List ℕ} → Tokens g a es z → (i : ℕ) → i < length es → Token g (get_or (a ∷ es) i 0) (get_or es i 0)
token_at stop i h = absurd (omega arith)
token_at (then t r) zero h = t
token_at (then t r) (suc i) h = token_at r i (omega arith)

-- i tokens are told, and the next starts at b
pub record Telling (part pool old row : List ℕ) (k start b i : ℕ) : Type 0 where
  pub filled : Filled (cells_part (holds pool) start part) old row k i
  pub from : b ≡ get_or (0 ∷ (plain_cut (holds pool) part).ends) i 0

module _ {part pool old : List ℕ} {k : ℕ} (c : CutPart part pool old k) where
  -- no more tokens than characters
  few_here : k ≤ length part
  few_here = omega (arith, c.count, few (plain_right (holds pool) part))

  abbrev ends : List ℕ
  ends = (plain_cut (holds pool) part).ends

  module _ (start : ℕ) where
    abbrev cells : List ℕ
    cells = cells_part (holds pool) start part

    pub telling_none : Telling part pool old old k start 0 0
    telling_none = record { filled = filled_none cells old k (omega (arith, cells_many (holds pool) start part, c.count)) (omega (arith, few_here, c.room)); from = refl }

    module _ {row : List ℕ} {b i : ℕ} (t : Telling part pool old row k start b i) where
      pub row_long : length row ≡ length old
      row_long = long t.filled

      pub inside : i < k → i < length row
      inside h = omega (arith, row_long, few_here, c.room)

      -- the flags stand where they stood
      pub flags_still : flags_in row (positions part) ≡ end_flags part
      flags_still =
          let m = 6 * positions part in
          let n : length (take i cells) ≡ i = length-take-le i cells (omega (arith, t.filled.upto, t.filled.enough)) in
          let d : m ≡ length (take i cells) + (m - i) = omega (arith, few_here, t.filled.upto) in
          let e : i + (m - i) ≡ m = omega (arith, few_here, t.filled.upto) in
          ap (λ (l : List ℕ). take (7 * positions part - m) l)
          (ap (drop m) t.filled.is ∙ ap (λ (j : ℕ). drop j (take i cells ++ drop i old)) d ∙ drop-append-add (take i cells) (drop i old) (m - i)
          ∙ drop-drop (m - i) i old ∙ ap (λ (j : ℕ). drop j old) e)
          ∙ c.flags_are

      module _ (more : i < k) {e : ℕ} (cell : e ≡ get_or row i 0) where
        end_is : e ≡ get_or ends i 0
        end_is = cell ∙ unmoved t.filled more ∙ sym (get_or-take k old i 0 more) ∙ ap (λ (l : List ℕ). get_or l i 0) c.ends_are

        pub token : Token (given_by part pool) b e
        token =
            subst (λ (x : ℕ). Token (given_by part pool) x e) (sym t.from)
            (subst (λ (x : ℕ). Token (given_by part pool) (get_or (0 ∷ ends) i 0) x) (sym end_is)
            (token_at (plain_tokens (holds pool) part) i (omega (arith, c.count))))

        pub place : {flags : List ℕ} → flags ≡ flags_in row (positions part) → Place part pool flags b
        place f = record { inside = omega (arith, (spans token).0, (spans token).1); root_is = c.root_is; flags_are = f ∙ flags_still }

        module _ {r : ℕ} (reason : r ≡ reason_at (given_by part pool) b) where
          -- end and reason fit a cell
          pub fits : start + length part ≤ 65535 → (start + e ≤ 65535) × (r ≤ 5)
          fits h = (omega (arith, (spans token).1), omega (arith, small (given_by part pool) b))

          pub telling_more : {x : ℕ} → x ≡ 8 * (start + e) + r → Telling part pool old (set row i x) k start e (i + 1)
          telling_more {x} h =
              let l : i < length ends = omega (arith, c.count) in
              let q : x ≡ get_or cells i 0 =
              h ∙ (λ j. 8 * (start + end_is j) + (reason ∙ ap (reason_at (given_by part pool)) t.from) j) ∙ sym (cell_at (holds pool) start part i l) in
              let one : i + 1 ≡ suc i = omega arith in
              record {
                filled = filled_more t.filled x more q;
                from = end_is ∙ ap (λ (j : ℕ). get_or (0 ∷ ends) j 0) (sym one);
              }

      pub telling_all : k ≤ i → row ≡ cells ++ drop k old
      telling_all h =
          filled_all t.filled h
          ∙ ap (λ (l : List ℕ). l ++ drop k old) (ap (λ (j : ℕ). take j cells) (c.count ∙ sym (cells_many (holds pool) start part)) ∙ take-length cells)
