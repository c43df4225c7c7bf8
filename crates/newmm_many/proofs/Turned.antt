-- The turns of the loop over the texts. Assumes nothing.
use Rattle.std.specs.Prelude.{Result, Ok, Err}
use Rattle.newmm_rules.specs.declared.Ends.{Ends}
use Prim.Native.Nat.{ℕ, ◌+◌, ◌*◌, ◌-◌, ◌≤◌, ◌<◌}
use native.Mathlib.Omega.{arith}
use mathlib.Core.Path.{◌≡◌, refl, sym, ◌∙◌, ap, subst}
use mathlib.Core.Bool.{Bool, true, false}
use mathlib.Core.List.{List, [], ◌∷◌, ◌++◌, append_assoc, append-nil}
use mathlib.Core.Option.{Option}
use lib.ListN.{length, get_or, take, drop, length-append, length-drop, length-take, drop_of_length-le, take-append-drop}
use lib.Seq.{take_at, drop_at}
use Rattle.lists.proofs.Parts.{tail_drop}
use Rattle.refusal.specs.declared.Refusal.{Refusal}
use Rattle.refusal.specs.Answers.{output}
use Rattle.trie_pool.specs.Meaning.{Words}
use Rattle.newmm_rules.specs.declared.Mode.{Mode}
use Rattle.newmm_segment.proofs.Behind.{behind}
use Rattle.newmm_answers.specs.inner.Passing.{Blank}
use Rattle.newmm_many_answers.specs.Texts.{texts_from}
use Rattle.newmm_many_answers.specs.Turns.{Single, Singly, Turns, cells_of, all_cells, ends_told, wrote_of, rest_of, in_turn}
use Rattle.newmm_many_answers.specs.declared.Wanted.{Wanted}
use Rattle.newmm_many_answers.specs.Singles.{singly}
use Rattle.newmm_many_answers.specs.Calls.{ManyCall, many_answer, turns_by, unless, ManyBy}
use Rattle.newmm_many_answers.specs.inner.Whole.{Whole}
use Rattle.newmm_many_answers.specs.inner.Small.{Small}
use Rattle.newmm_many_answers.specs.inner.Singles.{SingleIs}
use Rattle.newmm_many_answers.proofs.TextEnds.{Right, right_none, right_more, right_here, next_text, no_text}
use Rattle.newmm_many_answers.proofs.Steady.{Steady, wrote_long, rest_long}
use Rattle.newmm_many_answers.proofs.Turns.{onward, onward_more, turn_first, turn_none, all_cells_long, cells_more}
use Rattle.newmm_many.specs.inner.Rows.{Left}

-- the first i texts are answered: what was told of them and what was written for them stand at the
-- front of the rows, and the other texts are answered with what is left
pub record Turned (one : Singly) (c : ManyCall) (answers out scratch : List ℕ) (from used i : ℕ) (blank : Bool) : Type 0 where
  pub right : Right (length c.row) c.ends from i
  pub told : List (Result Ends Refusal)
  pub number : length told ≡ i
  pub answers_are : answers ≡ all_cells told ++ drop (4 * i) c.answers
  pub written : List ℕ
  pub used_is : used ≡ length written
  pub rest : List ℕ
  pub out_is : out ≡ written ++ rest
  pub turns : turns_by one c ≡ onward told written (in_turn one (texts_from c.row from (drop i c.ends)) rest scratch)
  pub out_long : length out ≡ length c.out
  pub scratch_long : length scratch ≡ length c.scratch
  pub zeros : blank ≡ true → Blank scratch

pub turned_none : (one : Singly) (c : ManyCall) → Turned one c c.answers c.out c.scratch 0 0 0 false
turned_none one c =
    record {
      right = right_none (length c.row) c.ends;
      told = [];
      number = refl;
      answers_are = refl;
      written = [];
      used_is = refl;
      rest = c.out;
      out_is = refl;
      turns = refl;
      out_long = refl;
      scratch_long = refl;
      zeros = λ e. absurd (let z : ◌≡◌ {A = ℕ} 0 1 = cc in omega arith);
    }

module _ {one : Singly} {c : ManyCall} {answers out scratch : List ℕ} {from used i : ℕ} {blank : Bool} (t : Turned one c answers out scratch from used i blank) where
  pub used_fits : used ≤ length out
  used_fits = omega (arith, t.used_is, ap length t.out_is, length-append t.written t.rest)

  module _ (w : Whole (length c.row) c.ends (length c.answers)) where
    pub answers_long : length answers ≡ length c.answers
    answers_long =
        ap length t.answers_are
        ∙ omega (arith, length-append (all_cells t.told) (drop (4 * i) c.answers), all_cells_long t.told, t.number, length-drop (4 * i) c.answers, w.cells, t.right.inside)

    -- ---- what is lent on

    module _ (l : i < length c.ends) where
      pub end_fits : (from ≤ get_or c.ends i 0) × (get_or c.ends i 0 ≤ length c.row)
      end_fits = right_here t.right w l

      pub cells_fit : 4 * i + 4 ≤ length answers
      cells_fit = omega (arith, answers_long, w.cells)

      pub cells_lent : 4 ≤ length (take (length answers - 4 * i) (drop (4 * i) answers))
      cells_lent = omega (arith, ap length (tail_drop answers (4 * i)), length-drop (4 * i) answers, cells_fit)

      lent_is : take (length out - used) (drop used out) ≡ t.rest
      lent_is = tail_drop out used ∙ ap (drop used) t.out_is ∙ drop_at t.written t.rest used (sym t.used_is)

      module _ (st : Steady one) {told : Result Ends Refusal} {out' scratch' : List ℕ} {e : ℕ} (is : e ≡ get_or c.ends i 0)
          (cuts : SingleIs (one (take (e - from) (drop from c.row)) (take (length out - used) (drop used out)) scratch) told out' scratch') where
        pub told_small : e ≤ 4294967295 → Small told
        told_small m =
            subst Small (sym cuts.0)
            (st.told_small (take (e - from) (drop from c.row)) (take (length out - used) (drop used out)) scratch (omega (arith, length-take (e - from) (drop from c.row))))

        -- the single call
        abbrev text : List ℕ
        text = take (get_or c.ends i 0 - from) (drop from c.row)

        abbrev here : Single
        here = one text t.rest scratch

        is_here : SingleIs here told out' scratch'
        is_here = subst (λ (k : ℕ). SingleIs (one (take (k - from) (drop from c.row)) t.rest scratch) told out' scratch') is
            (subst (λ (o : List ℕ). SingleIs (one (take (e - from) (drop from c.row)) o scratch) told out' scratch') lent_is cuts)

        -- the cells that were written for it
        module _ {n : ℕ} (number : n ≡ st.width * ends_told told) where
          cells_here : n ≡ here.cells
          cells_here = number ∙ ap (λ (a : Result Ends Refusal). st.width * ends_told a) is_here.0 ∙ sym (st.cells_are text t.rest scratch)

          pub used_more : used + n ≤ length out
          used_more =
              omega (arith, cells_here, st.cells_fit text t.rest scratch, t.used_is, ap length t.out_is, length-append t.written t.rest)

        -- the rows when the parts are back
        abbrev out_back : List ℕ
        out_back = take used out ++ (out' ++ drop (length out - used) (drop used out))

        out_whole : out_back ≡ (t.written ++ wrote_of here) ++ rest_of here
        out_whole =
            let f : take used out ≡ t.written = ap (take used) t.out_is ∙ take_at t.written t.rest used (sym t.used_is) in
            let z : drop (length out - used) (drop used out) ≡ [] = drop_of_length-le (drop used out) {i = length out - used} (omega (arith, length-drop used out)) in
            ap (λ (k : List ℕ). k ++ (out' ++ drop (length out - used) (drop used out))) f
            ∙ ap (λ (k : List ℕ). t.written ++ (out' ++ k)) z
            ∙ ap (λ (k : List ℕ). t.written ++ k) (append-nil out' ∙ is_here.1.0 ∙ sym (take-append-drop here.cells here.out))
            ∙ sym (append_assoc t.written (wrote_of here) (rest_of here))

        turns_more : turns_by one c ≡ onward (t.told ++ (here.told ∷ [])) (t.written ++ wrote_of here)
            (in_turn one (texts_from c.row (get_or c.ends i 0) (drop (i + 1) c.ends)) (rest_of here) here.scratch)
        turns_more =
            t.turns
            ∙ ap (λ (x : List (List ℕ)). onward t.told t.written (in_turn one x t.rest scratch)) (next_text c.row c.ends from i l)
            ∙ ap (onward t.told t.written) (turn_first one text (texts_from c.row (get_or c.ends i 0) (drop (i + 1) c.ends)) t.rest scratch)
            ∙ onward_more t.told t.written here (in_turn one (texts_from c.row (get_or c.ends i 0) (drop (i + 1) c.ends)) (rest_of here) here.scratch)

        pub turned_more : {cells : List ℕ} {n : ℕ} (blank' : Bool) → n ≡ st.width * ends_told told → cells ≡ cells_of told ++ drop 4 (take (length answers - 4 * i) (drop (4 * i) answers)) → (blank' ≡ true → Blank scratch')
            → Turned one c (take (4 * i) answers ++ (cells ++ drop (length answers - 4 * i) (drop (4 * i) answers))) out_back scratch' e (used + n) (i + 1) blank'
        turned_more {cells} {n} blank' number put z =
            subst (λ (k : ℕ). Turned one c (take (4 * i) answers ++ (cells ++ drop (length answers - 4 * i) (drop (4 * i) answers))) out_back scratch' k (used + n) (i + 1) blank') (sym is)
            (record {
              right = right_more t.right l end_fits.0 end_fits.1;
              told = t.told ++ (here.told ∷ []);
              number = omega (arith, length-append t.told (here.told ∷ []), t.number);
              answers_are =
                  let n : 4 * i ≡ length (all_cells t.told) = omega (arith, all_cells_long t.told, t.number) in
                  let k : 4 * i + 4 ≡ 4 * (i + 1) = omega arith in
                  behind c.answers answers cells (all_cells t.told) (cells_of told) (4 * i) 4 n t.answers_are (put ∙ ap (λ (x : List ℕ). cells_of told ++ drop 4 x) (tail_drop answers (4 * i)))
                  ∙ ap (λ (x : List ℕ). x ++ drop (4 * i + 4) c.answers) (sym (cells_more t.told told) ∙ ap (λ (a : Result Ends Refusal). all_cells (t.told ++ (a ∷ []))) is_here.0)
                  ∙ ap (λ (x : ℕ). all_cells (t.told ++ (here.told ∷ [])) ++ drop x c.answers) k;
              written = t.written ++ wrote_of here;
              used_is = omega (arith, cells_here number, t.used_is, wrote_long st text t.rest scratch, length-append t.written (wrote_of here));
              rest = rest_of here;
              out_is = out_whole;
              turns = turns_more ∙ ap (λ (x : List ℕ). onward (t.told ++ (here.told ∷ [])) (t.written ++ wrote_of here)
                  (in_turn one (texts_from c.row (get_or c.ends i 0) (drop (i + 1) c.ends)) (rest_of here) x)) (sym is_here.1.1);
              out_long = ap length out_whole
                  ∙ omega (
                    arith,
                    length-append (t.written ++ wrote_of here) (rest_of here),
                    length-append t.written (wrote_of here),
                    wrote_long st text t.rest scratch,
                    rest_long st text t.rest scratch,
                    ap length t.out_is,
                    length-append t.written t.rest,
                    t.out_long,
                  );
              scratch_long = ap length is_here.1.1 ∙ st.scratch_long text t.rest scratch ∙ t.scratch_long;
              zeros = z;
            })

  -- ---- all texts are answered

  pub turned_all : length c.ends ≤ i → Left one c answers out scratch
  turned_all l =
      let e : turns_by one c ≡ onward t.told t.written (record { told = []; out = t.rest; scratch = scratch }) =
      t.turns ∙ ap (λ (x : List (List ℕ)). onward t.told t.written (in_turn one x t.rest scratch)) (no_text c.row c.ends from i l)
      ∙ ap (onward t.told t.written) (turn_none one t.rest scratch) in
      let f : (turns_by one c).told ≡ t.told = ap (λ (x : Turns). x.told) e ∙ append-nil t.told in (
        t.answers_are
            ∙ (let n : 4 * i ≡ length (all_cells t.told) = omega (arith, all_cells_long t.told, t.number) in ap (λ (k : ℕ). all_cells t.told ++ drop k c.answers) n)
            ∙ ap (λ (x : List (Result Ends Refusal)). all_cells x ++ drop (length (all_cells x)) c.answers) (sym f),
        (t.out_is ∙ sym (ap (λ (x : Turns). x.out) e), sym (ap (λ (x : Turns). x.scratch) e)),
      )

-- ---- the whole call

module _ (one : Singly) (c : ManyCall) {a : Result ℕ Refusal} (is : a ≡ many_answer c) where
  pub refused_many : {r : Refusal} → a ≡ Err r → ManyBy one c a c.answers c.out c.scratch
  refused_many e =
      let q = sym is ∙ e in (
        is,
        (
          sym (ap (λ (x : Result ℕ Refusal). output x (all_cells (turns_by one c).told) c.answers) q),
          (sym (ap (λ (x : Result ℕ Refusal). unless x (turns_by one c).out c.out) q), sym (ap (λ (x : Result ℕ Refusal). unless x (turns_by one c).scratch c.scratch) q)),
        ),
      )

  pub accepted_many : {n : ℕ} {answers out scratch : List ℕ} → a ≡ Ok n → Left one c answers out scratch → ManyBy one c (Ok n) answers out scratch
  accepted_many e left =
      let q = sym is ∙ e in (
        sym q,
        (
          left.0 ∙ sym (ap (λ (x : Result ℕ Refusal). output x (all_cells (turns_by one c).told) c.answers) q),
          (left.1.0 ∙ sym (ap (λ (x : Result ℕ Refusal). unless x (turns_by one c).out c.out) q), left.1.1 ∙ sym (ap (λ (x : Result ℕ Refusal). unless x (turns_by one c).scratch c.scratch) q)),
        ),
      )

-- what is answered by words that stand in a view is answered by the pool that has them
pub answered_by : (wanted : Wanted) (c : ManyCall) {m m' : Option Words} → m ≡ m' → {a : Result ℕ Refusal} {answers out scratch : List ℕ}
    → ManyBy (singly wanted c.mode m) c a answers out scratch → ManyBy (singly wanted c.mode m') c a answers out scratch
answered_by wanted c same {a} {answers} {out} {scratch} = subst (λ (x : Option Words). ManyBy (singly wanted c.mode x) c a answers out scratch) same
