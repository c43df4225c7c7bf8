-- What is counted of a text, and of a line. Assumes nothing.
use Rattle.std.specs.Prelude.{Result, Ok, Err}
use Rattle.newmm_rules.specs.declared.Ends.{Ends}
use Prim.Native.Nat.{ℕ}
use native.Mathlib.Omega.{arith}
use mathlib.Core.Path.{◌≡◌, refl, sym, ◌∙◌, ap, subst}
use mathlib.Core.Bool.{Bool, false}
use mathlib.Core.List.{List, [], ◌∷◌, ◌++◌, append-nil}
use lib.Dec.{eqb}
use lib.ListN.{length, take, drop}
use Rattle.refusal.specs.declared.Refusal.{Refusal}
use Rattle.refusal.specs.Numbers.{number_of}
use Rattle.refusal.specs.Answers.{output}
use Rattle.utf8.specs.Decoding.{scalars_of, Room, room_in, decoded}
use Rattle.utf8.specs.Positions.{positions_of}
use Rattle.newmm_rules.specs.declared.Mode.{Mode}
use Rattle.newmm_answers.specs.Calls.{Call, call}
use Rattle.figures_rules.specs.Figures.{after}
use Rattle.figures.specs.Calls.{text_figures, feed_answer, refused_answer, refused_after}
use Rattle.sheet_replies.specs.declared.Asked.{Asked}
use Rattle.sheet_replies.specs.declared.Asked.TheVariants.{Nothing, Add, Remove, Cut}
use Rattle.sheet_replies.specs.Replies as lines
use Rattle.sheet_replies.proofs.Replying.{out_text}
use Rattle.std.specs.Prelude.{Option, None, Some}
use Rattle.why_replies.specs.Replies.{Cutting, asked, cutting_by}
use Rattle.why_replies.proofs.Asking.{cut_is, not_cut_is}
use Rattle.release_lines.specs.Counting.{fed_full, refused_full, figures_by, full_by, figures_after, full_after}

-- ---- 13

pub by_number : {told : Result Ends Refusal} {r : Refusal} → told ≡ Err r → {n : ℕ} → n ≡ number_of r → eqb n 13 ≡ fed_full told
by_number h e = ap (λ (k : ℕ). eqb k 13) e ∙ sym (ap fed_full h)

-- ---- a text, which is decoded first

alone : (w : List ℕ) → w ++ drop (length w) [] ≡ w
alone [] = refl
alone (x ∷ w) = append-nil (x ∷ w)

module _ (text scalars positions : List ℕ) {scalars₁ positions₁ : List ℕ} {d : Result ℕ Refusal}
    (g : (d ≡ decoded text (room_in scalars positions)) × ((scalars₁ ≡ output d (scalars_of text) scalars) × (positions₁ ≡ output d (positions_of text) positions)))
    (figures pool pairs scratch : List ℕ) (mode : Mode) where
  abbrev asks : List ℕ → Call
  asks w = call w pool pairs scratch mode

  abbrev answered : Result ℕ Refusal
  answered = decoded text (room_in scalars positions)

  -- decoding refuses it
  module _ {r : Refusal} (h : d ≡ Err r) {n : ℕ} (e : n ≡ number_of r) where
    stopped : Err r ≡ answered
    stopped = sym h ∙ g.0

    pub stopped_figures : {new : List ℕ} → new ≡ refused_after figures n → new ≡ figures_by answered figures (asks (scalars_of text))
    stopped_figures f = f ∙ ap (λ (k : ℕ). refused_after figures k) e ∙ ap (λ (a : Result ℕ Refusal). figures_by a figures (asks (scalars_of text))) stopped

    pub stopped_full : {a : Result ℕ Refusal} → a ≡ refused_answer figures n → {full : Bool} → full ≡ refused_full a → full ≡ full_by answered figures (asks (scalars_of text))
    stopped_full f w = w ∙ ap refused_full (f ∙ ap (λ (k : ℕ). refused_answer figures k) e) ∙ ap (λ (a : Result ℕ Refusal). full_by a figures (asks (scalars_of text))) stopped

  -- it is fed
  module _ {n : ℕ} (h : d ≡ Ok n) where
    passed : Ok n ≡ answered
    passed = sym h ∙ g.0

    lent : take n scalars₁ ≡ scalars_of text
    lent =
        out_text text scalars positions g h (λ (w : List ℕ). Ok 0) (λ (w : List ℕ). w) [] (sym (alone (take n scalars₁)))
        ∙ ap (λ (a : Result ℕ Refusal). output (lines.next a (Ok 0)) (scalars_of text) []) (sym passed) ∙ alone (scalars_of text)

    pub fed_figures : {new : List ℕ} → new ≡ after figures (text_figures (asks (take n scalars₁))) → new ≡ figures_by answered figures (asks (scalars_of text))
    fed_figures f = f ∙ ap (λ (w : List ℕ). after figures (text_figures (asks w))) lent ∙ ap (λ (a : Result ℕ Refusal). figures_by a figures (asks (scalars_of text))) passed

    pub full_once_fed : {a : Result Ends Refusal} → a ≡ feed_answer figures (asks (take n scalars₁)) → {full : Bool} → full ≡ fed_full a → full ≡ full_by answered figures (asks (scalars_of text))
    full_once_fed f w = w ∙ ap fed_full (f ∙ ap (λ (l : List ℕ). feed_answer figures (asks l)) lent) ∙ ap (λ (a : Result ℕ Refusal). full_by a figures (asks (scalars_of text))) passed

-- ---- a line

no_mode : (mode : Mode) → ◌≡◌ {A = Cutting} None (Some mode) → ⊥
no_mode mode h = let z : ◌≡◌ {A = ℕ} 0 1 = cc in omega arith

module _ (figures text pool pairs scratch : List ℕ) (room : Room) where
  same_figures : (k : Asked) → None ≡ cutting_by k → figures ≡ figures_after k figures text pool pairs scratch room
  unfolding figures_after
  same_figures Nothing h = refl
  same_figures Add h = refl
  same_figures Remove h = refl
  same_figures (Cut mode) h = absurd (no_mode mode h)

  never_full : (k : Asked) → None ≡ cutting_by k → false ≡ full_after k figures text pool pairs scratch room
  unfolding full_after
  never_full Nothing h = refl
  never_full Add h = refl
  never_full Remove h = refl
  never_full (Cut mode) h = absurd (no_mode mode h)

-- the figures, whether they are full, and the words
abbrev pub Counted : Bool → Asked → (figures figures₁ text pool pool₁ pairs scratch : List ℕ) → Room → Type 0
Counted full k figures figures₁ text pool pool₁ pairs scratch room =
    (full ≡ full_after k figures text pool pairs scratch room)
    × ((figures₁ ≡ figures_after k figures text pool pairs scratch room) × lines.PoolAfter k text pool pool₁ room)

module _ (line : List ℕ) {c : Cutting} (is : c ≡ cutting_by (asked line)) (figures pool pairs scratch : List ℕ) (room : Room) where
  -- no text is counted
  pub none_counted : c ≡ None → (pool₁ : List ℕ) → lines.PoolAfter (lines.asked line) (lines.text_of line) pool pool₁ room
      → Counted false (asked line) figures figures (lines.text_of line) pool pool₁ pairs scratch room
  none_counted h pool₁ p =
      let none : None ≡ cutting_by (asked line) = sym h ∙ is in (
        never_full figures (lines.text_of line) pool pairs scratch room (asked line) none,
        (
          same_figures figures (lines.text_of line) pool pairs scratch room (asked line) none,
          subst (λ (k : Asked). lines.PoolAfter k (lines.text_of line) pool pool₁ room) (not_cut_is line none) p,
        ),
      )

  -- the text is counted
  pub text_counted : {mode : Mode} → c ≡ Some mode → {text : List ℕ} → text ≡ lines.text_of line → {full : Bool} {figures₁ : List ℕ}
      → full ≡ full_by (decoded text room) figures (call (scalars_of text) pool pairs scratch mode)
      → figures₁ ≡ figures_by (decoded text room) figures (call (scalars_of text) pool pairs scratch mode)
      → Counted full (asked line) figures figures₁ (lines.text_of line) pool pool pairs scratch room
  unfolding full_after figures_after lines.PoolAfter
  text_counted {mode} h {text} t {full} {figures₁} e f =
      subst (λ (k : Asked). Counted full k figures figures₁ (lines.text_of line) pool pool pairs scratch room) (cut_is (asked line) mode (sym h ∙ is))
      (subst (λ (l : List ℕ). Counted full (Cut mode) figures figures₁ l pool pool pairs scratch room) t (e, (f, refl)))
