-- The reply to a text that is decoded first. Assumes nothing.
use Rattle.std.specs.Prelude.{Result, Ok, Err}
use Rattle.newmm_rules.specs.declared.Ends.{Ends}
use Prim.Native.Nat.{ℕ, ◌+◌, ◌≤◌}
use native.Mathlib.Omega.{arith}
use mathlib.Core.Path.{◌≡◌, refl, sym, ◌∙◌, ap, subst}
use mathlib.Core.List.{List, ◌++◌}
use lib.ListN.{length, take, drop, length-append}
use lib.Seq.{take_at, length-take-le}
use Rattle.refusal.specs.declared.Refusal.{Refusal}
use Rattle.refusal.specs.Answers.{output}
use Rattle.utf8.specs.Decoding.{scalars_of, Room, room_in, decode_causes, decoded}
use Rattle.utf8.specs.Positions.{positions_of}
use Rattle.trie_pool.specs.Meaning.{Terms, meaning}
use Rattle.trie_check.specs.Refusals.{held}
use Rattle.refusal.proofs.Causes.{again}
use Rattle.trie_char_answers.specs.Changes.{After}
use Rattle.newmm_rules.specs.declared.Mode.{Mode}
use Rattle.newmm_answers.specs.Answers as cut_answers
use Rattle.sheet_texts.specs.declared.Reply.{Reply}
use Rattle.sheet_texts.specs.declared.Reply.TheVariants.{Refused}
use Rattle.sheet_replies.specs.Replies.{next, reported, ended, ended_by, cut_text}

module _ (text scalars positions : List ℕ) {scalars₁ positions₁ : List ℕ} {d : Result ℕ Refusal}
    (g : (d ≡ decoded text (room_in scalars positions)) × ((scalars₁ ≡ output d (scalars_of text) scalars) × (positions₁ ≡ output d (positions_of text) positions))) where
  abbrev room : Room
  room = room_in scalars positions

  is : d ≡ decoded text room
  is = g.0

  pub decoded_are : (scalars₁ ≡ output (decoded text room) (scalars_of text) scalars) × (positions₁ ≡ output (decoded text room) (positions_of text) positions)
  decoded_are = (g.1.0 ∙ ap (λ (a : Result ℕ Refusal). output a (scalars_of text) scalars) is, g.1.1 ∙ ap (λ (a : Result ℕ Refusal). output a (positions_of text) positions) is)

  module _ {r : Refusal} (no' : d ≡ Err r) where
    stopped : Err r ≡ decoded text room
    stopped = sym no' ∙ is

    pub stops : (a : Result ℕ Refusal) → Err r ≡ next (decoded text room) a
    stops a = ap (λ (x : Result ℕ Refusal). next x a) stopped

    pub reported_stop : (a : Result ℕ Refusal) → Refused r ≡ reported (next (decoded text room) a)
    reported_stop a = ap reported (stops a)

    pub ended_stop : (a : Result ℕ Refusal) → Refused r ≡ ended (next (decoded text room) a)
    ended_stop a = ap ended (stops a)

    pub pool_stop : (a : Result ℕ Refusal) (pool : List ℕ) (held' : Terms) → After (next (decoded text room) a) pool pool held'
    pool_stop a pool held' = subst (λ (x : Result ℕ Refusal). After x pool pool held') (stops a) refl

    pub out_stop : (a : Result ℕ Refusal) (written row : List ℕ) → row ≡ output (next (decoded text room) a) written row
    out_stop a written row = ap (λ (x : Result ℕ Refusal). output x written row) (stops a)

    pub clear_stop : (a : Result ℕ Refusal) (row : List ℕ) → row ≡ cut_answers.cleared (next (decoded text room) a) row
    clear_stop a row = ap (λ (x : Result ℕ Refusal). cut_answers.cleared x row) (stops a)

  module _ {n : ℕ} (yes' : d ≡ Ok n) where
    passed : decoded text room ≡ Ok n
    passed = sym is ∙ yes'

    count : n ≡ length (scalars_of text)
    count =
        let e : ◌≡◌ {A = Result ℕ Refusal} (Ok n) (Ok (length (scalars_of text))) =
        sym passed ∙ sym (again (decode_causes text room) (length (scalars_of text)) (length (scalars_of text)) passed) in
        cc

    front : scalars₁ ≡ scalars_of text ++ drop (length (scalars_of text)) scalars
    front = g.1.0 ∙ ap (λ (a : Result ℕ Refusal). output a (scalars_of text) scalars) yes'

    -- the text that is lent on
    pub lent_fits : n ≤ length scalars₁
    lent_fits = omega (arith, count, ap length front, length-append (scalars_of text) (drop (length (scalars_of text)) scalars))

    pub lent_size : n ≡ length (take n scalars₁)
    lent_size = sym (length-take-le n scalars₁ lent_fits)

    lent : take n scalars₁ ≡ scalars_of text
    lent = ap (take n) front ∙ take_at (scalars_of text) (drop (length (scalars_of text)) scalars) n (sym count)

    goes : (f : List ℕ → Result ℕ Refusal) → f (take n scalars₁) ≡ next (decoded text room) (f (scalars_of text))
    goes f = ap f lent ∙ sym (ap (λ (x : Result ℕ Refusal). next x (f (scalars_of text))) passed)

    pub reported_text : (f : List ℕ → Result ℕ Refusal) {a : Result ℕ Refusal} {r : Reply} → a ≡ f (take n scalars₁) → r ≡ reported a → r ≡ reported (next (decoded text room) (f (scalars_of text)))
    reported_text f e h = h ∙ ap reported (e ∙ goes f)

    pub pool_text : (f : List ℕ → Result ℕ Refusal) (held' : List ℕ → Terms) (old new : List ℕ) {a : Result ℕ Refusal} → a ≡ f (take n scalars₁) → After a old new (held' (take n scalars₁))
        → After (next (decoded text room) (f (scalars_of text))) old new (held' (scalars_of text))
    pool_text f held' old new {a} e h =
        subst (λ (x : Result ℕ Refusal). After x old new (held' (scalars_of text))) (e ∙ goes f) (subst (λ (w : Terms). After a old new w) (ap held' lent) h)

    pub out_text : (f : List ℕ → Result ℕ Refusal) (written : List ℕ → List ℕ) (row : List ℕ) {row₁ : List ℕ} → row₁ ≡ output (f (take n scalars₁)) (written (take n scalars₁)) row
        → row₁ ≡ output (next (decoded text room) (f (scalars_of text))) (written (scalars_of text)) row
    out_text f written row h = h ∙ ap (λ (a : Result ℕ Refusal). output a (written (take n scalars₁)) row) (goes f) ∙ ap (λ (w : List ℕ). output (next (decoded text room) (f (scalars_of text))) w row) (ap written lent)

    pub clear_text : (f : List ℕ → Result ℕ Refusal) (row : List ℕ) {row₁ : List ℕ} → row₁ ≡ cut_answers.cleared (f (take n scalars₁)) row → row₁ ≡ cut_answers.cleared (next (decoded text room) (f (scalars_of text))) row
    clear_text f row h = h ∙ ap (λ (a : Result ℕ Refusal). cut_answers.cleared a row) (goes f)

    ended_told : (a : Result ℕ Refusal) (edges : ℕ) → ended_by (cut_answers.told a edges) ≡ ended a
    ended_told (Ok k) edges = refl
    ended_told (Err r) edges = refl

    pub ended_text : (mode : Mode) (pool : List ℕ) (cells places : ℕ) {a : Result Ends Refusal} {r : Reply} → a ≡ cut_answers.cut_answer mode (take n scalars₁) (meaning pool) cells places → r ≡ ended_by a
        → r ≡ ended (cut_text mode text pool room cells places)
    ended_text mode pool cells places e h =
        h ∙ ap ended_by e
        ∙ ended_told (cut_answers.accepts mode (take n scalars₁) (meaning pool) cells places) (cut_answers.cut_of mode (held (meaning pool)) (take n scalars₁)).edges
        ∙ ap ended (goes (λ (w : List ℕ). cut_answers.accepts mode w (meaning pool) cells places))
