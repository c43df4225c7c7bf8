-- Many texts with room for all: each is told what it is told by itself, in any order. Assumes
-- nothing.
use Rattle.std.specs.Prelude.{Result, Ok, Err}
use Rattle.newmm_rules.specs.declared.Ends.{Ends}
use Rattle.refusal.specs.declared.Refusal.{Refusal}
use Prim.Native.Nat.{ℕ, ◌+◌, ◌≤◌}
use native.Mathlib.Omega.{arith}
use mathlib.Core.Path.{◌≡◌, refl, sym, ◌∙◌, ap, subst}
use mathlib.Core.Bool.{Bool, cond}
use mathlib.Core.List.{List, [], ◌∷◌, ◌++◌, map, append_assoc}
use mathlib.Core.Option.{Option}
use lib.ListN.{length, take, drop, replicate, length-append, length-drop, length-replicate}
use lib.Seq.{take_at, drop-drop}
use borrow.Author.Tests.{le-ltb}
use Rattle.refusal.specs.declared.Refusal.TheVariants.{OutputTooShort}
use Rattle.refusal.specs.Answers.{answer, output}
use Rattle.refusal.proofs.Order.{refused_first, accepted_first}
use Rattle.trie_pool.specs.Meaning.{Words, meaning}
use Rattle.trie_check.specs.Refusals.{held}
use Rattle.newmm_rules.specs.declared.Mode.{Mode}
use Rattle.newmm_rules.specs.Cutting.{Cut}
use Rattle.newmm_answers.specs.Answers.{cut_of, first_causes, out_causes, accepts, told, scratch_after}
use Rattle.newmm_answers.proofs.Cuts.{few_ends}
use Rattle.newmm_many_answers.specs.Texts.{texts_of}
use Rattle.newmm_many_answers.specs.Turns.{Singly, ends_told, rest_of, in_turn}
use Rattle.newmm_many_answers.proofs.Answered.{scratch_as_long}
use Rattle.theorems_demands.specs.ManyTexts.{wrote_by, alone, Told, told_alone, all_wrote, each_alone, Permuted, none, keep, swap, then}
use Rattle.theorems_demands.specs.ManyTexts.{Form, EachByItselfFor, EachByItself, EachByItselfReasons, OrderOfTextsFor, OrderOfTexts, OrderOfTextsReasons, cuts_form, reasons_form}
use Rattle.theorems_demands.proofs.ManyShapes.{Shape, ends_shape, pairs_shape, no_cells, telling, taking, writing, writing_long, rest_is, shaped, form}

module _ (s : Shape) (mode : Mode) (m : Option Words) (cells : ℕ) (text : List ℕ) where
  abbrev cut : Cut
  cut = cut_of mode (held m) text

  abbrev made : List ℕ
  made = s.made mode (held m) text

  abbrev first : Result ℕ Refusal
  first = answer (first_causes text m cells) 0

  -- where refusals 2 to 5 are not due, the room decides, and the text's length is room enough
  late : (n room : ℕ) → first ≡ Ok n → length cut.ends ≤ room → accepts mode text m cells room ≡ Ok (length cut.ends)
  late n room e h =
      accepted_first (first_causes text m cells) (out_causes cut.ends room) 0 (length cut.ends) e
      ∙ ap (λ (b : Bool). cond b (Err (OutputTooShort (length cut.ends))) (Ok (length cut.ends))) (le-ltb room (length cut.ends) h)

  -- two calls for a text are told the same and write the same, if the one has room for what the
  -- other wrote in an output that was long enough
  pub same_told : (o p : List ℕ) → s.cells (length text) ≤ length p → taking s mode m cells text p ≤ length o
      → (telling s mode m cells text o ≡ telling s mode m cells text p) × (writing s mode m cells text o ≡ writing s mode m cells text p)
  same_told o p big h = go first refl
    where
      wrote : (l : List ℕ) → accepts mode text m cells (s.room (length l)) ≡ Ok (length cut.ends) → writing s mode m cells text l ≡ made
      wrote l e =
          ap (λ (x : Result ℕ Refusal). take (s.cells (ends_told (told x cut.edges))) (output x made l)) e
          ∙ take_at made (drop (length made) l) (s.cells (length cut.ends)) (s.long mode (held m) text)

      go : (x : Result ℕ Refusal) → first ≡ x → (telling s mode m cells text o ≡ telling s mode m cells text p) × (writing s mode m cells text o ≡ writing s mode m cells text p)
      go (Ok n) e =
          let b = late n (s.room (length p)) e (omega (arith, s.enough (length text) (length p) big, few_ends mode (held m) text)) in
          let k : taking s mode m cells text p ≡ s.cells (length cut.ends) = ap (λ (x : Result ℕ Refusal). s.cells (ends_told (told x cut.edges))) b in
          let a = late n (s.room (length o)) e (s.enough (length cut.ends) (length o) (omega (arith, h, k))) in
          (ap (λ (x : Result ℕ Refusal). told x cut.edges) (a ∙ sym b), wrote o a ∙ sym (wrote p b))
      go (Err r) e =
          let f : (room : ℕ) → accepts mode text m cells room ≡ Err r =
          λ room. refused_first (first_causes text m cells) (out_causes cut.ends room) 0 (length cut.ends) e in (
            ap (λ (x : Result ℕ Refusal). told x cut.edges) (f (s.room (length o)) ∙ sym (f (s.room (length p)))),
            nothing o (f (s.room (length o))) ∙ sym (nothing p (f (s.room (length p)))),
          )
        where
          nothing : (l : List ℕ) → accepts mode text m cells (s.room (length l)) ≡ Err r → writing s mode m cells text l ≡ []
          nothing l q = ap (λ (x : Result ℕ Refusal). take (s.cells (ends_told (told x cut.edges))) (output x made l)) q ∙ ap (λ (k : ℕ). take k l) (no_cells s)

module _ (s : Shape) (meant : List ℕ → Option Words) (mode : Mode) (pool : List ℕ) where
  abbrev m : Option Words
  m = meant pool

  abbrev one : Singly
  one = shaped s mode m

  abbrev all : ℕ → List (List ℕ) → List Told
  all cells texts = map (told_alone (form s meant) mode pool cells) texts

  -- the output of a text by itself
  abbrev own : List ℕ → List ℕ
  own text = replicate (s.cells (length text)) 0

  -- by itself a text is told what a call with so many cells of scratch tells
  alone_is : (cells : ℕ) (text : List ℕ)
      → ((form s meant).answer (alone (form s meant) mode pool cells text) ≡ telling s mode m cells text (own text))
      × (wrote_by (form s meant) (alone (form s meant) mode pool cells text) ≡ writing s mode m cells text (own text))
  alone_is cells text =
      let e = length-replicate {A = ℕ} cells 0 in
      (ap (λ (k : ℕ). telling s mode m k text (own text)) e, ap (λ (k : ℕ). writing s mode m k text (own text)) e)

  pub by_itself : (texts : List (List ℕ)) (out scratch : List ℕ) → length (all_wrote (all (length scratch) texts)) ≤ length out
      → ((in_turn one texts out scratch).told ≡ map (λ (t : Told). t.told) (all (length scratch) texts))
      × ((in_turn one texts out scratch).out ≡ all_wrote (all (length scratch) texts) ++ drop (length (all_wrote (all (length scratch) texts))) out)
  unfolding in_turn
  by_itself [] out scratch h = (refl, refl)
  by_itself (t ∷ ts) out scratch h =
      let cells = length scratch in
      let x = alone_is cells t in
      let w = wrote_by (form s meant) (alone (form s meant) mode pool cells t) in
      let r = all_wrote (all cells ts) in
      let n : taking s mode m cells t (own t) ≡ length w = sym (writing_long s mode m cells t (own t)) ∙ ap length (sym x.1) in
      let z = same_told s mode m cells t out (own t) (omega (arith, length-replicate {A = ℕ} (s.cells (length t)) 0)) (omega (arith, h, length-append w r, n)) in
      let d : rest_of (one t out scratch) ≡ drop (length w) out = rest_is s mode m cells t out ∙ ap (λ (k : Result Ends Refusal). drop (s.cells (ends_told k)) out) z.0 ∙ ap (λ (k : ℕ). drop k out) n in
      let l = scratch_as_long t m scratch in
      let ih = by_itself ts (rest_of (one t out scratch)) (scratch_after t m scratch)
      (omega (arith, h, length-append w r, ap (λ (k : ℕ). length (all_wrote (all k ts))) l, ap length d, length-drop (length w) out)) in (
        (λ i. (z.0 ∙ sym x.0) i ∷ (ih.0 ∙ ap (λ (k : ℕ). map (λ (y : Told). y.told) (all k ts)) l) i),
        (λ i. (z.1 ∙ sym x.1) i ++ (ih.1 ∙ ap (λ (k : ℕ). all_wrote (all k ts) ++ drop (length (all_wrote (all k ts))) (rest_of (one t out scratch))) l) i)
            ∙ ap (λ (o : List ℕ). w ++ (r ++ drop (length r) o)) d
            ∙ ap (λ (o : List ℕ). w ++ (r ++ o)) (drop-drop (length r) (length w) out)
            ∙ sym (append_assoc w r (drop (length w + length r) out))
            ∙ ap (λ (k : ℕ). (w ++ r) ++ drop k out) (sym (length-append w r)),
      )

pub by_itself_for : (s : Shape) (meant : List ℕ → Option Words) → EachByItselfFor (form s meant)
by_itself_for s meant c h = by_itself s meant c.mode c.pool (texts_of c.row c.ends) c.out c.scratch h

pub each_by_itself : EachByItself
each_by_itself = by_itself_for ends_shape meaning

pub each_by_itself_reasons : EachByItselfReasons
each_by_itself_reasons = by_itself_for pairs_shape meaning

-- ---- another order

permuted_map : {A B : Type 0} (f : A → B) {xs ys : List A} → Permuted xs ys → Permuted (map f xs) (map f ys)
permuted_map f none = none
permuted_map f (keep p) = keep (permuted_map f p)
permuted_map f swap = swap
permuted_map f (then p q) = then (permuted_map f p) (permuted_map f q)

-- as many cells in all
as_many : {xs ys : List Told} → Permuted xs ys → length (all_wrote xs) ≡ length (all_wrote ys)
as_many none = refl
as_many (keep {x = x} {xs = xs} {ys = ys} p) = omega (arith, as_many p, length-append x.wrote (all_wrote xs), length-append x.wrote (all_wrote ys))
as_many (swap {x = x} {y = y} {xs = xs}) =
    omega (
      arith,
      length-append x.wrote (y.wrote ++ all_wrote xs),
      length-append y.wrote (all_wrote xs),
      length-append y.wrote (x.wrote ++ all_wrote xs),
      length-append x.wrote (all_wrote xs),
    )
as_many (then p q) = as_many p ∙ as_many q

pub in_order : (f : Form) → OrderOfTextsFor f
in_order f a b mode pool scratch out order room =
    let same : Permuted (each_alone f a) (each_alone f b) =
    subst (λ (l : List Told). Permuted (each_alone f a) l) (λ i. map (told_alone f (mode i) (pool i) (scratch i)) (texts_of b.row b.ends))
    (permuted_map (told_alone f a.mode a.pool (length a.scratch)) order) in
    (omega (arith, room, out, as_many same), same)

pub order_of_texts : OrderOfTexts
order_of_texts = in_order cuts_form

pub order_of_texts_reasons : OrderOfTextsReasons
order_of_texts_reasons = in_order reasons_form
