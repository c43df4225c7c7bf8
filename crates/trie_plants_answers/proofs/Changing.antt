-- What add and remove answer in a plants' pool, and what becomes of it. Assumes nothing.
use Rattle.std.specs.Prelude.{Result, Ok, Err}
use Prim.Native.Nat.{ℕ, ◌+◌, ◌-◌, ◌*◌, ◌/◌, ◌≤◌, ◌<◌, min}
use native.Mathlib.Omega.{arith}
use mathlib.Core.Path.{◌≡◌, refl, sym, ap, subst, ◌∙◌}
use mathlib.Core.Bool.{true}
use mathlib.Core.List.{List, [], ◌∷◌, ◌++◌}
use mathlib.Core.Option.{Option, none, some}
use borrow.Author.Tests.{lt-ltb, le-ltb}
use lib.ListN.{length, get_or, take, drop}
use Rattle.refusal.specs.declared.Refusal.{Refusal}
use Rattle.refusal.specs.declared.Refusal.TheVariants.{TooFewNodes}
use Rattle.refusal.specs.Answers.{Cause, answer}
use Rattle.refusal.proofs.Causes.{again, handed, handed_same, cause_yes, cause_no}
use Rattle.char_string_scalars.specs.Scalars.{is_scalar}
use Rattle.char_string_trim.specs.Trimming.{trimmed_of}
use Rattle.trie_pool.specs.Cells.{used}
use Rattle.trie_pool.specs.Words.{at, term, term_at, lacking}
use Rattle.trie_pool.specs.inner.Paths.{reach}
use Rattle.trie_pool.specs.inner.Sound.{Sound}
use Rattle.trie_pool.specs.Meaning.{Terms, with_term, without_term, report_term}
use Rattle.trie_pool.proofs.Edges.{Edges, edges_of, legal_of}
use Rattle.trie_pool.proofs.Sets.{is_with_term, with_held, with_blank, is_without_term, without_absent, report_is, no_change}
use Rattle.trie_change.specs.inner.Adding.{Puts, PutIn}
use Rattle.trie_change.specs.inner.Taking.{Removes, Removed}
use Rattle.trie_char_answers.specs.Refusals.{remove_causes}
use Rattle.trie_char_answers.proofs.LongWords.{word_of}
use Rattle.trie_char_answers.proofs.Changing.{term_mark, changed, gone, some_word}
use Rattle.trie_plants.specs.declared.Plant.{Plant}
use Rattle.trie_plants.specs.Halves.{half_at, half_of, room_of, limit_of}
use Rattle.trie_plants.specs.Rules.{is_plants}
use Rattle.trie_plants.specs.Meaning.{plant_meaning}
use Rattle.trie_plants.proofs.Parts.{known_is, half_low, some_used, in_room, room_fits, view_is, long, from, sound_view, terms_view}
use Rattle.trie_plants_answers.specs.Answers.{own_terms}
use Rattle.trie_plants_answers.specs.Refusals.{charge_with, limit_cause, plant_add_causes}
use Rattle.trie_plants_answers.specs.Changes.{PlantBecame, PlantAfter}
use Rattle.trie_plants_answers.proofs.Became.{became, stayed}

-- ---- an accepted word

module _ (plant : Plant) (old word : List ℕ) {x : Result ℕ Refusal} {k : ℕ} (is : x ≡ answer (remove_causes word (plant_meaning plant old)) (length word)) (yes' : x ≡ Ok k)
    (n : ℕ) (n_is : n ≡ min (length old / 8) 1048576) (a : ℕ) (a_is : a ≡ half_at plant) (t : List ℕ) (t_is : t ≡ trimmed_of word) where
  abbrev view : List ℕ
  view = take (8 * n - a) (drop a old)

  abbrev put : List ℕ → List ℕ
  put half = take a old ++ (half ++ drop (8 * n - a) (drop a old))

  first : answer (remove_causes word (plant_meaning plant old)) (length word) ≡ Ok k
  first = sym is ∙ yes'

  pub known : is_plants old ≡ true
  known = known_is plant old (word_of word (plant_meaning plant old) (length word) k first).known

  sound : Sound view (used view) 0
  sound = sound_view plant old n n_is a a_is known

  terms_are : own_terms plant old ≡ term_at view
  terms_are = terms_view plant old n n_is a a_is known

  held_t : {b : Option ℕ} → b ≡ term_at view t → own_terms plant old (trimmed_of word) ≡ b
  held_t e = ap (λ (f : Terms). f (trimmed_of word)) terms_are ∙ ap (term_at view) (sym t_is) ∙ sym e

  size_t : length t ≡ length (trimmed_of word)
  size_t = ap length t_is

  -- ---- the limit and the charge in the view

  room_is : get_or view 3 0 ≡ room_of plant old
  room_is = ap (λ (p : List ℕ). get_or p 3 0) (view_is plant old n n_is a a_is)

  used_is : used view ≡ used (half_of plant old)
  used_is = ap used (view_is plant old n n_is a a_is)

  pub long_view : 3 < length view
  long_view = omega (arith, long plant old n n_is a a_is, from plant old n n_is a a_is known)

  pub used_fits : used view ≤ get_or view 3 0
  used_fits = omega (arith, room_is, used_is, in_room plant old known)

  -- ---- add

  module _ (c more free : ℕ) (more_is : more ≡ lacking view t 0) (free_is : free ≡ get_or view 3 0 - used view) where
    abbrev after : Terms
    after = with_term (trimmed_of word) c (own_terms plant old)

    abbrev report : ℕ
    report = report_term (trimmed_of word) (own_terms plant old) after

    abbrev charge : ℕ
    charge = charge_with plant old (trimmed_of word)

    abbrev cause : Cause
    cause = limit_cause plant old charge

    needs : lacking (half_of plant old) (trimmed_of word) 0 ≡ more
    needs = sym (more_is ∙ ap (λ (p : List ℕ). lacking p t 0) (view_is plant old n n_is a a_is) ∙ ap (λ (w : List ℕ). lacking (half_of plant old) w 0) t_is)

    -- what is free is the limit less the charge
    over : (free < more → limit_of plant old < charge) × (more ≤ free → charge ≤ limit_of plant old)
    over = (
      λ l. omega (arith, needs, room_is, used_is, used_fits, some_used plant old known),
      λ l. omega (arith, needs, room_is, used_is, used_fits, some_used plant old known),
    )

    pub add_full : (q : ℕ) → free < more → Err (TooFewNodes (more - free)) ≡ answer (plant_add_causes plant word old) q
    add_full q l =
        let d : more - free ≡ charge - limit_of plant old = omega (arith, needs, room_is, used_is, used_fits, some_used plant old known) in
        ap (λ (z : ℕ). Err (TooFewNodes z)) d
        ∙ cause_yes (remove_causes word (plant_meaning plant old)) cause (length word) q first (lt-ltb (limit_of plant old) charge (over.0 l))

    module _ (room : more ≤ free) where
      told : (y : ℕ) → y ≡ report → Ok y ≡ answer (plant_add_causes plant word old) report
      told y e = ap Ok e ∙ cause_no (remove_causes word (plant_meaning plant old)) cause (length word) report first (le-ltb (limit_of plant old) charge (over.1 room))

      same_terms : ((v : List ℕ) → own_terms plant old v ≡ after v) → (Ok 0 ≡ answer (plant_add_causes plant word old) report) × PlantBecame plant old old after
      same_terms h = (told 0 (no_change (trimmed_of word) (own_terms plant old) after h), stayed plant old after known h)

      pub add_blank : length t ≡ 0 → (Ok 0 ≡ answer (plant_add_causes plant word old) report) × PlantBecame plant old old after
      add_blank z = same_terms (with_blank (trimmed_of word) c (own_terms plant old) (sym size_t ∙ z))

      module _ (some' : length t ≡ 0 → ⊥) (mark : ℕ) (mark_is : mark ≡ c + 1) where
        one : 1 ≤ length (trimmed_of word)
        one = let z : 1 ≤ length t = omega arith in omega (arith, size_t)

        -- a word that is held with this class
        pub add_same : (m : ℕ) → term m ≡ term_at view t → m ≡ mark → (Ok 0 ≡ answer (plant_add_causes plant word old) report) × PlantBecame plant old old after
        add_same m e h = same_terms (with_held (trimmed_of word) c (own_terms plant old) one (held_t e ∙ term_mark m c (h ∙ mark_is)))

        -- the nodes in use then
        then : used view + lacking view t 0 ≤ room_of plant old
        then = omega (arith, more_is, room_is, used_fits)

        pub puts : c ≤ 65535 → Puts view t mark
        puts small =
            let e : Edges t = subst Edges (sym t_is) (edges_of word one) in
            let w = word_of word (plant_meaning plant old) (length word) k first in
            let r = room_fits plant old known in
            record {
              sound = sound;
              some = omega arith;
              short = omega (arith, size_t, w.short);
              legal = subst (λ (z : List ℕ). (i : ℕ) → i < length z → is_scalar (get_or z i 0) ≡ true) (sym t_is) (legal_of word w.legal);
              start = e.start;
              stop = e.stop;
              room = omega (arith, then, r, long plant old n n_is a a_is, half_low plant);
              small = omega (arith, then, r);
              marks = omega arith;
              upto = omega arith;
            }

        pub add_done : (m : ℕ) → term m ≡ term_at view t → (m ≡ mark → ⊥) → (new : List ℕ) → length new ≡ length view → PutIn view new t mark
            → (Ok 1 ≡ answer (plant_add_causes plant word old) report) × PlantBecame plant old (put new) after
        add_done m e h new l p =
            let there : term_at new t ≡ some c = p.held ∙ term_mark mark c mark_is in
            let u : used new ≡ used view + lacking view t 0 = p.sound.spare.used in
            let now' : (v : List ℕ) → term_at new v ≡ after v =
            λ v. is_with_term t c (own_terms plant old) (term_at new) (omega arith) there (λ z ne. p.others z ne ∙ ap (λ (f : Terms). f z) (sym terms_are)) v ∙ ap (λ (w : List ℕ). with_term w c (own_terms plant old) v) t_is in (
              told 1 (changed m c (λ z. h (z ∙ sym mark_is)) ∙ report_is (trimmed_of word) (own_terms plant old) after (term m) (some c) (held_t e) (sym (now' (trimmed_of word)) ∙ ap (term_at new) (sym t_is) ∙ there)),
              became plant old known n n_is a a_is new l p.beside (subst (λ (z : ℕ). Sound new z 0) (sym u) p.sound) (omega (arith, u, then)) after now',
            )

  -- ---- remove

  abbrev without : Terms
  without = without_term (trimmed_of word) (own_terms plant old)

  abbrev taken : ℕ
  taken = report_term (trimmed_of word) (own_terms plant old) without

  pub remove_absent : (m : ℕ) → term m ≡ term_at view t → m ≡ 0 → (Ok 0 ≡ answer (remove_causes word (plant_meaning plant old)) taken) × PlantBecame plant old old without
  remove_absent m e h =
      let same : (v : List ℕ) → own_terms plant old v ≡ without v = without_absent (trimmed_of word) (own_terms plant old) (held_t e ∙ ap term h) in (
        ap Ok (no_change (trimmed_of word) (own_terms plant old) without same) ∙ again (remove_causes word (plant_meaning plant old)) (length word) taken first,
        stayed plant old without known same,
      )

  pub removes : (m : ℕ) → term m ≡ term_at view t → (m ≡ 0 → ⊥) → Removes view 0 t
  removes m e h = record { past_root = omega (arith, some_word view t m e h); sound = sound; path = []; leads = refl }

  pub remove_done : (m : ℕ) → term m ≡ term_at view t → (m ≡ 0 → ⊥) → (new : List ℕ) → length new ≡ length view → ((u : List ℕ) → reach view u ≡ at 0 → Removed view new u 0 t)
      → (Ok 1 ≡ answer (remove_causes word (plant_meaning plant old)) taken) × PlantBecame plant old (put new) without
  remove_done m e h new l f =
      let p = f [] refl in
      let now' : (v : List ℕ) → term_at new v ≡ without v =
      λ v. is_without_term t (own_terms plant old) (term_at new) p.gone (λ z ne. p.others z ne ∙ ap (λ (f : Terms). f z) (sym terms_are)) v ∙ ap (λ (w : List ℕ). without_term w (own_terms plant old) v) t_is in (
        ap Ok (gone m h ∙ report_is (trimmed_of word) (own_terms plant old) without (term m) none (held_t e) (sym (now' (trimmed_of word)) ∙ ap (term_at new) (sym t_is) ∙ p.gone))
            ∙ again (remove_causes word (plant_meaning plant old)) (length word) taken first,
        became plant old known n n_is a a_is new l p.beside p.sound (omega (arith, p.fewer, room_is, used_fits)) without now',
      )

-- ---- a refused one

module _ (plant : Plant) (old word : List ℕ) {x : Result ℕ Refusal} {r : Refusal} (is : x ≡ answer (remove_causes word (plant_meaning plant old)) (length word)) (no' : x ≡ Err r) where
  pub remove_refused : (q : ℕ) → x ≡ answer (remove_causes word (plant_meaning plant old)) q
  remove_refused q = handed_same (remove_causes word (plant_meaning plant old)) (length word) q is no'

  pub add_refused : (q : ℕ) → x ≡ answer (plant_add_causes plant word old) q
  add_refused q = handed (remove_causes word (plant_meaning plant old)) (limit_cause plant old (charge_with plant old (trimmed_of word)) ∷ []) (length word) q is no'

  pub untouched : (held' : Terms) → PlantAfter plant x old old held'
  untouched held' = subst (λ (z : Result ℕ Refusal). PlantAfter plant z old old held') (sym no') refl
