-- What add, remove and fresh answer, and what becomes of the pool. Assumes nothing.
use Rattle.std.specs.Prelude.{Result, Ok, Err}
use Prim.Native.Nat.{ℕ, zero, suc, ◌+◌, ◌-◌, ◌*◌, ◌/◌, ◌≤◌, ◌<◌, min}
use native.Mathlib.Omega.{arith}
use mathlib.Core.Path.{◌≡◌, refl, sym, ap, subst, ◌∙◌}
use native.Mathlib.Numerals.{add-one}
use mathlib.Core.Bool.{Bool, true, cond}
use mathlib.Core.List.{List, [], ◌∷◌, ◌++◌}
use mathlib.Core.Option.{Option, none, some}
use borrow.Author.Tests.{lt-ltb, le-ltb, ne_eqb}
use lib.Dec.{ltb}
use lib.ListN.{length, get_or, take, drop, length-append, length-drop}
use lib.Seq.{get_or-take, take_at, drop_at}
use Rattle.refusal.specs.declared.Refusal.{Refusal}
use Rattle.refusal.specs.declared.Refusal.TheVariants.{TooFewNodes}
use Rattle.refusal.specs.Answers.{Cause, answer}
use Rattle.char_string_scalars.specs.Scalars.{is_scalar}
use Rattle.char_string_trim.specs.Trimming.{trimmed_of}
use Rattle.trie_pool.specs.Cells.{used}
use Rattle.trie_pool.specs.Words.{at, term, term_at, lacking}
use Rattle.trie_pool.specs.inner.Paths.{reach}
use Rattle.trie_pool.specs.inner.Sound.{Plain, Sound}
use Rattle.trie_pool.specs.Rules.{capacity, cells_of, well_formed, is_dictionary}
use Rattle.trie_pool.specs.Meaning.{Terms, meaning, with_term, without_term, differ, report_term}
use Rattle.trie_pool.proofs.Rules.{passes}
use Rattle.trie_pool.proofs.Edges.{Edges, edges_of, legal_of}
use Rattle.trie_pool.proofs.Sets.{is_with_term, with_held, with_blank, is_without_term, without_absent, report_is, no_change}
use Rattle.trie_pool.proofs.Held.{root_mark}
use Rattle.trie_change.specs.inner.Adding.{Puts, PutIn}
use Rattle.trie_change.specs.inner.Taking.{Removes, Removed}
use Rattle.trie_change.proofs.Sides.{plain_kept}
use Rattle.trie_char_answers.specs.Answers.{terms_of}
use Rattle.trie_char_answers.specs.Refusals.{nodes_with, node_causes, remove_causes, add_causes}
use Rattle.trie_char_answers.specs.Changes.{Became, After}
use Rattle.refusal.proofs.Causes.{again, handed, handed_same, cause_yes, cause_no}
use Rattle.trie_char_answers.proofs.LongWords.{word_of}
use Rattle.trie_check.proofs.Parts.{known_is, terms_yes, terms_is, inside, cells_are, long, sound_part, plain_part, terms_part}

-- ---- marks and classes

pub term_mark : (m c : ℕ) → m ≡ c + 1 → term m ≡ some c
term_mark m c e = ap term (e ∙ add-one c)

-- another mark is another class, or none
pub changed : (m c : ℕ) → (m ≡ c + 1 → ⊥) → 1 ≡ differ (term m) (some c)
changed zero c ne = refl
changed (suc a) c ne = sym (ap {B = ℕ} (λ (b : Bool). cond b 0 1) (ne_eqb a c (λ e. ne (omega arith))))

pub gone : (m : ℕ) → (m ≡ 0 → ⊥) → 1 ≡ differ (term m) none
gone zero ne = absurd (ne refl)
gone (suc a) ne = refl

-- a word that is held is not empty
pub some_word : (p t : List ℕ) (m : ℕ) → term m ≡ term_at p t → (m ≡ 0 → ⊥) → 1 ≤ length t
some_word p (x ∷ t) m e ne = omega arith
some_word p [] m e ne = absurd (ne (zero_of m (e ∙ ap term (root_mark p))))
  where
    zero_of : (m : ℕ) → term m ≡ none → m ≡ 0
    zero_of zero e = refl
    zero_of (suc a) e = absurd (let z : ◌≡◌ {A = ℕ} 0 1 = cc in omega arith)

-- ---- the pool afterwards

module _ (old : List ℕ) (n : ℕ) (n_is : n ≡ min (length old / 8) 1048576) where
  -- the lent part came back as the pool of these words
  pub became : (part : List ℕ) (held' : Terms) → length part ≡ 8 * n → Sound part (used part) 0 → Plain part → ((v : List ℕ) → term_at part v ≡ held' v) → Became old (part ++ drop (8 * n) old) held'
  became part held' l s f h = record {
    means = terms_yes (part ++ drop (8 * n) old) (ap well_formed cells ∙ passes part s f (omega (arith, s.fits))) ∙ ap some (ap term_at cells ∙ (λ i v. h v i));
    later = ap (λ (k : ℕ). drop (8 * k) (part ++ drop (8 * n) old)) (sym n_is) ∙ drop_at part (drop (8 * n) old) (8 * n) l ∙ ap (λ (k : ℕ). drop (8 * k) old) n_is;
    kept = size;
  }
    where
      size : length (part ++ drop (8 * n) old) ≡ length old
      size = omega (arith, length-append part (drop (8 * n) old), length-drop (8 * n) old, inside old n n_is)

      cells : cells_of (part ++ drop (8 * n) old) ≡ part
      cells =
          let e : capacity (part ++ drop (8 * n) old) ≡ n = omega (arith, size) in
          ap (λ (k : ℕ). take (8 * k) (part ++ drop (8 * n) old)) e ∙ take_at part (drop (8 * n) old) (8 * n) l

-- a pool that holds these words with these classes already
pub stayed : (old : List ℕ) (held' : Terms) → is_dictionary old ≡ true → ((v : List ℕ) → terms_of old v ≡ held' v) → Became old old held'
stayed old held' e h = record { means = terms_yes old e ∙ ap some (sym (terms_is old e) ∙ (λ i v. h v i)); later = refl; kept = refl }

-- ---- an accepted word

module _ (old word : List ℕ) {a : Result ℕ Refusal} {k : ℕ} (is : a ≡ answer (remove_causes word (meaning old)) (length word)) (yes' : a ≡ Ok k)
    (n : ℕ) (n_is : n ≡ min (length old / 8) 1048576) (t : List ℕ) (t_is : t ≡ trimmed_of word) where
  abbrev part : List ℕ
  part = take (8 * n) old

  first : answer (remove_causes word (meaning old)) (length word) ≡ Ok k
  first = sym is ∙ yes'

  pub known : is_dictionary old ≡ true
  known = known_is old (word_of word (meaning old) (length word) k first).known

  pub sound : Sound part (used part) 0
  sound = sound_part old n n_is known

  plain : Plain part
  plain = plain_part old n n_is known

  terms_are : terms_of old ≡ term_at part
  terms_are = terms_part old n n_is known

  held_t : {b : Option ℕ} → b ≡ term_at part t → terms_of old (trimmed_of word) ≡ b
  held_t e = ap (λ (f : Terms). f (trimmed_of word)) terms_are ∙ ap (term_at part) (sym t_is) ∙ sym e

  size_t : length t ≡ length (trimmed_of word)
  size_t = ap length t_is

  -- ---- add

  pub used_there : 0 < length old
  used_there = omega (arith, sound.fits, sound.shaped.some, long old n n_is, inside old n n_is)

  pub used_is : get_or old 0 0 ≡ used part
  used_is = sym (get_or-take (8 * n) old 0 0 (omega (arith, sound.fits, sound.shaped.some, long old n n_is)))

  pub used_fits : get_or old 0 0 ≤ n
  used_fits = omega (arith, used_is, sound.fits, long old n n_is)

  module _ (c more u : ℕ) (more_is : more ≡ lacking part t 0) (u_is : u ≡ get_or old 0 0) where
    abbrev after : Terms
    after = with_term (trimmed_of word) c (terms_of old)

    abbrev report : ℕ
    report = report_term (trimmed_of word) (terms_of old) after

    nodes : nodes_with old (trimmed_of word) ≡ u + more
    nodes =
        let x : used (cells_of old) ≡ u = sym (u_is ∙ used_is ∙ ap used (cells_are old n n_is)) in
        let y : lacking (cells_of old) (trimmed_of word) 0 ≡ more = sym (more_is ∙ ap (λ (p : List ℕ). lacking p t 0) (cells_are old n n_is) ∙ ap (λ (w : List ℕ). lacking (cells_of old) w 0) t_is) in
        omega arith

    abbrev cause : Cause
    cause = record { refusal = TooFewNodes (nodes_with old (trimmed_of word) - capacity old); holds = ltb (capacity old) (nodes_with old (trimmed_of word)) }

    pub add_full : (q : ℕ) → n - u < more → Err (TooFewNodes (more - (n - u))) ≡ answer (add_causes word old) q
    add_full q l =
        let d : more - (n - u) ≡ nodes_with old (trimmed_of word) - capacity old = omega (arith, nodes, used_fits) in
        ap (λ (z : ℕ). Err (TooFewNodes z)) d
        ∙ cause_yes (remove_causes word (meaning old)) cause (length word) q first (lt-ltb (capacity old) (nodes_with old (trimmed_of word)) (omega (arith, nodes, used_fits)))

    module _ (room : more ≤ n - u) where
      accepted : (q : ℕ) → Ok q ≡ answer (add_causes word old) q
      accepted q = cause_no (remove_causes word (meaning old)) cause (length word) q first (le-ltb (capacity old) (nodes_with old (trimmed_of word)) (omega (arith, nodes, used_fits)))

      told : (x : ℕ) → x ≡ report → Ok x ≡ answer (add_causes word old) report
      told x e = ap Ok e ∙ accepted report

      same_terms : ((v : List ℕ) → terms_of old v ≡ after v) → (Ok 0 ≡ answer (add_causes word old) report) × Became old old after
      same_terms h = (told 0 (no_change (trimmed_of word) (terms_of old) after h), stayed old after known h)

      pub add_blank : length t ≡ 0 → (Ok 0 ≡ answer (add_causes word old) report) × Became old old after
      add_blank z = same_terms (with_blank (trimmed_of word) c (terms_of old) (sym size_t ∙ z))

      module _ (some' : length t ≡ 0 → ⊥) (mark : ℕ) (mark_is : mark ≡ c + 1) where
        one : 1 ≤ length (trimmed_of word)
        one = let z : 1 ≤ length t = omega arith in omega (arith, size_t)

        -- a word that is held with this class
        pub add_same : (m : ℕ) → term m ≡ term_at part t → m ≡ mark → (Ok 0 ≡ answer (add_causes word old) report) × Became old old after
        add_same m e h = same_terms (with_held (trimmed_of word) c (terms_of old) one (held_t e ∙ term_mark m c (h ∙ mark_is)))

        pub puts : c ≤ 65535 → Puts part t mark
        puts small =
            let e : Edges t = subst Edges (sym t_is) (edges_of word one) in
            let w = word_of word (meaning old) (length word) k first in
            record {
              sound = sound;
              some = omega arith;
              short = omega (arith, size_t, w.short);
              legal = subst (λ (z : List ℕ). (i : ℕ) → i < length z → is_scalar (get_or z i 0) ≡ true) (sym t_is) (legal_of word w.legal);
              start = e.start;
              stop = e.stop;
              room = omega (arith, more_is, u_is, used_is, used_fits, long old n n_is);
              small = omega (arith, more_is, u_is, used_is, used_fits);
              marks = omega arith;
              upto = omega arith;
            }

        pub add_done : (m : ℕ) → term m ≡ term_at part t → (m ≡ mark → ⊥) → (new : List ℕ) → length new ≡ length part → PutIn part new t mark
            → (Ok 1 ≡ answer (add_causes word old) report) × Became old (new ++ drop (8 * n) old) after
        add_done m e h new l p =
            let there : term_at new t ≡ some c = p.held ∙ term_mark mark c mark_is in
            let now' : (v : List ℕ) → term_at new v ≡ after v =
            λ v. is_with_term t c (terms_of old) (term_at new) (omega arith) there (λ z ne. p.others z ne ∙ ap (λ (f : Terms). f z) (sym terms_are)) v ∙ ap (λ (w : List ℕ). with_term w c (terms_of old) v) t_is in (
              told 1 (changed m c (λ z. h (z ∙ sym mark_is)) ∙ report_is (trimmed_of word) (terms_of old) after (term m) (some c) (held_t e) (sym (now' (trimmed_of word)) ∙ ap (term_at new) (sym t_is) ∙ there)),
              became old n n_is new after (l ∙ long old n n_is) (subst (λ (z : ℕ). Sound new z 0) (sym p.sound.spare.used) p.sound) (plain_kept p.beside plain) now',
            )

  -- ---- remove

  abbrev without : Terms
  without = without_term (trimmed_of word) (terms_of old)

  abbrev taken : ℕ
  taken = report_term (trimmed_of word) (terms_of old) without

  pub remove_absent : (m : ℕ) → term m ≡ term_at part t → m ≡ 0 → (Ok 0 ≡ answer (remove_causes word (meaning old)) taken) × Became old old without
  remove_absent m e h =
      let same : (v : List ℕ) → terms_of old v ≡ without v = without_absent (trimmed_of word) (terms_of old) (held_t e ∙ ap term h) in (
        ap Ok (no_change (trimmed_of word) (terms_of old) without same) ∙ again (remove_causes word (meaning old)) (length word) taken first,
        stayed old without known same,
      )

  pub removes : (m : ℕ) → term m ≡ term_at part t → (m ≡ 0 → ⊥) → Removes part 0 t
  removes m e h = record { past_root = omega (arith, some_word part t m e h); sound = sound; path = []; leads = refl }

  pub remove_done : (m : ℕ) → term m ≡ term_at part t → (m ≡ 0 → ⊥) → (new : List ℕ) → length new ≡ length part → ((u : List ℕ) → reach part u ≡ at 0 → Removed part new u 0 t)
      → (Ok 1 ≡ answer (remove_causes word (meaning old)) taken) × Became old (new ++ drop (8 * n) old) without
  remove_done m e h new l f =
      let p = f [] refl in
      let now' : (v : List ℕ) → term_at new v ≡ without v =
      λ v. is_without_term t (terms_of old) (term_at new) p.gone (λ z ne. p.others z ne ∙ ap (λ (f : Terms). f z) (sym terms_are)) v ∙ ap (λ (w : List ℕ). without_term w (terms_of old) v) t_is in (
        ap Ok (gone m h ∙ report_is (trimmed_of word) (terms_of old) without (term m) none (held_t e) (sym (now' (trimmed_of word)) ∙ ap (term_at new) (sym t_is) ∙ p.gone))
            ∙ again (remove_causes word (meaning old)) (length word) taken first,
        became old n n_is new without (l ∙ long old n n_is) p.sound (plain_kept p.beside plain) now',
      )

-- ---- a refused one

module _ (old word : List ℕ) {a : Result ℕ Refusal} {r : Refusal} (is : a ≡ answer (remove_causes word (meaning old)) (length word)) (no' : a ≡ Err r) where
  pub remove_refused : (q : ℕ) → a ≡ answer (remove_causes word (meaning old)) q
  remove_refused q = handed_same (remove_causes word (meaning old)) (length word) q is no'

  pub add_refused : (q : ℕ) → a ≡ answer (add_causes word old) q
  add_refused q = handed (remove_causes word (meaning old)) (node_causes old (trimmed_of word)) (length word) q is no'

  pub untouched : (held' : Terms) → After a old old held'
  untouched held' = subst (λ (z : Result ℕ Refusal). After z old old held') (sym no') refl
