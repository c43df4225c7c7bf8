-- What a plant is told depends on its own words, classes and limit alone. Assumes nothing.
use Rattle.std.specs.Prelude.{Result, Ok, Err}
use Rattle.refusal.specs.declared.Refusal.{Refusal}
use Prim.Native.Nat.{ℕ, ◌-◌}
use mathlib.Core.Path.{◌≡◌, refl, sym, ap, subst, ◌∙◌}
use mathlib.Core.Bool.{true}
use mathlib.Core.List.{List, [], ◌∷◌, ◌++◌}
use mathlib.Core.Option.{Option, some}
use lib.Dec.{ltb}
use lib.ListN.{length}
use Rattle.refusal.specs.declared.Refusal.TheVariants.{TooFewNodes}
use Rattle.refusal.specs.Answers.{answer, output, out_cause}
use Rattle.char_string_trim.specs.Trimming.{trimmed_of}
use Rattle.trie_pool.specs.Cells.{used}
use Rattle.trie_pool.specs.Words.{term_at}
use Rattle.trie_pool.specs.Meaning.{Words, Terms, with_term, without_term, with_word, report_term, prefix_lengths, amount}
use Rattle.trie_pool.specs.Listing.{Number, Held, Prefix}
use Rattle.trie_pool.proofs.Listing.{word_count}
use Rattle.trie_pool.proofs.Number.{one_number}
use Rattle.trie_check.specs.Refusals.{held, held_terms, pool_causes, read_causes}
use Rattle.trie_char_answers.specs.Refusals.{prefix_causes, remove_causes}
use Rattle.trie_char_answers.specs.Answers.{told_term}
use Rattle.trie_plants.specs.declared.Plant.{Plant}
use Rattle.trie_plants.specs.Halves.{half_of, limit_of}
use Rattle.trie_plants.specs.Rules.{is_plants}
use Rattle.trie_plants.specs.Meaning.{plant_meaning, plant_terms}
use Rattle.trie_plants.proofs.Parts.{held_is, terms_yes, means_of, terms_known, sound}
use Rattle.trie_plants_answers.specs.Refusals.{charge_with}
use Rattle.trie_plants_answers.specs.Answers.{own_words, plant_add_answer, plant_added, plant_remove_answer, plant_removed}
use Rattle.trie_plants_answers.specs.Changes.{PlantAfter}
use Rattle.image_rules.specs.Records.{image_of}
use Rattle.image_rules.specs.Lists.{Lists, charge}
use Rattle.image_list.specs.Listed as listed
use Rattle.image_list.proofs.Lists.{lists}
use Rattle.image_list.proofs.One.{one_list}
use Rattle.word_list_answers.specs.Answers.{image_cause, list_of, image_terms}
use Rattle.newmm_many_answers.specs.Singles.{cut_singly, reasons_singly}
use Rattle.newmm_many_answers.specs.Calls.{many_call}
use Rattle.newmm_answers.specs.Answers.{cut_answer, out_after, scratch_after}
use Rattle.newmm_reasons_answers.specs.Answers.{pair_room, reasons_answer, pairs_after}
use Rattle.word_list_plants.specs.Answers.{plant_read_answer}
use Rattle.word_list_plants_write.specs.Answers.{plant_image}
use Rattle.theorems_plants.specs.Plants.{Call, add, remove, contains, prefixes, count, cut, reasons, cut_many, reasons_many, read, write, number, row, rows, told_texts, told_of, Left, SameOwn, ByOwn}
use Rattle.theorems_plants.specs.Plants as told
use Rattle.theorems_plants.proofs.Charges.{counted_with}

some_inj : {a b : Terms} → some a ≡ some b → a ≡ b
some_inj e = cc

-- the list of a plant that holds these words and classes
listed_as : (plant : Plant) (pool : List ℕ) (t : Terms) → plant_terms plant pool ≡ some t → Lists t (listed.list_of (half_of plant pool))
listed_as plant pool t e =
    let known = terms_known plant pool t e in
    let l = lists (half_of plant pool) (used (half_of plant pool)) (sound plant pool known) in
    let s : term_at (half_of plant pool) ≡ t = some_inj (sym (terms_yes plant pool known) ∙ e) in
    record { good = l.good; is = λ v. l.is v ∙ ap (λ (f : Terms). f v) s }

pub same_image : (p q : Plant) (one two : List ℕ) (t : Terms) → plant_terms p one ≡ some t → plant_terms q two ≡ some t → plant_image p one ≡ plant_image q two
unfolding plant_image
same_image p q one two t e f = ap image_of (one_list t (listed.list_of (half_of p one)) (listed.list_of (half_of q two)) (listed_as p one t e) (listed_as q two t f))

module _ (p q : Plant) (one two : List ℕ) (s : SameOwn p one q two) where
  good_one : is_plants one ≡ true
  good_one = terms_known p one s.terms_one s.means_one

  good_two : is_plants two ≡ true
  good_two = terms_known q two s.terms_two s.means_two

  means : plant_terms q two ≡ some s.terms_one
  means = s.means_two ∙ ap some (sym (λ i v. s.same v i))

  pub T : plant_terms p one ≡ plant_terms q two
  T = s.means_one ∙ sym means

  M : plant_meaning p one ≡ plant_meaning q two
  M = means_of p one s.terms_one s.means_one ∙ sym (means_of q two s.terms_one means)

  L : limit_of p one ≡ limit_of q two
  L = s.limit

  C : (word : List ℕ) → charge_with p one word ≡ charge_with q two word
  C word =
      one_number (Prefix (with_word word (own_words p one))) (charge_with p one word) (charge_with q two word) (counted_with p one good_one word)
      (subst (λ (m : Option Words). Number (Prefix (with_word word (held m))) (charge_with q two word)) (sym M) (counted_with q two good_two word))

  N : amount (half_of p one) ≡ amount (half_of q two)
  N =
      one_number (Held (own_words p one)) (amount (half_of p one)) (amount (half_of q two))
      (subst (λ (f : Words). Number (Held f) (amount (half_of p one))) (sym (held_is p one good_one)) (word_count (half_of p one) (used (half_of p one)) (sound p one good_one)))
      (subst (λ (f : Words). Number (Held f) (amount (half_of q two))) (sym (held_is q two good_two) ∙ sym (ap held M)) (word_count (half_of q two) (used (half_of q two)) (sound q two good_two)))

  I : plant_image p one ≡ plant_image q two
  I = same_image p q one two s.terms_one s.means_one means

  -- ---- what is told

  same_add : (word : List ℕ) (class : ℕ) → plant_add_answer p word class one ≡ plant_add_answer q word class two
  same_add word class =
      let c = C (trimmed_of word) in
      λ i. answer (remove_causes word (M i) ++ (record { refusal = TooFewNodes (c i - L i); holds = ltb (L i) (c i) } ∷ []))
      (report_term (trimmed_of word) (held_terms (T i)) (with_term (trimmed_of word) class (held_terms (T i))))

  same_remove : (word : List ℕ) → plant_remove_answer p word one ≡ plant_remove_answer q word two
  same_remove word = λ i. answer (remove_causes word (M i)) (report_term (trimmed_of word) (held_terms (T i)) (without_term (trimmed_of word) (held_terms (T i))))

  same_read : (image : List ℕ) → plant_read_answer p image one ≡ plant_read_answer q image two
  same_read image =
      let n : ℕ = charge (list_of image) in
      λ i. answer (pool_causes (M i) ++ (image_cause image ∷ record { refusal = TooFewNodes (n - L i); holds = ltb (L i) n } ∷ [])) (length (list_of image))

  pub same_told : (call : Call) → told_of p call one ≡ told_of q call two
  same_told (add word class) = ap number (same_add word class)
  same_told (remove word) = ap number (same_remove word)
  same_told (contains word) = λ i. told.held (told_term (answer (read_causes word (M i)) (length word)) (held_terms (T i) word))
  same_told (prefixes text out) =
      λ i. row (answer (prefix_causes text (M i) out) (length (prefix_lengths (held (M i)) text)))
      (output (answer (prefix_causes text (M i) out) (length (prefix_lengths (held (M i)) text))) (prefix_lengths (held (M i)) text) out)
  same_told count = λ i. number (answer (pool_causes (M i)) (N i))
  same_told (cut mode text out scratch) =
      λ i. rows (cut_answer mode text (M i) (length scratch) (length out)) (out_after mode text (M i) (length scratch) out) (scratch_after text (M i) scratch)
  same_told (reasons mode text out scratch) =
      λ i. rows (reasons_answer mode text (M i) (length scratch) (pair_room out)) (pairs_after mode text (M i) (length scratch) out) (scratch_after text (M i) scratch)
  same_told (cut_many mode joined ends answers out scratch) =
      λ i. told_texts (cut_singly mode (M i)) (many_call joined ends one answers out scratch mode)
  same_told (reasons_many mode joined ends answers out scratch) =
      λ i. told_texts (reasons_singly mode (M i)) (many_call joined ends one answers out scratch mode)
  same_told (read image) = ap number (same_read image)
  same_told (write out) =
      λ i. row (answer (pool_causes (M i) ++ (out_cause (length (I i)) (length out) ∷ [])) (length (I i)))
      (output (answer (pool_causes (M i) ++ (out_cause (length (I i)) (length out) ∷ [])) (length (I i))) (I i) out)

  -- ---- what is left

  module _ (new new' : List ℕ) where
    stayed : new ≡ one → new' ≡ two → SameOwn p new q new'
    stayed e f = subst (λ (l : List ℕ). SameOwn p l q new') (sym e) (subst (λ (l : List ℕ). SameOwn p one q l) (sym f) s)

    changed : (a : Result ℕ Refusal) (t u : Terms) → ((v : List ℕ) → t v ≡ u v) → PlantAfter p a one new t → PlantAfter q a two new' u → SameOwn p new q new'
    changed (Ok n) t u same f g =
        record {
          terms_one = t;
          terms_two = u;
          means_one = f.means;
          means_two = g.means;
          same = same;
          limit = ap (λ (k : ℕ). k - 1) f.apart.limit ∙ s.limit ∙ sym (ap (λ (k : ℕ). k - 1) g.apart.limit);
        }
    changed (Err r) t u same f g = stayed f g

    moved : (a b : Result ℕ Refusal) (t u : Terms) → a ≡ b → ((v : List ℕ) → t v ≡ u v) → PlantAfter p a one new t → PlantAfter q b two new' u → SameOwn p new q new'
    moved a b t u e same f g = changed a t u same f (subst (λ (x : Result ℕ Refusal). PlantAfter q x two new' u) (sym e) g)

    pub same_left : (call : Call) → Left p call one new → Left q call two new' → SameOwn p new q new'
    same_left (add word class) f g =
        moved (plant_add_answer p word class one) (plant_add_answer q word class two) (plant_added p word class one) (plant_added q word class two) (same_add word class)
        (λ v. ap (λ (m : Option Terms). with_term (trimmed_of word) class (held_terms m) v) T) f g
    same_left (remove word) f g =
        moved (plant_remove_answer p word one) (plant_remove_answer q word two) (plant_removed p word one) (plant_removed q word two) (same_remove word)
        (λ v. ap (λ (m : Option Terms). without_term (trimmed_of word) (held_terms m) v) T) f g
    same_left (read image) f g = moved (plant_read_answer p image one) (plant_read_answer q image two) (image_terms image) (image_terms image) (same_read image) (λ v. refl) f g
    same_left (contains word) f g = stayed f g
    same_left (prefixes text out) f g = stayed f g
    same_left count f g = stayed f g
    same_left (cut mode text out scratch) f g = stayed f g
    same_left (reasons mode text out scratch) f g = stayed f g
    same_left (cut_many mode joined ends answers out scratch) f g = stayed f g
    same_left (reasons_many mode joined ends answers out scratch) f g = stayed f g
    same_left (write out) f g = stayed f g

pub by_own : ByOwn
by_own p q call one new two new' t u s f g =
    (f.answered ∙ same_told p q one two s call ∙ sym g.answered, same_left p q one two s new new' call f.left g.left)
