-- Two pools that hold the same words with the same classes answer alike. Assumes nothing.
use Prim.Native.Nat.{ℕ}
use mathlib.Core.Path.{◌≡◌, refl, sym, ap, subst, ◌∙◌}
use mathlib.Core.Bool.{true}
use mathlib.Core.List.{List}
use lib.ListN.{length}
use Rattle.refusal.specs.Answers.{answer}
use Rattle.trie_pool.specs.Cells.{used}
use Rattle.trie_pool.specs.Rules.{is_dictionary, cells_of}
use Rattle.trie_pool.specs.Listing.{Number, Held}
use Rattle.trie_pool.specs.Meaning.{Words, words_in, meaning, terms, prefix_lengths, amount}
use Rattle.trie_pool.proofs.Rules.{sound}
use Rattle.trie_pool.proofs.Terms.{means_of}
use Rattle.trie_pool.proofs.Listing.{word_count}
use Rattle.trie_check.specs.Refusals.{held, held_terms, pool_causes, read_causes}
use Rattle.trie_check.proofs.Parts.{held_is, terms_known}
use Rattle.trie_char_answers.specs.Refusals.{prefix_causes}
use Rattle.trie_char_answers.specs.Answers.{words_of, told_term}
use Rattle.theorems_demands.proofs.Counts.{amount_is}
use Rattle.theorems_demands.proofs.Demand3.{demand_3_any}
use Rattle.theorems_order.specs.Order.{SameAnswers}

-- their words are as many
amounts : (p q : List ℕ) → is_dictionary p ≡ true → is_dictionary q ≡ true → meaning p ≡ meaning q → amount (cells_of p) ≡ amount (cells_of q)
amounts p q good_p good_q m = amount_is p good_p (amount (cells_of q)) counted
  where
    counted : Number (Held (words_of p)) (amount (cells_of q))
    counted =
        subst (λ (f : Words). Number (Held f) (amount (cells_of q))) (sym (held_is q good_q) ∙ sym (ap held m))
        (word_count (cells_of q) (used (cells_of q)) (sound (cells_of q) good_q))

pub same_answers : SameAnswers
same_answers p q kept hp hq = record {
  contains = λ word i. told_term (answer (read_causes word (m i)) (length word)) (held_terms (t i) word);
  lengths = λ text out i. answer (prefix_causes text (m i) out) (length (prefix_lengths (held (m i)) text));
  written = λ text i. prefix_lengths (held (m i)) text;
  count = λ i. answer (pool_causes (m i)) (amounts p q (terms_known p kept hp) (terms_known q kept hq) m i);
  cuts = λ a b pa pb. demand_3_any a b (words_in kept) (words_in kept) (ap meaning pa ∙ means_of p kept hp) (ap meaning pb ∙ means_of q kept hq) (λ x. refl);
}
  where
    t : terms p ≡ terms q
    t = hp ∙ sym hq

    m : meaning p ≡ meaning q
    m = means_of p kept hp ∙ sym (means_of q kept hq)
