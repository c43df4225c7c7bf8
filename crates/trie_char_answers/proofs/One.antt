-- No second pool fits what add, remove and fresh say of it, and every pool that they leave passes.
-- Assumes nothing.
use Rattle.std.specs.Prelude.{Result, Ok, Err}
use Rattle.refusal.specs.declared.Refusal.{Refusal}
use Prim.Native.Nat.{ℕ, ◌*◌}
use native.Mathlib.Omega.{arith}
use mathlib.Core.Path.{◌≡◌, refl, sym, ap, ◌∙◌}
use mathlib.Core.Bool.{true}
use mathlib.Core.List.{List, ◌++◌}
use lib.ListN.{length, take, drop, take-append-drop}
use Rattle.trie_pool.specs.Cells.{used}
use Rattle.trie_pool.specs.Words.{term_at}
use Rattle.trie_pool.specs.Rules.{capacity, cells_of, is_dictionary}
use Rattle.trie_pool.specs.Meaning.{Terms}
use Rattle.trie_pool.proofs.Rules.{sound, plain_is}
use Rattle.trie_pool.proofs.Canon.{one_pool}
use Rattle.trie_check.specs.Refusals.{held_terms}
use Rattle.trie_check.proofs.Parts.{terms_known, terms_is, long}
use Rattle.trie_char_answers.specs.Changes.{Became, After}

-- Every pool reached from a fresh one passes.
pub became_passes : (old new : List ℕ) (held : Terms) → Became old new held → is_dictionary new ≡ true
became_passes old new held b = terms_known new held b.means

-- its words and classes are those that are said
pub became_terms : (old new : List ℕ) (held : Terms) → Became old new held → term_at (cells_of new) ≡ held
became_terms old new held b = sym (terms_is new (became_passes old new held b)) ∙ ap held_terms b.means

-- two pools of these words, these classes and one length are equal, cell by cell
pub one_became : (old p q : List ℕ) (held : Terms) → Became old p held → Became old q held → p ≡ q
one_became old p q held f g =
    sym (take-append-drop (8 * capacity old) p) ∙ ap (λ (l : List ℕ). l ++ drop (8 * capacity old) p) fronts ∙ ap (λ (l : List ℕ). take (8 * capacity old) q ++ l) (f.later ∙ sym g.later)
    ∙ take-append-drop (8 * capacity old) q
  where
    cap_p : capacity old ≡ capacity p
    cap_p = omega (arith, f.kept)

    cap_q : capacity old ≡ capacity q
    cap_q = omega (arith, g.kept)

    size : length (cells_of p) ≡ length (cells_of q)
    size = omega (arith, f.kept, g.kept, long p (capacity p) refl, long q (capacity q) refl)

    good_p : is_dictionary p ≡ true
    good_p = became_passes old p held f

    good_q : is_dictionary q ≡ true
    good_q = became_passes old q held g

    cells : cells_of p ≡ cells_of q
    cells = one_pool (cells_of p) (cells_of q) (used (cells_of p)) (used (cells_of q)) (sound (cells_of p) good_p) (sound (cells_of q) good_q) (plain_is (cells_of p) good_p) (plain_is (cells_of q) good_q)
        (λ v. ap (λ (h : Terms). h v) (became_terms old p held f ∙ sym (became_terms old q held g))) size

    fronts : take (8 * capacity old) p ≡ take (8 * capacity old) q
    fronts = ap (λ (k : ℕ). take (8 * k) p) cap_p ∙ cells ∙ sym (ap (λ (k : ℕ). take (8 * k) q) cap_q)

-- so an answer leaves one pool
pub one_after : (a : Result ℕ Refusal) (old p q : List ℕ) (held : Terms) → After a old p held → After a old q held → p ≡ q
one_after (Ok n) old p q held f g = one_became old p q held f g
one_after (Err r) old p q held f g = f ∙ sym g
