-- The words of a pool are those with a class, and a class is at most 65,535. Assumes nothing.
use Prim.Native.Nat.{ℕ, zero, suc, ◌-◌, ◌≤◌}
use native.Mathlib.Omega.{arith}
use mathlib.Core.Path.{◌≡◌, refl, sym, ap, ◌∙◌}
use mathlib.Core.Bool.{Bool, true, false, cond}
use mathlib.Core.List.{List}
use mathlib.Core.Option.{Option, some}
use mathlib.Core.Option as option
use Rattle.trie_pool.specs.Cells.{mark_at, used}
use Rattle.trie_pool.specs.Words.{Place, none, at, on_place, walk, marked, holds, term, term_at}
use Rattle.trie_pool.specs.inner.Sound.{Sound}
use Rattle.trie_pool.specs.Rules.{cells_of, is_dictionary}
use Rattle.trie_pool.specs.Meaning.{Words, Terms, is_some, words_in, meaning, terms}
use Rattle.trie_pool.specs.Classes.{words_only, MeaningTerms, NoWordNoClass, HeldClass}
use Rattle.trie_pool.proofs.Rules.{clash, sound}
use Rattle.trie_pool.proofs.Canon.{holds_term}
use Rattle.trie_pool.proofs.Held.{root_mark}
use Rattle.trie_pool.proofs.Listing.{node_inside}

-- ---- the words

pub holds_terms : (p : List ℕ) → holds p ≡ words_in (term_at p)
holds_terms p = λ i v. holds_term p v i

pub meaning_terms : MeaningTerms
unfolding meaning terms
meaning_terms pool = go (is_dictionary pool)
  where
    go : (b : Bool) → cond b (some (holds (cells_of pool))) option.none ≡ words_only (cond b (some (term_at (cells_of pool))) option.none)
    go true = ap some (holds_terms (cells_of pool))
    go false = refl

-- a pool with classes has words
pub means_of : (pool : List ℕ) (held : Terms) → terms pool ≡ some held → meaning pool ≡ some (words_in held)
means_of pool held e = meaning_terms pool ∙ ap words_only e

-- ---- classes

pub no_word_no_class : NoWordNoClass
no_word_no_class p i e = go (mark_at p i) e
  where
    go : (m : ℕ) → marked m ≡ false → m - 1 ≡ 0
    go zero e = refl
    go (suc m) e = clash (sym e)

some_inj : {a b : ℕ} → some a ≡ some b → a ≡ b
some_inj e = cc

none_some : {P : Type 0} {c : ℕ} → option.none ≡ some c → P
none_some e = absurd (let z : ◌≡◌ {A = ℕ} 0 1 = cc in omega arith)

-- a dictionary's class
pub term_class : (p : List ℕ) (n : ℕ) → Sound p n 0 → (w : List ℕ) (c : ℕ) → term_at p w ≡ some c → c ≤ 65535
term_class p n g w c e = go (walk p w 0) refl e
  where
    mark : (m : ℕ) → term m ≡ some c → m ≤ 65536 → c ≤ 65535
    mark zero e l = none_some e
    mark (suc k) e l = omega (arith, some_inj e)

    go : (q : Place) → walk p w 0 ≡ q → on_place option.none (λ r. term (mark_at p r)) q ≡ some c → c ≤ 65535
    go none f e = none_some e
    go (at zero) f e = none_some (sym (ap term (root_mark p)) ∙ e)
    go (at (suc r)) f e = mark (mark_at p (suc r)) e (g.fit (suc r) (omega arith) (node_inside p n g w (suc r) f)).mark

pub held_class : HeldClass
unfolding terms
held_class pool held e w c h = go (is_dictionary pool) refl e
  where
    go : (b : Bool) → is_dictionary pool ≡ b → cond b (some (term_at (cells_of pool))) option.none ≡ some held → c ≤ 65535
    go false d f = absurd (let z : ◌≡◌ {A = ℕ} 0 1 = cc in omega arith)
    go true d f =
        let same : term_at (cells_of pool) ≡ held = cc in
        term_class (cells_of pool) (used (cells_of pool)) (sound (cells_of pool) d) w c (ap (λ (t : Terms). t w) same ∙ h)
