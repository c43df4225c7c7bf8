-- The cells of a pool that are read and written, and its meaning by them. Assumes nothing.
use Prim.Native.Nat.{ℕ, ◌-◌, ◌*◌, ◌/◌, ◌≤◌, min}
use native.Mathlib.Omega.{arith}
use mathlib.Core.Path.{◌≡◌, refl, sym, ap, ◌∙◌}
use mathlib.Core.Bool.{Bool, true, false, cond}
use mathlib.Core.List.{List}
use mathlib.Core.Option.{none, some}
use lib.ListN.{length, take}
use lib.Seq.{length-take-le}
use Rattle.trie_pool.specs.Cells.{used}
use Rattle.trie_pool.specs.Words.{holds, term_at}
use Rattle.trie_pool.specs.inner.Sound.{Plain, Sound, Readable}
use Rattle.trie_pool.specs.Rules.{cells_of, well_formed, is_dictionary}
use Rattle.trie_pool.specs.Meaning.{Terms, meaning, terms}
use Rattle.trie_pool.proofs.Rules.{sound, plain_is, clash}
use Rattle.trie_pool.proofs.Terms.{means_of}
use Rattle.trie_check.specs.Refusals.{is_none, held, held_terms}

-- ---- meaning

pub meaning_yes : (pool : List ℕ) → is_dictionary pool ≡ true → meaning pool ≡ some (holds (cells_of pool))
unfolding meaning
meaning_yes pool e = ap (λ (b : Bool). cond b (some (holds (cells_of pool))) none) e

pub meaning_no : (pool : List ℕ) → is_dictionary pool ≡ false → meaning pool ≡ none
unfolding meaning
meaning_no pool e = ap (λ (b : Bool). cond b (some (holds (cells_of pool))) none) e

-- a pool has a meaning exactly if it is a dictionary
pub meaning_is_none : (pool : List ℕ) (b : Bool) → b ≡ is_dictionary pool → is_none (meaning pool) ≡ cond b false true
meaning_is_none pool true e = ap is_none (meaning_yes pool (sym e))
meaning_is_none pool false e = ap is_none (meaning_no pool (sym e))

pub known_is : (pool : List ℕ) → is_none (meaning pool) ≡ false → is_dictionary pool ≡ true
known_is pool h = go (is_dictionary pool) refl
  where
    go : (b : Bool) → is_dictionary pool ≡ b → b ≡ true
    go true e = refl
    go false e = clash (sym h ∙ ap is_none (meaning_no pool e))

pub held_is : (pool : List ℕ) → is_dictionary pool ≡ true → held (meaning pool) ≡ holds (cells_of pool)
held_is pool e = ap held (meaning_yes pool e)

-- ---- the words with their classes

pub terms_yes : (pool : List ℕ) → is_dictionary pool ≡ true → terms pool ≡ some (term_at (cells_of pool))
unfolding terms
terms_yes pool e = ap (λ (b : Bool). cond b (some (term_at (cells_of pool))) none) e

pub terms_is : (pool : List ℕ) → is_dictionary pool ≡ true → held_terms (terms pool) ≡ term_at (cells_of pool)
terms_is pool e = ap held_terms (terms_yes pool e)

pub terms_known : (pool : List ℕ) (t : Terms) → terms pool ≡ some t → is_dictionary pool ≡ true
terms_known pool t e = known_is pool (ap is_none (means_of pool t e))

-- ---- the part that is lent on

module _ (pool : List ℕ) (n : ℕ) (is : n ≡ min (length pool / 8) 1048576) where
  pub inside : 8 * n ≤ length pool
  inside = omega arith

  pub cells_are : take (8 * n) pool ≡ cells_of pool
  cells_are = ap (λ (k : ℕ). take (8 * k) pool) is

  pub long : length (take (8 * n) pool) ≡ 8 * n
  long = length-take-le (8 * n) pool inside

  pub sound_part : is_dictionary pool ≡ true → Sound (take (8 * n) pool) (used (take (8 * n) pool)) 0
  sound_part e = sound (take (8 * n) pool) (ap well_formed cells_are ∙ e)

  pub readable : is_dictionary pool ≡ true → Readable (take (8 * n) pool) 0
  readable e =
      let s = sound_part e in
      record { nodes = used (take (8 * n) pool); inside = s.shaped.some; shaped = s.shaped; fits = s.fits; rising = s.rising }

  pub held_part : is_dictionary pool ≡ true → held (meaning pool) ≡ holds (take (8 * n) pool)
  held_part e = held_is pool e ∙ ap holds (sym cells_are)

  pub terms_part : is_dictionary pool ≡ true → held_terms (terms pool) ≡ term_at (take (8 * n) pool)
  terms_part e = terms_is pool e ∙ ap term_at (sym cells_are)

  pub plain_part : is_dictionary pool ≡ true → Plain (take (8 * n) pool)
  plain_part e = plain_is (take (8 * n) pool) (ap well_formed cells_are ∙ e)
