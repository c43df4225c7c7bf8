-- The root alone is a dictionary without words. Assumes nothing.
use Rattle.std.specs.Prelude.{Ok, Err}
use Prim.Native.Nat.{ℕ, ◌+◌, ◌*◌, ◌/◌, ◌≤◌, ◌<◌, min}
use native.Mathlib.Omega.{arith}
use mathlib.Core.Path.{◌≡◌, sym, ap, subst, ◌∙◌}
use mathlib.Core.Bool.{Bool, false, cond}
use mathlib.Core.List.{List, [], ◌∷◌, ◌++◌}
use borrow.Author.Tests.{lt-ltb, le-ltb}
use lib.ListN.{length, drop}
use Rattle.refusal.specs.declared.Refusal.TheVariants.{TooFewNodes}
use Rattle.refusal.specs.Answers.{answer}
use Rattle.trie_pool.specs.Cells.{first_at, count_at, mark_at, used}
use Rattle.trie_pool.specs.Words.{none, on_place, scan, child, walk, term, term_at}
use Rattle.trie_pool.specs.inner.Sound.{Shaped, Plain, Sound}
use Rattle.trie_pool.specs.Meaning.{no_term}
use mathlib.Core.Option as option
use Rattle.trie_pool.proofs.Held.{root_mark}
use Rattle.trie_well_formed.proofs.Whole.{stay, ends_start}
use Rattle.trie_char_answers.specs.Refusals.{fresh_causes}
use Rattle.trie_change.specs.inner.Resetting.{RootAlone}
use Rattle.trie_char_answers.specs.Changes.{Became}
use Rattle.trie_check.proofs.Parts.{long}
use Rattle.trie_char_answers.proofs.Changing.{became}

-- ---- the pool

module _ (p : List ℕ) (h : RootAlone p) (some : 8 ≤ length p) where
  count_0 : count_at p 0 ≡ 0
  unfolding count_at
  count_0 = h.others 2 (omega arith) (omega arith)

  shaped : Shaped p 1
  unfolding first_at
  shaped = record {
    some = omega arith;
    start = h.first;
    next = λ i l. absurd (omega arith);
    last = λ i e. let z : i ≡ 0 = omega arith in rw z (omega (arith, h.first, count_0));
    ahead = λ i l. let z : i ≡ 0 = omega arith in rw z (omega (arith, h.first));
  }

  alone : Sound p 1 0
  alone = record {
    shaped = shaped;
    fits = omega arith;
    small = omega arith;
    rising = λ i l k a b. absurd (let z : i ≡ 0 = omega arith in omega (arith, count_0, ap (count_at p) z));
    fit = λ i a l. absurd (omega arith);
    leaf = λ i a l ne. absurd (omega arith);
    start = λ i a l. absurd (omega (arith, count_0));
    shallow = stay p 1 255 0 (omega arith) (ends_start p 1);
    spare = record { used = h.used; blank = λ i r l q. h.others (8 * i + r) (omega arith) (omega arith) };
  }

  pub alone_plain : Plain p
  alone_plain = record { root = h.others 3 (omega arith) (omega arith); aside = λ i r a b. h.others (8 * i + r) (omega arith) (omega arith) }

  pub alone_sound : Sound p (used p) 0
  alone_sound = subst (λ (k : ℕ). Sound p k 0) (sym h.used) alone

  pub alone_terms : (v : List ℕ) → term_at p v ≡ no_term v
  unfolding child
  alone_terms [] = ap term (root_mark p)
  alone_terms (x ∷ v) = ap (λ (c : ℕ). on_place option.none (λ r. term (mark_at p r)) (on_place none (λ r. walk p v r) (scan p x (first_at p 0) c))) count_0

-- ---- the answer

pub fresh_short : (old : List ℕ) → length old < 8 → Err (TooFewNodes 1) ≡ answer (fresh_causes old) 0
fresh_short old l = sym (ap (λ (b : Bool). cond b (Err (TooFewNodes 1)) (Ok 0)) (lt-ltb (length old) 8 l))

pub fresh_done : (old : List ℕ) (n : ℕ) → n ≡ min (length old / 8) 1048576 → 8 ≤ length old → (new : List ℕ) → length new ≡ 8 * n → RootAlone new
    → (Ok 0 ≡ answer (fresh_causes old) 0) × Became old (new ++ drop (8 * n) old) no_term
fresh_done old n n_is l new k h = (
  sym (ap (λ (b : Bool). cond b (Err (TooFewNodes 1)) (Ok 0)) (le-ltb (length old) 8 l)),
  became old n n_is new no_term k (alone_sound new h (omega arith)) (alone_plain new h (omega arith)) (alone_terms new h (omega arith)),
)
