-- What the readers answer. Assumes nothing.
use Rattle.std.specs.Prelude.{Result, Ok, Err, Some, None}
use Prim.Native.Nat.{ℕ, zero, suc, ◌-◌, ◌*◌, ◌/◌, ◌≤◌, ◌<◌, min}
use native.Mathlib.Omega.{arith}
use mathlib.Core.Path.{◌≡◌, refl, sym, ap, ◌∙◌}
use mathlib.Core.Bool.{Bool, true, false, cond}
use mathlib.Core.List.{List, [], ◌∷◌, ◌++◌}
use mathlib.Core.Option.{Option, some}
use lib.ListN.{length, take, drop}
use Rattle.refusal.specs.declared.Refusal.{Refusal}
use Rattle.refusal.specs.declared.Refusal.TheVariants.{NotADictionary, OutputTooShort}
use Rattle.refusal.specs.Answers.{answer, output, out_cause}
use Rattle.trie_pool.specs.Words.{holds, term, term_at}
use Rattle.trie_pool.specs.Cells.{used}
use Rattle.trie_pool.specs.inner.Sound.{Sound, Readable}
use Rattle.trie_pool.specs.Rules.{is_dictionary}
use Rattle.trie_pool.specs.Meaning.{Words, Terms, meaning, prefix_lengths}
use Rattle.trie_search.specs.inner.Search.{Asks, Wrote, Counts}
use Rattle.trie_check.specs.Refusals.{is_none, held, pool_causes, read_causes}
use Rattle.trie_char_answers.specs.Refusals.{prefix_causes}
use Rattle.trie_char_answers.specs.Answers.{WordAnswer, terms_of, tells_term, told_term}
use Rattle.refusal.proofs.Causes.{handed, out_short, out_fits}
use Rattle.trie_check.proofs.Refusals.{read_of}
use Rattle.trie_check.proofs.Parts.{known_is, readable, sound_part, held_part, terms_part}
use Rattle.trie_pool.proofs.Terms.{term_class}

-- ---- the cells that are lent on

-- they hold these words, and these with their classes
pub record View (m : Option Words) (ts : Terms) (p : List ℕ) : Type 0 where
  pub words : held m ≡ holds p
  pub terms : ts ≡ term_at p
  pub readable : Readable p 0
  pub classes : (w : List ℕ) (c : ℕ) → term_at p w ≡ some c → c ≤ 65535

-- those of a plain pool, where it is one
module _ (pool text : List ℕ) {a : Result ℕ Refusal} {k : ℕ} (is : a ≡ answer (read_causes text (meaning pool)) (length text)) (yes' : a ≡ Ok k) where
  known : is_dictionary pool ≡ true
  known = known_is pool (read_of text (meaning pool) (length text) k (sym is ∙ yes')).known

  pub view : (n : ℕ) → n ≡ min (length pool / 8) 1048576 → View (meaning pool) (terms_of pool) (take (8 * n) pool)
  view n n_is = record { words = held_part pool n n_is known; terms = terms_part pool n n_is known; readable = readable pool n n_is known; classes = term_class (take (8 * n) pool) (used (take (8 * n) pool)) (sound_part pool n n_is known) }

-- ---- an accepted text

module _ {m : Option Words} {ts : Terms} {p : List ℕ} (v : View m ts p) (text : List ℕ) {a : Result ℕ Refusal} {k : ℕ} (is : a ≡ answer (read_causes text m) (length text)) (yes' : a ≡ Ok k) where
  first : answer (read_causes text m) (length text) ≡ Ok k
  first = sym is ∙ yes'

  contain_told : (c : ℕ) → term c ≡ term_at p text → tells_term (term c) ≡ told_term (answer (read_causes text m) (length text)) (ts text)
  contain_told c e = ap tells_term (e ∙ sym (ap (λ (f : Terms). f text) v.terms)) ∙ sym (ap (λ (z : Result ℕ Refusal). told_term z (ts text)) first)

  pub contain_no : (c : ℕ) → term c ≡ term_at p text → c ≡ 0 → ◌≡◌ {A = WordAnswer} (Ok None) (told_term (answer (read_causes text m) (length text)) (ts text))
  contain_no c e z = sym (ap (λ (k : ℕ). tells_term (term k)) z) ∙ contain_told c e

  pub contain_yes : (c : ℕ) → term c ≡ term_at p text → (c ≡ 0 → ⊥) → ◌≡◌ {A = WordAnswer} (Ok (Some (c - 1))) (told_term (answer (read_causes text m) (length text)) (ts text))
  contain_yes c e nz = go c nz ∙ contain_told c e
    where
      go : (c : ℕ) → (c ≡ 0 → ⊥) → ◌≡◌ {A = WordAnswer} (Ok (Some (c - 1))) (tells_term (term c))
      go zero nz = absurd (nz refl)
      go (suc c) nz = let z : suc c - 1 ≡ c = omega arith in ap (λ (k : ℕ). Ok (Some k)) z

  -- a mark is at most one above the largest class
  pub contain_small : (c : ℕ) → term c ≡ term_at p text → c ≤ 65536
  contain_small zero e = omega arith
  contain_small (suc c) e = let l = v.classes text c (sym e) in omega arith

  lengths : prefix_lengths (held m) text ≡ prefix_lengths (holds p) text
  lengths = ap (λ (f : Words). prefix_lengths f text) v.words

  module _ (out : List ℕ) (c : ℕ) (c_is : c ≡ length (prefix_lengths (holds p) text)) where
    count : c ≡ length (prefix_lengths (held m) text)
    count = c_is ∙ sym (ap length lengths)

    pub prefix_short : (q : ℕ) → length out < c → Err (OutputTooShort c) ≡ answer (prefix_causes text m out) q
    prefix_short q = out_short (read_causes text m) (length (prefix_lengths (held m) text)) (length out) (length text) q c first count

    pub asks : c ≤ length out → Asks p text out
    asks l = record { here = v.readable; short = (read_of text m (length text) k first).short; room = omega (arith, c_is) }

    pub prefix_done : c ≤ length out → (new : List ℕ) (r : ℕ) → Wrote out (prefix_lengths (holds p) text) new r
        → (Ok r ≡ answer (prefix_causes text m out) (length (prefix_lengths (held m) text))) × (new ≡ output (Ok r) (prefix_lengths (held m) text) out)
    prefix_done l new r w = (
      out_fits (read_causes text m) (length (prefix_lengths (held m) text)) (length out) (length text) r first (w.count ∙ sym (ap length lengths)) (omega (arith, w.count, c_is)),
      w.is ∙ sym (ap (λ (z : List ℕ). z ++ drop (length z) out) lengths),
    )

-- ---- a refused one

module _ (m : Option Words) (text : List ℕ) {a : Result ℕ Refusal} {r : Refusal} (is : a ≡ answer (read_causes text m) (length text)) (no' : a ≡ Err r) where
  pub contain_refused : (term : Option ℕ) → ◌≡◌ {A = WordAnswer} (Err r) (told_term (answer (read_causes text m) (length text)) term)
  contain_refused term = sym (ap (λ (z : Result ℕ Refusal). told_term z term) (sym is ∙ no'))

  pub prefix_refused : (out : List ℕ) (q : ℕ) → a ≡ answer (prefix_causes text m out) q
  prefix_refused out q = handed (read_causes text m) (out_cause (length (prefix_lengths (held m) text)) (length out) ∷ []) (length text) q is no'

-- ---- the word count

pub amount_refused : (m : Option Words) (q : ℕ) → is_none m ≡ true → Err NotADictionary ≡ answer (pool_causes m) q
amount_refused m q e = sym (ap (λ (z : Bool). cond z (Err NotADictionary) (Ok q)) e)

pub amount_is : (m : Option Words) (q : ℕ) {n : ℕ} → is_none m ≡ false → n ≡ q → Ok n ≡ answer (pool_causes m) q
amount_is m q e h = ap Ok h ∙ sym (ap (λ (z : Bool). cond z (Err NotADictionary) (Ok q)) e)

pub counts : (p : List ℕ) → Sound p (used p) 0 → Counts p
counts p s = record { some = s.shaped.some; fits = s.fits }
