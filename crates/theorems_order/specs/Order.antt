-- ORDER OF EDITS (02, ticket 8). Everything that the statements stand on is named here: an edit,
-- what the contracts say of its call, and what two pools answer alike. A comment that starts in
-- capitals names a statement: same answers, either order, edit files, twice is once, the union.
use Rattle.std.specs.Prelude.{ℕ, ◌≤◌, ◌≡◌, true, List, [], ◌∷◌, map, ◌⊎◌, length, Result, Ok}
use Rattle.std.proofs.Math.Option.{some}
use Rattle.refusal.specs.declared.Refusal.{Refusal}
use Rattle.char_string_trim.specs.Trimming.{trimmed_of}
use Rattle.trie_pool.specs.Rules.{is_dictionary}
use Rattle.trie_pool.specs.Listing.{Member}
use Rattle.trie_pool.specs.Meaning.{Terms, terms}
use Rattle.trie_char_answers.specs.Answers.{terms_of, contains_answer, prefixes, prefixes_answer, word_count_answer}
use Rattle.newmm_answers.specs.Calls.{Call}
use Rattle.theorems_demands.specs.Demand3.{Freshened, Added, Taken, SameAnswer}

-- ---- edits

-- An add without a class is one with class 0.
pub data Edit : Type 0 where
  add : (word : List ℕ) (class : ℕ) → Edit
  remove : (word : List ℕ) → Edit

-- its word, trimmed
abbrev pub word_of : Edit → List ℕ
word_of (add word class) = trimmed_of word
word_of (remove word) = trimmed_of word

-- What the contract of its function says of a call: the answer, and the pool before and after it.
abbrev pub Called : Result ℕ Refusal → Edit → List ℕ → List ℕ → Type 0
Called r (add word class) old new = Added r word class old new
Called r (remove word) old new = Taken r word old new

-- The call was accepted and reported n.
abbrev pub Done : Edit → ℕ → List ℕ → List ℕ → Type 0
Done e n old new = Called (Ok n) e old new

-- Edits one after the other, each accepted.
pub data AllDone : List Edit → List ℕ → List ℕ → Type 0 where
  nothing : {pool : List ℕ} → AllDone [] pool pool
  next : (e : Edit) {es : List Edit} {old mid new : List ℕ} (n : ℕ)
      → Done e n old mid
      → AllDone es mid new
      → AllDone (e ∷ es) old new

-- ---- what two pools answer alike

-- Contains, prefix lengths and word count are the same, and cuts are by demand 3. The pools may be
-- of two sizes.
pub record SameTold (p q : List ℕ) : Type 0 where
  pub contains : (word : List ℕ) → contains_answer word p ≡ contains_answer word q
  pub lengths : (text out : List ℕ) → prefixes_answer text p out ≡ prefixes_answer text q out
  pub written : (text : List ℕ) → prefixes text p ≡ prefixes text q
  pub count : word_count_answer p ≡ word_count_answer q
  pub cuts : (a b : Call) → a.pool ≡ p → b.pool ≡ q → SameAnswer a b

-- SAME ANSWERS: two pools that hold the same words with the same classes, however they came about.
abbrev pub SameAnswers : Type 0
SameAnswers = (p q : List ℕ) (held : Terms) → terms p ≡ some held → terms q ≡ some held → SameTold p q

-- ---- either order

-- EITHER ORDER: adding or removing two words that differ after trimming gives the same words and
-- classes in either order, provided that neither call is refused in either order. Each edit reports
-- the same in both, and the pools are equal, cell by cell.
abbrev pub Order : Type 0
Order =
    (e f : Edit) (pool p₁ p₂ q₁ q₂ : List ℕ) (i j k l : ℕ)
    → (word_of e ≡ word_of f → ⊥)
    → Done e i pool p₁
    → Done f j p₁ p₂
    → Done f k pool q₁
    → Done e l q₁ q₂
    → (terms p₂ ≡ terms q₂) × (i ≡ l) × (j ≡ k) × (p₂ ≡ q₂)

-- No word of the one file is a word of the other.
abbrev pub Differs : Edit → List Edit → Type 0
Differs e [] = Unit {0}
Differs e (f ∷ fs) = (word_of e ≡ word_of f → ⊥) × Differs e fs

abbrev pub Apart : List Edit → List Edit → Type 0
Apart [] b = Unit {0}
Apart (e ∷ a) b = Differs e b × Apart a b

-- Two files joined in any way that keeps the order within each: one behind the other, or mixed.
pub data Joined : List Edit → List Edit → List Edit → Type 0 where
  ended : Joined [] [] []
  first : {e : Edit} {a b c : List Edit} → Joined a b c → Joined (e ∷ a) b (e ∷ c)
  second : {f : Edit} {a b c : List Edit} → Joined a b c → Joined a (f ∷ b) (f ∷ c)

-- EDIT FILES: two files whose words differ, joined in two ways, with nothing refused, on two pools
-- that hold the same words with the same classes. They leave the same words and classes, so the
-- pools answer alike, and of one pool the same cells.
abbrev pub Files : Type 0
Files =
    (a b one two : List Edit) (pool pool' p q : List ℕ) (held : Terms)
    → Apart a b
    → Joined a b one
    → Joined a b two
    → terms pool ≡ some held
    → terms pool' ≡ some held
    → AllDone one pool p
    → AllDone two pool' q
    → (terms p ≡ terms q) × SameTold p q × (pool ≡ pool' → p ≡ q)

-- ---- twice

-- TWICE IS ONCE: the same accepted edit twice is one. The second call is not refused, its report is
-- 0, and it changes no cell.
abbrev pub Twice : Type 0
Twice =
    (e : Edit) (old once again : List ℕ) (n : ℕ) (r : Result ℕ Refusal)
    → Done e n old once
    → Called r e once again
    → (r ≡ Ok 0) × (again ≡ once)

-- ---- the union of two lists

-- adds of these words without a class
abbrev pub adds : List (List ℕ) → List Edit
adds words = map (λ (w : List ℕ). add w 0) words

-- v is a word of the list, trimmed, and not blank
pub record Listed (words : List (List ℕ)) (v : List ℕ) : Type 0 where
  pub word : List ℕ
  pub among : Member word words
  pub is : v ≡ trimmed_of word
  pub some : 1 ≤ length v

-- These are held, with class 0, and no others.
pub record HoldsUnion (a b : List (List ℕ)) (held : Terms) : Type 0 where
  pub all : (v : List ℕ) → Listed a v ⊎ Listed b v → held v ≡ some 0
  pub only : (v : List ℕ) (class : ℕ) → held v ≡ some class → Listed a v ⊎ Listed b v

-- UNION: adding the words of list a and then of list b to a fresh pool, without classes and with
-- nothing refused, holds the union of both, trimmed, without blanks.
abbrev pub Union : Type 0
Union =
    (a b : List (List ℕ)) (old empty mid new : List ℕ) (n : ℕ)
    → Freshened (Ok n) old empty
    → AllDone (adds a) empty mid
    → AllDone (adds b) mid new
    → (is_dictionary new ≡ true) × HoldsUnion a b (terms_of new)

-- THE UNION IN EITHER ORDER, in pools of any sizes: the words may be the same in both lists.
abbrev pub UnionEitherWay : Type 0
UnionEitherWay =
    (a b : List (List ℕ)) (old empty mid new old' empty' mid' new' : List ℕ) (n n' : ℕ)
    → Freshened (Ok n) old empty
    → AllDone (adds a) empty mid
    → AllDone (adds b) mid new
    → Freshened (Ok n') old' empty'
    → AllDone (adds b) empty' mid'
    → AllDone (adds a) mid' new'
    → (terms new ≡ terms new') × SameTold new new' × (old ≡ old' → new ≡ new')
