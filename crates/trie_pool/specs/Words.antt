-- What a word is, and which words a pool holds.
use Rattle.std.specs.Prelude.{ℕ, zero, suc, ◌≤◌, ◌<◌, ◌≡◌, Bool, true, false, cond, List, [], ◌∷◌, ltb, eqb, length, get_or}
use Rattle.std.proofs.Math.Option.{Option}
use Rattle.std.proofs.Math.Option as option
use Rattle.char_string_scalars.specs.Scalars.{is_scalar}
use Rattle.char_string_trim.specs.Trimming.{trimmed_of}
use Rattle.trie_pool.specs.Cells.{scalar_at, first_at, count_at, mark_at}

-- A word of a dictionary: trimmed, and 1 to 255 scalar values long.
pub record Word (w : List ℕ) : Type 0 where
  pub trimmed : trimmed_of w ≡ w
  pub some : 1 ≤ length w
  pub short : length w ≤ 255
  pub legal : (i : ℕ) → i < length w → is_scalar (get_or w i 0) ≡ true

-- a node, or none
pub data Place : Type 0 where
  none : Place
  at : ℕ → Place

abbrev pub on_place : {A : Type 0} → A → (ℕ → A) → Place → A
on_place d g none = d
on_place d g (at i) = g i

-- the node with scalar x among the n nodes from s on, whose scalars rise: the scan stops at a
-- larger scalar
abbrev pub scan : List ℕ → ℕ → ℕ → ℕ → Place
scan p x s zero = none
scan p x s (suc n) = cond (ltb (scalar_at p s) x) (scan p x (suc s) n) (cond (eqb (scalar_at p s) x) (at s) none)

-- The walk over all of them, that stops at none: the first whose scalar is x.
abbrev pub walk_all : List ℕ → ℕ → ℕ → ℕ → Place
walk_all p x s zero = none
walk_all p x s (suc n) = cond (eqb (scalar_at p s) x) (at s) (walk_all p x (suc s) n)

-- the child of node i with scalar x
unfoldable pub child : List ℕ → ℕ → ℕ → Place
child p i x = scan p x (first_at p i) (count_at p i)

-- the node that the word leads to from node i
abbrev pub walk : List ℕ → List ℕ → ℕ → Place
walk p [] i = at i
walk p (x ∷ w) i = on_place none (λ r. walk p w r) (child p i x)

-- whether a word ends at a node, by its mark: class and one, or 0
abbrev pub marked : ℕ → Bool
marked zero = false
marked (suc m) = true

-- whether the word is held
abbrev pub holds : List ℕ → List ℕ → Bool
holds p w = on_place false (λ r. marked (mark_at p r)) (walk p w 0)

-- the class of the word that ends at a node, by its mark, or nothing
abbrev pub term : ℕ → Option ℕ
term zero = option.none
term (suc c) = option.some c

-- the class of the word if it is held, or nothing
abbrev pub term_at : List ℕ → List ℕ → Option ℕ
term_at p w = on_place option.none (λ r. term (mark_at p r)) (walk p w 0)

-- the nodes that the word needs below node i and the pool lacks
abbrev pub lacking : List ℕ → List ℕ → ℕ → ℕ
lacking p [] i = 0
lacking p (x ∷ w) i = on_place (suc (length w)) (λ r. lacking p w r) (child p i x)

-- the word whose first part, written from its end, is u, and whose rest is w
abbrev pub rev : List ℕ → List ℕ → List ℕ
rev [] w = w
rev (x ∷ u) w = rev u (x ∷ w)
