-- What appending a word asks and leaves.
use Rattle.std.specs.Prelude.{ℕ, suc, ◌+◌, ◌-◌, ◌*◌, ◌≤◌, ◌<◌, ◌≡◌, List, length, get_or, set}
use Rattle.refusal.specs.Limits.{max_nodes}
use Rattle.trie_pool.specs.Cells.{max_class}
use Rattle.trie_pool.specs.Words.{Word}
use Rattle.trie_pool.specs.Meaning.{Terms, with_term}
use Rattle.trie_leaf.specs.inner.Planting.{Beside}
use Rattle.trie_build_rules.specs.inner.Growing.{Built, Above}

-- the row as a function
abbrev pub row : List ℕ → ℕ → ℕ
row cells d = get_or cells d 0

-- what `put_leaf` asks: there are cells for the leaf and for its parent
pub record Spot (p next : List ℕ) (d : ℕ) : Type 0 where
  pub deep : d < 255
  pub levels : length next ≡ 257
  pub some : 1 ≤ row next d
  pub parent : 8 * row next d ≤ length p + 4
  pub leaf : 8 * row next (d + 1) + 4 ≤ length p
  pub fits : row next (d + 1) < max_nodes
  pub small : row next (d + 2) ≤ max_nodes
  pub few : get_or p (8 * (row next d - 1) + 2) 0 ≤ max_nodes

-- a leaf r of scalar x under b; f is where its children would stand
abbrev pub leaf_cells : List ℕ → ℕ → ℕ → ℕ → List ℕ
leaf_cells p r x f = set (set p (8 * r) x) (8 * r + 1) f

abbrev pub one_more : List ℕ → ℕ → List ℕ
one_more p b = set p (8 * b + 2) (get_or p (8 * b + 2) 0 + 1)

-- The word may follow `before` in the trie.
pub record Fits (s : ℕ → ℕ) (before : List ℕ) (held : Terms) (p next w : List ℕ) (l mark : ℕ) : Type 0 where
  pub built : Built p s (row next) before held
  pub above : Above before w l
  pub word : Word w
  pub marks : 1 ≤ mark
  pub upto : mark ≤ max_class + 1
  pub room : (d : ℕ) → l < d → d ≤ length w → row next d < s (suc d)

-- what `append` asks
pub record Puts (p next w : List ℕ) (l mark : ℕ) : Type 0 where
  pub levels : length next ≡ 257
  pub s : ℕ → ℕ
  pub before : List ℕ
  pub held : Terms
  pub may : Fits s before held p next w l mark

-- what it leaves
pub record Put (p next w : List ℕ) (l mark : ℕ) (p' next' : List ℕ) : Type 0 where
  pub built : (s : ℕ → ℕ) (before : List ℕ) (held : Terms)
      → Fits s before held p next w l mark
      → Built p' s (row next') w (with_term w (mark - 1) held)
  pub beside : Beside p p'
  pub raised : (d : ℕ) → l < d → d ≤ length w → row next' d ≡ suc (row next d)
  pub kept : (d : ℕ) → (l < d → d ≤ length w → ⊥) → row next' d ≡ row next d
  pub levels : length next' ≡ 257
