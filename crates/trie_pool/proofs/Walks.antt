-- A walk over a text from a place b: after k characters it stands at the node of text[b..b+k], and
-- a word ends there exactly if the node is marked. So the words that start at b are found shortest
-- first. Assumes nothing.
use Prim.Native.Nat.{ℕ, ◌+◌, ◌-◌, ◌≤◌, ◌<◌}
use native.Mathlib.Omega.{arith}
use native.Mathlib.Numerals.{add-one}
use mathlib.Core.Path.{◌≡◌, refl, ap, ◌∙◌}
use mathlib.Core.Bool.{Bool, true, false}
use mathlib.Core.List.{List}
use lib.ListN.{length, get_or, take, drop, length-drop}
use lib.Seq.{get_or-drop, length-take-le}
use Rattle.trie_pool.specs.Cells.{mark_at}
use Rattle.trie_pool.specs.Words.{none, at, on_place, child, walk, marked, holds}
use Rattle.trie_pool.specs.inner.Sound.{Sound, Readable}
use Rattle.trie_pool.proofs.Shape.{within, child_found, child_after, walk_more, walk_append}
use Rattle.trie_pool.proofs.Held.{held_word}

-- the first k characters from place b
abbrev pub part : List ℕ → ℕ → ℕ → List ℕ
part text b k = take k (drop b text)

module _ (p text : List ℕ) (b : ℕ) where
  pub walk_start : walk p (part text b 0) 0 ≡ at 0
  walk_start = refl

  -- one character more is one step to a child
  pub walk_step : (k r : ℕ) → b + k < length text → walk p (part text b k) 0 ≡ at r → walk p (part text b (k + 1)) 0 ≡ child p r (get_or text (b + k) 0)
  walk_step k r l e =
      ap (λ (j : ℕ). walk p (part text b j) 0) (add-one k) ∙ walk_more p (drop b text) k r (omega (arith, length-drop b text)) e ∙ ap (child p r) (get_or-drop b text k 0)

  -- a word ends where the node is marked
  pub word_ends : (k r : ℕ) → walk p (part text b k) 0 ≡ at r → holds p (part text b k) ≡ marked (mark_at p r)
  word_ends k r e = ap (on_place false (λ c. marked (mark_at p c))) e

  -- past a missing child no word ends
  pub no_word : (i k : ℕ) → walk p (part text b i) 0 ≡ none → i ≤ k → holds p (part text b k) ≡ false
  no_word i k e l = ap (on_place false (λ c. marked (mark_at p c))) (walk_append p (drop b text) i k l e)

  -- nor past 255 characters
  pub no_longer : (n : ℕ) → Sound p n 0 → (k : ℕ) → 255 < k → b + k ≤ length text → holds p (part text b k) ≡ false
  no_longer n g k l h = go (holds p (part text b k)) refl
    where
      go : (t : Bool) → holds p (part text b k) ≡ t → t ≡ false
      go false e = refl
      go true e = absurd (omega (arith, (held_word p n g (part text b k) e).short, length-take-le k (drop b text) (omega (arith, length-drop b text))))

-- a child is never the root
pub child_past : (p : List ℕ) (b x r : ℕ) → child p b x ≡ at r → Readable p b → 0 < r
child_past p b x r e g = omega (arith, child_after p g.nodes g.shaped b x r g.inside e)

-- a child of a node that may be read may be read
pub readable_child : (p : List ℕ) (b x r : ℕ) → child p b x ≡ at r → Readable p b → Readable p r
readable_child p b x r e g =
    let f = child_found p b x r e in
    record { nodes = g.nodes; inside = omega (arith, within p g.nodes g.shaped b g.inside, f.high); shaped = g.shaped; fits = g.fits; rising = g.rising }
