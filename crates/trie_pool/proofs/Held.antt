-- Each word held is trimmed and 1 to 255 Unicode scalar values long. Assumes nothing.
use Prim.Native.Nat.{ℕ, zero, suc, ◌+◌, ◌-◌, ◌≤◌, ◌<◌}
use native.Mathlib.Omega.{arith}
use native.Mathlib.Decide.{dec_lt}
use mathlib.Core.Path.{◌≡◌, refl, sym, ap, ◌∙◌}
use mathlib.Core.Bool.{true, false}
use mathlib.Core.List.{List, [], ◌∷◌}
use lib.ListN.{length, get_or}
use Rattle.char_string_scalars.specs.Scalars.{is_scalar}
use Rattle.char_string_white_space.specs.Trimmed.{is_trimmed}
use Rattle.trie_pool.specs.Cells.{mark_at}
use Rattle.trie_pool.specs.Words.{Word, Place, none, at, on_place, child, walk, marked, holds, rev}
use Rattle.trie_pool.specs.inner.Paths.{reach}
use Rattle.trie_pool.specs.inner.Sound.{Sound}
use Rattle.trie_pool.specs.Levels.{level_end}
use Rattle.trie_pool.proofs.Shape.{child_found, child_after, within, reach_within, walk_is, rev_rev, Step, step}
use Rattle.trie_pool.proofs.Level.{ends_mono, level_low}
use Rattle.trie_pool.proofs.Rules.{clash}
use Rattle.trie_pool.proofs.Edges.{trimmed_is}

-- no word ends at the root
pub root_mark : (p : List ℕ) → mark_at p 0 ≡ 0
unfolding mark_at
root_mark p = refl

-- where the word ends
pub record Ending (p w : List ℕ) : Type 0 where
  pub node : ℕ
  pub there : walk p w 0 ≡ at node
  pub mark : 1 ≤ mark_at p node

pub ending : (p w : List ℕ) → holds p w ≡ true → Ending p w
ending p w h = go (walk p w 0) refl h
  where
    some : (m : ℕ) → marked m ≡ true → 1 ≤ m
    some zero e = clash e
    some (suc m) e = omega arith

    go : (q : Place) → walk p w 0 ≡ q → on_place false (λ r. marked (mark_at p r)) q ≡ true → Ending p w
    go none e f = clash f
    go (at r) e f = record { node = r; there = e; mark = some (mark_at p r) f }

-- the last character of a word that is written from its end
behind : (u v : List ℕ) (k : ℕ) → get_or (rev u v) (k + length u) 0 ≡ get_or v k 0
behind [] v k = ap (λ (i : ℕ). get_or v i 0) (let e : k + 0 ≡ k = omega arith in e)
behind (z ∷ u) v k =
    let e : k + suc (length u) ≡ suc k + length u = omega arith in
    ap (λ (i : ℕ). get_or (rev u (z ∷ v)) i 0) e ∙ behind u (z ∷ v) (suc k)

last_of : (u w : List ℕ) (x : ℕ) → get_or (rev u (x ∷ w)) (length u) 0 ≡ x
last_of u w x = let e : length u ≡ 0 + length u = omega arith in ap (λ (i : ℕ). get_or (rev u (x ∷ w)) i 0) e ∙ behind u (x ∷ w) 0

long_rev : (u w : List ℕ) → length (rev u w) ≡ length u + length w
long_rev [] w = omega arith
long_rev (x ∷ u) w = omega (arith, long_rev u (x ∷ w))

module _ (p : List ℕ) (n : ℕ) (g : Sound p n 0) where
  -- each character that leads to a node is that node's scalar
  legal : (w : List ℕ) (b r : ℕ) → b < n → walk p w b ≡ at r → (i : ℕ) → i < length w → is_scalar (get_or w i 0) ≡ true
  legal [] b r l e i h = absurd (omega arith)
  legal (x ∷ w) b r l e i h = go (child p b x) refl e i h (λ c k f. legal w c r k f)
    where
      go : (q : Place) → child p b x ≡ q → on_place none (λ c. walk p w c) q ≡ at r → (i : ℕ) → i < suc (length w)
          → ((c : ℕ) → c < n → walk p w c ≡ at r → (i : ℕ) → i < length w → is_scalar (get_or w i 0) ≡ true) → is_scalar (get_or (x ∷ w) i 0) ≡ true
      go none f e i h ih = absurd (let z : ◌≡◌ {A = ℕ} 0 1 = cc in omega arith)
      go (at c) f e zero h ih =
          let s = child_found p b x c f in
          let k : c < n = omega (arith, within p n g.shaped b l, s.high) in
          ap is_scalar (sym s.is) ∙ (g.fit c (omega (arith, child_after p n g.shaped b x c l f)) k).legal
      go (at c) f e (suc i) h ih = ih c (let s = child_found p b x c f in omega (arith, within p n g.shaped b l, s.high)) e i (omega arith)

  -- the first character
  start : (x : ℕ) (w : List ℕ) (r : ℕ) → walk p (x ∷ w) 0 ≡ at r → is_trimmed x ≡ false
  start x w r e = go (child p 0 x) refl e
    where
      go : (q : Place) → child p 0 x ≡ q → on_place none (λ c. walk p w c) q ≡ at r → is_trimmed x ≡ false
      go none f e = absurd (let z : ◌≡◌ {A = ℕ} 0 1 = cc in omega arith)
      go (at c) f e =
          let s = child_found p 0 x c f in
          ap is_trimmed (sym s.is) ∙ g.start c (omega (arith, s.low, g.shaped.start)) (omega (arith, s.high, g.shaped.start))

  -- a word written from its end, by its last character
  module _ (u : List ℕ) (x r : ℕ) (e : reach p (x ∷ u) ≡ at r) (m : 1 ≤ mark_at p r) where
    t : Step p u x r
    t = step p u x r e

    inside : t.mid < n
    inside = reach_within p n g.shaped u t.mid t.there

    stop : is_trimmed x ≡ false
    stop =
        let s = child_found p t.mid x r t.then in
        ap is_trimmed (sym s.is) ∙ (g.fit r (omega (arith, child_after p n g.shaped t.mid x r inside t.then)) (reach_within p n g.shaped (x ∷ u) r e)).stop m

    short : length u < 255
    short = go (dec_lt (length u) 255)
      where
        go : Dec (length u < 255) → length u < 255
        go (yes l) = l
        go (no l) = absurd (omega (arith, level_low p n g.shaped x u r e, ends_mono p n g.shaped 255 (length u) (omega arith), g.shallow, reach_within p n g.shaped (x ∷ u) r e))

  pub held_word : (w : List ℕ) → holds p w ≡ true → Word w
  held_word w h = go w (ending p w h) (rev w []) refl
    where
      go : (w : List ℕ) → Ending p w → (u : List ℕ) → rev w [] ≡ u → Word w
      go [] f u q = let z : 0 ≡ f.node = cc f.there in absurd (omega (arith, f.mark, root_mark p, ap (mark_at p) z))
      go (y ∷ w) f [] q = absurd (omega (arith, ap length q, long_rev (y ∷ w) []))
      go (y ∷ w) f (x ∷ u) q =
          let path : reach p (x ∷ u) ≡ at f.node = sym (ap (reach p) q) ∙ sym (walk_is p (y ∷ w)) ∙ f.there in
          let word : rev (x ∷ u) [] ≡ y ∷ w = sym (ap (λ (z : List ℕ). rev z []) q) ∙ rev_rev (y ∷ w) [] in
          let long : length w ≡ length u = omega (arith, ap length q, long_rev (y ∷ w) []) in
          let at_end : length (y ∷ w) - 1 ≡ length u = omega arith in
          let last : get_or (y ∷ w) (length (y ∷ w) - 1) 0 ≡ x = ap (λ (i : ℕ). get_or (y ∷ w) i 0) at_end ∙ sym (ap (λ (z : List ℕ). get_or z (length u) 0) word) ∙ last_of u [] x in
          record {
            trimmed = trimmed_is (y ∷ w) (omega arith) (record { start = start y w f.node f.there; stop = ap is_trimmed last ∙ stop u x f.node path f.mark });
            some = omega arith;
            short = omega (arith, short u x f.node path f.mark);
            legal = legal (y ∷ w) 0 f.node g.shaped.some f.there;
          }
