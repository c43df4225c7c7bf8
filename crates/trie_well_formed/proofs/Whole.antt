-- What `well_formed` decides, from what its parts decide. Assumes nothing.
use mathlib.Core.Path.{◌≡◌, refl, sym, ap, subst, ◌∙◌}
use mathlib.Core.Bool.{Bool, true, false, cond}
use mathlib.Core.List.{List}
use Prim.Native.Nat.{ℕ, zero, suc, ◌+◌, ◌-◌, ◌*◌, ◌/◌, ◌%◌, ◌≤◌, ◌<◌}
use native.Mathlib.Omega.{arith}
use native.Mathlib.Decide.{dec_lt}
use borrow.Author.Tests.{lt-ltb, le-ltb, leb-true, leb-false}
use lib.Dec.{leb}
use lib.ListN.{length, get_or}
use Rattle.char_string_white_space.specs.Trimmed.{is_trimmed}
use Rattle.trie_pool.specs.Cells.{scalar_at, first_at, count_at, used}
use Rattle.trie_pool.specs.inner.Sound.{Shaped, Plain, Sound}
use Rattle.trie_pool.specs.Levels.{hop, level_end}
use Rattle.trie_pool.proofs.Shape.{within}
use Rattle.trie_node.specs.inner.Checks.{Decides}
use Rattle.trie_nodes.specs.inner.Walking.{Nodes, PlainNodes}
use Rattle.trie_node.proofs.Decide.{clash}

-- ---- levels

pub stay : (p : List ℕ) (n k d : ℕ) → d ≤ k → level_end p n d ≡ n → level_end p n k ≡ n
unfolding level_end
stay p n zero d h e = let z : d ≡ 0 = omega arith in ap (level_end p n) (sym z) ∙ e
stay p n (suc k) d h e = go (dec_lt k d) (stay p n k d)
  where
    go : Dec (k < d) → (d ≤ k → level_end p n d ≡ n → level_end p n k ≡ n) → level_end p n (suc k) ≡ n
    go (yes l) ih = let z : d ≡ suc k = omega arith in ap (level_end p n) (sym z) ∙ e
    go (no l) ih = let q : level_end p n k ≡ n = ih (omega arith) e in ap (hop p n) q ∙ ap (λ (t : Bool). cond t (first_at p n) n) (le-ltb n n (omega arith))

pub ends_start : (p : List ℕ) (n : ℕ) → level_end p n 0 ≡ 1
unfolding level_end
ends_start p n = refl

pub ends_on : (p : List ℕ) (n d e : ℕ) → level_end p n d ≡ e → e < n → level_end p n (d + 1) ≡ first_at p e
unfolding level_end
ends_on p n d e q l =
    let z : d + 1 ≡ suc d = omega arith in
    ap (level_end p n) z ∙ ap (hop p n) q ∙ ap (λ (t : Bool). cond t (first_at p e) e) (lt-ltb e n l)

pub record Levels (p : List ℕ) (n e d : ℕ) : Type 0 where
  pub upto : d ≤ 255
  pub fits : e ≤ n
  pub is : level_end p n d ≡ e

pub level_on : (p : List ℕ) (n e d f : ℕ) → Shaped p n → Levels p n e d → d < 255 → e < n → f ≡ get_or p (8 * e + 1) 0 → Levels p n f (d + 1)
unfolding first_at
level_on p n e d f s v l h q = record { upto = omega arith; fits = omega (arith, within p n s e h); is = ends_on p n d e v.is h ∙ sym q }

pub level_done : (p : List ℕ) (n e d : ℕ) → Levels p n e d → 255 ≤ d → Decides (leb n e) (level_end p n 255 ≡ n)
level_done p n e d v l =
    let z : d ≡ 255 = omega (arith, v.upto) in
    let is' : level_end p n 255 ≡ e = ap (level_end p n) (sym z) ∙ v.is in
    record { yes' = λ t. omega (arith, leb-true n e t, v.fits); no' = λ t q. omega (arith, leb-false n e t) }

-- ---- the whole

pub nodes_of : (p : List ℕ) (n : ℕ) → Sound p n 0 → Nodes p n
nodes_of p n h = record {
  shaped = h.shaped;
  each = λ i l. record {
    first = refl;
    ahead = h.shaped.ahead i l;
    fits = within p n h.shaped i l;
    rising = h.rising i l;
    inner = λ q. record { fit = h.fit i q l; leaf = h.leaf i q l (omega arith) };
  };
}

pub plain_nodes_of : (p : List ℕ) (n : ℕ) → Sound p n 0 → Plain p → PlainNodes p n
plain_nodes_of p n h f = record { nodes = nodes_of p n h; aside = λ i l. record { zeros = f.aside i } }

pub sound_of : (p : List ℕ) (n : ℕ) → Nodes p n → 8 * n ≤ length p + 4 → n ≤ 1048576 → get_or p 0 0 ≡ n
    → ((i r : ℕ) → n ≤ i → r < 4 → get_or p (8 * i + r) 0 ≡ 0) → ((i : ℕ) → 0 < i → i ≤ count_at p 0 → is_trimmed (scalar_at p i) ≡ false) → level_end p n 255 ≡ n → Sound p n 0
sound_of p n h fit small used blank starts deep = record {
  shaped = h.shaped;
  fits = fit;
  small = small;
  spare = record { used = used; blank = blank };
  fit = λ i a l. ((h.each i l).inner a).fit;
  start = starts;
  leaf = λ i a l ne. ((h.each i l).inner a).leaf;
  rising = λ i l. (h.each i l).rising;
  shallow = deep;
}

pub plain_of : (p : List ℕ) (n : ℕ) → PlainNodes p n → get_or p 3 0 ≡ 0 → ((k : ℕ) → 8 * n ≤ k → get_or p k 0 ≡ 0) → Plain p
plain_of p n h root blank = record { root = root; aside = λ i r a b. go i r a b (dec_lt i n) }
  where
    go : (i r : ℕ) → 4 ≤ r → r < 8 → Dec (i < n) → get_or p (8 * i + r) 0 ≡ 0
    go i r a b (yes l) = (h.aside i l).zeros r a b
    go i r a b (no l) = blank (8 * i + r) (omega arith)

-- the cells behind the nodes in use are 0
pub blank_of : (p : List ℕ) (n : ℕ) → Sound p n 0 → Plain p → (k : ℕ) → 8 * n ≤ k → get_or p k 0 ≡ 0
blank_of p n h f k l = let e : k ≡ 8 * (k / 8) + k % 8 = omega arith in ap (λ (z : ℕ). get_or p z 0) e ∙ go (dec_lt (k % 8) 4)
  where
    go : Dec (k % 8 < 4) → get_or p (8 * (k / 8) + k % 8) 0 ≡ 0
    go (yes q) = h.spare.blank (k / 8) (k % 8) (omega arith) q
    go (no q) = f.aside (k / 8) (k % 8) (omega arith) (omega arith)

-- the nodes in use, as the code reads them
pub at_n : (p : List ℕ) (n : ℕ) → n ≡ used p → Sound p (used p) 0 → Sound p n 0
at_n p n e h = subst (λ (k : ℕ). Sound p k 0) (sym e) h

pub of_n : (p : List ℕ) (n : ℕ) → n ≡ used p → Sound p n 0 → Sound p (used p) 0
of_n p n e h = subst (λ (k : ℕ). Sound p k 0) e h

-- ---- the first characters

pub starts_none : (p : List ℕ) (i : ℕ) → 0 < i → i ≤ 0 → is_trimmed (scalar_at p i) ≡ false
starts_none p i a b = absurd (omega arith)

pub starts_more : (p : List ℕ) (k : ℕ) → ((i : ℕ) → 0 < i → i < k → is_trimmed (scalar_at p i) ≡ false) → is_trimmed (get_or p (8 * k) 0) ≡ false → (i : ℕ) → 0 < i → i < k + 1 → is_trimmed (scalar_at p i) ≡ false
unfolding scalar_at
starts_more p k f h i a b = pick (dec_lt i k)
  where
    pick : Dec (i < k) → is_trimmed (scalar_at p i) ≡ false
    pick (yes q) = f i a q
    pick (no q) = let e : i ≡ k = omega arith in ap (λ (z : ℕ). is_trimmed (get_or p (8 * z) 0)) e ∙ h

pub starts_not : (p : List ℕ) (k i : ℕ) → is_trimmed (get_or p (8 * i) 0) ≡ true → 0 < i → i ≤ k → ((j : ℕ) → 0 < j → j ≤ k → is_trimmed (scalar_at p j) ≡ false) → ⊥
unfolding scalar_at
starts_not p k i h a b f = clash (sym (f i a b) ∙ h)

-- the root's children are nodes
pub starts_fit : (p : List ℕ) (n k : ℕ) → Nodes p n → 8 * n ≤ length p + 4 → k ≡ get_or p 2 0 → 8 * k < length p
unfolding count_at
starts_fit p n k h l e = omega (arith, (h.each 0 h.shaped.some).fits, h.shaped.start)

pub starts_at : (p : List ℕ) (k : ℕ) → k ≡ get_or p 2 0 → ((i : ℕ) → 0 < i → i ≤ k → is_trimmed (scalar_at p i) ≡ false) → (i : ℕ) → 0 < i → i ≤ count_at p 0 → is_trimmed (scalar_at p i) ≡ false
unfolding count_at
starts_at p k e f i a b = f i a (omega arith)

pub starts_from : (p : List ℕ) (k : ℕ) → k ≡ get_or p 2 0 → ((i : ℕ) → 0 < i → i ≤ count_at p 0 → is_trimmed (scalar_at p i) ≡ false) → (i : ℕ) → 0 < i → i ≤ k → is_trimmed (scalar_at p i) ≡ false
unfolding count_at
starts_from p k e f i a b = f i a (omega arith)
