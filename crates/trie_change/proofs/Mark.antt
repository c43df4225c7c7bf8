-- Another mark at one node changes its word, held or not and its class, and nothing else. Assumes
-- nothing.
use mathlib.Core.Path.{◌≡◌, refl, sym, ap, ◌∙◌}
use mathlib.Core.Bool.{false, cond}
use mathlib.Core.List.{List, [], ◌∷◌}
use Prim.Native.Nat.{ℕ, zero, suc, ◌+◌, ◌*◌, ◌≤◌, ◌<◌}
use native.Mathlib.Omega.{arith}
use native.Mathlib.Decide.{dec_lt}
use lib.Dec.{ltb, eqb}
use lib.ListN.{length, get_or, set, length-set}
use lib.Seq.{get_or-set_same, get_or-set_other}
use Rattle.trie_pool.specs.Cells.{scalar_at, first_at, count_at, mark_at}
use Rattle.trie_pool.specs.inner.Paths.{reach}
use Rattle.trie_pool.specs.inner.Sound.{Fit, Shaped, Sound}
use Rattle.trie_pool.specs.Levels.{hop, level_end}
use Rattle.trie_pool.specs.Words.{Place, none, at, on_place, scan, child, term, term_at, rev}
use mathlib.Core.Option.{Option}
use mathlib.Core.Option as option
use Rattle.trie_pool.proofs.Shape.{refit, mark_is, walk_reach, one_path, walk_is, rev_rev, on_at}
use Rattle.trie_pool.proofs.Held.{root_mark}
use Rattle.trie_leaf.specs.inner.Planting.{Beside}
use Rattle.char_string_white_space.specs.Trimmed.{is_trimmed}

module _ (p : List ℕ) (i m : ℕ) (l : 8 * i + 3 < length p) (past : 0 < i) where
  abbrev q : List ℕ
  q = set p (8 * i + 3) m

  pub cell : (k : ℕ) → (k ≡ 8 * i + 3 → ⊥) → get_or q k 0 ≡ get_or p k 0
  cell k ne = get_or-set_other p (8 * i + 3) k m 0 ne

  pub scalar_same : (k : ℕ) → scalar_at q k ≡ scalar_at p k
  unfolding scalar_at
  scalar_same k = cell (8 * k) (omega arith)

  pub first_same : (k : ℕ) → first_at q k ≡ first_at p k
  unfolding first_at
  first_same k = cell (8 * k + 1) (omega arith)

  pub count_same : (k : ℕ) → count_at q k ≡ count_at p k
  unfolding count_at
  count_same k = cell (8 * k + 2) (omega arith)

  pub mark_other : (k : ℕ) → (k ≡ i → ⊥) → mark_at q k ≡ mark_at p k
  mark_other k ne = go (dec_lt 0 k)
    where
      go : Dec (0 < k) → mark_at q k ≡ mark_at p k
      go (yes a) = mark_is q k a ∙ cell (8 * k + 3) (λ e. ne (omega arith)) ∙ sym (mark_is p k a)
      go (no a) = let z : k ≡ 0 = omega arith in ap (mark_at q) z ∙ root_mark q ∙ sym (ap (mark_at p) z ∙ root_mark p)

  pub mark_here : mark_at q i ≡ m
  mark_here = mark_is q i past ∙ get_or-set_same p (8 * i + 3) m 0 l

  pub beside : Beside p q
  beside = record { root = cell 3 (omega arith); aside = λ k r a c. cell (8 * k + r) (omega arith) }

  scan_same : (x s n : ℕ) → scan q x s n ≡ scan p x s n
  scan_same x s zero = refl
  scan_same x s (suc n) =
      ap (λ (c : ℕ). cond (ltb c x) (scan q x (suc s) n) (cond (eqb c x) (at s) none)) (scalar_same s)
      ∙ ap (λ (z : Place). cond (ltb (scalar_at p s) x) z (cond (eqb (scalar_at p s) x) (at s) none)) (scan_same x (suc s) n)

  pub child_same : (k x : ℕ) → child q k x ≡ child p k x
  unfolding child
  child_same k x = ap (λ (f : ℕ). scan q x f (count_at q k)) (first_same k) ∙ ap (λ (c : ℕ). scan q x (first_at p k) c) (count_same k) ∙ scan_same x (first_at p k) (count_at p k)

  pub reach_same : (u : List ℕ) → reach q u ≡ reach p u
  reach_same [] = refl
  reach_same (x ∷ u) = ap (on_place none (λ k. child q k x)) (reach_same u) ∙ go (reach p u)
    where
      go : (z : Place) → on_place none (λ k. child q k x) z ≡ on_place none (λ k. child p k x) z
      go none = refl
      go (at k) = child_same k x

  abbrev read : List ℕ → Place → Option ℕ
  read z r = on_place option.none (λ k. term (mark_at z k)) r

  -- the word of node i
  pub held : (u : List ℕ) → reach p u ≡ at i → term_at q (rev u []) ≡ term m
  held u e = ap (read q) (walk_reach q u [] ∙ on_at (reach q u) ∙ reach_same u ∙ e) ∙ ap term mark_here

  -- every other word
  pub others : (n : ℕ) → Shaped p n → (u v : List ℕ) → reach p u ≡ at i → (v ≡ rev u [] → ⊥) → term_at q v ≡ term_at p v
  others n s u v e ne =
      ap (read q) (walk_is q v ∙ reach_same (rev v [])) ∙ go (reach p (rev v [])) refl ∙ sym (ap (read p) (walk_is p v))
    where
      go : (z : Place) → reach p (rev v []) ≡ z → read q z ≡ read p z
      go none f = refl
      go (at r) f = ap term (mark_other r (λ t.
          let f' : reach p (rev v []) ≡ at i = f ∙ ap at t in
          let w : rev v [] ≡ u = one_path p n s (rev v []) u i f' e in
          ne (sym (rev_rev v []) ∙ ap (λ (z : List ℕ). rev z []) w)))

  ends_same : (n d : ℕ) → level_end q n d ≡ level_end p n d
  unfolding level_end
  ends_same n zero = refl
  ends_same n (suc d) = ap (hop q n) (ends_same n d) ∙ ap (λ (f : ℕ). cond (ltb (level_end p n d) n) f (level_end p n d)) (first_same (level_end p n d))

  pub shaped_same : (n : ℕ) → Shaped p n → Shaped q n
  shaped_same n s = record {
    some = s.some;
    start = first_same 0 ∙ s.start;
    next = λ k h. omega (arith, first_same (suc k), first_same k, count_same k, s.next k h);
    last = λ k h. omega (arith, first_same k, count_same k, s.last k h);
    ahead = λ k h. omega (arith, first_same k, s.ahead k h);
  }

  -- a node that ends a word needs no child
  pub sound_marked : (n : ℕ) → 1 ≤ m → m ≤ 65536 → i < n → is_trimmed (scalar_at p i) ≡ false → Sound p n i → Sound q n 0
  sound_marked n one most inside stop g = record {
    shaped = shaped_same n g.shaped;
    fits = omega (arith, g.fits, length-set p (8 * i + 3) m);
    small = g.small;
    spare = record { used = cell 0 (omega arith) ∙ g.spare.used; blank = λ k r h a. cell (8 * k + r) (omega arith) ∙ g.spare.blank k r h a };
    fit = λ k a h. fits k a h (dec_lt k i) (dec_lt i k);
    start = λ k a h. ap is_trimmed (scalar_same k) ∙ g.start k a (omega (arith, count_same 0));
    leaf = λ k a h ne. leaves k a h (dec_lt k i) (dec_lt i k);
    rising = λ k h z a b. omega (arith, scalar_same z, scalar_same (suc z), first_same k, count_same k, g.rising k h z (omega (arith, first_same k)) (omega (arith, first_same k, count_same k)));
    shallow = ends_same n 255 ∙ g.shallow;
  }
    where
      here : (k : ℕ) → k ≡ i → mark_at q k ≡ m
      here k e = ap (mark_at q) e ∙ mark_here

      fits : (k : ℕ) → 0 < k → k < n → Dec (k < i) → Dec (i < k) → Fit (scalar_at q k) (mark_at q k)
      fits k a h (yes t) d = refit (scalar_same k) (mark_other k (omega arith)) (g.fit k a h)
      fits k a h (no t) (yes t') = refit (scalar_same k) (mark_other k (omega arith)) (g.fit k a h)
      fits k a h (no t) (no t') =
          let e : k ≡ i = omega arith in
          refit (scalar_same k) (here k e) (record { legal = (g.fit k a h).legal; mark = omega arith; stop = λ l. ap (λ (z : ℕ). is_trimmed (scalar_at p z)) e ∙ stop })

      leaves : (k : ℕ) → 0 < k → k < n → Dec (k < i) → Dec (i < k) → 1 ≤ count_at q k + mark_at q k
      leaves k a h (yes t) d = omega (arith, mark_other k (omega arith), count_same k, g.leaf k a h (omega arith))
      leaves k a h (no t) (yes t') = omega (arith, mark_other k (omega arith), count_same k, g.leaf k a h (omega arith))
      leaves k a h (no t) (no t') = omega (arith, here k (omega arith))

  -- a node whose mark goes may be left a leaf
  pub sound_cleared : (n : ℕ) → m ≡ 0 → i < n → Sound p n 0 → Sound q n i
  sound_cleared n none' inside g = record {
    shaped = shaped_same n g.shaped;
    fits = omega (arith, g.fits, length-set p (8 * i + 3) m);
    small = g.small;
    spare = record { used = cell 0 (omega arith) ∙ g.spare.used; blank = λ k r h a. cell (8 * k + r) (omega arith) ∙ g.spare.blank k r h a };
    fit = λ k a h. fits k a h (dec_lt k i) (dec_lt i k);
    start = λ k a h. ap is_trimmed (scalar_same k) ∙ g.start k a (omega (arith, count_same 0));
    leaf = λ k a h ne. omega (arith, mark_other k ne, count_same k, g.leaf k a h (omega arith));
    rising = λ k h z a b. omega (arith, scalar_same z, scalar_same (suc z), first_same k, count_same k, g.rising k h z (omega (arith, first_same k)) (omega (arith, first_same k, count_same k)));
    shallow = ends_same n 255 ∙ g.shallow;
  }
    where
      here : (k : ℕ) → k ≡ i → mark_at q k ≡ 0
      here k e = ap (mark_at q) e ∙ mark_here ∙ none'

      fits : (k : ℕ) → 0 < k → k < n → Dec (k < i) → Dec (i < k) → Fit (scalar_at q k) (mark_at q k)
      fits k a h (yes t) d = refit (scalar_same k) (mark_other k (omega arith)) (g.fit k a h)
      fits k a h (no t) (yes t') = refit (scalar_same k) (mark_other k (omega arith)) (g.fit k a h)
      fits k a h (no t) (no t') = refit (scalar_same k) (here k (omega arith)) (record { legal = (g.fit k a h).legal; mark = omega arith; stop = λ l. absurd (omega arith) })
