-- One character of a word more: a leaf behind all of its level, under the last node of the level
-- before. Assumes nothing.
use mathlib.Core.Path.{◌≡◌, refl, sym, ap, subst, ◌∙◌}
use mathlib.Core.Bool.{true, false}
use mathlib.Core.List.{List, [], ◌∷◌}
use mathlib.Core.Option.{some}
use Prim.Native.Nat.{ℕ, zero, suc, ◌+◌, ◌-◌, ◌*◌, ◌≤◌, ◌<◌}
use native.Mathlib.Omega.{arith}
use native.Mathlib.Decide.{dec_lt}
use lib.ListN.{length, get_or, take}
use Rattle.char_string_scalars.specs.Scalars.{is_scalar}
use Rattle.char_string_white_space.specs.Trimmed.{is_trimmed}
use Rattle.trie_pool.specs.Cells.{scalar_at, first_at, count_at, mark_at}
use Rattle.trie_pool.specs.Words.{none, at, on_place, child, rev}
use Rattle.trie_pool.specs.Meaning.{Terms}
use Rattle.trie_pool.specs.inner.Paths.{reach}
use Rattle.trie_pool.specs.inner.Sound.{Fit}
use Rattle.trie_pool.proofs.Shape.{scan_new, climb, refit}
use Rattle.trie_build_rules.specs.inner.Laid.{Laid, Appended}
use Rattle.trie_build_rules.specs.inner.Growing.{Grown, Path, Leads, Marked, Ended, Blank}
use Rattle.trie_build_rules.proofs.Building.{reach_level, not_new, kept, new_path, ends_here, grown, was, at_new, laid'}
use Rattle.trie_build_rules.proofs.Paths.{Last, last, long, same_length, rev_take}

-- what one character more asks
pub record Asks (p : List ℕ) (s next : ℕ → ℕ) (held : Terms) (w : List ℕ) (d b : ℕ) : Type 0 where
  pub grown : Grown p s next held b
  pub path : Path p next w d
  pub parent : suc b ≡ next d
  pub inside : d < length w
  pub short : length w ≤ 255
  pub legal : is_scalar (get_or w d 0) ≡ true
  pub first : d ≡ 0 → is_trimmed (get_or w 0 0) ≡ false
  pub above : (k : ℕ) → suc k ≡ next (suc d) → first_at p b ≤ k → scalar_at p k < get_or w d 0
  pub room : next (suc d) < s (suc (suc d))

-- what is done
pub record Done (p p' : List ℕ) (next next' : ℕ → ℕ) (d b x : ℕ) : Type 0 where
  pub appended : Appended p p' b (next (suc d)) x (next (suc (suc d)))
  pub up : next' (suc d) ≡ suc (next (suc d))
  pub other : (e : ℕ) → (e ≡ suc d → ⊥) → next' e ≡ next e
  pub same_long : length p' ≡ length p

module _ (p : List ℕ) (s next : ℕ → ℕ) (held : Terms) (w : List ℕ) (d b : ℕ) (a : Asks p s next held w d b) (p' : List ℕ) (next' : ℕ → ℕ) (h : Done p p' next next' d b (get_or w d 0)) where
  r : ℕ
  r = next (suc d)

  x : ℕ
  x = get_or w d 0

  v : Laid p s next
  v = a.grown.laid

  deep : d < 255
  deep = omega (arith, a.inside, a.short)

  own : s d ≤ b
  own = omega (arith, a.parent, (last p s next v w d d a.path (omega arith) (omega (arith, a.inside)) a.short).low)

  -- the new node wasn't one
  fresh : (e i : ℕ) → e ≤ 256 → s e ≤ i → i < next e → i ≡ next (suc d) → ⊥
  fresh = not_new p s next v p' d b (next (suc d)) (get_or w d 0) deep a.parent own refl a.room h.appended

  stays : (u : List ℕ) (i : ℕ) → length u ≤ 256 → reach p u ≡ at i → reach p' u ≡ at i
  stays = kept p s next v p' d b (next (suc d)) (get_or w d 0) deep a.parent own refl a.room h.appended

  bigger : (e : ℕ) → next e ≤ next' e
  bigger = grown p s next v p' d b (next (suc d)) (get_or w d 0) deep a.parent own refl a.room h.appended next' h.up h.other a.above

  before : (e i : ℕ) → e ≤ 256 → s e ≤ i → i < next' e → (i ≡ next (suc d) → ⊥) → i < next e
  before = was p s next v p' d b (next (suc d)) (get_or w d 0) deep a.parent own refl a.room h.appended next' h.up h.other a.above

  lays : Laid p' s next'
  lays = laid' p s next v p' d b (next (suc d)) (get_or w d 0) deep a.parent own refl a.room h.appended next' h.up h.other a.above

  ends : first_at p b + count_at p b ≡ next (suc d)
  ends = ends_here p s next v p' d b (next (suc d)) (get_or w d 0) deep a.parent own refl a.room h.appended

  low : s (suc d) ≤ next (suc d)
  low = v.low (suc d) (omega (arith, deep))

  -- the new node's cells were blank
  was_blank : Blank p (next (suc d))
  was_blank = a.grown.blank (next (suc d)) (λ e l m n. fresh e (next (suc d)) l m n refl)

  pub no_mark : mark_at p' (next (suc d)) ≡ 0
  no_mark = h.appended.mark_same (next (suc d)) ∙ was_blank.mark

  pub no_child : count_at p' (next (suc d)) ≡ 0
  no_child = h.appended.count_new

  -- the leaf is found
  found : child p' b (get_or w d 0) ≡ at (next (suc d))
  unfolding child
  found =
      let f = h.appended.first_other b (fresh d b (omega (arith, deep)) own (omega (arith, a.parent))) in
      let c = h.appended.count_parent in
      scan_new p' (next (suc d)) (get_or w d 0) (count_at p' b) (first_at p' b) (omega (arith, f, ends)) (omega (arith, f, c, ends)) (λ k m n. smaller k (omega (arith, f)) n) h.appended.scalar_new
    where
      smaller : (k : ℕ) → first_at p b ≤ k → k < next (suc d) → scalar_at p' k < get_or w d 0
      smaller k m n =
          omega (
            arith,
            h.appended.scalar_other k (omega arith),
            a.above (next (suc d) - 1) (omega arith) (omega arith),
            climb p (first_at p b) (first_at p b + count_at p b) (v.rising d b (omega (arith, deep)) own (omega (arith, a.parent))) k (next (suc d) - 1) m (omega arith) (omega (arith, ends)),
          )

  leads' : (u : List ℕ) (i : ℕ) → Leads p u i → Leads p' u i
  leads' u i l = record { there = stays (rev u []) i (omega (arith, same_length u, l.short)) l.there; short = l.short }

  fit' : (e i : ℕ) → 0 < e → e ≤ 256 → s e ≤ i → i < next' e → Fit (scalar_at p' i) (mark_at p' i)
  fit' e i o l m n = go (dec_lt i (next (suc d))) (dec_lt (next (suc d)) i)
    where
      old : (i ≡ next (suc d) → ⊥) → Fit (scalar_at p' i) (mark_at p' i)
      old ne = refit (h.appended.scalar_other i ne) (h.appended.mark_same i) (a.grown.fit e i o l m (before e i l m n ne))

      new : i ≡ next (suc d) → Fit (scalar_at p' i) (mark_at p' i)
      new z = refit (ap (scalar_at p') z ∙ h.appended.scalar_new) (ap (mark_at p') z ∙ no_mark) (record { legal = a.legal; mark = omega arith; stop = λ t. absurd (omega arith) })

      go : Dec (i < next (suc d)) → Dec (next (suc d) < i) → Fit (scalar_at p' i) (mark_at p' i)
      go (yes q) y = old (omega arith)
      go (no q) (yes y) = old (omega arith)
      go (no q) (no y) = new (omega arith)

  alive' : (e i : ℕ) → 0 < e → e ≤ 256 → s e ≤ i → i < next' e → (i ≡ next (suc d) → ⊥) → 1 ≤ count_at p' i + mark_at p' i
  alive' e i o l m n ne = go (dec_lt i b) (dec_lt b i)
    where
      old : (i ≡ b → ⊥) → 1 ≤ count_at p' i + mark_at p' i
      old nb = omega (arith, h.appended.count_other i ne nb, h.appended.mark_same i, a.grown.alive e i o l m (before e i l m n ne) nb)

      go : Dec (i < b) → Dec (b < i) → 1 ≤ count_at p' i + mark_at p' i
      go (yes q) y = old (omega arith)
      go (no q) (yes y) = old (omega arith)
      go (no q) (no y) = let z : i ≡ b = omega arith in omega (arith, ap (count_at p') z, h.appended.count_parent)

  start' : (i : ℕ) → s 1 ≤ i → i < next' 1 → is_trimmed (scalar_at p' i) ≡ false
  start' i m n = go (dec_lt i (next (suc d))) (dec_lt (next (suc d)) i)
    where
      old : (i ≡ next (suc d) → ⊥) → is_trimmed (scalar_at p' i) ≡ false
      old ne = ap is_trimmed (h.appended.scalar_other i ne) ∙ a.grown.start i m (before 1 i (omega arith) m n ne)

      new : i ≡ next (suc d) → is_trimmed (scalar_at p' i) ≡ false
      new z =
          let y : 1 ≡ suc d = at_new p s next v p' d b (next (suc d)) (get_or w d 0) deep a.parent own refl a.room h.appended next' h.up h.other a.above 1 (omega arith) (subst (λ (k : ℕ). s 1 ≤ k) z m) (subst (λ (k : ℕ). k < next' 1) z n) in
          let o : d ≡ 0 = omega arith in
          ap (λ (k : ℕ). is_trimmed (scalar_at p' k)) z ∙ ap is_trimmed h.appended.scalar_new ∙ ap (λ (k : ℕ). is_trimmed (get_or w k 0)) o ∙ a.first o

      go : Dec (i < next (suc d)) → Dec (next (suc d) < i) → is_trimmed (scalar_at p' i) ≡ false
      go (yes q) y = old (omega arith)
      go (no q) (yes y) = old (omega arith)
      go (no q) (no y) = new (omega arith)

  blank' : (i : ℕ) → ((e : ℕ) → e ≤ 256 → s e ≤ i → i < next' e → ⊥) → Blank p' i
  blank' i no' =
      let o = a.grown.blank i (λ e l m n. no' e l m (omega (arith, bigger e))) in
      let ne : i ≡ next (suc d) → ⊥ = λ z. no' (suc d) (omega (arith, deep)) (omega (arith, low)) (omega (arith, h.up)) in
      record {
        scalar = h.appended.scalar_other i ne ∙ o.scalar;
        first = h.appended.first_other i ne ∙ o.first;
        count = h.appended.count_other i ne (λ z. no' d (omega (arith, deep)) (omega (arith, own)) (omega (arith, a.parent, bigger d))) ∙ o.count;
        mark = h.appended.mark_same i ∙ o.mark;
      }

  words' : (u : List ℕ) (c : ℕ) → held u ≡ some c → Marked p' u c
  words' u c e = let o = a.grown.words u c e in record { node = o.node; leads = leads' u o.node o.leads; mark = h.appended.mark_same o.node ∙ o.mark }

  marks' : (i : ℕ) → 1 ≤ mark_at p' i → Ended p' held i
  marks' i m =
      let q = h.appended.mark_same i in
      let o = a.grown.marks i (omega arith) in
      record { word = o.word; leads = leads' o.word i o.leads; class = o.class ∙ ap (λ (k : ℕ). some (k - 1)) (sym q) }

  pub leaf_grown : Grown p' s next' held (next (suc d))
  leaf_grown = record {
    laid = lays;
    top = h.other 256 (omega (arith, deep)) ∙ a.grown.top;
    in_use = h.appended.scalar_other 0 (λ z. fresh 0 0 (omega arith) (omega (arith, v.zero')) (omega (arith, v.root)) z) ∙ a.grown.in_use;
    fits = omega (arith, a.grown.fits, h.same_long);
    small = a.grown.small;
    fit = fit';
    alive = alive';
    start = start';
    blank = blank';
    words = words';
    marks = marks';
  }

  pub leaf_path : Path p' next' w (suc d)
  leaf_path = record { along = λ k m. go k m (dec_lt k (suc d)) }
    where
      go : (k : ℕ) → k ≤ suc d → Dec (k < suc d) → reach p' (rev (take k w) []) ≡ at (next' k - 1)
      go k m (yes q) =
          stays (rev (take k w) []) (next k - 1) (omega (arith, long w k (omega (arith, a.inside)), deep)) (a.path.along k (omega arith))
          ∙ ap (λ (z : ℕ). at (z - 1)) (sym (h.other k (omega arith)))
      go k m (no q) =
          let z : k ≡ suc d = omega arith in
          let n : next (suc d) ≡ next' (suc d) - 1 = omega (arith, h.up) in
          let e : b ≡ next d - 1 = omega (arith, a.parent) in
          ap (λ (j : ℕ). reach p' (rev (take j w) [])) z ∙ ap (reach p') (rev_take w d a.inside)
          ∙ new_path p s next v p' d b (next (suc d)) (get_or w d 0) deep a.parent own refl a.room h.appended (rev (take d w) []) (a.path.along d (omega arith) ∙ ap at (sym e)) (long w d (omega (arith, a.inside))) found
          ∙ ap at n ∙ ap (λ (j : ℕ). at (next' j - 1)) (sym z)
