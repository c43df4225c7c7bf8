-- A word ends at the node just made: its mark. Assumes nothing.
use mathlib.Core.Path.{◌≡◌, refl, sym, ap, subst, ◌∙◌}
use mathlib.Core.Bool.{Bool, true, false, cond}
use mathlib.Core.List.{List, [], ◌∷◌}
use mathlib.Core.Option.{Option, some}
use Prim.Native.Nat.{ℕ, zero, suc, ◌+◌, ◌-◌, ◌*◌, ◌≤◌, ◌<◌}
use native.Mathlib.Omega.{arith}
use native.Mathlib.Decide.{dec_lt}
use borrow.Author.Tests.{not-true}
use lib.Dec.{ltb, eqb}
use lib.ListN.{length, get_or, take}
use lib.Seq.{take-length}
use Rattle.char_string_white_space.specs.Trimmed.{is_trimmed}
use Rattle.trie_pool.specs.Cells.{scalar_at, first_at, count_at, mark_at}
use Rattle.trie_pool.specs.Words.{Place, none, at, on_place, scan, child, rev}
use Rattle.trie_pool.specs.Meaning.{Terms, same, with_term}
use Rattle.trie_pool.specs.inner.Paths.{reach}
use Rattle.trie_pool.specs.inner.Sound.{Fit, Rising}
use Rattle.trie_pool.proofs.Shape.{child_found, step, refit}
use Rattle.trie_pool.proofs.Sets.{same_true, same_self}
use Rattle.trie_build_rules.specs.inner.Laid.{Laid}
use Rattle.trie_build_rules.specs.inner.Growing.{Grown, Path, Leads, Marked, Ended, Blank}
use Rattle.trie_build_rules.proofs.Paths.{Last, last, rev_take}

-- the mark of node i, and nothing else
pub record Sets (p p' : List ℕ) (i m : ℕ) : Type 0 where
  pub scalar_same : (k : ℕ) → scalar_at p' k ≡ scalar_at p k
  pub first_same : (k : ℕ) → first_at p' k ≡ first_at p k
  pub count_same : (k : ℕ) → count_at p' k ≡ count_at p k
  pub mark_new : mark_at p' i ≡ m
  pub mark_other : (k : ℕ) → (k ≡ i → ⊥) → mark_at p' k ≡ mark_at p k
  pub same_long : length p' ≡ length p

with_is : (w : List ℕ) (c : ℕ) (held : Terms) (v : List ℕ) → 1 ≤ length w → with_term w c held v ≡ cond (same v w) (some c) (held v)
with_is [] c held v l = absurd (omega arith)
with_is (x ∷ w) c held v l = refl

module _ (p p' : List ℕ) (i m : ℕ) (h : Sets p p' i m) where
  scan_same : (x f n : ℕ) → scan p' x f n ≡ scan p x f n
  scan_same x f zero = refl
  scan_same x f (suc n) =
      ap (λ (z : ℕ). cond (ltb z x) (scan p' x (suc f) n) (cond (eqb z x) (at f) none)) (h.scalar_same f)
      ∙ ap (λ (z : Place). cond (ltb (scalar_at p f) x) z (cond (eqb (scalar_at p f) x) (at f) none)) (scan_same x (suc f) n)

  child_same : (k x : ℕ) → child p' k x ≡ child p k x
  unfolding child
  child_same k x =
      ap (λ (z : ℕ). scan p' x z (count_at p' k)) (h.first_same k) ∙ ap (λ (z : ℕ). scan p' x (first_at p k) z) (h.count_same k)
      ∙ scan_same x (first_at p k) (count_at p k)

  pub reach_same : (u : List ℕ) → reach p' u ≡ reach p u
  reach_same [] = refl
  reach_same (x ∷ u) = ap (on_place none (λ k. child p' k x)) (reach_same u) ∙ go (reach p u)
    where
      go : (q : Place) → on_place none (λ k. child p' k x) q ≡ on_place none (λ k. child p k x) q
      go none = refl
      go (at k) = child_same k x

  block_same : (k : ℕ) → first_at p' k + count_at p' k ≡ first_at p k + count_at p k
  block_same k = omega (arith, h.first_same k, h.count_same k)

  laid_same : (s next : ℕ → ℕ) → Laid p s next → Laid p' s next
  laid_same s next v = record {
    root = v.root;
    zero' = v.zero';
    low = v.low;
    high = v.high;
    first = λ d k l a c. h.first_same k ∙ v.first d k l a c;
    follow = λ d k l a c. h.first_same (suc k) ∙ v.follow d k l a c ∙ sym (block_same k);
    tip = λ d k l a c. block_same k ∙ v.tip d k l a c;
    none' = v.none';
    from = λ d k l a c. omega (arith, h.first_same k, v.from d k l a c);
    upto = λ d k l a c. omega (arith, block_same k, v.upto d k l a c);
    rising = λ d k l a c j y z. omega (arith, h.scalar_same j, h.scalar_same (suc j), v.rising d k l a c j (omega (arith, h.first_same k)) (omega (arith, block_same k)));
  }

module _ (p : List ℕ) (s next : ℕ → ℕ) (held : Terms) (w : List ℕ) (e c : ℕ) (g : Grown p s next held e) (path : Path p next w (length w)) (end : suc e ≡ next (length w))
    (some' : 1 ≤ length w) (short : length w ≤ 255) (stop : is_trimmed (get_or w (length w - 1) 0) ≡ false) (class : c ≤ 65535) (unmarked : mark_at p e ≡ 0) (p' : List ℕ) (h : Sets p p' e (suc c)) where
  here : reach p (rev w []) ≡ at e
  here =
      let z : next (length w) - 1 ≡ e = omega (arith, end) in
      ap (λ (u : List ℕ). reach p (rev u [])) (sym (take-length w)) ∙ path.along (length w) (omega arith) ∙ ap at z

  letter : scalar_at p e ≡ get_or w (length w - 1) 0
  letter =
      let n = length w - 1 in
      let l : n < length w = omega (arith, some') in
      let z : suc n ≡ length w = omega (arith, some') in
      let q : reach p (get_or w n 0 ∷ rev (take n w) []) ≡ at e
      = ap (reach p) (sym (rev_take w n l)) ∙ ap (λ (k : ℕ). reach p (rev (take k w) [])) z ∙ ap (λ (u : List ℕ). reach p (rev u [])) (take-length w) ∙ here in
      let t = step p (rev (take n w) []) (get_or w n 0) e q in
      (child_found p t.mid (get_or w n 0) e t.then).is

  leads' : (u : List ℕ) (i : ℕ) → Leads p u i → Leads p' u i
  leads' u i l = record { there = reach_same p p' e (suc c) h (rev u []) ∙ l.there; short = l.short }

  mine : Leads p' w e
  mine = leads' w e (record { there = here; short = short })

  fit' : (d i : ℕ) → 0 < d → d ≤ 256 → s d ≤ i → i < next d → Fit (scalar_at p' i) (mark_at p' i)
  fit' d i o l m n = go (dec_lt i e) (dec_lt e i)
    where
      old : (i ≡ e → ⊥) → Fit (scalar_at p' i) (mark_at p' i)
      old ne = refit (h.scalar_same i) (h.mark_other i ne) (g.fit d i o l m n)

      new : i ≡ e → Fit (scalar_at p' i) (mark_at p' i)
      new z =
          record {
            legal = (subst (λ (k : ℕ). Fit k (mark_at p i)) (sym (h.scalar_same i)) (g.fit d i o l m n)).legal;
            mark = omega (arith, ap (mark_at p') z, h.mark_new);
            stop = λ t. ap is_trimmed (h.scalar_same i ∙ ap (scalar_at p) z ∙ letter) ∙ stop;
          }

      go : Dec (i < e) → Dec (e < i) → Fit (scalar_at p' i) (mark_at p' i)
      go (yes q) y = old (omega arith)
      go (no q) (yes y) = old (omega arith)
      go (no q) (no y) = new (omega arith)

  alive' : (d i : ℕ) → 0 < d → d ≤ 256 → s d ≤ i → i < next d → (i ≡ 0 → ⊥) → 1 ≤ count_at p' i + mark_at p' i
  alive' d i o l m n ne = go (dec_lt i e) (dec_lt e i)
    where
      old : (i ≡ e → ⊥) → 1 ≤ count_at p' i + mark_at p' i
      old nb = omega (arith, h.count_same i, h.mark_other i nb, g.alive d i o l m n nb)

      go : Dec (i < e) → Dec (e < i) → 1 ≤ count_at p' i + mark_at p' i
      go (yes q) y = old (omega arith)
      go (no q) (yes y) = old (omega arith)
      go (no q) (no y) = let z : i ≡ e = omega arith in omega (arith, ap (mark_at p') z, h.mark_new)

  -- the end of the word stands on a level
  placed : (s (length w) ≤ e) × (e < next (length w))
  placed =
      let q = last p s next g.laid w (length w) (length w) path (omega arith) (omega arith) short in
      (omega (arith, end, q.low), omega (arith, end))

  blank' : (i : ℕ) → ((d : ℕ) → d ≤ 256 → s d ≤ i → i < next d → ⊥) → Blank p' i
  blank' i no' =
      let o = g.blank i no' in
      let ne : i ≡ e → ⊥ = λ z. no' (length w) (omega (arith, short)) (omega (arith, placed.0)) (omega (arith, placed.1)) in
      record {
        scalar = h.scalar_same i ∙ o.scalar;
        first = h.first_same i ∙ o.first;
        count = h.count_same i ∙ o.count;
        mark = h.mark_other i ne ∙ o.mark;
      }

  words' : (v : List ℕ) (k : ℕ) → with_term w c held v ≡ some k → Marked p' v k
  words' v k q = go (same v w) refl (sym (with_is w c held v some') ∙ q)
    where
      go : (t : Bool) → same v w ≡ t → cond t (some c) (held v) ≡ some k → Marked p' v k
      go true t f =
          let z : v ≡ w = same_true v w t in
          let y : c ≡ k = cc in
          record { node = e; leads = subst (λ (u : List ℕ). Leads p' u e) (sym z) mine; mark = h.mark_new ∙ ap suc y }
      go false t f =
          let o = g.words v k f in
          let ne : o.node ≡ e → ⊥ = λ z. let y : mark_at p o.node ≡ 0 = ap (mark_at p) z ∙ unmarked in omega (arith, o.mark) in
          record { node = o.node; leads = leads' v o.node o.leads; mark = h.mark_other o.node ne ∙ o.mark }

  one_place : {i j : ℕ} → at i ≡ at j → i ≡ j
  one_place q = cc

  marks' : (i : ℕ) → 1 ≤ mark_at p' i → Ended p' (with_term w c held) i
  marks' i m = go (dec_lt i e) (dec_lt e i)
    where
      old : (i ≡ e → ⊥) → Ended p' (with_term w c held) i
      old ne =
          let q = h.mark_other i ne in
          let o = g.marks i (omega arith) in
          record {
            word = o.word;
            leads = leads' o.word i o.leads;
            class = with_is w c held o.word some' ∙ ap (λ (t : Bool). cond t (some c) (held o.word)) (apart o.word o.leads (same o.word w) refl) ∙ o.class ∙ ap (λ (k : ℕ). some (k - 1)) (sym q);
          }
        where
          apart : (v : List ℕ) → Leads p v i → (t : Bool) → same v w ≡ t → same v w ≡ false
          apart v l true t = absurd (ne (one_place (sym l.there ∙ ap (λ (u : List ℕ). reach p (rev u [])) (same_true v w t) ∙ here)))
          apart v l false t = t

      new : i ≡ e → Ended p' (with_term w c held) i
      new z =
          let y : c ≡ mark_at p' i - 1 = omega (arith, ap (mark_at p') z, h.mark_new) in
          record {
            word = w;
            leads = subst (λ (k : ℕ). Leads p' w k) (sym z) mine;
            class = with_is w c held w some' ∙ ap (λ (t : Bool). cond t (some c) (held w)) (same_self w) ∙ ap some y;
          }

      go : Dec (i < e) → Dec (e < i) → Ended p' (with_term w c held) i
      go (yes q) y = old (omega arith)
      go (no q) (yes y) = old (omega arith)
      go (no q) (no y) = new (omega arith)

  pub mark_grown : Grown p' s next (with_term w c held) 0
  mark_grown = record {
    laid = laid_same p p' e (suc c) h s next g.laid;
    top = g.top;
    in_use = h.scalar_same 0 ∙ g.in_use;
    fits = omega (arith, g.fits, h.same_long);
    small = g.small;
    fit = fit';
    alive = alive';
    start = λ i m n. ap is_trimmed (h.scalar_same i) ∙ g.start i m n;
    blank = blank';
    words = words';
    marks = marks';
  }

  pub mark_path : Path p' next w (length w)
  mark_path = record { along = λ k l. reach_same p p' e (suc c) h (rev (take k w) []) ∙ path.along k l }
