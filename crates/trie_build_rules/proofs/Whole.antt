-- All levels are full: the trie is a dictionary that holds the words put in. Assumes nothing.
use mathlib.Core.Path.{◌≡◌, refl, sym, ap, subst, ◌∙◌}
use mathlib.Core.List.{List, [], ◌∷◌}
use mathlib.Core.Option.{Option, some}
use mathlib.Core.Option as option
use Prim.Native.Nat.{ℕ, zero, suc, ◌+◌, ◌-◌, ◌*◌, ◌≤◌, ◌<◌}
use native.Mathlib.Omega.{arith}
use native.Mathlib.Decide.{dec_lt}
use lib.ListN.{length, get_or}
use Rattle.trie_pool.specs.Cells.{scalar_at, first_at, count_at, mark_at}
use Rattle.trie_pool.specs.Words.{Place, none, at, on_place, walk, term, term_at, rev}
use Rattle.trie_pool.specs.Meaning.{Terms}
use Rattle.trie_pool.specs.inner.Paths.{reach}
use Rattle.trie_pool.specs.inner.Sound.{Sound, Fit}
use Rattle.trie_pool.proofs.Shape.{walk_is, rev_rev, one_path, first_is, count_is, mark_is}
use Rattle.trie_build_rules.specs.inner.Laid.{Laid}
use Rattle.trie_build_rules.specs.inner.Growing.{Grown, Leads, Marked, Ended, Blank}
use Rattle.trie_build_rules.proofs.Building.{levels_apart, Level, level, one, all_shaped, all_rising, all_shallow}

pub scalar_is : (p : List ℕ) (i : ℕ) → scalar_at p i ≡ get_or p (8 * i) 0
unfolding scalar_at
scalar_is p i = refl

-- the first four cells of a blank node
blank_cell : (p : List ℕ) (i r : ℕ) → 0 < i → Blank p i → r < 4 → get_or p (8 * i + r) 0 ≡ 0
blank_cell p i zero o b l = let z : 8 * i + 0 ≡ 8 * i = omega arith in ap (λ (k : ℕ). get_or p k 0) z ∙ sym (scalar_is p i) ∙ b.scalar
blank_cell p i (suc zero) o b l = sym (first_is p i) ∙ b.first
blank_cell p i (suc (suc zero)) o b l = sym (count_is p i) ∙ b.count
blank_cell p i (suc (suc (suc zero))) o b l = sym (mark_is p i o) ∙ b.mark
blank_cell p i (suc (suc (suc (suc r)))) o b l = absurd (omega arith)

one_place : {i j : ℕ} → at i ≡ at j → i ≡ j
one_place q = cc

module _ (p : List ℕ) (s next : ℕ → ℕ) (held : Terms) (g : Grown p s next held 0) (full : (d : ℕ) → d < 256 → next d ≡ s (suc d)) where
  v : Laid p s next
  v = g.laid

  -- a node that isn't the root stands on a level below it
  record Below (i : ℕ) : Type 0 where
    d : ℕ
    some' : 0 < d
    few : d ≤ 256
    low : s d ≤ i
    high : i < next d

  below : (i : ℕ) → 0 < i → i < s 256 → Below i
  below i o l = go (level p s next v full g.top 256 (omega arith) i l)
    where
      go : Level p s next v full g.top i → Below i
      go y = pick (dec_lt 0 y.d)
        where
          pick : Dec (0 < y.d) → Below i
          pick (yes q) = record { d = y.d; some' = q; few = omega (arith, y.few); low = y.low; high = y.high }
          pick (no q) = let z : y.d ≡ 0 = omega arith in absurd (omega (arith, ap next z, y.high, v.root))

  inside : (d : ℕ) → d ≤ 256 → next d ≤ s 256
  inside d l = go (dec_lt d 256)
    where
      go : Dec (d < 256) → next d ≤ s 256
      go (yes q) = levels_apart p s next v d 256 q (omega arith)
      go (no q) = let z : d ≡ 256 = omega arith in omega (arith, ap next z, g.top)

  pub whole_sound : Sound p (s 256) 0
  whole_sound = record {
    shaped = all_shaped p s next v full g.top;
    fits = g.fits;
    small = g.small;
    rising = all_rising p s next v full g.top;
    fit = λ i o l. let y = below i o l in g.fit y.d i y.some' y.few y.low y.high;
    leaf = λ i o l ne. let y = below i o l in g.alive y.d i y.some' y.few y.low y.high ne;
    start = λ i o l.
        let z : s 1 ≡ 1 = one p s next v full g.top in
        let f : first_at p 0 ≡ s 1 = v.first 0 0 (omega arith) v.zero' (omega (arith, v.root)) in
        let t : first_at p 0 + count_at p 0 ≡ next 1 = v.tip 0 0 (omega arith) (omega (arith, v.zero')) (sym v.root) in
        g.start i (omega arith) (omega arith);
    shallow = all_shallow p s next v full g.top;
    spare = record {
      used = sym (scalar_is p 0) ∙ g.in_use;
      blank = λ i r l m. blank_cell p i r (omega (arith, (all_shaped p s next v full g.top).some)) (g.blank i (λ d few a c. omega (arith, inside d few))) m;
    };
  }

  no_class : (u : List ℕ) → ((c : ℕ) → held u ≡ some c → ⊥) → option.none ≡ held u
  no_class u h = go (held u) refl
    where
      go : (q : Option ℕ) → held u ≡ q → option.none ≡ held u
      go option.none e = sym e
      go (option.some c) e = absurd (h c e)

  -- the words held are those put in, with their classes
  pub whole_terms : (u : List ℕ) → term_at p u ≡ held u
  whole_terms u = ap (on_place option.none (λ r. term (mark_at p r))) (walk_is p u) ∙ go (reach p (rev u [])) refl
    where
      class : (i m : ℕ) → reach p (rev u []) ≡ at i → mark_at p i ≡ m → term m ≡ held u
      class i zero e f = no_class u (λ c q. let o = g.words u c q in let z : o.node ≡ i = one_place (sym o.leads.there ∙ e) in let y : mark_at p o.node ≡ 0 = ap (mark_at p) z ∙ f in omega (arith, o.mark))
      class i (suc m) e f =
          let o = g.marks i (omega arith) in
          let z : rev o.word [] ≡ rev u [] = one_path p (s 256) (all_shaped p s next v full g.top) (rev o.word []) (rev u []) i o.leads.there e in
          let y : o.word ≡ u = sym (rev_rev o.word []) ∙ ap (λ (k : List ℕ). rev k []) z ∙ rev_rev u [] in
          let t : mark_at p i - 1 ≡ m = omega arith in
          ap option.some (sym t) ∙ sym o.class ∙ ap held y

      go : (q : Place) → reach p (rev u []) ≡ q → on_place option.none (λ r. term (mark_at p r)) q ≡ held u
      go none e = no_class u (λ c q. let o = g.words u c q in let z : none ≡ at o.node = sym e ∙ o.leads.there in let y : ◌≡◌ {A = ℕ} 0 1 = cc in omega arith)
      go (at i) e = class i (mark_at p i) e refl
