-- A plain cut of a sample or a part, in the rows that are lent. Assumes nothing.
use Prim.Native.Nat.{ℕ, zero, suc, ◌+◌, ◌*◌, ◌-◌, ◌≤◌, ◌<◌}
use native.Mathlib.Omega.{arith}
use mathlib.Core.Path.{◌≡◌, refl, sym, ◌∙◌, ap, subst}
use mathlib.Core.List.{List, [], ◌∷◌, ◌++◌, map}
use lib.ListN.{length, get_or, take, drop, replicate, length-append, length-take, get_or-append}
use lib.Seq.{length-take-le, take_at, drop_at}
use Rattle.std.specs.Prelude.{Option, Some, None}
use Rattle.char_string_last_space.specs.Spaces.{last_space}
use Rattle.trie_pool.specs.Words.{holds}
use Rattle.newmm_rules.specs.Cutting.{Cut}
use Rattle.newmm_rules.specs.declared.Ends.{Ends}
use Rattle.newmm_word_step.specs.inner.Walks.{given_by}
use Rattle.newmm_one_cut.specs.inner.Strips.{Lent, Done}
use Rattle.cells.proofs.Filling.{map_long}
use Rattle.newmm_rules.specs.inner.Climbing.{Climbs, there, up}
use Rattle.newmm_rules.specs.Longest.{lengths, before_longest}
use Rattle.newmm_rules.specs.Parts.{Cutter, sample_of, cut_for, cut_at, sampled}
use Rattle.newmm_rules.specs.Modes.{shifted, edges_of}
use Rattle.newmm_rules.proofs.Climbing.{onward, few}
use Rattle.newmm_rules.proofs.Samples.{Fits, Right, sample_long, cut_inside}
use Rattle.newmm_answers.specs.Answers.{plain_cut}
use Rattle.newmm_segment.specs.declared.Part.{Part}
use Rattle.newmm_segment.specs.declared.PartEnd.{PartEnd}
use Rattle.newmm_segment.specs.inner.Written.{Rising, Ready, Written, Sampled, first_of, FirstTold, told_cut, ends_told}

-- a text that is no longer finds all that it asks
pub lent : {text pool row : List ℕ} → Ready text pool row → (part : List ℕ) → length part ≤ length text → Lent part pool row
lent r part h = record { short = omega (arith, r.short); root_is = r.root_is; room = omega (arith, r.room); blank = λ k h. r.blank k }

pub written : {text row row' : List ℕ} {r : Ends} (pool : List ℕ) → Done (given_by text pool) row row' r → Written (plain_cut (holds pool) text) row row' r
unfolding plain_cut
written pool d = record { ends = d.ends; edges = d.edges; is = d.is }

-- ---- ends that climb

pub climb_most : {a z : ℕ} {es : List ℕ} → Climbs a es z → (i : ℕ) → i < length es → get_or es i 0 ≤ z
climb_most there i h = absurd (omega arith)
climb_most (up k r) zero h = onward r
climb_most (up k r) (suc i) h = climb_most r i (omega arith)

-- ---- what stands in the row

module _ {c : Cut} {row row' : List ℕ} {r : Ends} (w : Written c row row' r) where
  pub front : take r.ends row' ≡ c.ends
  front = ap (take r.ends) w.is ∙ take_at c.ends (drop (length c.ends) row) r.ends (sym w.ends)

  pub behind : drop r.ends row' ≡ drop (length c.ends) row
  behind = ap (drop r.ends) w.is ∙ drop_at c.ends (drop (length c.ends) row) r.ends (sym w.ends)

  pub cell : (i : ℕ) → i < r.ends → get_or row' i 0 ≡ get_or c.ends i 0
  cell i h = ap (λ (l : List ℕ). get_or l i 0) w.is ∙ get_or-append c.ends (drop (length c.ends) row) 0 i (omega (arith, w.ends))

  pub fits : length c.ends ≤ length row → r.ends ≤ length row'
  fits h = omega (arith, w.ends, ap length w.is, length-append c.ends (drop (length c.ends) row))

-- ---- a part

module _ (pool part row row' : List ℕ) (start : ℕ) {r : Ends} (w : Written (plain_cut (holds pool) part) row row' r) (right : Climbs 0 (plain_cut (holds pool) part).ends (length part)) where
  pub can_shift : start + length part ≤ 65535 → (i : ℕ) → i < r.ends → get_or row' i 0 + start ≤ 65535
  can_shift h i l = omega (arith, cell w i l, climb_most right i (omega (arith, w.ends)))

  pub shifted_is : (row'' : List ℕ) → row'' ≡ map (λ (e : ℕ). start + e) (take r.ends row') ++ drop r.ends row' → Written (told_cut (ends_told (holds pool)) (plain_cut (holds pool)) start part) row row'' r
  shifted_is row'' h =
      let l = map_long (λ (e : ℕ). start + e) (plain_cut (holds pool) part).ends in
      record {
        ends = w.ends ∙ sym l;
        edges = w.edges;
        is = h
            ∙ ap (λ (x : List ℕ). map (λ (e : ℕ). start + e) x ++ drop r.ends row') (front w)
            ∙ ap (λ (x : List ℕ). shifted start (plain_cut (holds pool) part).ends ++ x) (behind w)
            ∙ ap (λ (k : ℕ). shifted start (plain_cut (holds pool) part).ends ++ drop k row) (sym l);
      }

-- ---- a sample

blank_front : (k : ℕ) (row : List ℕ) → ((i : ℕ) → get_or row i 0 ≡ 0) → k ≤ length row → replicate {A = ℕ} k 0 ++ drop k row ≡ row
blank_front zero row b h = refl
blank_front (suc k) [] b h = absurd (omega arith)
blank_front (suc k) (x ∷ row) b h = (λ i. sym (b 0) i ∷ blank_front k row (λ j. b (suc j)) (omega arith) i)

module _ {rest pool row : List ℕ} (ready : Ready rest pool row) (long : 140 ≤ length rest) (by : ℕ) where
  abbrev plain : Cutter
  plain = plain_cut (holds pool)

  abbrev space : ℕ → ℕ
  space i = i + by

  pub at_space : (i : ℕ) → last_space (sample_of rest) ≡ Some i → Sampled space plain rest (record { from = by; at = i; edges = 0 })
  unfolding cut_at edges_of
  at_space i e =
      record {
        at = sym (ap (cut_for space plain (sample_of rest)) e);
        edges = sym (ap (λ (f : Option ℕ). edges_of plain (sampled (sample_of rest) f)) e);
      }

  module _ (row' : List ℕ) {r : Ends} (w : Written (plain (sample_of rest)) row row' r) (right : Right plain) where
    pub sample_rising : Rising (take r.ends row')
    sample_rising = record { last = 40; climbs = subst (λ (es : List ℕ). Climbs 0 es 40) (sym (front w)) (subst (λ (z : ℕ). Climbs 0 (plain (sample_of rest)).ends z) (sample_long rest long) (right (sample_of rest))) }

    pub sample_fits : r.ends ≤ length row'
    sample_fits = fits w (omega (arith, few (right (sample_of rest)), sample_long rest long, ready.room))

    pub no_space : (x : ℕ) → last_space (sample_of rest) ≡ None → x ≡ before_longest (lengths 0 (take r.ends row')) → Sampled space plain rest (record { from = 100; at = x; edges = r.edges })
    unfolding cut_at edges_of
    no_space x e q =
        record {
          at = (let z : x + 100 ≡ 100 + x = omega arith in z) ∙ ap (λ (y : ℕ). 100 + y) (q ∙ ap (λ (es : List ℕ). before_longest (lengths 0 es)) (front w)) ∙ sym (ap (cut_for space plain (sample_of rest)) e);
          edges = w.edges ∙ (let z : (plain (sample_of rest)).edges ≡ (plain (sample_of rest)).edges + 0 = omega arith in z) ∙ sym (ap (λ (f : Option ℕ). edges_of plain (sampled (sample_of rest) f)) e);
        }

    pub row_back : (row'' : List ℕ) → row'' ≡ replicate {A = ℕ} r.ends 0 ++ drop r.ends row' → row'' ≡ row
    row_back row'' h =
        h ∙ ap (λ (x : List ℕ). replicate {A = ℕ} r.ends 0 ++ x) (behind w) ∙ ap (λ (k : ℕ). replicate {A = ℕ} k 0 ++ drop (length (plain (sample_of rest)).ends) row) w.ends
        ∙ blank_front (length (plain (sample_of rest)).ends) row ready.blank (omega (arith, few (right (sample_of rest)), sample_long rest long, ready.room))

-- ---- the first part

pub by_fits : (by : ℕ) → 1 ≤ by → by ≤ 101 → Fits (λ (i : ℕ). i + by)
by_fits by h l = record { some = λ i k. omega arith; inside = λ i k. omega arith }

module _ {rest pool row : List ℕ} (ready : Ready rest pool row) (long : 140 ≤ length rest) (by : ℕ) (some : 1 ≤ by) (most : by ≤ 101) (right : Right (plain_cut (holds pool))) {p : PartEnd}
    (s : Sampled (λ (i : ℕ). i + by) (plain_cut (holds pool)) rest p) where
  abbrev size : ℕ
  size = p.at + p.from

  pub part_inside : (0 < size) × (size ≤ 140)
  part_inside =
      let c = cut_inside (λ (i : ℕ). i + by) (plain_cut (holds pool)) (by_fits by some most) right rest long in
      (omega (arith, c.0, s.at), omega (arith, c.1, s.at))

  pub part_ready : Ready (take size rest) pool row
  part_ready =
      let l = length-take-le size rest (omega (arith, part_inside.1)) in
      record { short = omega (arith, ready.short, part_inside.1); root_is = ready.root_is; room = omega (arith, ready.room, part_inside.1); blank = ready.blank }

  pub part_size : length (take size rest) ≡ size
  part_size = length-take-le size rest (omega (arith, part_inside.1))

  -- a part that is written as `told` says, as many cells as it has ends
  pub first_told : (told : ℕ → List ℕ → List ℕ) → ((start : ℕ) (part : List ℕ) → length (told start part) ≡ length (plain_cut (holds pool) part).ends)
      → {r : Ends} {row₁ row' : List ℕ} (start : ℕ) → row₁ ≡ row → Written (record { ends = told start (take size rest); edges = (plain_cut (holds pool) (take size rest)).edges }) row₁ row' r
      → FirstTold (λ (i : ℕ). i + by) (plain_cut (holds pool)) told rest start row row' (record { size = size; ends = r.ends; edges = p.edges + r.edges })
  first_told told as_many {r} {row₁} {row'} start same w =
      let t : take size rest ≡ first_of (λ (i : ℕ). i + by) (plain_cut (holds pool)) rest = ap (λ (k : ℕ). take k rest) s.at in
      record {
        size = s.at;
        ends = w.ends ∙ as_many start (take size rest) ∙ ap (λ (q : List ℕ). length (plain_cut (holds pool) q).ends) t;
        edges = (λ i. s.edges i + (w.edges ∙ ap (λ (q : List ℕ). (plain_cut (holds pool) q).edges) t) i);
        is = w.is ∙ (λ i. told start (t i) ++ drop (sym w.ends i) (same i));
      }
