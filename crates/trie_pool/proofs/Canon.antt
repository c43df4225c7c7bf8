-- Two dictionaries that hold the same words with the same classes are the same, cell by cell.
-- Assumes nothing.
use mathlib.Core.Path.{◌≡◌, refl, sym, ap, subst, ◌∙◌}
use mathlib.Core.Bool.{true, false}
use mathlib.Core.List.{List, [], ◌∷◌}
use Prim.Native.Nat.{ℕ, zero, suc, ◌+◌, ◌-◌, ◌*◌, ◌/◌, ◌%◌, ◌≤◌, ◌<◌}
use native.Mathlib.Omega.{arith}
use native.Mathlib.Decide.{dec_lt}
use lib.ListN.{length, get_or}
use lib.Seq.{ext_get_or}
use Rattle.trie_pool.specs.Cells.{scalar_at, first_at, count_at, mark_at}
use Rattle.trie_pool.specs.inner.Paths.{reach}
use Rattle.trie_pool.specs.inner.Sound.{Rising, Plain, Sound}
use Rattle.trie_pool.specs.Words.{Place, none, at, on_place, child, walk, marked, holds, term, term_at, rev}
use mathlib.Core.Option as option
use Rattle.trie_pool.specs.Meaning.{is_some}
use Rattle.trie_pool.proofs.Shape.{within, one_parent, child_found, step, walk_reach, reach_within, scan_new, climb}

clash : {P : Type 0} → false ≡ true → P
clash e = let z : ◌≡◌ {A = ℕ} 0 1 = cc in absurd (omega arith)

-- ---- each node is on the way to a word

pub record Alive (p u : List ℕ) : Type 0 where
  pub rest : List ℕ
  pub is : holds p (rev u rest) ≡ true

record Some (p u : List ℕ) : Type 0 where
  node : ℕ
  is : reach p u ≡ at node

ends_is : (p u : List ℕ) (i : ℕ) → reach p u ≡ at i → holds p (rev u []) ≡ marked (mark_at p i)
ends_is p u i e = ap (on_place false (λ r. marked (mark_at p r))) (walk_reach p u [] ∙ ap (on_place none (λ k. walk p [] k)) e)

marked_some : (m : ℕ) → 0 < m → marked m ≡ true
marked_some zero h = absurd (omega arith)
marked_some (suc m) h = refl

-- each node of a block is found by its scalar
pub member : (p : List ℕ) (n : ℕ) → Sound p n 0 → (i c : ℕ) → i < n → first_at p i ≤ c → c < first_at p i + count_at p i → child p i (scalar_at p c) ≡ at c
unfolding child
member p n g i c l a b = scan_new p c (scalar_at p c) (count_at p i) (first_at p i) a b
    (λ k u v. omega (arith, g.rising i l k u (omega arith), climb p (first_at p i) (first_at p i + count_at p i) (g.rising i l) (suc k) c (omega arith) (omega arith) b)) refl

on_path : (p u : List ℕ) (i y c : ℕ) → reach p u ≡ at i → child p i y ≡ at c → reach p (y ∷ u) ≡ at c
on_path p u i y c e f = ap (on_place none (λ k. child p k y)) e ∙ f

pub alive : (p : List ℕ) (n : ℕ) → Sound p n 0 → (f : ℕ) (u : List ℕ) (i : ℕ) → n ≤ i + f → 0 < i → i < n → reach p u ≡ at i → Alive p u
alive p n g zero u i h some l e = absurd (omega arith)
alive p n g (suc f) u i h some l e = go (dec_lt 0 (mark_at p i)) (alive p n g f)
  where
    go : Dec (0 < mark_at p i) → ((u : List ℕ) (i : ℕ) → n ≤ i + f → 0 < i → i < n → reach p u ≡ at i → Alive p u) → Alive p u
    go (yes q) ih = record { rest = []; is = ends_is p u i e ∙ marked_some (mark_at p i) q }
    go (no q) ih =
        let c : 1 ≤ count_at p i = omega (arith, g.leaf i some l (omega arith)) in
        let m = member p n g i (first_at p i) l (omega arith) (omega arith) in
        let a = g.shaped.ahead i l in
        let r = ih (scalar_at p (first_at p i) ∷ u) (first_at p i) (omega arith) (omega arith) (omega (arith, within p n g.shaped i l)) (on_path p u i (scalar_at p (first_at p i)) (first_at p i) e m) in
        record { rest = scalar_at p (first_at p i) ∷ r.rest; is = r.is }

some : (p u v : List ℕ) → holds p (rev u v) ≡ true → Some p u
some p u v e = go (reach p u) refl
  where
    go : (q : Place) → reach p u ≡ q → Some p u
    go none h = clash (sym (ap (on_place false (λ r. marked (mark_at p r))) (walk_reach p u v ∙ ap (on_place none (λ k. walk p v k)) h)) ∙ e)
    go (at i) h = record { node = i; is = h }

-- ---- two blocks with the same scalars

record Hit (q : List ℕ) (s e y : ℕ) : Type 0 where
  place : ℕ
  low : s ≤ place
  high : place < e
  is : scalar_at q place ≡ y

record Agree (p q : List ℕ) (s ep eq t : ℕ) : Type 0 where
  pq : (c : ℕ) → s ≤ c → c < t → c < ep → c < eq
  qp : (c : ℕ) → s ≤ c → c < t → c < eq → c < ep
  same : (c : ℕ) → s ≤ c → c < t → c < ep → scalar_at p c ≡ scalar_at q c

one_way : (p q : List ℕ) (s ep eq t : ℕ) → Rising p s ep → Rising q s eq → Agree p q s ep eq t → s ≤ t → t < ep → Hit q s eq (scalar_at p t) → (t < eq) × (scalar_at q t ≤ scalar_at p t)
one_way p q s ep eq t rp rq a l h k = go (dec_lt k.place t)
  where
    go : Dec (k.place < t) → (t < eq) × (scalar_at q t ≤ scalar_at p t)
    go (yes b) =
        let c : k.place < ep = omega arith in
        absurd (omega (arith, a.same k.place k.low b c, k.is, rp k.place k.low (omega arith), climb p s ep rp (suc k.place) t (omega (arith, k.low)) b h))
    go (no b) = (omega (arith, k.high), omega (arith, k.is, climb q s eq rq t k.place l (omega arith) k.high))

turned : (p q : List ℕ) (s ep eq t : ℕ) → Agree p q s ep eq t → Agree q p s eq ep t
turned p q s ep eq t a = record { pq = a.qp; qp = a.pq; same = λ c l u h. sym (a.same c l u (a.qp c l u h)) }

module _ (p q : List ℕ) (s ep eq : ℕ) (rp : Rising p s ep) (rq : Rising q s eq)
    (look : (c : ℕ) → s ≤ c → c < ep → Hit q s eq (scalar_at p c)) (look' : (c : ℕ) → s ≤ c → c < eq → Hit p s ep (scalar_at q c)) where
  module _ (t : ℕ) (a : Agree p q s ep eq t) where
    pq' : (c : ℕ) → s ≤ c → c < suc t → Dec (c < t) → c < ep → c < eq
    pq' c l h (yes b) u = a.pq c l b u
    pq' c l h (no b) u = let z : c ≡ t = omega arith in subst (λ (k : ℕ). k < eq) (sym z) (one_way p q s ep eq t rp rq a (omega arith) (omega arith) (look t (omega arith) (omega arith))).0

    qp' : (c : ℕ) → s ≤ c → c < suc t → Dec (c < t) → c < eq → c < ep
    qp' c l h (yes b) u = a.qp c l b u
    qp' c l h (no b) u = let z : c ≡ t = omega arith in subst (λ (k : ℕ). k < ep) (sym z) (one_way q p s eq ep t rq rp (turned p q s ep eq t a) (omega arith) (omega arith) (look' t (omega arith) (omega arith))).0

    same' : (c : ℕ) → s ≤ c → c < suc t → Dec (c < t) → c < ep → scalar_at p c ≡ scalar_at q c
    same' c l h (yes b) u = a.same c l b u
    same' c l h (no b) u =
        let z : c ≡ t = omega arith in
        let x = one_way p q s ep eq t rp rq a (omega arith) (omega arith) (look t (omega arith) (omega arith)) in
        let y = one_way q p s eq ep t rq rp (turned p q s ep eq t a) (omega arith) x.0 (look' t (omega arith) x.0) in
        rw z (omega (arith, x.1, y.1))

  agree : (t : ℕ) → Agree p q s ep eq t
  agree zero = record { pq = λ c l h. absurd (omega arith); qp = λ c l h. absurd (omega arith); same = λ c l h. absurd (omega arith) }
  agree (suc t) = go (agree t)
    where
      go : Agree p q s ep eq t → Agree p q s ep eq (suc t)
      go a = record { pq = λ c l h u. pq' t a c l h (dec_lt c t) u; qp = λ c l h u. qp' t a c l h (dec_lt c t) u; same = λ c l h u. same' t a c l h (dec_lt c t) u }

  -- they end at the same place
  ends_same : s ≤ ep → s ≤ eq → ep ≡ eq
  ends_same a b = go (dec_lt ep eq) (dec_lt eq ep)
    where
      go : Dec (ep < eq) → Dec (eq < ep) → ep ≡ eq
      go (yes l) d = absurd (omega (arith, (agree (suc ep)).qp ep a (omega arith) l))
      go (no l) (yes d) = absurd (omega (arith, (agree (suc eq)).pq eq b (omega arith) d))
      go (no l) (no d) = omega arith

  scalars_same : (c : ℕ) → s ≤ c → c < ep → scalar_at p c ≡ scalar_at q c
  scalars_same c l h = (agree (suc c)).same c l (omega arith) h

-- ---- node by node

pub record Has (p : List ℕ) (c : ℕ) : Type 0 where
  pub path : List ℕ
  pub leads : reach p path ≡ at c

record Match (p q : List ℕ) (n m i s : ℕ) : Type 0 where
  in_p : i ≤ n
  in_q : i ≤ m
  low : 1 ≤ s
  at_p : i < n → first_at p i ≡ s
  at_q : i < m → first_at q i ≡ s
  end_p : i ≡ n → s ≡ n
  end_q : i ≡ m → s ≡ m
  firsts : (k : ℕ) → k < i → first_at p k ≡ first_at q k
  counts : (k : ℕ) → k < i → count_at p k ≡ count_at q k
  scalars : (c : ℕ) → 1 ≤ c → c < s → scalar_at p c ≡ scalar_at q c
  there : (c : ℕ) (u : List ℕ) → c < s → reach p u ≡ at c → reach q u ≡ at c
  has : (c : ℕ) → c < s → Has p c

look_in : (p q : List ℕ) (n m : ℕ) → Sound p n 0 → ((v : List ℕ) → holds p v ≡ holds q v) → (u : List ℕ) (i : ℕ) → i < n → reach p u ≡ at i → reach q u ≡ at i
    → (c : ℕ) → first_at p i ≤ c → c < first_at p i + count_at p i → Hit q (first_at q i) (first_at q i + count_at q i) (scalar_at p c)
look_in p q n m g same u i l e e' c a b =
    let w = within p n g.shaped i l in
    let r = on_path p u i (scalar_at p c) c e (member p n g i c l a b) in
    let x = alive p n g n (scalar_at p c ∷ u) c (omega arith) (omega (arith, g.shaped.ahead i l)) (omega arith) r in
    let y = some q (scalar_at p c ∷ u) x.rest (sym (same (rev (scalar_at p c ∷ u) x.rest)) ∙ x.is) in
    let f = child_found q i (scalar_at p c) y.node (sym (ap (on_place none (λ k. child q k (scalar_at p c))) e') ∙ y.is) in
    record { place = y.node; low = f.low; high = f.high; is = f.is }

term_is : (p u : List ℕ) (i : ℕ) → reach p u ≡ at i → term_at p (rev u []) ≡ term (mark_at p i)
term_is p u i e = ap (on_place option.none (λ r. term (mark_at p r))) (walk_reach p u [] ∙ ap (on_place none (λ k. walk p [] k)) e)

one_mark : (a b : ℕ) → term a ≡ term b → a ≡ b
one_mark zero zero e = refl
one_mark zero (suc b) e = let z : ◌≡◌ {A = ℕ} 0 1 = cc in absurd (omega arith)
one_mark (suc a) zero e = let z : ◌≡◌ {A = ℕ} 0 1 = cc in absurd (omega arith)
one_mark (suc a) (suc b) e = let z : a ≡ b = cc in ap suc z

module _ (p q : List ℕ) (n m : ℕ) (gp : Sound p n 0) (gq : Sound q m 0) (same : (v : List ℕ) → holds p v ≡ holds q v) where
  begin : Match p q n m 0 1
  begin = record {
    in_p = omega arith;
    in_q = omega arith;
    low = omega arith;
    at_p = λ l. gp.shaped.start;
    at_q = λ l. gq.shaped.start;
    end_p = λ e. absurd (omega (arith, gp.shaped.some));
    end_q = λ e. absurd (omega (arith, gq.shaped.some));
    firsts = λ k l. absurd (omega arith);
    counts = λ k l. absurd (omega arith);
    scalars = λ c a l. absurd (omega arith);
    there = λ c u l e. root c u l e;
    has = λ c l. record { path = []; leads = ap at (omega arith) };
  }
    where
      root : (c : ℕ) (u : List ℕ) → c < 1 → reach p u ≡ at c → reach q u ≡ at c
      root c [] l e = e
      root c (y ∷ u) l e =
          let t = step p u y c e in
          let f = child_found p t.mid y c t.then in
          absurd (omega (arith, f.low, gp.shaped.ahead t.mid (reach_within p n gp.shaped u t.mid t.there)))

  next : (i s : ℕ) → i < n → Match p q n m i s → Match p q n m (suc i) (s + count_at p i)
  next i s l v = record {
    in_p = l;
    in_q = lq;
    low = omega (arith, v.low);
    at_p = λ h. gp.shaped.next i h ∙ ap (λ (z : ℕ). z + count_at p i) fp;
    at_q = λ h. gq.shaped.next i h ∙ omega (arith, fq, count);
    end_p = λ h. omega (arith, gp.shaped.last i h, fp);
    end_q = λ h. omega (arith, gq.shaped.last i h, fq, count);
    firsts = λ k h. firsts' k (dec_lt k i) h;
    counts = λ k h. counts' k (dec_lt k i) h;
    scalars = λ c a h. scalars' c a (dec_lt c s) h;
    there = λ c u h e. there' c u (dec_lt c s) h e;
    has = λ c h. has' c (dec_lt c s) h;
  }
    where
      fp : first_at p i ≡ s
      fp = v.at_p l

      i_low : i < s
      i_low = omega (arith, fp, gp.shaped.ahead i l)

      u₀ : List ℕ
      u₀ = (v.has i i_low).path

      ep : reach p u₀ ≡ at i
      ep = (v.has i i_low).leads

      eq : reach q u₀ ≡ at i
      eq = v.there i u₀ i_low ep

      lq : i < m
      lq = reach_within q m gq.shaped u₀ i eq

      fq : first_at q i ≡ s
      fq = v.at_q lq

      f : first_at p i ≡ first_at q i
      f = fp ∙ sym fq

      rp : Rising p (first_at q i) (first_at q i + count_at p i)
      rp = subst (λ (z : ℕ). Rising p z (z + count_at p i)) f (gp.rising i l)

      look : (c : ℕ) → first_at q i ≤ c → c < first_at q i + count_at p i → Hit q (first_at q i) (first_at q i + count_at q i) (scalar_at p c)
      look c a b = look_in p q n m gp same u₀ i l ep eq c (omega (arith, f)) (omega (arith, f))

      look' : (c : ℕ) → first_at q i ≤ c → c < first_at q i + count_at q i → Hit p (first_at q i) (first_at q i + count_at p i) (scalar_at q c)
      look' c a b = subst (λ (z : ℕ). Hit p z (z + count_at p i) (scalar_at q c)) f (look_in q p m n gq (λ w. sym (same w)) u₀ i lq eq ep c a b)

      count : count_at p i ≡ count_at q i
      count = omega (arith, ends_same p q (first_at q i) (first_at q i + count_at p i) (first_at q i + count_at q i) rp (gq.rising i lq) look look' (omega arith) (omega arith))

      block : (c : ℕ) → s ≤ c → c < s + count_at p i → scalar_at p c ≡ scalar_at q c
      block c a b = scalars_same p q (first_at q i) (first_at q i + count_at p i) (first_at q i + count_at q i) rp (gq.rising i lq) look look' c (omega (arith, fq)) (omega (arith, fq))

      firsts' : (k : ℕ) → Dec (k < i) → k < suc i → first_at p k ≡ first_at q k
      firsts' k (yes a) h = v.firsts k a
      firsts' k (no a) h = let z : k ≡ i = omega arith in rw z f

      counts' : (k : ℕ) → Dec (k < i) → k < suc i → count_at p k ≡ count_at q k
      counts' k (yes a) h = v.counts k a
      counts' k (no a) h = let z : k ≡ i = omega arith in rw z count

      scalars' : (c : ℕ) → 1 ≤ c → Dec (c < s) → c < s + count_at p i → scalar_at p c ≡ scalar_at q c
      scalars' c a (yes b) h = v.scalars c a b
      scalars' c a (no b) h = block c (omega arith) h

      has' : (c : ℕ) → Dec (c < s) → c < s + count_at p i → Has p c
      has' c (yes b) h = v.has c b
      has' c (no b) h = record { path = scalar_at p c ∷ u₀; leads = on_path p u₀ i (scalar_at p c) c ep (member p n gp i c l (omega (arith, fp)) (omega (arith, fp))) }

      there' : (c : ℕ) (u : List ℕ) → Dec (c < s) → c < s + count_at p i → reach p u ≡ at c → reach q u ≡ at c
      there' c u (yes b) h e = v.there c u b e
      there' c [] (no b) h e = let z : 0 ≡ c = cc in absurd (omega (arith, v.low))
      there' c (y ∷ u) (no b) h e =
          let t = step p u y c e in
          let k = child_found p t.mid y c t.then in
          let w = reach_within p n gp.shaped u t.mid t.there in
          let z : t.mid ≡ i = one_parent p n gp.shaped t.mid i c w l k.low k.high (omega (arith, fp)) (omega (arith, fp)) in
          let down : reach q u ≡ at i = v.there i u i_low (t.there ∙ ap at z) in
          let y_is : y ≡ scalar_at q c = sym k.is ∙ block c (omega arith) h in
          on_path q u i y c down (ap (child q i) y_is ∙ member q m gq i c lq (omega (arith, fq)) (omega (arith, fq, count)))

  record Whole : Type 0 where
    size : n ≡ m
    all : Match p q n m n n

  run : (f i s : ℕ) → n ≤ i + f → Match p q n m i s → Whole
  run zero i s h v =
      let e : i ≡ n = omega (arith, v.in_p) in
      let z : s ≡ n = v.end_p e in
      let w : Match p q n m n n = subst (λ (k : ℕ). Match p q n m n k) z (subst (λ (k : ℕ). Match p q n m k s) e v) in
      record { size = go w (dec_lt n m); all = w }
    where
      go : Match p q n m n n → Dec (n < m) → n ≡ m
      go w (yes l) = absurd (omega (arith, w.at_q l, gq.shaped.ahead n l))
      go w (no l) = omega (arith, w.in_q)
  run (suc f) i s h v = go (dec_lt i n) (run f)
    where
      go : Dec (i < n) → ((i s : ℕ) → n ≤ i + f → Match p q n m i s → Whole) → Whole
      go (yes l) ih = ih (suc i) (s + count_at p i) (omega arith) (next i s l v)
      go (no l) ih = ih i s (omega arith) v

  whole : Whole
  whole = run n 0 1 (omega arith) begin

  module _ (classes : (v : List ℕ) → term_at p v ≡ term_at q v) where
    mark : (c : ℕ) → c < n → mark_at p c ≡ mark_at q c
    mark c l =
        let w = whole.all in
        let u = (w.has c l).path in
        let e = (w.has c l).leads in
        one_mark (mark_at p c) (mark_at q c) (sym (term_is p u c e) ∙ classes (rev u []) ∙ term_is q u c (w.there c u l e))

    module _ (root : get_or p 3 0 ≡ get_or q 3 0) where
      node : (i r : ℕ) → i < n → r < 4 → get_or p (8 * i + r) 0 ≡ get_or q (8 * i + r) 0
      unfolding scalar_at first_at count_at mark_at
      node i r l h = go (dec_lt r 1) (dec_lt r 2) (dec_lt r 3)
        where
          scalar' : Dec (0 < i) → get_or p (8 * i) 0 ≡ get_or q (8 * i) 0
          scalar' (yes a) = whole.all.scalars i a l
          scalar' (no a) = let z : i ≡ 0 = omega arith in ap (λ (k : ℕ). get_or p (8 * k) 0) z ∙ gp.spare.used ∙ whole.size ∙ sym gq.spare.used ∙ sym (ap (λ (k : ℕ). get_or q (8 * k) 0) z)

          mark' : (i : ℕ) → i < n → get_or p (8 * i + 3) 0 ≡ get_or q (8 * i + 3) 0
          mark' zero l = root
          mark' (suc i) l = mark (suc i) l

          at_r : (k : ℕ) → r ≡ k → get_or p (8 * i + k) 0 ≡ get_or q (8 * i + k) 0 → get_or p (8 * i + r) 0 ≡ get_or q (8 * i + r) 0
          at_r k e t = ap (λ (z : ℕ). get_or p (8 * i + z) 0) e ∙ t ∙ sym (ap (λ (z : ℕ). get_or q (8 * i + z) 0) e)

          go : Dec (r < 1) → Dec (r < 2) → Dec (r < 3) → get_or p (8 * i + r) 0 ≡ get_or q (8 * i + r) 0
          go (yes a) b c = let z : 8 * i + r ≡ 8 * i = omega arith in ap (λ (k : ℕ). get_or p k 0) z ∙ scalar' (dec_lt 0 i) ∙ sym (ap (λ (k : ℕ). get_or q k 0) z)
          go (no a) (yes b) c = at_r 1 (omega arith) (whole.all.firsts i l)
          go (no a) (no b) (yes c) = at_r 2 (omega arith) (whole.all.counts i l)
          go (no a) (no b) (no c) = at_r 3 (omega arith) (mark' i l)

      -- the words, their classes and the root's fourth cell say all of the half
      pub one_half : (i r : ℕ) → r < 4 → get_or p (8 * i + r) 0 ≡ get_or q (8 * i + r) 0
      one_half i r h = go (dec_lt i n)
        where
          go : Dec (i < n) → get_or p (8 * i + r) 0 ≡ get_or q (8 * i + r) 0
          go (yes l) = node i r l h
          go (no l) = gp.spare.blank i r (omega arith) h ∙ sym (gq.spare.blank i r (omega (arith, whole.size)) h)

-- a word leads to each node
pub has_path : (p : List ℕ) (n : ℕ) → Sound p n 0 → (c : ℕ) → c < n → Has p c
has_path p n g c l = (whole p p n n g g (λ v. refl)).all.has c l

-- the words are those with a class
pub holds_term : (p v : List ℕ) → holds p v ≡ is_some (term_at p v)
holds_term p v = go (walk p v 0)
  where
    some' : (m : ℕ) → marked m ≡ is_some (term m)
    some' zero = refl
    some' (suc m) = refl

    go : (q : Place) → on_place false (λ r. marked (mark_at p r)) q ≡ is_some (on_place option.none (λ r. term (mark_at p r)) q)
    go none = refl
    go (at r) = some' (mark_at p r)

-- the words, their classes and the length say all of a plain pool
pub one_pool : (p q : List ℕ) (n m : ℕ) → Sound p n 0 → Sound q m 0 → Plain p → Plain q → ((v : List ℕ) → term_at p v ≡ term_at q v) → length p ≡ length q → p ≡ q
one_pool p q n m gp gq fp fq classes long = ext_get_or 0 p q long (λ k l. go k (dec_lt (k % 8) 4))
  where
    words : (v : List ℕ) → holds p v ≡ holds q v
    words v = holds_term p v ∙ ap is_some (classes v) ∙ sym (holds_term q v)

    split : (k : ℕ) → k ≡ 8 * (k / 8) + k % 8
    split k = omega arith

    go : (k : ℕ) → Dec (k % 8 < 4) → get_or p k 0 ≡ get_or q k 0
    go k (yes r) = ap (λ (z : ℕ). get_or p z 0) (split k) ∙ one_half p q n m gp gq words classes (fp.root ∙ sym fq.root) (k / 8) (k % 8) r ∙ sym (ap (λ (z : ℕ). get_or q z 0) (split k))
    go k (no r) =
        ap (λ (z : ℕ). get_or p z 0) (split k) ∙ fp.aside (k / 8) (k % 8) (omega arith) (omega arith) ∙ sym (fq.aside (k / 8) (k % 8) (omega arith) (omega arith))
        ∙ sym (ap (λ (z : ℕ). get_or q z 0) (split k))
