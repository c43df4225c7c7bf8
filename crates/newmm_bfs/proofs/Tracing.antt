-- Ways by predecessors, read from their end. Assumes nothing.
use Prim.Native.Nat.{ℕ, suc, ◌+◌, ◌*◌, ◌-◌, ◌≤◌, ◌<◌}
use native.Mathlib.Omega.{arith}
use native.Mathlib.Numerals.{add-one}
use mathlib.Core.Path.{◌≡◌, refl, sym, ◌∙◌, ap, subst}
use mathlib.Core.List.{List, [], ◌∷◌, ◌++◌, append-nil, append_assoc}
use lib.ListN.{length, get_or, set, take, drop, length-append, length-drop, take-append-drop}
use lib.Seq.{append_snoc, take-suc, set_at, take_at, drop_at, length-take-le, get_or-append-add, get_or-drop, take-suc-set, drop-drop, get_or-set_other, drop-set-lt, take-take}
use Rattle.newmm_bfs.specs.inner.Strips.{Sized, before, Start, Kept, Path}
use Rattle.newmm_bfs.specs.inner.Ways.{Trace, home, step, Traced, TracedBy, Reaches}

-- a way is no longer than its span, so it has come home where it has no vertex left
pub short : {f : ℕ → ℕ} {a x : ℕ} {es : List ℕ} → Trace f a x es → a + length es ≤ x
short home = omega arith
short (step {x = x} {es = es} l e d t) = omega (arith, short t, ap length d, length-append es (x ∷ []))

-- the last step of a way that is not home
pub record Step (f : ℕ → ℕ) (a x : ℕ) (es : List ℕ) : Type 0 where
  pub from : ℕ
  pub front : List ℕ
  pub less : from < x
  pub pred : f x ≡ from + 1
  pub is : es ≡ front ++ (x ∷ [])
  pub trace : Trace f a from front

pub last_step : {f : ℕ → ℕ} {a x : ℕ} {es : List ℕ} → Trace f a x es → (x ≡ a → ⊥) → Step f a x es
last_step home n = absurd (n refl)
last_step (step {v = v} {es = es} l e d t) n = record { from = v; front = es; less = l; pred = e; is = d; trace = t }

pub some_step : {f : ℕ → ℕ} {a x : ℕ} {es : List ℕ} → Trace f a x es → 0 < length es → Step f a x es
some_step home h = absurd (omega arith)
some_step (step {v = v} {es = es} l e d t) h = record { from = v; front = es; less = l; pred = e; is = d; trace = t }

-- predecessors give one way of each length
pub one_way : {f : ℕ → ℕ} {a b x : ℕ} {es ds : List ℕ} → Trace f a x es → Trace f b x ds → length es ≡ length ds → es ≡ ds
one_way home home h = refl
one_way home (step {x = x} {es = es} l e d t) h = absurd (omega (arith, ap length d, length-append es (x ∷ [])))
one_way (step {x = x} {es = es} l e d t) home h = absurd (omega (arith, ap length d, length-append es (x ∷ [])))
one_way {f} {b = b} (step {v = v} {x = x} {es = es} l e d t) (step {v = u} {es = fs} k q c s) h =
    let w : v ≡ u = omega arith in
    let n : length es ≡ length fs = omega (arith, ap length d, ap length c, length-append es (x ∷ []), length-append fs (x ∷ [])) in
    d ∙ ap (λ (l : List ℕ). l ++ (x ∷ [])) (one_way t (subst (λ (y : ℕ). Trace f b y fs) (sym w) s) n) ∙ sym c

one_home_at : {f : ℕ → ℕ} {a b x : ℕ} {es ds : List ℕ} → Trace f a x es → Trace f b x ds → a ≡ b → length es ≡ length ds
one_home_at home home q = refl
one_home_at home (step l e d t) q = absurd (omega (arith, short t))
one_home_at (step l e d t) home q = absurd (omega (arith, short t))
one_home_at {f} {a} {b} (step {v = v} {x = x} {es = es} l e d t) (step {v = u} {es = fs} k q c s) n =
    let w : v ≡ u = omega arith in
    omega (arith, one_home_at t (subst (λ (y : ℕ). Trace f b y fs) (sym w) s) n, ap length d, ap length c, length-append es (x ∷ []), length-append fs (x ∷ []))

pub one_home : {f : ℕ → ℕ} {a x : ℕ} {es ds : List ℕ} → Trace f a x es → Trace f a x ds → length es ≡ length ds
one_home t u = one_home_at t u refl

-- ---- counting them

-- k vertices of the way to v are counted, and the rest is the way to x
pub record Counting (f : ℕ → ℕ) (a v k x : ℕ) : Type 0 where
  pub front : List ℕ
  pub trace : Trace f a x front
  pub whole : (ends : List ℕ) → Trace f a v ends → length ends ≡ length front + k
  pub most : x + k ≤ v

module _ {f : ℕ → ℕ} {a v : ℕ} where
  pub count_none : (ends : List ℕ) → Trace f a v ends → Counting f a v 0 v
  count_none ends t = record { front = ends; trace = t; whole = λ es u. omega (arith, one_home u t); most = omega arith }

  pub count_more : {k x p : ℕ} (c : Counting f a v k x) → (x ≡ a → ⊥) → p ≡ f x → (0 < p) × (p - 1 < x) × Counting f a v (k + 1) (p - 1)
  count_more {k} {x} {p} c n e =
      let s = last_step c.trace n in
      let q : s.from ≡ p - 1 = omega (arith, s.pred) in (
        omega (arith, s.pred),
        omega (arith, s.less),
        record {
          front = s.front;
          trace = subst (λ (y : ℕ). Trace f a y s.front) q s.trace;
          whole = λ es u. omega (arith, c.whole es u, ap length s.is, length-append s.front (x ∷ []));
          most = omega (arith, c.most, s.less);
        },
      )

  pub count_all : {k x : ℕ} (c : Counting f a v k x) → x ≡ a → (ends : List ℕ) → Trace f a v ends → k ≡ length ends
  count_all c e ends t = omega (arith, c.whole ends t, short c.trace)

-- ---- writing them

-- behind the cells that were replaced, a row is as it was
pub past_same : (F row : List ℕ) (c j : ℕ) → length F ≡ c → c ≤ j → get_or (F ++ drop c row) j 0 ≡ get_or row j 0
past_same F row c j e h =
    let q : length F + (j - c) ≡ j = omega arith in
    let p : c + (j - c) ≡ j = omega arith in
    ap (λ (i : ℕ). get_or (F ++ drop c row) i 0) (sym q) ∙ get_or-append-add F (drop c row) (j - c) 0 ∙ get_or-drop c row (j - c) 0 ∙ ap (λ (i : ℕ). get_or row i 0) p

-- the vertices from i on are written, and the rest is the way to x
pub record Putting (row₀ row : List ℕ) (m v count k i x : ℕ) : Type 0 where
  pub a : ℕ
  pub ends : List ℕ
  pub whole : Trace (before row₀ m) a v ends
  pub size : k ≡ length ends
  pub front : List ℕ
  pub done : List ℕ
  pub split : ends ≡ front ++ done
  pub trace : Trace (before row₀ m) a x front
  pub place : i ≡ count + length front
  pub most : x ≤ v
  pub is : row ≡ take i row₀ ++ (done ++ drop (count + k) row₀)

module _ {row₀ : List ℕ} {m v count k : ℕ} (room : count + k < m) (sized : Sized row₀ m) where
  pub put_none : TracedBy row₀ m v k → Putting row₀ row₀ m v count k (count + k) v
  put_none t =
      record {
        a = t.start;
        ends = t.ends;
        whole = t.trace;
        size = t.size;
        front = t.ends;
        done = [];
        split = sym (append-nil t.ends);
        trace = t.trace;
        place = omega (arith, t.size);
        most = omega arith;
        is = sym (take-append-drop (count + k) row₀);
      }

  module _ {row : List ℕ} {i x : ℕ} (p : Putting row₀ row m v count k i x) where
    pub bound : i ≤ count + k
    bound = omega (arith, p.place, p.size, ap length p.split, length-append p.front p.done)

    size_row : length row ≡ length row₀
    size_row =
        ap length p.is ∙ length-append (take i row₀) (p.done ++ drop (count + k) row₀)
        ∙ omega (arith, bound, length-take-le i row₀ (omega (arith, bound, sized.long)), length-append p.done (drop (count + k) row₀), length-drop (count + k) row₀, p.place, p.size, ap length p.split, length-append p.front p.done, sized.long)

    pub same_size : length row ≡ length row₀
    same_size = size_row

    module _ (more : count < i) where
      last : Step (before row₀ m) p.a x p.front
      last = some_step p.trace (omega (arith, p.place))

      pub back : i ≡ suc (i - 1)
      back = omega arith

      -- the next one, from the back
      put_is : set row (i - 1) x ≡ take (i - 1) row₀ ++ ((x ∷ p.done) ++ drop (count + k) row₀)
      put_is =
          let Z = p.done ++ drop (count + k) row₀ in
          let e : take i row₀ ≡ take (i - 1) row₀ ++ (get_or row₀ (i - 1) 0 ∷ []) = ap (λ (j : ℕ). take j row₀) back ∙ take-suc row₀ (i - 1) 0 (omega (arith, bound, sized.long)) in
          ap (λ (l : List ℕ). set l (i - 1) x) (p.is ∙ ap (λ (l : List ℕ). l ++ Z) e ∙ append_snoc (take (i - 1) row₀) (get_or row₀ (i - 1) 0) Z)
          ∙ set_at (take (i - 1) row₀) (get_or row₀ (i - 1) 0) Z x (i - 1) (length-take-le (i - 1) row₀ (omega (arith, bound, sized.long)))

      pub index : i - 1 < length row
      index = omega (arith, size_row, bound, sized.long)

      filled : length (take i row₀ ++ p.done) ≡ count + k
      filled =
          length-append (take i row₀) p.done
          ∙ omega (arith, length-take-le i row₀ (omega (arith, bound, sized.long)), p.place, p.size, ap length p.split, length-append p.front p.done)

      pred_same : (y : ℕ) → get_or (set row (i - 1) y) (2 * m + x) 0 ≡ before row₀ m x
      pred_same y =
          get_or-set_other row (i - 1) (2 * m + x) y 0 (λ e. omega (arith, bound))
          ∙ ap (λ (l : List ℕ). get_or l (2 * m + x) 0) (p.is ∙ sym (append_assoc (take i row₀) p.done (drop (count + k) row₀)))
          ∙ past_same (take i row₀ ++ p.done) row₀ (count + k) (2 * m + x) filled (omega arith)

      pub put_more : (y w : ℕ) → y ≡ x → w ≡ get_or (set row (i - 1) y) (2 * m + x) 0 → (0 < w) × Putting row₀ (set row (i - 1) y) m v count k (i - 1) (w - 1)
      put_more y w e f =
          let o = last in
          let g : w ≡ o.from + 1 = f ∙ pred_same y ∙ o.pred in
          let h : o.from ≡ w - 1 = omega arith in (
            omega arith,
            record {
              a = p.a;
              ends = p.ends;
              whole = p.whole;
              size = p.size;
              front = o.front;
              done = x ∷ p.done;
              split = p.split ∙ ap (λ (l : List ℕ). l ++ p.done) o.is ∙ append_snoc o.front x p.done;
              trace = subst (λ (z : ℕ). Trace (before row₀ m) p.a z o.front) h o.trace;
              place = omega (arith, p.place, ap length o.is, length-append o.front (x ∷ []));
              most = omega (arith, p.most, o.less);
              is = ap (λ (z : ℕ). set row (i - 1) z) e ∙ put_is;
            },
          )

    pub put_all : i ≤ count → (start : ℕ) (ends : List ℕ) → Trace (before row₀ m) start v ends → k ≡ length ends → row ≡ take count row₀ ++ (ends ++ drop (count + k) row₀)
    put_all h start ends t e =
        let n : length p.front ≡ 0 = omega (arith, p.place) in
        let q : i ≡ count = omega (arith, p.place) in
        p.is ∙ ap (λ (j : ℕ). take j row₀ ++ (p.done ++ drop (count + k) row₀)) q
        ∙ ap (λ (l : List ℕ). take count row₀ ++ (l ++ drop (count + k) row₀)) (sym (p.split ∙ ap (λ (l : List ℕ). l ++ p.done) (empty p.front n)) ∙ one_way p.whole t (sym p.size ∙ e))
      where
        empty : (l : List ℕ) → length l ≡ 0 → l ≡ []
        empty [] z = refl
        empty (y ∷ l) z = absurd (omega arith)

-- ---- the path and the goal

module _ {row row₁ row₂ : List ℕ} {m start goal v count k : ℕ} (room : goal < m) (sized : Sized row m) (size : length row₁ ≡ length row) (kept : Kept m goal row row₁) (r : Reaches row row₁ m start goal v)
    (few : count ≤ start) (long : k ≡ length r.ends) (put : row₂ ≡ take count row₁ ++ (r.ends ++ drop (count + k) row₁)) where
  pub k_short : count + k ≤ v
  k_short = omega (arith, short r.trace, long, few)

  k_below : count + k < goal
  k_below = omega (arith, k_short, r.below)

  front_size : length (take count row₁ ++ r.ends) ≡ count + k
  front_size = length-append (take count row₁) r.ends ∙ omega (arith, length-take-le count row₁ (omega (arith, k_below, sized.long)), long)

  put_flat : row₂ ≡ (take count row₁ ++ r.ends) ++ drop (count + k) row₁
  put_flat = put ∙ sym (append_assoc (take count row₁) r.ends (drop (count + k) row₁))

  size₂ : length row₂ ≡ length row₁
  size₂ = ap length put_flat ∙ length-append (take count row₁ ++ r.ends) (drop (count + k) row₁) ∙ omega (arith, front_size, length-drop (count + k) row₁, k_below, sized.long)

  pub index₂ : count + k < length row₂
  index₂ = omega (arith, size₂, k_below, sized.long)

  pub path_is : (y : ℕ) → y ≡ goal → Path row (set row₂ (count + k) y) m start goal count (count + k + 1)
  path_is y e =
      let K = k_below in
      let low : take count row₁ ≡ take count row =
      sym (take-take count m row₁ (omega arith)) ∙ ap (take count) kept.low ∙ take-take count m row (omega arith)
      in
      let ends : take (count + k) row₂ ≡ take count row ++ r.ends =
      ap (take (count + k)) put_flat ∙ take_at (take count row₁ ++ r.ends) (drop (count + k) row₁) (count + k) front_size ∙ ap (λ (l : List ℕ). l ++ r.ends) low
      in
      record {
        number = omega (arith, ap length r.is, length-append r.ends (goal ∷ []), long);
        ends = ap (λ (j : ℕ). take j (set row₂ (count + k) y)) (add-one (count + k)) ∙ take-suc-set row₂ (count + k) y index₂
            ∙ ap (λ (l : List ℕ). l ++ (y ∷ [])) ends ∙ append_assoc (take count row) r.ends (y ∷ [])
            ∙ ap (λ (z : ℕ). take count row ++ (r.ends ++ (z ∷ []))) e ∙ ap (λ (l : List ℕ). take count row ++ l) (sym r.is);
        few = omega arith;
        high = drop-set-lt (3 * m) row₂ (count + k) y (omega arith) ∙ back ∙ kept.high;
        later = λ x l b.
            get_or-set_other row₂ (count + k) (2 * m + x) y 0 (λ q. omega arith)
            ∙ ap (λ (l : List ℕ). get_or l (2 * m + x) 0) put_flat ∙ past_same (take count row₁ ++ r.ends) row₁ (count + k) (2 * m + x) front_size (omega arith) ∙ kept.later x l b;
      }
    where
      back : drop (3 * m) row₂ ≡ drop (3 * m) row₁
      back =
          let K = k_below in
          let q : count + k + (3 * m - (count + k)) ≡ 3 * m = omega arith in
          ap (λ (j : ℕ). drop j row₂) (sym q) ∙ sym (drop-drop (3 * m - (count + k)) (count + k) row₂)
          ∙ ap (drop (3 * m - (count + k))) (ap (drop (count + k)) put_flat ∙ drop_at (take count row₁ ++ r.ends) (drop (count + k) row₁) (count + k) front_size)
          ∙ drop-drop (3 * m - (count + k)) (count + k) row₁ ∙ ap (λ (j : ℕ). drop j row₁) q

-- ---- what the search found

module _ {row row₁ : List ℕ} {m start goal v : ℕ} (s : Start row m start goal) (size : length row₁ ≡ length row) (r : Reaches row row₁ m start goal v) where
  still_sized : Sized row₁ m
  still_sized = record { small = s.sized.small; long = omega (arith, s.sized.long) }

  pub asks_length : Sized row₁ m × ((v < m) × Traced row₁ m start v)
  asks_length = (still_sized, (omega (arith, r.below, s.inside), record { ends = r.ends; trace = r.trace }))

  pub asks_put : (count k : ℕ) → count ≤ start → k ≡ length r.ends → Sized row₁ m × (((v < m) × (count + k < m)) × TracedBy row₁ m v k)
  asks_put count k h e =
      (still_sized, ((omega (arith, r.below, s.inside), omega (arith, short r.trace, r.below, s.inside)), record { start = start; ends = r.ends; trace = r.trace; size = e }))
