-- The cluster ends by position. Assumes nothing.
use Prim.Native.Nat.{ℕ, zero, suc, ◌+◌, ◌-◌, ◌≤◌, ◌<◌}
use native.Mathlib.Omega.{arith}
use native.Mathlib.Nat.{add-zero, zero-add, add-suc, suc-add}
use mathlib.Core.Path.{◌≡◌, refl, sym, ◌∙◌, ap}
use mathlib.Core.Bool.{Bool, true, false, ◌||◌}
use mathlib.Core.List.{List, [], ◌∷◌, ◌++◌}
use lib.ListN.{length, get_or, set, drop, replicate, length-append, length-drop, length-set, length-replicate, get_or-replicate, get_or-append}
use lib.Seq.{get_or-set_same, get_or-set_other, get_or-drop, get_or-append-add, ext_get_or}
use lib.Dec.{ltb, eqb}
use borrow.Author.Tests.{ltb-true, ltb-false, eqb-true, eqb-false, ne_eqb}
use Rattle.tcc_rules.specs.Clusters.{cluster_end}
use Rattle.tcc_rules.proofs.Bounds.{Cluster}
use Rattle.tcc_rules.proofs.Ends.{rest, rest_all, rest_next}
use Rattle.tcc_rules.specs.Rising.{Rise}
use Rattle.tcc_rules.proofs.Rising.{rest_rises}
use Rattle.tcc.specs.Flags.{is_in, is_end, flag, flags_from, end_flags}
use Rattle.tcc.proofs.Passes.{matched}

-- ---- flags

flags_long : (f : ℕ → Bool) (p n : ℕ) → length (flags_from f p n) ≡ n
flags_long f p zero = refl
flags_long f p (suc n) = ap suc (flags_long f (suc p) n)

flags_at : (f : ℕ → Bool) (p n k : ℕ) → k < n → get_or (flags_from f p n) k 0 ≡ flag (f (p + k))
flags_at f p zero k h = absurd (omega arith)
flags_at f p (suc n) zero h = ap (λ (i : ℕ). flag (f i)) (sym (add-zero p))
flags_at f p (suc n) (suc k) h = flags_at f (suc p) n k (omega arith) ∙ ap (λ (i : ℕ). flag (f i)) (suc-add p k ∙ sym (add-suc p k))

pub ends_long : (text : List ℕ) → length (end_flags text) ≡ length text + 1
unfolding end_flags
ends_long text = flags_long (is_end text) 0 (suc (length text)) ∙ omega arith

-- what a caller reads at a position of the text
pub ends_at : (text more : List ℕ) (k : ℕ) → k ≤ length text → get_or (end_flags text ++ more) k 0 ≡ flag (is_end text k)
unfolding end_flags
ends_at text more k h =
    get_or-append (flags_from (is_end text) 0 (suc (length text))) more 0 k (omega (arith, flags_long (is_end text) 0 (suc (length text))))
    ∙ flags_at (is_end text) 0 (suc (length text)) k (omega arith)
    ∙ ap (λ (i : ℕ). flag (is_end text i)) (zero-add k)

-- and behind them
ends_behind : (text more : List ℕ) (k : ℕ) → length text < k → get_or (end_flags text ++ more) k 0 ≡ get_or more (k - (length text + 1)) 0
ends_behind text more k h =
    let i : k ≡ length (end_flags text) + (k - (length text + 1)) = omega (arith, ends_long text) in
    ap (λ (j : ℕ). get_or (end_flags text ++ more) j 0) i ∙ get_or-append-add (end_flags text) more (k - (length text + 1)) 0

-- ---- rising numbers

not_in : (p : ℕ) (es : List ℕ) → Rise p es → (k : ℕ) → k ≤ p → is_in k es ≡ false
not_in p [] r k h = refl
not_in p (e ∷ es) r k h = simp (ne_eqb k e (λ z. omega (arith, r.0))) (not_in e es r.1 k (omega (arith, r.0)))

-- ---- the pass

-- the row's cells where the clusters up to p are marked
pub record Marked (text old row : List ℕ) (p : ℕ) : Type 0 where
  pub inside : p ≤ length text
  pub long : length row ≡ length old
  pub later : (k : ℕ) → p < k → is_end text k ≡ is_in k (rest text p)
  pub low : (k : ℕ) → k ≤ p → get_or row k 0 ≡ flag (is_end text k)
  pub mid : (k : ℕ) → p < k → k ≤ length text → get_or row k 0 ≡ 0
  pub high : (k : ℕ) → length text < k → get_or row k 0 ≡ get_or old k 0

end_in : (text : List ℕ) (k : ℕ) → is_end text k ≡ is_in k (rest text 0)
unfolding is_end
end_in text k = ap (is_in k) (rest_all text)

zeros_at : (n : ℕ) (more : List ℕ) (k : ℕ) → k < n → get_or (replicate n 0 ++ more) k 0 ≡ 0
zeros_at n more k h = get_or-append (replicate n 0) more 0 k (omega (arith, length-replicate {A = ℕ} n 0)) ∙ get_or-replicate n k 0 0 h

zeros_behind : (n : ℕ) (old : List ℕ) (k : ℕ) → n ≤ k → get_or (replicate n 0 ++ drop n old) k 0 ≡ get_or old k 0
zeros_behind n old k h =
    let i : k ≡ length (replicate {A = ℕ} n 0) + (k - n) = omega (arith, length-replicate {A = ℕ} n 0) in
    let j : n + (k - n) ≡ k = omega arith in
    ap (λ (q : ℕ). get_or (replicate n 0 ++ drop n old) q 0) i ∙ get_or-append-add (replicate n 0) (drop n old) (k - n) 0 ∙ get_or-drop n old (k - n) 0 ∙ ap (λ (q : ℕ). get_or old q 0) j

pub marked_none : {text old row : List ℕ} → length text < length old → row ≡ replicate (length text + 1) 0 ++ drop (length text + 1) old → Marked text old row 0
marked_none {text} {old} {row} h e =
    record {
      inside = omega arith;
      long = omega (arith, ap length e, length-append (replicate {A = ℕ} (length text + 1) 0) (drop (length text + 1) old), length-replicate {A = ℕ} (length text + 1) 0, length-drop (length text + 1) old);
      later = λ k i. end_in text k;
      low =
          λ k i.
          ap (λ (l : List ℕ). get_or l k 0) e ∙ zeros_at (length text + 1) (drop (length text + 1) old) k (omega arith)
          ∙ sym (ap flag (end_in text k ∙ not_in 0 (rest text 0) (rest_rises text 0 (omega arith)) k i));
      mid = λ k i j. ap (λ (l : List ℕ). get_or l k 0) e ∙ zeros_at (length text + 1) (drop (length text + 1) old) k (omega arith);
      high = λ k i. ap (λ (l : List ℕ). get_or l k 0) e ∙ zeros_behind (length text + 1) old k (omega arith);
    }

module _ {text old row : List ℕ} {p e : ℕ} (room : length text < length old) (m : Marked text old row p) (i : p < length text) (h : e ≡ cluster_end text p) where
  next_in : (k : ℕ) → p < k → is_end text k ≡ (eqb k e || is_in k (rest text e))
  next_in k j = m.later k j ∙ ap (is_in k) (rest_next text p i ∙ ap (λ (q : ℕ). q ∷ rest text q) (sym h))

  next_same : (k : ℕ) → (k ≡ e → ⊥) → get_or (set row e 1) k 0 ≡ get_or row k 0
  next_same k j = get_or-set_other row e k 1 0 j

  next_low : (k : ℕ) → k ≤ e → get_or (set row e 1) k 0 ≡ flag (is_end text k)
  next_low k j = go (eqb k e) refl (ltb p k) refl
    where
      c : Cluster text p e
      c = matched i h

      go : (b : Bool) → eqb k e ≡ b → (l : Bool) → ltb p k ≡ l → get_or (set row e 1) k 0 ≡ flag (is_end text k)
      go true b l q =
          let s = eqb-true k e b in
          ap (λ (x : ℕ). get_or (set row e 1) x 0) s ∙ get_or-set_same row e 1 0 (omega (arith, m.long, c.inside))
          ∙ sym (ap flag (next_in k (omega (arith, c.past)) ∙ ap (λ (x : Bool). x || is_in k (rest text e)) b))
      go false b true q =
          let s = eqb-false k e b in
          let t = ltb-true p k q in
          next_same k s ∙ m.mid k t (omega (arith, c.inside))
          ∙ sym (ap flag (next_in k t ∙ ap (λ (x : Bool). x || is_in k (rest text e)) b ∙ not_in e (rest text e) (rest_rises text e c.inside) k j))
      go false b false q = next_same k (eqb-false k e b) ∙ m.low k (ltb-false p k q)

  pub marked_next : Marked text old (set row e 1) e
  marked_next =
      let c = matched i h in
      record {
        inside = c.inside;
        long = length-set row e 1 ∙ m.long;
        later = λ k j. next_in k (omega (arith, c.past)) ∙ ap (λ (x : Bool). x || is_in k (rest text e)) (ne_eqb k e (λ z. omega arith));
        low = next_low;
        mid = λ k j n. next_same k (λ z. omega arith) ∙ m.mid k (omega (arith, c.past)) n;
        high = λ k j. next_same k (λ z. omega (arith, c.inside)) ∙ m.high k j;
      }

pub marked_all : {text old row : List ℕ} {p : ℕ} → length text < length old → Marked text old row p → length text ≤ p → row ≡ end_flags text ++ drop (length text + 1) old
marked_all {text} {old} {row} {p} room m h = ext_get_or 0 row (end_flags text ++ drop (length text + 1) old) same cells
  where
    same : length row ≡ length (end_flags text ++ drop (length text + 1) old)
    same = omega (arith, m.long, length-append (end_flags text) (drop (length text + 1) old), ends_long text, length-drop (length text + 1) old)

    cells : (k : ℕ) → k < length row → get_or row k 0 ≡ get_or (end_flags text ++ drop (length text + 1) old) k 0
    cells k i = go (ltb (length text) k) refl
      where
        go : (b : Bool) → ltb (length text) k ≡ b → get_or row k 0 ≡ get_or (end_flags text ++ drop (length text + 1) old) k 0
        go true b =
            let t = ltb-true (length text) k b in
            let j : length text + 1 + (k - (length text + 1)) ≡ k = omega arith in
            m.high k t
            ∙ sym (ends_behind text (drop (length text + 1) old) k t ∙ get_or-drop (length text + 1) old (k - (length text + 1)) 0 ∙ ap (λ (q : ℕ). get_or old q 0) j)
        go false b =
            let t = ltb-false (length text) k b in
            m.low k (omega arith) ∙ sym (ends_at text (drop (length text + 1) old) k t)
