-- Laws of the ends of levels: where a word leads lies in the level of its length. Assumes nothing.
use mathlib.Core.Path.{◌≡◌, refl, sym, ap, ◌∙◌}
use mathlib.Core.Bool.{Bool, not, cond}
use mathlib.Core.List.{List, [], ◌∷◌}
use Prim.Native.Nat.{ℕ, zero, suc, ◌+◌, ◌-◌, ◌≤◌, ◌<◌}
use native.Mathlib.Omega.{arith}
use native.Mathlib.Decide.{dec_lt}
use borrow.Author.Tests.{lt-ltb, le-ltb}
use lib.ListN.{length}
use Rattle.trie_pool.specs.Cells.{first_at, count_at}
use Rattle.trie_pool.specs.inner.Paths.{reach}
use Rattle.trie_pool.specs.inner.Sound.{Shaped}
use Rattle.trie_pool.specs.Levels.{hop, level_end}
use Rattle.trie_pool.specs.Words.{at}
use Rattle.trie_pool.proofs.Shape.{apart, within, step, child_found, reach_within}

pub hop_first : (p : List ℕ) (n e : ℕ) → e < n → hop p n e ≡ first_at p e
hop_first p n e l = ap (λ (t : Bool). cond t (first_at p e) e) (lt-ltb e n l)

pub hop_stay : (p : List ℕ) (n e : ℕ) → n ≤ e → hop p n e ≡ e
hop_stay p n e l = ap (λ (t : Bool). cond t (first_at p e) e) (le-ltb e n l)

pub ends_zero : (p : List ℕ) (n : ℕ) → level_end p n 0 ≡ 1
unfolding level_end
ends_zero p n = refl

pub ends_suc : (p : List ℕ) (n d : ℕ) → level_end p n (suc d) ≡ hop p n (level_end p n d)
unfolding level_end
ends_suc p n d = refl

module _ (p : List ℕ) (n : ℕ) (s : Shaped p n) where
  pub ends_upto : (d : ℕ) → level_end p n d ≤ n
  ends_upto zero = omega (arith, ends_zero p n, s.some)
  ends_upto (suc d) = go (ends_upto d) (dec_lt (level_end p n d) n)
    where
      go : level_end p n d ≤ n → Dec (level_end p n d < n) → level_end p n (suc d) ≤ n
      go ih (yes l) = omega (arith, ends_suc p n d, hop_first p n (level_end p n d) l, within p n s (level_end p n d) l)
      go ih (no l) = omega (arith, ends_suc p n d, hop_stay p n (level_end p n d) (omega arith))

  ends_step : (d : ℕ) → level_end p n d ≤ level_end p n (suc d)
  ends_step d = go (dec_lt (level_end p n d) n)
    where
      go : Dec (level_end p n d < n) → level_end p n d ≤ level_end p n (suc d)
      go (yes l) = omega (arith, ends_suc p n d, hop_first p n (level_end p n d) l, s.ahead (level_end p n d) l)
      go (no l) = omega (arith, ends_suc p n d, hop_stay p n (level_end p n d) (omega arith))

  pub ends_mono : (d k : ℕ) → d ≤ k → level_end p n d ≤ level_end p n k
  ends_mono d zero h = let e : d ≡ 0 = omega arith in rw e (omega arith)
  ends_mono d (suc k) h = go (dec_lt k d) (ends_mono d k)
    where
      go : Dec (k < d) → (d ≤ k → level_end p n d ≤ level_end p n k) → level_end p n d ≤ level_end p n (suc k)
      go (yes l) ih = let e : d ≡ suc k = omega arith in rw e (omega arith)
      go (no l) ih = omega (arith, ih (omega arith), ends_step k)

  -- the first child of a node not before e is not before that of e
  pub first_mono : (e i : ℕ) → e ≤ i → i < n → first_at p e ≤ first_at p i
  first_mono e i l h = go (dec_lt e i)
    where
      go : Dec (e < i) → first_at p e ≤ first_at p i
      go (yes q) = omega (arith, apart p n s e i q h)
      go (no q) = let z : e ≡ i = omega arith in rw z (omega arith)

  -- the block of a node before e ends before the children of e
  pub block_before : (e i : ℕ) → i < e → e ≤ n → first_at p i + count_at p i ≤ hop p n e
  block_before e i l h = go (dec_lt e n)
    where
      go : Dec (e < n) → first_at p i + count_at p i ≤ hop p n e
      go (yes q) = omega (arith, hop_first p n e q, apart p n s i e l q)
      go (no q) = omega (arith, hop_stay p n e (omega arith), within p n s i (omega arith))

  pub level_high : (u : List ℕ) (r : ℕ) → reach p u ≡ at r → r < level_end p n (length u)
  level_high [] r e = let z : 0 ≡ r = cc in omega (arith, ends_zero p n)
  level_high (x ∷ u) r e =
      let q = step p u x r e in
      let f = child_found p q.mid x r q.then in
      omega (arith, f.high, block_before (level_end p n (length u)) q.mid (level_high u q.mid q.there) (ends_upto (length u)), ends_suc p n (length u))

  pub level_low : (x : ℕ) (u : List ℕ) (r : ℕ) → reach p (x ∷ u) ≡ at r → level_end p n (length u) ≤ r
  level_low x [] r e =
      let q = step p [] x r e in
      let z : 0 ≡ q.mid = cc q.there in
      let f = child_found p q.mid x r q.then in
      let g : first_at p q.mid ≡ 1 = ap (first_at p) (sym z) ∙ s.start in
      omega (arith, f.low, ends_zero p n)
  level_low x (y ∷ u) r e =
      let q = step p (y ∷ u) x r e in
      let f = child_found p q.mid x r q.then in
      let i = level_low y u q.mid q.there in
      let w = reach_within p n s (y ∷ u) q.mid q.there in
      let k : level_end p n (length u) < n = omega arith in
      omega (arith, f.low, first_mono (level_end p n (length u)) q.mid i w, ends_suc p n (length u), hop_first p n (level_end p n (length u)) k)
