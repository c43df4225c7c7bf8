-- A word is trimmed exactly if neither its first nor its last character is. Assumes nothing.
use Prim.Native.Nat.{ℕ, zero, suc, ◌+◌, ◌-◌, ◌≤◌, ◌<◌}
use native.Mathlib.Omega.{arith}
use mathlib.Core.Path.{◌≡◌, refl, sym, ap, ◌∙◌}
use mathlib.Core.Bool.{Bool, true, false, not, cond}
use mathlib.Core.List.{List, [], ◌∷◌}
use borrow.Author.Tests.{not-true}
use lib.Dec.{eqb, eqb-suc-zero}
use lib.ListN.{length, get_or, take, drop, length-drop}
use lib.Seq.{length-take-le, take-length, get_or-take, get_or-drop}
use Rattle.lists.specs.Scans.{leading, behind_last}
use Rattle.lists.proofs.Scans.{passed_none, passed_stop, left_all, left_stop, leading_inside, last_inside}
use Rattle.char_string_scalars.specs.Scalars.{is_scalar, first_non_scalar}
use Rattle.char_string_white_space.specs.Trimmed.{is_trimmed}
use Rattle.char_string_trim.specs.Trimming.{stays, trim_start, trimmed_of}

-- ---- where scans stop

leading_stop : (p : ℕ → Bool) (s : List ℕ) → leading p s < length s → p (get_or s (leading p s) 0) ≡ false
unfolding leading
leading_stop p [] h = absurd (omega arith)
leading_stop p (x ∷ s) h = go (p x) refl h (leading_stop p s)
  where
    go : (b : Bool) → p x ≡ b → cond b (suc (leading p s)) 0 < suc (length s) → (leading p s < length s → p (get_or s (leading p s) 0) ≡ false) → p (get_or (x ∷ s) (cond b (suc (leading p s)) 0) 0) ≡ false
    go true e l ih = ih (omega arith)
    go false e l ih = e

leading_all : (p : ℕ → Bool) (s : List ℕ) → length s ≤ leading p s → (i : ℕ) → i < length s → p (get_or s i 0) ≡ true
unfolding leading
leading_all p [] h i l = absurd (omega arith)
leading_all p (x ∷ s) h i l = go (p x) refl h i l (leading_all p s)
  where
    go : (b : Bool) → p x ≡ b → suc (length s) ≤ cond b (suc (leading p s)) 0 → (i : ℕ) → i < suc (length s) → (length s ≤ leading p s → (i : ℕ) → i < length s → p (get_or s i 0) ≡ true) → p (get_or (x ∷ s) i 0) ≡ true
    go true e m zero l ih = e
    go true e m (suc i) l ih = ih (omega arith) i (omega arith)
    go false e m i l ih = absurd (omega arith)

last_is : (p : ℕ → Bool) (s : List ℕ) (k : ℕ) → behind_last p s ≡ suc k → p (get_or s k 0) ≡ true
unfolding behind_last
last_is p [] k h = absurd (omega arith)
last_is p (x ∷ s) k h = go (behind_last p s) refl (p x) refl h (last_is p s)
  where
    go : (m : ℕ) → behind_last p s ≡ m → (b : Bool) → p x ≡ b → cond (eqb m 0) (cond b 1 0) (suc m) ≡ suc k → ((j : ℕ) → behind_last p s ≡ suc j → p (get_or s j 0) ≡ true) → p (get_or (x ∷ s) k 0) ≡ true
    go zero e true t h ih = let z : k ≡ 0 = omega arith in ap (λ (i : ℕ). p (get_or (x ∷ s) i 0)) z ∙ t
    go zero e false t h ih = absurd (omega arith)
    go (suc m) e b t h ih =
        let y : suc (suc m) ≡ suc k = sym (ap (λ (v : Bool). cond v (cond b 1 0) (suc (suc m))) (eqb-suc-zero m)) ∙ h in
        let z : k ≡ suc m = omega arith in
        ap (λ (i : ℕ). p (get_or (x ∷ s) i 0)) z ∙ ih m e

-- ---- a trimmed word

pub record Edges (w : List ℕ) : Type 0 where
  pub start : is_trimmed (get_or w 0 0) ≡ false
  pub stop : is_trimmed (get_or w (length w - 1) 0) ≡ false

-- a word whose edges stay is as trimming leaves it
pub trimmed_is : (w : List ℕ) → 1 ≤ length w → Edges w → trimmed_of w ≡ w
unfolding trimmed_of
trimmed_is w some e =
    let a : 0 ≡ trim_start w = passed_stop (passed_none is_trimmed w) some e.start in
    let b : length w ≡ behind_last stays w = left_stop (left_all stays w (length w) refl) some (ap not e.stop) in
    let c : 0 + behind_last stays w - 0 ≡ length w = omega arith in
    sym (ap (λ (z : ℕ). take (z + behind_last stays (drop z w) - z) (drop z w)) a) ∙ ap (λ (z : ℕ). take z w) c ∙ take-length w

-- the part that is left, by where it starts and how long it is
pub record Left (word w : List ℕ) : Type 0 where
  pub from : ℕ
  pub is : (i : ℕ) → i < length w → get_or w i 0 ≡ get_or word (from + i) 0
  pub inside : from + length w ≤ length word

pub left_of : (word : List ℕ) → Left word (trimmed_of word)
unfolding trimmed_of
left_of word =
    let a = trim_start word in
    let k = behind_last stays (drop a word) in
    let s = leading_inside is_trimmed word in
    let m = last_inside stays (drop a word) in
    let d = length-drop a word in
    let e : a + k - a ≡ k = omega arith in
    let l : length (take (a + k - a) (drop a word)) ≡ k = length-take-le (a + k - a) (drop a word) (omega arith) ∙ e in
    record {
      from = a;
      is = λ i h. get_or-take (a + k - a) (drop a word) i 0 (omega arith) ∙ get_or-drop a word i 0;
      inside = omega arith;
    }

pub edges_of : (word : List ℕ) → 1 ≤ length (trimmed_of word) → Edges (trimmed_of word)
unfolding trimmed_of
edges_of word some =
    let a = trim_start word in
    let k = behind_last stays (drop a word) in
    let s = leading_inside is_trimmed word in
    let m = last_inside stays (drop a word) in
    let d = length-drop a word in
    let e : a + k - a ≡ k = omega arith in
    let l : length (take (a + k - a) (drop a word)) ≡ k = length-take-le (a + k - a) (drop a word) (omega arith) ∙ e in
    let z : a + 0 ≡ a = omega arith in
    let j : length (take (a + k - a) (drop a word)) - 1 ≡ k - 1 = omega arith in
    record {
      start = ap is_trimmed (get_or-take (a + k - a) (drop a word) 0 0 (omega arith) ∙ get_or-drop a word 0 0 ∙ ap (λ (i : ℕ). get_or word i 0) z) ∙ leading_stop is_trimmed word (omega arith);
      stop = ap (λ (i : ℕ). is_trimmed (get_or (take (a + k - a) (drop a word)) i 0)) j
          ∙ ap is_trimmed (get_or-take (a + k - a) (drop a word) (k - 1) 0 (omega arith))
          ∙ not-true _ (last_is stays (drop a word) (k - 1) (omega arith));
    }

-- ---- scalar values

pub legal_of : (word : List ℕ) → length word ≤ first_non_scalar word → (i : ℕ) → i < length (trimmed_of word) → is_scalar (get_or (trimmed_of word) i 0) ≡ true
legal_of word h i l = let p = left_of word in ap is_scalar (p.is i l) ∙ leading_all is_scalar word h (p.from + i) (omega (arith, p.inside))
