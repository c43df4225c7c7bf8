-- The figures of one text as they are counted. Assumes nothing.
use Prim.Native.Nat.{ℕ, zero, suc, ◌+◌, ◌%◌, ◌≤◌, ◌<◌}
use native.Mathlib.Omega.{arith}
use mathlib.Core.Path.{◌≡◌, refl, sym, ◌∙◌, ap, subst}
use mathlib.Core.Bool.{Bool, true, false, cond}
use mathlib.Core.List.{List, [], ◌∷◌, ◌++◌, map}
use lib.ListN.{length, get_or, set, take, length-map}
use lib.Seq.{length-take-le, take-suc, take_all}
use lib.Dec.{eqb}
use borrow.Author.Tests.{eq-eqb}
use Rattle.newmm_reasons_answers.proofs.Told.{map_two}
use Rattle.figures_rules.specs.Outcomes.{how_often, of_cut, of_refused, Reason, Reasons}
use Rattle.figures_cells.specs.inner.Reasons.{reasons_in}

-- ---- a text that was cut

-- the figures with so many tokens, of which these have been counted by their reasons
abbrev pub counted : (n k e : ℕ) → List ℕ → List ℕ
counted n k e rs =
    1 ∷ n ∷ k ∷ how_often 1 rs ∷ how_often 2 rs ∷ how_often 3 rs ∷ how_often 4 rs ∷ how_often 5 rs ∷ e ∷ e ∷ 0 ∷ 0 ∷ 0 ∷ 0 ∷ 0 ∷ 0 ∷ []

often_two : (x : ℕ) (l m : List ℕ) → how_often x (l ++ m) ≡ how_often x l + how_often x m
unfolding how_often
often_two x [] m = omega arith
often_two x (y ∷ l) m = omega (arith, often_two x l m)

often_one : (x r : ℕ) → how_often x (r ∷ []) ≡ cond (eqb r x) 1 0
unfolding how_often
often_one x r = omega arith

often_last : (x r : ℕ) (l : List ℕ) → how_often x (l ++ (r ∷ [])) ≡ how_often x l + cond (eqb r x) 1 0
often_last x r l = often_two x l (r ∷ []) ∙ ap (λ (z : ℕ). how_often x l + z) (often_one x r)

often_few : (x : ℕ) (l : List ℕ) → how_often x l ≤ length l
unfolding how_often
often_few x [] = omega arith
often_few x (y ∷ l) = omega (arith, bit_small (eqb y x), often_few x l)
  where
    bit_small : (t : Bool) → cond t 1 0 ≤ 1
    bit_small true = omega arith
    bit_small false = omega arith

-- a token more is counted with its reason, and not with another
more : (x : ℕ) (l : List ℕ) → how_often x l + 1 ≡ how_often x (l ++ (x ∷ []))
more x l = ap (λ (t : Bool). how_often x l + cond t 1 0) (sym (eq-eqb x x refl)) ∙ sym (often_last x x l)

kept : (x r : ℕ) (l : List ℕ) → eqb r x ≡ false → how_often x l ≡ how_often x (l ++ (r ∷ []))
kept x r l e = sym (often_last x r l ∙ ap (λ (t : Bool). how_often x l + cond t 1 0) e ∙ (let z : how_often x l + 0 ≡ how_often x l = omega arith in z))

module _ (n k e : ℕ) (rs : List ℕ) where
  one_more : (r : ℕ) → Reason r → set (counted n k e rs) (2 + r) (get_or (counted n k e rs) (2 + r) 0 + 1) ≡ counted n k e (rs ++ (r ∷ []))
  one_more zero h = absurd (omega (arith, h.least))
  one_more (suc zero) h = (λ j. 1 ∷ n ∷ k ∷ more 1 rs j ∷ kept 2 1 rs refl j ∷ kept 3 1 rs refl j ∷ kept 4 1 rs refl j ∷ kept 5 1 rs refl j ∷ e ∷ e ∷ 0 ∷ 0 ∷ 0 ∷ 0 ∷ 0 ∷ 0 ∷ [])
  one_more (suc (suc zero)) h = (λ j. 1 ∷ n ∷ k ∷ kept 1 2 rs refl j ∷ more 2 rs j ∷ kept 3 2 rs refl j ∷ kept 4 2 rs refl j ∷ kept 5 2 rs refl j ∷ e ∷ e ∷ 0 ∷ 0 ∷ 0 ∷ 0 ∷ 0 ∷ 0 ∷ [])
  one_more (suc (suc (suc zero))) h = (λ j. 1 ∷ n ∷ k ∷ kept 1 3 rs refl j ∷ kept 2 3 rs refl j ∷ more 3 rs j ∷ kept 4 3 rs refl j ∷ kept 5 3 rs refl j ∷ e ∷ e ∷ 0 ∷ 0 ∷ 0 ∷ 0 ∷ 0 ∷ 0 ∷ [])
  one_more (suc (suc (suc (suc zero)))) h = (λ j. 1 ∷ n ∷ k ∷ kept 1 4 rs refl j ∷ kept 2 4 rs refl j ∷ kept 3 4 rs refl j ∷ more 4 rs j ∷ kept 5 4 rs refl j ∷ e ∷ e ∷ 0 ∷ 0 ∷ 0 ∷ 0 ∷ 0 ∷ 0 ∷ [])
  one_more (suc (suc (suc (suc (suc zero))))) h = (λ j. 1 ∷ n ∷ k ∷ kept 1 5 rs refl j ∷ kept 2 5 rs refl j ∷ kept 3 5 rs refl j ∷ kept 4 5 rs refl j ∷ more 5 rs j ∷ e ∷ e ∷ 0 ∷ 0 ∷ 0 ∷ 0 ∷ 0 ∷ 0 ∷ [])
  one_more (suc (suc (suc (suc (suc (suc r)))))) h = absurd (omega (arith, h.most))

  few : (r : ℕ) → Reason r → get_or (counted n k e rs) (2 + r) 0 ≤ length rs
  few zero h = absurd (omega (arith, h.least))
  few (suc zero) h = often_few 1 rs
  few (suc (suc zero)) h = often_few 2 rs
  few (suc (suc (suc zero))) h = often_few 3 rs
  few (suc (suc (suc (suc zero)))) h = often_few 4 rs
  few (suc (suc (suc (suc (suc zero))))) h = often_few 5 rs
  few (suc (suc (suc (suc (suc (suc r)))))) h = absurd (omega (arith, h.most))

-- the reason of a token's cell is one
reason_at : (cells : List ℕ) (k i : ℕ) → Reasons (reasons_in (take k cells)) → i < k → k ≤ length cells → Reason (get_or cells i 0 % 8)
reason_at [] k i h l m = absurd (omega arith)
reason_at (c ∷ cells) zero i h l m = absurd (omega arith)
reason_at (c ∷ cells) (suc k) zero h l m = h.0
reason_at (c ∷ cells) (suc k) (suc i) h l m = reason_at cells k i h.1 (omega arith) (omega arith)

-- the first i of k tokens are counted by their reasons
pub record Counting (n k e : ℕ) (cells one : List ℕ) (i : ℕ) : Type 0 where
  pub enough : k ≤ length cells
  pub reasons : Reasons (reasons_in (take k cells))
  pub upto : i ≤ k
  pub is : one ≡ counted n k e (reasons_in (take i cells))

module _ (n k e : ℕ) (cells : List ℕ) where
  pub counting_none : {n' k' e' : ℕ} → n' ≡ n → k' ≡ k → e' ≡ e → k ≤ length cells → Reasons (reasons_in (take k cells))
      → Counting n k e cells (1 ∷ n' ∷ k' ∷ 0 ∷ 0 ∷ 0 ∷ 0 ∷ 0 ∷ e' ∷ e' ∷ 0 ∷ 0 ∷ 0 ∷ 0 ∷ 0 ∷ 0 ∷ []) 0
  unfolding how_often
  counting_none a b c h r = record { enough = h; reasons = r; upto = omega arith; is = (λ j. 1 ∷ a j ∷ b j ∷ 0 ∷ 0 ∷ 0 ∷ 0 ∷ 0 ∷ c j ∷ c j ∷ 0 ∷ 0 ∷ 0 ∷ 0 ∷ 0 ∷ 0 ∷ []) }

module _ {n k e : ℕ} {cells one : List ℕ} {i : ℕ} (c : Counting n k e cells one i) where
  pub counting_small : {w : ℕ} → i < k → w ≡ get_or cells i 0 % 8 → get_or one (2 + w) 0 ≤ i
  counting_small h q =
      let r = reason_at cells k i c.reasons h c.enough in
      let f = few n k e (reasons_in (take i cells)) (get_or cells i 0 % 8) r in
      omega (arith, ap (λ (l : List ℕ). get_or l (2 + get_or cells i 0 % 8) 0) c.is, ap (λ (x : ℕ). get_or one (2 + x) 0) q, f, length-map (take i cells) (λ (x : ℕ). x % 8), length-take-le i cells (omega (arith, c.enough)))

  pub counting_more : {w : ℕ} → i < k → w ≡ get_or cells i 0 % 8 → Counting n k e cells (set one (2 + w) (get_or one (2 + w) 0 + 1)) (i + 1)
  counting_more {w} h q =
      let r = reason_at cells k i c.reasons h c.enough in
      let z : suc i ≡ i + 1 = omega arith in
      record {
        enough = c.enough;
        reasons = c.reasons;
        upto = omega arith;
        is = (λ j. set (c.is j) (2 + q j) (get_or (c.is j) (2 + q j) 0 + 1))
            ∙ one_more n k e (reasons_in (take i cells)) (get_or cells i 0 % 8) r
            ∙ ap (counted n k e) (sym (map_two (λ (x : ℕ). x % 8) (take i cells) (get_or cells i 0 ∷ [])) ∙ ap reasons_in (sym (take-suc cells i 0 (omega (arith, c.enough))) ∙ ap (λ (j : ℕ). take j cells) z));
      }

  pub counting_all : k ≤ i → one ≡ of_cut n (reasons_in (take k cells)) e
  unfolding of_cut
  counting_all h =
      let q : i ≡ k = omega (arith, c.upto) in
      let l : k ≡ length (reasons_in (take k cells)) = sym (length-map (take k cells) (λ (x : ℕ). x % 8) ∙ length-take-le k cells c.enough) in
      c.is ∙ ap (λ (j : ℕ). counted n k e (reasons_in (take j cells))) q ∙ ap (λ (j : ℕ). counted n j e (reasons_in (take k cells))) l

-- ---- a text that was refused

pub refused_is : (r : ℕ) → 1 ≤ r → r ≤ 6 → set (1 ∷ 0 ∷ 0 ∷ 0 ∷ 0 ∷ 0 ∷ 0 ∷ 0 ∷ 0 ∷ 0 ∷ 0 ∷ 0 ∷ 0 ∷ 0 ∷ 0 ∷ 0 ∷ []) (9 + r) 1 ≡ of_refused r
unfolding of_refused
refused_is zero h l = absurd (omega arith)
refused_is (suc zero) h l = refl
refused_is (suc (suc zero)) h l = refl
refused_is (suc (suc (suc zero))) h l = refl
refused_is (suc (suc (suc (suc zero)))) h l = refl
refused_is (suc (suc (suc (suc (suc zero))))) h l = refl
refused_is (suc (suc (suc (suc (suc (suc zero)))))) h l = refl
refused_is (suc (suc (suc (suc (suc (suc (suc r))))))) h l = absurd (omega arith)
