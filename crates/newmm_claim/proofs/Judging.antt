-- The walk over the tokens of a claim, over plain values. Assumes nothing.
use Prim.Native.Nat.{ℕ, suc, ◌+◌, ◌≤◌, ◌<◌}
use native.Mathlib.Omega.{arith}
use mathlib.Core.Path.{◌≡◌, refl, sym, ◌∙◌, ap}
use mathlib.Core.Bool.{Bool, true, false, cond}
use mathlib.Core.List.{List, [], ◌∷◌}
use lib.ListN.{length, get_or, drop, drop_of_length-le}
use lib.Seq.{drop-cons}
use lib.Dec.{eqb}
use borrow.Author.Tests.{eq-eqb, ne_eqb}
use Rattle.newmm_rules.specs.Words.{Given, size}
use Rattle.newmm_rules.specs.Claims.{Verdict, right, wrong, token_right, verdict_from, verdict}
use Rattle.newmm_rules.proofs.Tokens.{spans}
use Rattle.newmm_rules.proofs.Claims.{right_token}
use Rattle.newmm_claim.specs.declared.Verdict.TheVariants.{Right, Wrong}
use Rattle.newmm_word_step.specs.inner.Places.{Place}
use Rattle.newmm_claim.specs.Answers.{verdict_told}
use Rattle.newmm_claim.specs.inner.Judging.{Judges}

-- the tokens before k are right, and token k starts at b
pub record Judging (g : Given) (claimed : List ℕ) (b k : ℕ) : Type 0 where
  pub inside : b ≤ size g
  pub rest : verdict g claimed ≡ verdict_from g k b (drop k claimed)

pub judge_first : (g : Given) (claimed : List ℕ) → Judging g claimed 0 0
judge_first g claimed = record { inside = omega arith; rest = refl }

module _ {g : Given} {claimed : List ℕ} {b k : ℕ} (j : Judging g claimed b k) where
  module _ (more : k < length claimed) where
    next : (t : Bool) → token_right g b (get_or claimed k 0) ≡ t → verdict g claimed ≡ cond t (verdict_from g (suc k) (get_or claimed k 0) (drop (suc k) claimed)) (wrong k)
    unfolding verdict_from
    next t h =
        j.rest ∙ ap (verdict_from g k b) (drop-cons claimed k 0 more)
        ∙ ap (λ (u : Bool). cond u (verdict_from g (suc k) (get_or claimed k 0) (drop (suc k) claimed)) (wrong k)) h

    pub judge_wrong : {e : ℕ} {t : Bool} → e ≡ get_or claimed k 0 → t ≡ token_right g b e → t ≡ false → Wrong k ≡ verdict_told (verdict g claimed)
    judge_wrong q r s = sym (ap verdict_told (next false (ap (token_right g b) (sym q) ∙ sym r ∙ s)))

    pub judge_on : {e : ℕ} {t : Bool} → e ≡ get_or claimed k 0 → t ≡ token_right g b e → t ≡ true → Judging g claimed e (k + 1)
    judge_on {e} q r s =
        let h : token_right g b e ≡ true = sym r ∙ s in
        let i : suc k ≡ k + 1 = omega arith in
        record {
          inside = (spans (right_token g b e h)).1;
          rest = next true (ap (token_right g b) (sym q) ∙ h) ∙ ap (λ (x : ℕ). verdict_from g (suc k) x (drop (suc k) claimed)) (sym q)
              ∙ ap (λ (x : ℕ). verdict_from g x e (drop x claimed)) i;
        }

  none_left : length claimed ≤ k → (t : Bool) → eqb b (size g) ≡ t → verdict g claimed ≡ cond t right (wrong k)
  unfolding verdict_from
  none_left all t h =
      j.rest ∙ ap (verdict_from g k b) (drop_of_length-le claimed {i = k} all)
      ∙ ap (λ (u : Bool). cond u right (wrong k)) h

  pub judge_short : k ≤ length claimed → b < size g → length claimed ≤ k → Wrong (length claimed) ≡ verdict_told (verdict g claimed)
  judge_short upto h all =
      let z : length claimed ≡ k = omega arith in
      ap Wrong z ∙ sym (ap verdict_told (none_left all false (ne_eqb b (size g) (λ q. omega arith))))

  module _ (through : size g ≤ b) where
    pub judge_right : length claimed ≤ k → Right ≡ verdict_told (verdict g claimed)
    judge_right all = sym (ap verdict_told (none_left all true (eq-eqb b (size g) (omega (arith, j.inside)))))

    -- no token starts at the text's end
    pub judge_extra : k < length claimed → Wrong k ≡ verdict_told (verdict g claimed)
    judge_extra more = sym (ap verdict_told (next more false (go (token_right g b (get_or claimed k 0)) refl)))
      where
        go : (t : Bool) → token_right g b (get_or claimed k 0) ≡ t → t ≡ false
        go true h = let s = spans (right_token g b (get_or claimed k 0) h) in absurd (omega (arith, s.0, s.1))
        go false h = refl

-- what the call on a token asks
pub place_of : {text pool flags : List ℕ} {b : ℕ} → Judges text pool flags → b < length text → Place text pool flags b
place_of j h = record { inside = h; root_is = j.root_is; flags_are = j.flags_are }
