-- The words at a place, one length after the other. Assumes nothing.
use Prim.Native.Nat.{ℕ, zero, suc, ◌+◌, ◌-◌, ◌≤◌, ◌<◌, min}
use native.Mathlib.Omega.{arith}
use mathlib.Core.Path.{◌≡◌, refl, ◌∙◌, ap}
use mathlib.Core.Bool.{Bool, true, false}
use mathlib.Core.List.{List, [], ◌∷◌}
use Rattle.newmm_rules.specs.Positions.{up_from, keep, those}
use Rattle.newmm_rules.specs.Words.{Given, size, is_word, word_ends}

-- the ends behind e of the words at b, up to the limit
abbrev pub behind : Given → ℕ → ℕ → ℕ → List ℕ
behind g b limit e = those (is_word g b) (up_from (limit - e) (suc e))

pub behind_all : (g : Given) (b limit : ℕ) → limit ≡ b + min 255 (size g - b) → word_ends g b ≡ behind g b limit b
unfolding word_ends
behind_all g b limit e = let k : min 255 (size g - b) ≡ limit - b = omega arith in ap (λ (i : ℕ). those (is_word g b) (up_from i (suc b))) k

those_none : (test : ℕ → Bool) (k p : ℕ) → ((x : ℕ) → p ≤ x → test x ≡ false) → those test (up_from k p) ≡ []
unfolding those up_from
those_none test zero p h = refl
those_none test (suc k) p h = ap (λ (t : Bool). keep t p (those test (up_from k (suc p)))) (h p (omega arith)) ∙ those_none test k (suc p) (λ x l. h x (omega arith))

those_next : (test : ℕ → Bool) (k p : ℕ) (t : Bool) → 0 < k → test p ≡ t → those test (up_from k p) ≡ keep t p (those test (up_from (k - 1) (suc p)))
unfolding those up_from
those_next test zero p t h e = absurd (omega arith)
those_next test (suc k) p t h e =
    let i : k ≡ suc k - 1 = omega arith in
    ap (λ (u : Bool). keep u p (those test (up_from k (suc p)))) e ∙ ap (λ (j : ℕ). keep t p (those test (up_from j (suc p)))) i

module _ (g : Given) (b limit e : ℕ) where
  pub behind_end : limit ≤ e → behind g b limit e ≡ []
  unfolding those up_from
  behind_end h = let k : limit - e ≡ 0 = omega arith in ap (λ (i : ℕ). those (is_word g b) (up_from i (suc e))) k

  pub behind_none : ((k : ℕ) → e < k → is_word g b k ≡ false) → behind g b limit e ≡ []
  behind_none h = those_none (is_word g b) (limit - e) (suc e) h

  module _ (more : e < limit) where
    next_length : (t : Bool) → is_word g b (e + 1) ≡ t → behind g b limit e ≡ keep t (e + 1) (behind g b limit (e + 1))
    next_length t w =
        let i : suc e ≡ e + 1 = omega arith in
        let k : limit - e - 1 ≡ limit - (e + 1) = omega arith in
        those_next (is_word g b) (limit - e) (suc e) t (omega arith) (ap (is_word g b) i ∙ w)
        ∙ ap (λ (j : ℕ). keep t j (those (is_word g b) (up_from (limit - e - 1) (suc j)))) i
        ∙ ap (λ (j : ℕ). keep t (e + 1) (those (is_word g b) (up_from j (suc (e + 1))))) k

    pub behind_word : is_word g b (e + 1) ≡ true → behind g b limit e ≡ (e + 1) ∷ behind g b limit (e + 1)
    behind_word w = next_length true w

    pub behind_part : is_word g b (e + 1) ≡ false → behind g b limit e ≡ behind g b limit (e + 1)
    behind_part w = next_length false w
