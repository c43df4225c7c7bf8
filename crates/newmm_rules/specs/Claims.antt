-- Checking a claim: ends that someone else gives for the plain cut of a text (02, ticket 12).
use Rattle.std.specs.Prelude.{ℕ, suc, Bool, true, false, cond, ◌&&◌, ◌||◌, List, [], ◌∷◌, ltb, leb, eqb}
use Rattle.newmm_rules.specs.Positions.{member}
use Rattle.newmm_rules.specs.Words.{Given, size, word_ends}
use Rattle.newmm_rules.specs.NonDictionary.{token_end}

abbrev pub is_nil : List ℕ → Bool
is_nil [] = true
is_nil (x ∷ xs) = false

-- The token from b to e is right: the ends rise strictly, none is over n, and the token either is a
-- dictionary word ending at a cluster end, or starts where no such word starts and is the span of
-- 01's non-dictionary rule.
unfoldable pub token_right : Given → ℕ → ℕ → Bool
token_right g b e =
    (ltb b e && leb e (size g)) && (member e (word_ends g b) || (is_nil (word_ends g b) && eqb e (token_end g b)))

-- A claim is right, or the first token that breaks this is named, counted from 0.
pub data Verdict : Type 0 where
  right : Verdict
  wrong : ℕ → Verdict

-- The ends from token k on, which starts at b. The last is n: ends that stop short name the token
-- after the last.
unfoldable pub verdict_from : Given → ℕ → ℕ → List ℕ → Verdict
verdict_from g k b [] = cond (eqb b (size g)) right (wrong k)
verdict_from g k b (e ∷ es) = cond (token_right g b e) (verdict_from g (suc k) e es) (wrong k)

-- Token 0 starts at 0. So empty text takes only an empty claim.
abbrev pub verdict : Given → List ℕ → Verdict
verdict g claim = verdict_from g 0 0 claim
