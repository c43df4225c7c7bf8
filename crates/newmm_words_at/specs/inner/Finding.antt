-- What a walk over the words at b tells of a token from b to e.
use Rattle.std.specs.Prelude.{ℕ, ◌≡◌, true, false, []}
use Rattle.newmm_rules.specs.Positions.{member}
use Rattle.newmm_rules.specs.Words.{Given, word_ends}
use Rattle.newmm_rules.specs.Claims.{is_nil}
use Rattle.newmm_words_at.specs.declared.Found.{Found}
use Rattle.newmm_words_at.specs.declared.Found.TheVariants.{Here, Elsewhere, Nowhere}

abbrev pub FoundIs : Found → Given → ℕ → ℕ → Type 0
FoundIs Here g b e = member e (word_ends g b) ≡ true
FoundIs Elsewhere g b e = (is_nil (word_ends g b) ≡ false) × (member e (word_ends g b) ≡ false)
FoundIs Nowhere g b e = word_ends g b ≡ []
