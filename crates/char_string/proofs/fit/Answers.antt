use mathlib.Core.Path.{sym, ◌∙◌}
use Rattle.char_string.proofs.Pairs.{fit_right, fit_wrong}
use Rattle.char_string.proofs.fit.Goals as goal

pub returns-then-is_substring : goal.returns-then-is_substring
returns-then-is_substring c = fit_right _ _ _ (sym c.is_substring.ensures ∙ c.if-is_substring.true)

pub returns : goal.returns
returns c = fit_wrong _ _ _ (sym c.is_substring.ensures ∙ c.if-is_substring.false)
