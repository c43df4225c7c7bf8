-- The non-dictionary rule.
use Rattle.std.specs.Prelude.{ℕ, suc, ◌+◌, ◌-◌, Bool, cond, not, ◌&&◌, ◌||◌, List, length, drop, leb, ltb, eqb}
use Rattle.lists.specs.Scans.{leading}
use Rattle.tcc_rules.specs.Patterns.{holds}
use Rattle.tcc_rules.specs.Rules.{consonant}
use Rattle.newmm_rules.specs.Positions.{up_from, first_or, any}
use Rattle.newmm_rules.specs.NonThai.{non_thai}
use Rattle.newmm_rules.specs.Words.{Given, size, span, word_ends}

-- the length of the match of NON_THAI_PATTERN at p, 0 for none
abbrev pub non_thai_at : Given → ℕ → ℕ
non_thai_at g p = non_thai (drop p g.text)

-- U+0E01..0E2E
abbrev pub is_consonant : ℕ → Bool
is_consonant x = holds consonant x

-- one or two characters U+0E01..0E2E
abbrev pub is_short : List ℕ → Bool
is_short word = leb (length word) 2 && eqb (leading is_consonant word) (length word)

-- a dictionary word starts at p whose end is a cluster end and which isn't one or two characters
-- U+0E01..0E2E
abbrev pub starts_word : Given → ℕ → Bool
starts_word g p = any (λ (e : ℕ). not (is_short (span g p e))) (word_ends g p)

-- a cluster end where either such a word starts or NON_THAI_PATTERN matches
unfoldable pub stops_at : Given → ℕ → Bool
stops_at g p = g.is_end p && (starts_word g p || ltb 0 (non_thai_at g p))

-- the first such p with b < p < n; with no p the token ends at n
unfoldable pub skip_end : Given → ℕ → ℕ
skip_end g b = first_or (size g) (stops_at g) (up_from (size g - suc b) (suc b))

-- If the text at b starts with a match of NON_THAI_PATTERN, the token is that match; else the skip
-- decides.
unfoldable pub token_end : Given → ℕ → ℕ
token_end g b = cond (eqb (non_thai_at g b) 0) (skip_end g b) (b + non_thai_at g b)
