-- 01, "Safe mode": the parts of a text.
use Rattle.std.specs.Prelude.{ℕ, zero, suc, ◌+◌, ◌-◌, Bool, cond, List, [], ◌∷◌, ◌++◌, length, take, drop, ltb, Option, Some, None}
use Rattle.char_string_last_space.specs.Spaces.{last_space}
use Rattle.newmm_rules.specs.Limits.{text_scan_begin, text_scan_end}
use Rattle.newmm_rules.specs.Cutting.{Cut}
use Rattle.newmm_rules.specs.Longest.{lengths, before_longest}

-- The plain cut of each text by itself, with its own clusters.
abbrev pub Cutter : Type 0
Cutter = List ℕ → Cut

-- Take its characters 100 to 139 as a sample.
abbrev pub sample_of : List ℕ → List ℕ
sample_of rest = take (text_scan_end - text_scan_begin) (drop text_scan_begin rest)

-- If it holds U+0020, cut the remaining text where the mode says for the index of the last one in
-- the sample. Else cut the sample plainly; the cut is 100 plus the lengths of the tokens before the
-- longest one, the last of equals.
abbrev pub cut_for : (ℕ → ℕ) → Cutter → List ℕ → Option ℕ → ℕ
cut_for space_cut plain sample (Some i) = space_cut i
cut_for space_cut plain sample None = text_scan_begin + before_longest (lengths 0 (plain sample).ends)

unfoldable pub cut_at : (ℕ → ℕ) → Cutter → List ℕ → ℕ
cut_at space_cut plain rest = cut_for space_cut plain (sample_of rest) (last_space (sample_of rest))

-- the sample, if it was cut plainly
abbrev pub sampled : List ℕ → Option ℕ → List (List ℕ)
sampled sample (Some i) = []
sampled sample None = sample ∷ []

-- The texts that are cut plainly: the samples without a space, and the parts.
pub record Runs : Type 0 where
  pub samples : List (List ℕ)
  pub parts : List (List ℕ)

-- The rest, under 140, is the last part. An empty rest is no part.
abbrev pub last_part : List ℕ → List (List ℕ)
last_part [] = []
last_part (x ∷ rest) = (x ∷ rest) ∷ []

abbrev pub one_part : List ℕ → Runs
one_part rest = record { samples = []; parts = last_part rest }

abbrev pub first : List (List ℕ) → List ℕ → Runs → Runs
first sample part r = record { samples = sample ++ r.samples; parts = part ∷ r.parts }

-- While the remaining text has 140 or more. Each part has a character or more, so as many rounds
-- are enough as there are characters.
unfoldable pub runs_of : ℕ → (ℕ → ℕ) → Cutter → List ℕ → Runs
runs_of zero space_cut plain rest = one_part rest
runs_of (suc k) space_cut plain rest =
    cond (ltb (length rest) text_scan_end) (one_part rest)
    (first (sampled (sample_of rest) (last_space (sample_of rest)))
    (take (cut_at space_cut plain rest) rest)
    (runs_of k space_cut plain (drop (cut_at space_cut plain rest) rest)))
