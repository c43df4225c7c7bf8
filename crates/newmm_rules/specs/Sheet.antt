-- THE PROFILE "SHEET" (02, ticket 10): what is claimed of its parts, over any plain cut.
use Rattle.std.specs.Prelude.{ℕ, ◌+◌, ◌-◌, ◌≤◌, ◌<◌, ◌≡◌, List, [], ◌∷◌, ◌++◌, length, get_or, drop}
use Rattle.newmm_rules.specs.Limits.{text_scan_begin, text_scan_end}
use Rattle.newmm_rules.specs.Positions.{In}
use Rattle.newmm_rules.specs.declared.Mode.TheVariants.{Safe, Sheet}
use Rattle.newmm_rules.specs.Parts.{Cutter, sample_of, cut_at, runs_of}
use Rattle.newmm_rules.specs.Modes.{part_ends, unshifted, behind_space, segmented}

abbrev pub space : ℕ
space = 0x20

-- the sample of a remaining text holds a space
abbrev pub HoldsSpace : List ℕ → Type 0
HoldsSpace rest = In space (sample_of rest)

-- A part that ends at the sample's last space: it has 101 to 140 characters, its last one is
-- U+0020, and no character behind it in the sample is.
pub record AtSpace (part later : List ℕ) : Type 0 where
  pub more : text_scan_begin + 1 ≤ length part
  pub most : length part ≤ text_scan_end
  pub ends : get_or part (length part - 1) 0 ≡ space
  pub last : (k : ℕ) → length part ≤ k → k < text_scan_end → get_or (part ++ later) k 0 ≡ space → ⊥

-- A remaining text and its parts in the profile. Under 140 characters it is the last part, and an
-- empty rest is no part. From a longer one a part is taken off. If the sample holds a space, the
-- part ends at the last one. Else it is as long as in safe mode, which is 100 characters or more.
pub data SheetParts (plain : Cutter) : List ℕ → List (List ℕ) → Type 0 where
  none : SheetParts plain [] []
  rest : {text : List ℕ} → 0 < length text → length text < text_scan_end → SheetParts plain text (text ∷ [])
  at_space : {part later : List ℕ} {parts : List (List ℕ)}
      → text_scan_end ≤ length (part ++ later)
      → HoldsSpace (part ++ later)
      → AtSpace part later
      → SheetParts plain later parts
      → SheetParts plain (part ++ later) (part ∷ parts)
  no_space : {part later : List ℕ} {parts : List (List ℕ)}
      → text_scan_end ≤ length (part ++ later)
      → (HoldsSpace (part ++ later) → ⊥)
      → text_scan_begin ≤ length part
      → length part ≡ cut_at unshifted plain (part ++ later)
      → SheetParts plain later parts
      → SheetParts plain (part ++ later) (part ∷ parts)

-- These ends are those of such parts, each cut plainly by itself, one behind the other.
pub record InSheetParts (plain : Cutter) (text ends : List ℕ) : Type 0 where
  pub parts : List (List ℕ)
  pub taken : SheetParts plain text parts
  pub ends_are : ends ≡ part_ends plain 0 parts

-- A text of exactly 140 characters whose last one is a space is its only part: it is cut as
-- plainly.
abbrev pub OnlyPart : Type 0
OnlyPart =
    (plain : Cutter) (text : List ℕ)
    → length text ≡ text_scan_end
    → get_or text (text_scan_end - 1) 0 ≡ space
    → ((runs_of (length text) behind_space plain text).parts ≡ text ∷ []) × (segmented Sheet plain text ≡ plain text)

-- No sample that is met holds a space: there is none, under 140 characters; or this one holds none,
-- and none behind the cut does.
pub data NoSpaceMet (plain : Cutter) : List ℕ → Type 0 where
  short : {rest : List ℕ} → length rest < text_scan_end → NoSpaceMet plain rest
  on : {rest : List ℕ}
      → text_scan_end ≤ length rest
      → (HoldsSpace rest → ⊥)
      → NoSpaceMet plain (drop (cut_at unshifted plain rest) rest)
      → NoSpaceMet plain rest

-- Then the profile gives what safe mode gives, ends and edges.
abbrev pub SheetIsSafe : Type 0
SheetIsSafe =
    (plain : Cutter) (text : List ℕ)
    → NoSpaceMet plain text
    → segmented Sheet plain text ≡ segmented Safe plain text
