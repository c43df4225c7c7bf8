-- 01, "Trie in a pool", and 02, ticket 6: what add and remove report, what becomes of a class, and
-- the order of prefix lengths.
use Rattle.std.specs.Prelude.{ℕ, ◌≤◌, ◌≡◌, List, length}
use Rattle.std.proofs.Math.Option.{some}
use Rattle.trie_pool.specs.Meaning.{Words, Terms, with_term, without_term, report_term, prefix_lengths}
use Rattle.newmm_rules.specs.Positions.{Rises}

-- 1 if the words or their classes changed, else 0
pub data Reports (before after : Terms) : ℕ → Type 0 where
  changed : {w : List ℕ} → (before w ≡ after w → ⊥) → Reports before after 1
  unchanged : ((v : List ℕ) → before v ≡ after v) → Reports before after 0

-- Add and remove report 1 if the words or their classes changed, else 0.
abbrev pub ReportsChange : Type 0
ReportsChange =
    (w : List ℕ) (class : ℕ) (held : Terms)
    → Reports held (with_term w class held) (report_term w held (with_term w class held))
    × Reports held (without_term w held) (report_term w held (without_term w held))

-- Adding a word already held with another class replaces it and reports 1; the same class reports
-- 0. A word empty after trimming reports 0 with any class.
abbrev pub ReplacesClass : Type 0
ReplacesClass =
    (w : List ℕ) (old class : ℕ) (held : Terms)
    → held w ≡ some old
    → 1 ≤ length w
    → (with_term w class held w ≡ some class)
    × ((old ≡ class → ⊥) → report_term w held (with_term w class held) ≡ 1)
    × (old ≡ class → report_term w held (with_term w class held) ≡ 0)

abbrev pub BlankReportsNone : Type 0
BlankReportsNone =
    (w : List ℕ) (class : ℕ) (held : Terms) → length w ≡ 0 → report_term w held (with_term w class held) ≡ 0

-- Prefix lengths come rising.
abbrev pub PrefixesRise : Type 0
PrefixesRise = (held : Words) (text : List ℕ) → Rises 1 (prefix_lengths held text)
