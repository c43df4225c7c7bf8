-- Where a trimmed word starts and ends, and the word itself.
use Rattle.std.specs.Prelude.{ℕ, ◌+◌, ◌-◌, Bool, not, List, take, drop}
use Rattle.lists.specs.Scans.{leading, behind_last}
use Rattle.char_string.specs.declared.Span.{Span}
use Rattle.char_string_white_space.specs.Trimmed.{is_trimmed}

abbrev pub stays : ℕ → Bool
stays x = not (is_trimmed x)

-- the position of the first character that stays, or the length where none does
abbrev pub trim_start : List ℕ → ℕ
trim_start word = leading is_trimmed word

-- the position behind the last one that stays
abbrev pub trim_end : List ℕ → ℕ
trim_end word = trim_start word + behind_last stays (drop (trim_start word) word)

abbrev pub trim_of : List ℕ → Span
trim_of word = record { start = trim_start word; end = trim_end word }

unfoldable pub trimmed_of : List ℕ → List ℕ
trimmed_of word = take (trim_end word - trim_start word) (drop (trim_start word) word)
