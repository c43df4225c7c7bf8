-- 01, "Program": input of any length, part by part.
use Rattle.std.specs.Prelude.{ℕ, ◌+◌, Bool, true, false, List, ltb, length, take}
use Rattle.utf8.specs.Decoding.{Room}
use Rattle.sheet_input.specs.declared.Fed.{Fed}
use Rattle.sheet_replies.specs.declared.Asked.{Asked}
use Rattle.sheet_replies.specs.declared.Asked.TheVariants.{Nothing}
use Rattle.sheet_bytes.specs.Lines.{line_end, kept}
use Rattle.sheet_replies.specs.Replies.{asked, text_of, reply_of, ends_after}
use Rattle.sheet_texts.specs.Texts.{line_of}

-- the line's bytes with those up to the first line feed
abbrev pub line_with : List ℕ → List ℕ → ℕ → List ℕ
line_with bytes line used = kept line used (take (line_end bytes) bytes)

-- a line ends in the bytes
abbrev pub has_end : List ℕ → Bool
has_end bytes = ltb (line_end bytes) (length bytes)

-- what is asked: nothing before the line is at its end
abbrev pub asked_if : Bool → List ℕ → Asked
asked_if true line = asked line
asked_if false line = Nothing

-- the text that is written for a line; the rows for decoding, scratch and ends are those of the
-- call
abbrev pub told : List ℕ → List ℕ → Room → ℕ → List ℕ → List ℕ
told line pool room cells ends =
    line_of (reply_of line pool room cells (length ends)) (ends_after (asked line) (text_of line) pool room cells ends)

-- where a line ends, it is taken with its line feed and answered; else all bytes are taken and kept
abbrev pub fed_with : Bool → ℕ → ℕ → ℕ → Fed
fed_with true end n k = record { taken = end + 1; kept = 0; written = k }
fed_with false end n k = record { taken = end; kept = n; written = 0 }
