-- 02, ticket 3: the byte position of each character and of the end, and ends in bytes.
use Rattle.std.specs.Prelude.{ℕ, ◌+◌, cond, ◌&&◌, List, [], ◌∷◌, leb, ltb, length, get_or, Option, Some, None}
use Rattle.utf8.specs.Decoding.{run_all}

-- where sequences of these lengths start, the first at a place, and where the last one ends
unfoldable pub places_from : ℕ → List ℕ → List ℕ
places_from at [] = at ∷ []
places_from at (k ∷ sizes) = at ∷ places_from (at + k) sizes

-- The byte position of each character and of the end, n+1 cells, as `byte_positions` in document
-- 004.
abbrev pub positions_of : List ℕ → List ℕ
positions_of bytes = places_from 0 (run_all bytes).sizes

-- An end in bytes is the position row's cell at that end; an end over n has none. Nor has one that
-- the row has no cell for.
abbrev pub end_in_bytes : (positions : List ℕ) (n end : ℕ) → Option ℕ
end_in_bytes positions n end = cond (leb end n && ltb end (length positions)) (Some (get_or positions end 0)) None
