-- Records of told cells.
use Rattle.std.specs.Prelude.{ℕ, zero, suc, ◌/◌, ◌%◌, List, [], ◌∷◌, ◌++◌, get_or}
use Rattle.newmm_records.specs.declared.Record.{Record}

-- the end and the reason of a cell
abbrev pub record_of : ℕ → Record
record_of c = record { end = c / 8; reason = c % 8 }

-- the records of the first n cells
unfoldable pub records : List ℕ → ℕ → List Record
records told zero = []
records told (suc n) = records told n ++ (record_of (get_or told n 0) ∷ [])
