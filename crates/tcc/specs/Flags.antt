-- The cluster ends of a text by position.
use Rattle.std.specs.Prelude.{ℕ, zero, suc, Bool, false, cond, ◌||◌, List, [], ◌∷◌, length, eqb}
use Rattle.tcc_rules.specs.Clusters.{cluster_ends}

abbrev pub is_in : ℕ → List ℕ → Bool
is_in p [] = false
is_in p (e ∷ es) = eqb p e || is_in p es

-- Is p the end of a cluster?
unfoldable pub is_end : List ℕ → ℕ → Bool
is_end text p = is_in p (cluster_ends text)

abbrev pub flag : Bool → ℕ
flag b = cond b 1 0

-- a flag for each of so many positions from p on
abbrev pub flags_from : (ℕ → Bool) → ℕ → ℕ → List ℕ
flags_from f p zero = []
flags_from f p (suc n) = flag (f p) ∷ flags_from f (suc p) n

-- a flag for each position of the text, 0 and n among them: 1 at a cluster end, 0 elsewhere
unfoldable pub end_flags : List ℕ → List ℕ
end_flags text = flags_from (is_end text) 0 (suc (length text))
