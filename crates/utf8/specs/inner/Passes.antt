-- What the decoder's first pass tells the second, and what it knows on its way.
use Rattle.std.specs.Prelude.{ℕ, ◌+◌, ◌≤◌, ◌≡◌, List, length, drop, cond, Result, Ok, Err}
use Rattle.refusal.specs.declared.Refusal.{Refusal}
use Rattle.refusal.specs.declared.Refusal.TheVariants.{IllFormed}
use Rattle.utf8.specs.Decoding.{Run, run_all, scalars_of}

-- how many scalars there are, or how many bytes the longest well-formed prefix has
abbrev pub counted : Run → Result ℕ Refusal
counted r = cond r.whole (Ok (length r.scalars)) (Err (IllFormed r.taken))

-- n scalars stand in the first `at` bytes, and the run goes on from there
pub record Read (s : List ℕ) (at n : ℕ) : Type 0 where
  pub inside : at ≤ length s
  pub few : n ≤ at
  pub number : length (scalars_of s) ≡ n + length (scalars_of (drop at s))
  pub bytes : (run_all s).taken ≡ at + (run_all (drop at s)).taken
  pub all : (run_all s).whole ≡ (run_all (drop at s)).whole
