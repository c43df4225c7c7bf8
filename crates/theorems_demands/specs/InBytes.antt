-- ENDS IN BYTES (02, ticket 3): demand 3 in bytes. Equal bytes, equal words and equal mode give
-- equal ends in bytes.
use Rattle.std.specs.Prelude.{ℕ, ◌≤◌, ◌≡◌, List, map, length, take, Result, Ok, Option}
use Rattle.std.proofs.Math.Option.{some}
use Rattle.refusal.specs.declared.Refusal.{Refusal}
use Rattle.refusal.specs.Answers.{output}
use Rattle.utf8.specs.Decoding.{scalars_of, room_in, decoded}
use Rattle.utf8.specs.Positions.{positions_of, end_in_bytes}
use Rattle.trie_pool.specs.Meaning.{Words, Terms, meaning, words_in}
use Rattle.newmm_answers.specs.Answers.{accepted_with, scratch_for}
use Rattle.newmm_answers.specs.Calls.{Call, answer_of, out_of}
use Rattle.theorems_demands.specs.Demand3.{Reached}

-- What a decoding is given, each row as it was lent.
pub record Decoding : Type 0 where
  pub bytes : List ℕ
  pub scalars : List ℕ
  pub positions : List ℕ

-- Its answer, and the position row afterwards, as the contract of `decode` gives them.
abbrev pub answered : Decoding → Result ℕ Refusal
answered d = decoded d.bytes (room_in d.scalars d.positions)

abbrev pub positions_left : Decoding → List ℕ
positions_left d = output (answered d) (positions_of d.bytes) d.positions

-- What `end_in_bytes` answers for each of some ends of a text of n characters, with that row.
abbrev pub ends_in_bytes : Decoding → ℕ → List ℕ → List (Option ℕ)
ends_in_bytes d n ends = map (λ (end : ℕ). end_in_bytes (positions_left d) n end) ends

-- The same bytes are decoded twice, and what that gives is cut twice, in the same mode. If both
-- decodings and one cut are accepted, and the other cut has 9n+128 cells of scratch and room for
-- the ends, then the other cut is accepted too, and the ends in bytes are the same.
abbrev pub SameInBytes : Decoding → Decoding → Call → Call → Type 0
SameInBytes c d a b =
    c.bytes ≡ d.bytes
    → (k l : ℕ)
    → answered c ≡ Ok k
    → answered d ≡ Ok l
    → a.text ≡ scalars_of c.bytes
    → b.text ≡ scalars_of d.bytes
    → a.mode ≡ b.mode
    → (n edges : ℕ)
    → answer_of a ≡ accepted_with n edges
    → scratch_for (length b.text) ≤ length b.scratch
    → n ≤ length b.out
    → (answer_of b ≡ accepted_with n edges)
    × (ends_in_bytes d (length b.text) (take n (out_of b)) ≡ ends_in_bytes c (length a.text) (take n (out_of a)))

-- Any two pools that pass and hold the same words.
abbrev pub Demand3AnyInBytes : Type 0
Demand3AnyInBytes =
    (c d : Decoding) (a b : Call) (v w : Words)
    → meaning a.pool ≡ some v
    → meaning b.pool ≡ some w
    → ((x : List ℕ) → v x ≡ w x)
    → SameInBytes c d a b

-- Two pools that were reached from fresh ones and hold the same words, with whatever classes.
abbrev pub Demand3InBytes : Type 0
Demand3InBytes =
    (c d : Decoding) (a b : Call) (v w : Terms)
    → Reached a.pool v
    → Reached b.pool w
    → ((x : List ℕ) → words_in v x ≡ words_in w x)
    → SameInBytes c d a b
