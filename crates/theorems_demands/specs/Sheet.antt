-- THE PROFILE "SHEET" (02, ticket 10): what is claimed of a call in it.
use Rattle.std.specs.Prelude.{ℕ, ◌<◌, ◌≡◌, List, take, Err}
use Rattle.std.proofs.Math.Option.{some}
use Rattle.refusal.specs.declared.Refusal.{Refusal}
use Rattle.refusal.specs.Numbers.{number_of}
use Rattle.trie_pool.specs.Meaning.{Words, meaning}
use Rattle.trie_check.specs.Refusals.{held}
use Rattle.newmm_rules.specs.declared.Mode.{Mode}
use Rattle.newmm_rules.specs.declared.Mode.TheVariants.{Safe, Sheet}
use Rattle.newmm_rules.specs.Sheet.{InSheetParts, NoSpaceMet}
use Rattle.newmm_answers.specs.Answers.{accepted_with, plain_cut}
use Rattle.newmm_answers.specs.Calls.{Call, call, answer_of, out_of, scratch_of}

-- A call in the profile that answered with n ends: by the words of its pool, which passes, the ends
-- that it wrote are those of the text's parts, each cut plainly by itself.
pub record WroteParts (c : Call) (n : ℕ) (after : List ℕ) : Type 0 where
  pub words : Words
  pub means : meaning c.pool ≡ some words
  pub parted : InSheetParts (plain_cut words) c.text (take n after)

abbrev pub PartsWrote : Type 0
PartsWrote = (c : Call) (n edges : ℕ) → c.mode ≡ Sheet → answer_of c ≡ accepted_with n edges → WroteParts c n (out_of c)

-- a call with the mode changed and nothing else
abbrev pub in_mode : Mode → Call → Call
in_mode mode c = call c.text c.pool c.out c.scratch mode

-- Below 140 characters, and where no sample that is met holds a space, the profile gives what safe
-- mode gives: the answer, the output and the scratch, refused calls included.
abbrev pub AsInSafeMode : Type 0
AsInSafeMode =
    (c : Call)
    → NoSpaceMet (plain_cut (held (meaning c.pool))) c.text
    → (answer_of (in_mode Sheet c) ≡ answer_of (in_mode Safe c))
    × (out_of (in_mode Sheet c) ≡ out_of (in_mode Safe c))
    × (scratch_of (in_mode Sheet c) ≡ scratch_of (in_mode Safe c))

-- The refusals 2 to 5 are those of every other mode, with their details. 6 counts the mode's own
-- ends. Scratch is the same in every mode.
abbrev pub RefusedAlike : Type 0
RefusedAlike =
    (c : Call) (mode other : Mode)
    → ((r : Refusal) → number_of r < 6 → answer_of (in_mode mode c) ≡ Err r → answer_of (in_mode other c) ≡ Err r)
    × (scratch_of (in_mode mode c) ≡ scratch_of (in_mode other c))
