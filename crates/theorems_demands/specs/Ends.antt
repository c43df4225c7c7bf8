-- What the ends of every answer are: of the definition, and of what an accepted call wrote.
use Rattle.std.specs.Prelude.{ℕ, ◌-◌, ◌≤◌, ◌<◌, ◌≡◌, true, List, [], length, get_or, take}
use Rattle.std.proofs.Math.Option.{some}
use Rattle.trie_pool.specs.Meaning.{Words, meaning}
use Rattle.tcc.specs.Flags.{is_end}
use Rattle.newmm_rules.specs.Positions.{In, Rises}
use Rattle.newmm_rules.specs.Words.{span, word_ends}
use Rattle.newmm_rules.specs.Tokens.{Tokens}
use Rattle.newmm_rules.specs.declared.Mode.{Mode}
use Rattle.newmm_rules.specs.declared.Mode.TheVariants.{Plain}
use Rattle.newmm_answers.specs.Answers.{accepted_with, given, cut_of}
use Rattle.newmm_answers.specs.Calls.{Call, answer_of, out_of}

-- EVERY MODE: ends rise strictly, the last is n, and there is none for an empty text. There are no
-- more ends than characters.
abbrev pub EndsRise : Type 0
EndsRise = (mode : Mode) (words : Words) (text : List ℕ) → Rises 1 (cut_of mode words text).ends

abbrev pub LastEnd : Type 0
LastEnd =
    (mode : Mode) (words : Words) (text : List ℕ)
    → 0 < length text
    → get_or (cut_of mode words text).ends (length (cut_of mode words text).ends - 1) 0 ≡ length text

abbrev pub NoneForEmpty : Type 0
NoneForEmpty = (mode : Mode) (words : Words) (text : List ℕ) → length text ≡ 0 → (cut_of mode words text).ends ≡ []

abbrev pub FewEnds : Type 0
FewEnds = (mode : Mode) (words : Words) (text : List ℕ) → length (cut_of mode words text).ends ≤ length text

-- PLAIN MODE: each token is a held word that ends at a cluster end, or no such word starts at its
-- start and it is exactly the span of the non-dictionary rule there. The first starts at 0, each
-- other where the one before it ends, and the last ends at n.
abbrev pub PlainTokens : Type 0
PlainTokens = (words : Words) (text : List ℕ) → Tokens (given words text) 0 (cut_of Plain words text).ends (length text)

-- In a pool that passes, every held word that starts at b and ends at a cluster end stands among
-- `word_ends`, however long it is. So where a token says that no such word starts, there is none of
-- any length.
abbrev pub EveryWord : Type 0
EveryWord =
    (pool : List ℕ) (words : Words)
    → meaning pool ≡ some words
    → (text : List ℕ) (b e : ℕ)
    → e ≤ length text
    → words (span (given words text) b e) ≡ true
    → is_end text e ≡ true
    → In e (word_ends (given words text) b)

-- What stands in the output after a call that answered with n ends: the first n cells rise strictly
-- to the text's length, and in plain mode they are the ends of tokens by the words of the pool,
-- which passes.
pub record Wrote (c : Call) (n : ℕ) (after : List ℕ) : Type 0 where
  pub words : Words
  pub means : meaning c.pool ≡ some words
  pub rise : Rises 1 (take n after)
  pub last : 0 < length c.text → get_or after (n - 1) 0 ≡ length c.text
  pub none_for_empty : length c.text ≡ 0 → n ≡ 0
  pub plain_tokens : c.mode ≡ Plain → Tokens (given words c.text) 0 (take n after) (length c.text)

abbrev pub EndsWrote : Type 0
EndsWrote = (c : Call) (n edges : ℕ) → answer_of c ≡ accepted_with n edges → Wrote c n (out_of c)
