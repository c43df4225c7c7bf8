-- CHECKING A CLAIM (02, ticket 12): what the verdict on ends that someone else gives for the plain
-- cut of a text says of them.
use Rattle.std.specs.Prelude.{ℕ, suc, ◌≤◌, ◌≡◌, List, [], ◌∷◌, length, take, Ok}
use Rattle.std.proofs.Math.Option.{some}
use Rattle.trie_pool.specs.Meaning.{Words, Terms, words_in, meaning}
use Rattle.newmm_rules.specs.Words.{Given, size}
use Rattle.newmm_rules.specs.Tokens.{Token, Tokens}
use Rattle.newmm_rules.specs.Claims.{Verdict, right, wrong, verdict}
use Rattle.newmm_rules.specs.declared.Mode.TheVariants.{Plain}
use Rattle.newmm_answers.specs.Answers.{accepted_with, given, cut_of, scratch_for}
use Rattle.newmm_answers.specs.Calls.{Call, answer_of, out_of}
use Rattle.newmm_claim.specs.declared.Verdict.TheVariants.{Right}
use Rattle.newmm_claim.specs.Answers.{Claim, verdict_told, claim_answer_of}
use Rattle.theorems_demands.specs.Demand3.{Reached}
use Rattle.theorems_demands.specs.Cases.{among}

-- A claim is right exactly if it is the ends of tokens as demand 3 describes them: each a held word
-- that ends at a cluster end, or exactly the span of the non-dictionary rule where no such word
-- starts; the first starts at 0, each other where the one before it ends, and the last ends at n.
abbrev pub RightExactly : Type 0
RightExactly =
    (g : Given) (claimed : List ℕ)
    → (verdict g claimed ≡ right → Tokens g 0 claimed (size g))
    × (Tokens g 0 claimed (size g) → verdict g claimed ≡ right)

-- Of ends whose first token starts at a, token k is the first that breaks this: no end is left
-- though n is not reached; or the next end is that of no such token; or the next token is one, and
-- the first to break this is behind it.
pub data Breaks (g : Given) : ℕ → List ℕ → ℕ → Type 0 where
  short : {a : ℕ} → (a ≡ size g → ⊥) → Breaks g a [] 0
  here : {a e : ℕ} {es : List ℕ} → (Token g a e → ⊥) → Breaks g a (e ∷ es) 0
  behind : {a e k : ℕ} {es : List ℕ} → Token g a e → Breaks g e es k → Breaks g a (e ∷ es) (suc k)

-- A claim is wrong exactly by the first token that breaks this.
abbrev pub WrongExactly : Type 0
WrongExactly =
    (g : Given) (claimed : List ℕ) (k : ℕ)
    → (verdict g claimed ≡ wrong k → Breaks g 0 claimed k)
    × (Breaks g 0 claimed k → verdict g claimed ≡ wrong k)

-- Every plain answer of ours passes.
abbrev pub OursPass : Type 0
OursPass = (words : Words) (text : List ℕ) → verdict (given words text) (cut_of Plain words text).ends ≡ right

-- The same of calls: if a plain call answered, its ends are checked as right by every call with the
-- same text, a pool that holds the same words, and 9n+128 cells of scratch.
abbrev pub AnswersPass : Type 0
AnswersPass =
    (a : Call) (c : Claim) (v w : Words) (n edges : ℕ)
    → meaning a.pool ≡ some v
    → meaning c.pool ≡ some w
    → ((x : List ℕ) → v x ≡ w x)
    → a.mode ≡ Plain
    → answer_of a ≡ accepted_with n edges
    → c.text ≡ a.text
    → c.claimed ≡ take n (out_of a)
    → scratch_for (length c.text) ≤ length c.scratch
    → claim_answer_of c ≡ Ok Right

-- Passing doesn't say that it is ours: a claim that is right, and not the ends of the plain cut.
pub record RightAndNotOurs (words : Words) (text claimed : List ℕ) : Type 0 where
  pub passes : verdict (given words text) claimed ≡ right
  pub not_ours : (cut_of Plain words text).ends ≡ claimed → ⊥

-- {กข, กขค, คง, ง}: กขคง gives [2,4], and [3,4] passes.
abbrev pub NotOurs : Type 0
NotOurs =
    RightAndNotOurs
    (among ((0xE01 ∷ 0xE02 ∷ []) ∷ (0xE01 ∷ 0xE02 ∷ 0xE04 ∷ []) ∷ (0xE04 ∷ 0xE07 ∷ []) ∷ (0xE07 ∷ []) ∷ []))
    (0xE01 ∷ 0xE02 ∷ 0xE04 ∷ 0xE07 ∷ [])
    (3 ∷ 4 ∷ [])

-- Two checks of the same claim on the same text. If one gives a verdict, and the other has 9n+128
-- cells of scratch, then the other gives the same.
abbrev pub SameVerdict : Claim → Claim → Type 0
SameVerdict a b =
    a.text ≡ b.text
    → a.claimed ≡ b.claimed
    → (v : Verdict)
    → claim_answer_of a ≡ Ok (verdict_told v)
    → scratch_for (length b.text) ≤ length b.scratch
    → claim_answer_of b ≡ Ok (verdict_told v)

-- Equal words, equal verdict: for any two pools that pass and hold the same words, however they
-- came about.
abbrev pub SameWordsSameVerdict : Type 0
SameWordsSameVerdict =
    (a b : Claim) (v w : Words)
    → meaning a.pool ≡ some v
    → meaning b.pool ≡ some w
    → ((x : List ℕ) → v x ≡ w x)
    → SameVerdict a b

-- The same for two pools that were reached from fresh ones, with whatever classes.
abbrev pub ReachedSameVerdict : Type 0
ReachedSameVerdict =
    (a b : Claim) (v w : Terms)
    → Reached a.pool v
    → Reached b.pool w
    → ((x : List ℕ) → words_in v x ≡ words_in w x)
    → SameVerdict a b
