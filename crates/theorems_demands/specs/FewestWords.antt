-- FEWEST WORDS (02, ticket 13): what is claimed of the ends of a plain cut, and where no more can
-- be.
use Rattle.std.specs.Prelude.{ℕ, ◌≤◌, ◌<◌, ◌≡◌, true, List, [], ◌∷◌, length, take}
use Rattle.std.proofs.Math.Option.{some}
use Rattle.trie_pool.specs.Meaning.{Words, meaning}
use Rattle.tcc.specs.Flags.{is_end}
use Rattle.newmm_rules.specs.Words.{Given, span}
use Rattle.newmm_rules.specs.Fewest.{WordChain}
use Rattle.newmm_rules.specs.Stretches.{Stretch, stretches, Each, InStretches}
use Rattle.newmm_rules.specs.declared.Mode.TheVariants.{Plain}
use Rattle.newmm_answers.specs.Answers.{accepted_with, given}
use Rattle.newmm_answers.specs.Calls.{Call, answer_of, out_of}

-- A chain of words that are held, each ending at a cluster end, from a to z: the ends of its words.
pub data HeldChain (words : Words) (text : List ℕ) : ℕ → List ℕ → ℕ → Type 0 where
  stay : {a : ℕ} → HeldChain words text a [] a
  word : {a e z : ℕ} {es : List ℕ}
      → e ≤ length text
      → words (span (given words text) a e) ≡ true
      → is_end text e ≡ true
      → HeldChain words text e es z
      → HeldChain words text a (e ∷ es) z

-- A plain call that answered: by the words of its pool, which passes, the ends that it wrote are
-- those of the stretches between two committed ends, one behind the other, its edge count is the
-- sum of theirs, and each stretch that a path search joined has the fewest words, if at most 50
-- edges were recorded there.
pub record WroteStretches (c : Call) (n edges : ℕ) (after : List ℕ) : Type 0 where
  pub words : Words
  pub means : meaning c.pool ≡ some words
  pub stretched : InStretches (given words c.text) (take n after) edges
  pub fewest :
      Each
      (λ s.
      s.searched ≡ true
      → s.edges ≤ 50
      → (es : List ℕ)
      → HeldChain words c.text s.first es s.second
      → length s.ends ≤ length es)
      (stretches (given words c.text))

abbrev pub StretchesWrote : Type 0
StretchesWrote =
    (c : Call) (n edges : ℕ) → c.mode ≡ Plain → answer_of c ≡ accepted_with n edges → WroteStretches c n edges (out_of c)

-- Beyond 50 edges nothing is claimed: a text of one stretch, where fewer words would do.
pub record FewerWouldDo (g : Given) : Type 0 where
  pub stretch : Stretch
  pub alone : stretches g ≡ stretch ∷ []
  pub searched : stretch.searched ≡ true
  pub many : 50 < stretch.edges
  pub others : List ℕ
  pub chain : WordChain g stretch.first others stretch.second
  pub fewer : length others < length stretch.ends
