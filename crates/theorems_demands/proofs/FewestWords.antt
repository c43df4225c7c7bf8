-- Fewest words, over what a plain call wrote. Assumes nothing.
use Prim.Native.Nat.{ℕ}
use mathlib.Core.Path.{◌≡◌, sym, subst}
use mathlib.Core.Bool.{true}
use mathlib.Core.List.{List, [], ◌∷◌}
use mathlib.Core.Option.{some}
use lib.ListN.{take}
use Rattle.trie_pool.specs.Meaning.{Words, meaning}
use Rattle.newmm_rules.specs.Fewest as chain
use Rattle.newmm_rules.specs.Fewest.{WordChain}
use Rattle.newmm_rules.specs.Stretches.{Stretch, stretches, FewestWords, Each, InStretches}
use Rattle.newmm_rules.specs.declared.Mode.{Mode}
use Rattle.newmm_rules.specs.declared.Mode.TheVariants.{Plain}
use Rattle.newmm_rules.proofs.Stretches.{in_stretches}
use Rattle.newmm_answers.specs.Answers.{given, plain_cut, cut_of}
use Rattle.newmm_answers.specs.Calls.{out_of}
use Rattle.theorems_demands.specs.FewestWords.{HeldChain, stay, word, StretchesWrote}
use Rattle.theorems_demands.proofs.Ends.{told, every_word}

plain_stretches : (words : Words) (text : List ℕ) → InStretches (given words text) (cut_of Plain words text).ends (cut_of Plain words text).edges
unfolding cut_of plain_cut
plain_stretches words text = in_stretches (given words text)

-- in a pool that passes, no held word is left out of a chain
chained : (pool : List ℕ) (words : Words) → meaning pool ≡ some words → (text : List ℕ) {a z : ℕ} {es : List ℕ} → HeldChain words text a es z → WordChain (given words text) a es z
chained pool words means text stay = chain.stay
chained pool words means text (word {a = a} {e = e} inside held ends rest) = chain.word (every_word pool words means text a e inside held ends) (chained pool words means text rest)

each_on : (P Q : Stretch → Type 0) → ((s : Stretch) → P s → Q s) → (ss : List Stretch) → Each P ss → Each Q ss
each_on P Q f [] h = tt
each_on P Q f (s ∷ ss) h = (f s h.0, each_on P Q f ss h.1)

pub stretches_wrote : StretchesWrote
stretches_wrote c n edges plain h =
    let t = told c n edges h in
    let g = given t.words c.text in
    let stretched : InStretches g (take n (out_of c)) edges =
    subst (λ (e : ℕ). InStretches g (take n (out_of c)) e) t.counted
    (subst (λ (ends : List ℕ). InStretches g ends (cut_of c.mode t.words c.text).edges) (sym t.front)
    (subst (λ (m : Mode). InStretches g (cut_of m t.words c.text).ends (cut_of m t.words c.text).edges) (sym plain) (plain_stretches t.words c.text)))
    in
    record {
      words = t.words;
      means = t.means;
      stretched = stretched;
      fewest = each_on (λ s. s.searched ≡ true → FewestWords g s) _ (λ s f searched few es h. (f searched).fewest few es (chained c.pool t.words t.means c.text h)) (stretches g) stretched.fewest;
    }
