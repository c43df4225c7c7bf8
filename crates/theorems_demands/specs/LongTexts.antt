-- Texts of 139 and 140 characters: 01's, plainly and safely, and others in the profile "sheet". No
-- words are held.
use Rattle.std.specs.Prelude.{ℕ, ◌≡◌, List, [], ◌∷◌, ◌++◌, replicate}
use Rattle.trie_pool.specs.Meaning.{no_word}
use Rattle.newmm_rules.specs.declared.Mode.TheVariants.{Plain, Safe, Sheet}
use Rattle.newmm_answers.specs.Answers.{cut_of}

abbrev pub letters : ℕ → List ℕ
letters n = replicate n 0x61

abbrev pub spaces : ℕ → List ℕ
spaces n = replicate n 0x20

-- 140 letters a: plain [140], safe [100,140]; 139: [139]. 140 spaces, safe: [40,140]. 140
-- characters whose only space is at 105: the first part is 6 long.
abbrev pub LongTexts : Type 0
LongTexts =
    ((cut_of Plain no_word (letters 140)).ends ≡ 140 ∷ [])
    × ((cut_of Safe no_word (letters 140)).ends ≡ 100 ∷ 140 ∷ [])
    × ((cut_of Safe no_word (letters 139)).ends ≡ 139 ∷ [])
    × ((cut_of Safe no_word (spaces 140)).ends ≡ 40 ∷ 140 ∷ [])
    × ((cut_of Safe no_word (letters 105 ++ 0x20 ∷ letters 34)).ends ≡ 6 ∷ 105 ∷ 106 ∷ 140 ∷ [])

-- Sheet: ก 139 times and a space: [139,140]. 140 characters whose only space is at 105: the first
-- part is 106 long. 140 spaces: [140]; 141: [140,141].
abbrev pub SheetTexts : Type 0
SheetTexts =
    ((cut_of Sheet no_word (replicate 139 0xE01 ++ 0x20 ∷ [])).ends ≡ 139 ∷ 140 ∷ [])
    × ((cut_of Sheet no_word (letters 105 ++ 0x20 ∷ letters 34)).ends ≡ 105 ∷ 106 ∷ 140 ∷ [])
    × ((cut_of Sheet no_word (spaces 140)).ends ≡ 140 ∷ [])
    × ((cut_of Sheet no_word (spaces 141)).ends ≡ 140 ∷ 141 ∷ [])
