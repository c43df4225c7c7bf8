-- The proved cases of 01, "Sheets on both sides of a line", marked P there: one table.
use Rattle.std.specs.Prelude.{ℕ, ◌≡◌, Bool, false, ◌||◌, List, [], ◌∷◌}
use Rattle.trie_pool.specs.Meaning.{Words, same}
use Rattle.tcc_rules.specs.Clusters.{cluster_ends}
use Rattle.newmm_rules.specs.declared.Mode.TheVariants.{Plain}
use Rattle.newmm_answers.specs.Answers.{cut_of}

-- a text's cluster ends; or the words held, a text, and the ends of its plain cut
pub data Case : Type 0 where
  clusters : (text ends : List ℕ) → Case
  cuts : (words : List (List ℕ)) (text ends : List ℕ) → Case

abbrev pub among : List (List ℕ) → Words
among [] w = false
among (v ∷ vs) w = same v w || among vs w

abbrev pub Right : Case → Type 0
Right (clusters text ends) = cluster_ends text ≡ ends
Right (cuts words text ends) = (cut_of Plain (among words) text).ends ≡ ends

abbrev pub All : List Case → Type 0
All [] = Unit
All (c ∷ cs) = Right c × All cs

-- In 01's order: clusters, then cuts.
abbrev pub cases : List Case
cases =
    -- the empty text gives none
    clusters [] []
    -- ก็ gives [2]
    ∷ clusters (0xE01 ∷ 0xE47 ∷ []) (2 ∷ [])
    -- เปลี่ยน gives [2,5,6,7]
    ∷ clusters (0xE40 ∷ 0xE1B ∷ 0xE25 ∷ 0xE35 ∷ 0xE48 ∷ 0xE22 ∷ 0xE19 ∷ []) (2 ∷ 5 ∷ 6 ∷ 7 ∷ [])
    -- เมีย gives [4]
    ∷ clusters (0xE40 ∷ 0xE21 ∷ 0xE35 ∷ 0xE22 ∷ []) (4 ∷ [])
    -- เมียนต์ gives [6,7]
    ∷ clusters (0xE40 ∷ 0xE21 ∷ 0xE35 ∷ 0xE22 ∷ 0xE19 ∷ 0xE15 ∷ 0xE4C ∷ []) (6 ∷ 7 ∷ [])
    -- กรรม์ gives [1,5]
    ∷ clusters (0xE01 ∷ 0xE23 ∷ 0xE23 ∷ 0xE21 ∷ 0xE4C ∷ []) (1 ∷ 5 ∷ [])
    -- {กข, กขค}: กขค gives [3]
    ∷ cuts ((0xE01 ∷ 0xE02 ∷ []) ∷ (0xE01 ∷ 0xE02 ∷ 0xE04 ∷ []) ∷ []) (0xE01 ∷ 0xE02 ∷ 0xE04 ∷ []) (3 ∷ [])
    -- {กข, กขค, คง, ง}: กขคง gives [2,4], not [3,4]
    ∷ cuts
    ((0xE01 ∷ 0xE02 ∷ []) ∷ (0xE01 ∷ 0xE02 ∷ 0xE04 ∷ []) ∷ (0xE04 ∷ 0xE07 ∷ []) ∷ (0xE07 ∷ []) ∷ [])
    (0xE01 ∷ 0xE02 ∷ 0xE04 ∷ 0xE07 ∷ [])
    (2 ∷ 4 ∷ [])
    -- {ขค}: กขค gives [3]
    ∷ cuts ((0xE02 ∷ 0xE04 ∷ []) ∷ []) (0xE01 ∷ 0xE02 ∷ 0xE04 ∷ []) (3 ∷ [])
    -- {ขค, ขคง}: กขคง gives [1,4]
    ∷ cuts
    ((0xE02 ∷ 0xE04 ∷ []) ∷ (0xE02 ∷ 0xE04 ∷ 0xE07 ∷ []) ∷ [])
    (0xE01 ∷ 0xE02 ∷ 0xE04 ∷ 0xE07 ∷ [])
    (1 ∷ 4 ∷ [])
    -- {ก}: กา gives [2], since 1 isn't a cluster end
    ∷ cuts ((0xE01 ∷ []) ∷ []) (0xE01 ∷ 0xE32 ∷ []) (2 ∷ [])
    -- no words: 12,5.a gives [4,5,6]
    ∷ cuts [] (0x31 ∷ 0x32 ∷ 0x2C ∷ 0x35 ∷ 0x2E ∷ 0x61 ∷ []) (4 ∷ 5 ∷ 6 ∷ [])
    -- no words: \r gives [1]
    ∷ cuts [] (0xD ∷ []) (1 ∷ [])
    -- no words: \r\n gives [2]
    ∷ cuts [] (0xD ∷ 0xA ∷ []) (2 ∷ [])
    ∷ []
