-- 01, "Clusters": the alternatives of `NON_LOOKAHEAD_TCC` and `LOOKAHEAD_TCC`, in 01's numbers and
-- shorthand.
use Rattle.std.specs.Prelude.{ℕ, List, [], ◌∷◌, ◌++◌}
use Rattle.tcc_rules.specs.Patterns.{Range, Item, one, opt, Alternative}

abbrev pub is : ℕ → List Range
is x = record { lo = x; hi = x } ∷ []

abbrev pub up_to : ℕ → ℕ → List Range
up_to a b = record { lo = a; hi = b } ∷ []

-- c U+0E01..0E2E
abbrev pub consonant : List Range
consonant = up_to 0xE01 0xE2E

-- t optional U+0E48..0E4B
abbrev pub tone : List Range
tone = up_to 0xE48 0xE4B

-- d U+0E38, U+0E39
abbrev pub d : List Range
d = up_to 0xE38 0xE39

-- [เ-ไ]
abbrev pub leading : List Range
leading = up_to 0xE40 0xE44

abbrev pub c : Item
c = one consonant

abbrev pub t : Item
t = opt tone

abbrev pub ch : ℕ → Item
ch x = one (is x)

-- d or U+0E34
abbrev pub d_or_i : List Range
d_or_i = is 0xE34 ++ d

-- k optional as a whole: c, optional c, optional d or U+0E34, then U+0E4C
abbrev pub k : List Item
k = c ∷ opt consonant ∷ opt d_or_i ∷ ch 0xE4C ∷ []

abbrev pub with_k : ℕ → List Item → Alternative
with_k n is = record { number = n; parts = is; group = k }

abbrev pub plain : ℕ → List Item → Alternative
plain n is = record { number = n; parts = is; group = [] }

-- the same two alternatives stand at the end of the one table and make up the other
abbrev pub lookahead : List Alternative
lookahead =
    -- เccีtย[เ-ไก-ฮ]k
    with_k 28 (ch 0xE40 ∷ c ∷ c ∷ ch 0xE35 ∷ t ∷ ch 0xE22 ∷ one (leading ++ consonant) ∷ [])
    -- เc[ิีุู]tย[เ-ไก-ฮ]k
    ∷ with_k 29 (ch 0xE40 ∷ c ∷ one (up_to 0xE34 0xE35 ++ d) ∷ t ∷ ch 0xE22 ∷ one (leading ++ consonant) ∷ [])
    ∷ []

abbrev pub alternatives : List Alternative
alternatives =
    -- เc็ck
    with_k 1 (ch 0xE40 ∷ c ∷ ch 0xE47 ∷ c ∷ [])
    -- เcctาะk
    ∷ with_k 2 (ch 0xE40 ∷ c ∷ c ∷ t ∷ ch 0xE32 ∷ ch 0xE30 ∷ [])
    -- เccีtยะk
    ∷ with_k 3 (ch 0xE40 ∷ c ∷ c ∷ ch 0xE35 ∷ t ∷ ch 0xE22 ∷ ch 0xE30 ∷ [])
    -- เcc็ck
    ∷ with_k 4 (ch 0xE40 ∷ c ∷ c ∷ ch 0xE47 ∷ c ∷ [])
    -- เcิc์ck
    ∷ with_k 5 (ch 0xE40 ∷ c ∷ ch 0xE34 ∷ c ∷ ch 0xE4C ∷ c ∷ [])
    -- เcิtck
    ∷ with_k 6 (ch 0xE40 ∷ c ∷ ch 0xE34 ∷ t ∷ c ∷ [])
    -- เcีtยะ?k
    ∷ with_k 7 (ch 0xE40 ∷ c ∷ ch 0xE35 ∷ t ∷ ch 0xE22 ∷ opt (is 0xE30) ∷ [])
    -- เcืtอะ?k
    ∷ with_k 8 (ch 0xE40 ∷ c ∷ ch 0xE37 ∷ t ∷ ch 0xE2D ∷ opt (is 0xE30) ∷ [])
    -- เctา?ะ?k
    ∷ with_k 9 (ch 0xE40 ∷ c ∷ t ∷ opt (is 0xE32) ∷ opt (is 0xE30) ∷ [])
    -- cัtวะk
    ∷ with_k 10 (c ∷ ch 0xE31 ∷ t ∷ ch 0xE27 ∷ ch 0xE30 ∷ [])
    -- c[ัื]tc[ุิะ]?k
    ∷ with_k 11 (c ∷ one (is 0xE31 ++ is 0xE37) ∷ t ∷ c ∷ opt (is 0xE38 ++ is 0xE34 ++ is 0xE30) ∷ [])
    -- c[ิุู]์k
    ∷ with_k 12 (c ∷ one d_or_i ∷ ch 0xE4C ∷ [])
    -- c[ะ-ู]tk
    ∷ with_k 13 (c ∷ one (up_to 0xE30 0xE39) ∷ t ∷ [])
    -- cรรc์ ็
    ∷ plain 14 (c ∷ ch 0xE23 ∷ ch 0xE23 ∷ c ∷ ch 0xE4C ∷ ch 0x20 ∷ ch 0xE47 ∷ [])
    -- c็
    ∷ plain 15 (c ∷ ch 0xE47 ∷ [])
    -- ct[ะาำ]?k
    ∷ with_k 16 (c ∷ t ∷ opt (is 0xE30 ++ is 0xE32 ++ is 0xE33) ∷ [])
    -- ck
    ∷ with_k 17 (c ∷ [])
    -- แc็c
    ∷ plain 18 (ch 0xE41 ∷ c ∷ ch 0xE47 ∷ c ∷ [])
    -- แcc์
    ∷ plain 19 (ch 0xE41 ∷ c ∷ c ∷ ch 0xE4C ∷ [])
    -- แctะ
    ∷ plain 20 (ch 0xE41 ∷ c ∷ t ∷ ch 0xE30 ∷ [])
    -- แcc็c
    ∷ plain 21 (ch 0xE41 ∷ c ∷ c ∷ ch 0xE47 ∷ c ∷ [])
    -- แccc์
    ∷ plain 22 (ch 0xE41 ∷ c ∷ c ∷ c ∷ ch 0xE4C ∷ [])
    -- โctะ
    ∷ plain 23 (ch 0xE42 ∷ c ∷ t ∷ ch 0xE30 ∷ [])
    -- [เ-ไ]ct
    ∷ plain 24 (one leading ∷ c ∷ t ∷ [])
    -- ก็
    ∷ plain 25 (ch 0xE01 ∷ ch 0xE47 ∷ [])
    -- อึ
    ∷ plain 26 (ch 0xE2D ∷ ch 0xE36 ∷ [])
    -- หึ
    ∷ plain 27 (ch 0xE2B ∷ ch 0xE36 ∷ [])
    ∷ lookahead
