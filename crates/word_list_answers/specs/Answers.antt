-- 02, ticket 7: what reading an image into a pool answers, and the words that it leaves.
use Rattle.std.specs.Prelude.{ℕ, suc, ◌-◌, Bool, true, false, List, [], ◌∷◌, ◌++◌, ltb, length, Result}
use Rattle.refusal.specs.declared.Refusal.{Refusal}
use Rattle.refusal.specs.declared.Refusal.TheVariants.{BadImage, TooFewNodes}
use Rattle.refusal.specs.Answers.{Cause, answer}
use Rattle.trie_pool.specs.Rules.{capacity}
use Rattle.trie_pool.specs.Meaning.{Terms, meaning}
use Rattle.trie_check.specs.Refusals.{pool_causes}
use Rattle.image_rules.specs.Records.{Term}
use Rattle.image_rules.specs.Lists.{charge, terms_in}
use Rattle.image_rules.specs.Reading.{Read, broken, list, read_of}

abbrev pub is_broken : Read → Bool
is_broken (broken at) = true
is_broken (list ts) = false

-- where an image first breaks a rule; that of a right one is asked for nowhere
abbrev pub broken_at : Read → ℕ
broken_at (broken at) = at
broken_at (list ts) = 0

-- the list of a right image; that of another one is asked for nowhere
abbrev pub list_in : Read → List Term
list_in (broken at) = []
list_in (list ts) = ts

abbrev pub list_of : List ℕ → List Term
list_of image = list_in (read_of image)

-- a trie's root and a node for each distinct non-empty prefix of the words
abbrev pub nodes_of : List ℕ → ℕ
nodes_of image = suc (charge (list_of image))

-- 9: anything in the image not as said; the offset of the first record that breaks a rule, or of
-- the missing one, or of the first byte after kind 0.
abbrev pub image_cause : List ℕ → Cause
image_cause image = record { refusal = BadImage (broken_at (read_of image)); holds = is_broken (read_of image) }

-- 8, counted for a dictionary emptied first that may have so many nodes; the nodes missing.
abbrev pub nodes_cause : List ℕ → ℕ → Cause
nodes_cause image room = record { refusal = TooFewNodes (nodes_of image - room); holds = ltb room (nodes_of image) }

-- Order 9, then 8, of a dictionary that may have so many nodes. It is accepted with the number of
-- words.
abbrev pub replace_answer : List ℕ → ℕ → Result ℕ Refusal
replace_answer image room = answer (image_cause image ∷ nodes_cause image room ∷ []) (length (list_of image))

-- 8, of a pool: its root counts.
abbrev pub room_cause : List ℕ → List ℕ → Cause
room_cause image pool = nodes_cause image (capacity pool)

-- Order 4, 9, then 8.
abbrev pub image_causes : List ℕ → List ℕ → List Cause
image_causes image pool = pool_causes (meaning pool) ++ (image_cause image ∷ room_cause image pool ∷ [])

-- accepted with the number of words
abbrev pub read_answer : List ℕ → List ℕ → Result ℕ Refusal
read_answer image pool = answer (image_causes image pool) (length (list_of image))

-- the words of the image with their classes
abbrev pub image_terms : List ℕ → Terms
image_terms image = terms_in (list_of image)
