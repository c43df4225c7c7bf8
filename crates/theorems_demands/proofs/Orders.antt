-- 01, "The lowest number that applies to an operation is given": the numbers of each operation's
-- causes, in order. Which of them is given, and that none is exactly if the call is accepted:
-- crates/refusal/proofs/Firsts.antt (`first_that_holds`, `accepted_exactly_if_none`). Assumes
-- nothing.
use Prim.Native.Nat.{ℕ, min}
use native.Mathlib.Omega.{arith}
use mathlib.Core.Path.{◌≡◌, refl}
use mathlib.Core.List.{List, [], ◌∷◌}
use Rattle.refusal.specs.Answers.{numbers}
use Rattle.refusal.specs.Firsts.{Rising}
use Rattle.utf8.specs.Decoding.{Room, decode_causes}
use Rattle.utf8.proofs.Decoded.{decoding}
use Rattle.tcc.specs.Answers.{cluster_causes}
use Rattle.tcc.proofs.Deciding.{order}
use Rattle.tcc_tables.specs.Answers.{winners_causes}
use Rattle.trie_pool.specs.Meaning.{meaning}
use Rattle.trie_check.specs.Refusals.{pool_causes, read_causes}
use Rattle.trie_char_answers.specs.Refusals.{prefix_causes, remove_causes, add_causes, fresh_causes}
use Rattle.newmm_rules.specs.declared.Mode.{Mode}
use Rattle.newmm_answers.specs.Answers.{cut_causes}
use Rattle.newmm_claim.specs.Answers.{claim_causes}
use Rattle.newmm_many_answers.specs.Calls.{many_causes}
use Rattle.break_map_rules.specs.Answers.{map_causes, read_causes as map_read_causes}

-- Decoding: 1, 2, 6 for the scalar row, 6 for the position row.
pub decode_order : (bytes : List ℕ) (room : Room) → numbers (decode_causes bytes room) ≡ 1 ∷ 2 ∷ 6 ∷ 6 ∷ []
decode_order bytes room = decoding bytes room

-- Clusters: 2, 3, 6.
pub clusters_order : (text : List ℕ) (room : ℕ) → numbers (cluster_causes text room) ≡ 2 ∷ 3 ∷ 6 ∷ []
clusters_order text room = order text room

-- Clusters and their winners (02, ticket 5), as clusters: 2, 3, 6.
pub winners_order : (text : List ℕ) (room more : ℕ) → numbers (winners_causes text room more) ≡ 2 ∷ 3 ∷ 6 ∷ []
winners_order text room more = order text (min room more)

-- Prefix lengths: 2, 3, 4, 6.
pub prefix_order : (text pool out : List ℕ) → numbers (prefix_causes text (meaning pool) out) ≡ 2 ∷ 3 ∷ 4 ∷ 6 ∷ []
prefix_order text pool out = refl

-- Cutting: 2, 3, 4, 5, 6.
pub cut_order : (mode : Mode) (text pool : List ℕ) (cells room : ℕ)
    → numbers (cut_causes mode text (meaning pool) cells room) ≡ 2 ∷ 3 ∷ 4 ∷ 5 ∷ 6 ∷ []
cut_order mode text pool cells room = refl

-- Checking a claim (02, ticket 12), as cutting, without 6: 2, 3, 4, 5.
pub claim_order : (text pool : List ℕ) (cells : ℕ) → numbers (claim_causes text (meaning pool) cells) ≡ 2 ∷ 3 ∷ 4 ∷ 5 ∷ []
claim_order text pool cells = refl

-- Many texts, the whole call: 10, 6. Each text has the order of cutting.
pub many_order : (size : ℕ) (ends : List ℕ) (room : ℕ) → numbers (many_causes size ends room) ≡ 10 ∷ 6 ∷ []
many_order size ends room = refl

-- Maps of breaks (02, ticket 9). Writing one: 2, 6, 10. Asking one: 2, 6, 10, 11.
pub map_order : (n : ℕ) (ends : List ℕ) (room : ℕ) → numbers (map_causes n ends room) ≡ 2 ∷ 6 ∷ 10 ∷ []
map_order n ends room = refl

pub map_read_order : (n : ℕ) (map : List ℕ) (position : ℕ) → numbers (map_read_causes n map position) ≡ 2 ∷ 6 ∷ 10 ∷ 11 ∷ []
map_read_order n map position = refl

-- Add: 2, 3, 4, 7, 8.
pub add_order : (word pool : List ℕ) → numbers (add_causes word pool) ≡ 2 ∷ 3 ∷ 4 ∷ 7 ∷ 8 ∷ []
add_order word pool = refl

-- Remove: 2, 3, 4, 7.
pub remove_order : (word pool : List ℕ) → numbers (remove_causes word (meaning pool)) ≡ 2 ∷ 3 ∷ 4 ∷ 7 ∷ []
remove_order word pool = refl

-- Contains: 2, 3, 4.
pub contains_order : (word pool : List ℕ) → numbers (read_causes word (meaning pool)) ≡ 2 ∷ 3 ∷ 4 ∷ []
contains_order word pool = refl

-- Word count: 4.
pub count_order : (pool : List ℕ) → numbers (pool_causes (meaning pool)) ≡ 4 ∷ []
count_order pool = refl

-- Fresh pool: 8.
pub fresh_order : (pool : List ℕ) → numbers (fresh_causes pool) ≡ 8 ∷ []
fresh_order pool = refl

-- ---- Each of these lists but that of many texts rises, so the refusal that is given has the
-- lowest number that applies (crates/refusal/proofs/Firsts.antt: lowest).

pub decode_rises : Rising (1 ∷ 2 ∷ 6 ∷ [])
decode_rises = ((omega arith, (omega arith, tt)), ((omega arith, tt), (tt, tt)))

pub clusters_rises : Rising (2 ∷ 3 ∷ 6 ∷ [])
clusters_rises = ((omega arith, (omega arith, tt)), ((omega arith, tt), (tt, tt)))

pub prefix_rises : Rising (2 ∷ 3 ∷ 4 ∷ 6 ∷ [])
prefix_rises = ((omega arith, (omega arith, (omega arith, tt))), ((omega arith, (omega arith, tt)), ((omega arith, tt), (tt, tt))))

pub cut_rises : Rising (2 ∷ 3 ∷ 4 ∷ 5 ∷ 6 ∷ [])
cut_rises = ((omega arith, (omega arith, (omega arith, (omega arith, tt)))), ((omega arith, (omega arith, (omega arith, tt))), ((omega arith, (omega arith, tt)), ((omega arith, tt), (tt, tt)))))

pub claim_rises : Rising (2 ∷ 3 ∷ 4 ∷ 5 ∷ [])
claim_rises = ((omega arith, (omega arith, (omega arith, tt))), ((omega arith, (omega arith, tt)), ((omega arith, tt), (tt, tt))))

pub map_rises : Rising (2 ∷ 6 ∷ 10 ∷ [])
map_rises = ((omega arith, (omega arith, tt)), ((omega arith, tt), (tt, tt)))

pub map_read_rises : Rising (2 ∷ 6 ∷ 10 ∷ 11 ∷ [])
map_read_rises = ((omega arith, (omega arith, (omega arith, tt))), ((omega arith, (omega arith, tt)), ((omega arith, tt), (tt, tt))))

pub add_rises : Rising (2 ∷ 3 ∷ 4 ∷ 7 ∷ 8 ∷ [])
add_rises = ((omega arith, (omega arith, (omega arith, (omega arith, tt)))), ((omega arith, (omega arith, (omega arith, tt))), ((omega arith, (omega arith, tt)), ((omega arith, tt), (tt, tt)))))

pub remove_rises : Rising (2 ∷ 3 ∷ 4 ∷ 7 ∷ [])
remove_rises = ((omega arith, (omega arith, (omega arith, tt))), ((omega arith, (omega arith, tt)), ((omega arith, tt), (tt, tt))))

pub contains_rises : Rising (2 ∷ 3 ∷ 4 ∷ [])
contains_rises = ((omega arith, (omega arith, tt)), ((omega arith, tt), (tt, tt)))

pub count_rises : Rising (4 ∷ [])
count_rises = (tt, tt)

pub fresh_rises : Rising (8 ∷ [])
fresh_rises = (tt, tt)
