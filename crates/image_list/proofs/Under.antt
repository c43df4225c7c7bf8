-- What is listed at a node is its own word and what is listed at its children, one by one; it is a
-- part of the whole list. Assumes nothing.
use Prim.Native.Nat.{ℕ, zero, suc, ◌+◌, ◌-◌, ◌≤◌, ◌<◌}
use native.Mathlib.Omega.{arith}
use native.Mathlib.Decide.{dec_lt}
use mathlib.Core.Path.{◌≡◌, refl, sym, ap, ◌∙◌}
use mathlib.Core.List.{List, [], ◌∷◌, ◌++◌, append_assoc}
use lib.ListN.{length, length-append}
use Rattle.trie_pool.specs.Cells.{scalar_at, first_at, count_at, mark_at}
use Rattle.trie_pool.specs.Words.{none, at, on_place, child}
use Rattle.trie_pool.specs.inner.Paths.{reach}
use Rattle.trie_pool.specs.inner.Sound.{Sound}
use Rattle.trie_pool.proofs.Shape.{within, child_found, step, reach_within}
use Rattle.trie_pool.proofs.Level.{ends_mono, level_low}
use Rattle.trie_pool.proofs.Canon.{member}
use Rattle.image_rules.specs.Records.{Term, word_record, word_records}
use Rattle.image_list.specs.Listed.{own, block, listed, list_of}
use Rattle.image_list.specs.inner.Under.{under}

-- ---- blocks

block_same : (f g : List ℕ → ℕ → List Term) (p path : List ℕ) → ((c : ℕ) → f (scalar_at p c ∷ path) c ≡ g (scalar_at p c ∷ path) c) → (s n : ℕ) → block f p path s n ≡ block g p path s n
block_same f g p path h s zero = refl
block_same f g p path h s (suc n) =
    ap (λ (l : List Term). l ++ block f p path (suc s) n) (h s) ∙ ap (λ (l : List Term). g (scalar_at p s ∷ path) s ++ l) (block_same f g p path h (suc s) n)

-- the nodes from k to e
pub block_next : (f : List ℕ → ℕ → List Term) (p path : List ℕ) (k e : ℕ) → k < e → block f p path k (e - k) ≡ f (scalar_at p k ∷ path) k ++ block f p path (suc k) (e - suc k)
block_next f p path k e h = let z : e - k ≡ suc (e - suc k) = omega arith in ap (block f p path k) z

pub block_none : (f : List ℕ → ℕ → List Term) (p path : List ℕ) (k e : ℕ) → e ≤ k → block f p path k (e - k) ≡ []
block_none f p path k e h = let z : e - k ≡ 0 = omega arith in ap (block f p path k) z

-- ---- a node

pub under_is : (p path : List ℕ) (i : ℕ) → length path ≤ 255 → under p path i ≡ own path (mark_at p i) ++ block (under p) p path (first_at p i) (count_at p i)
unfolding under listed
under_is p path i h =
    let z : 256 - length path ≡ suc (255 - length path) = omega arith in
    ap (λ (f : ℕ). listed f p path i) z
    ∙ ap (λ (l : List Term). own path (mark_at p i) ++ l)
    (block_same (λ v r. listed (255 - length path) p v r) (under p) p path (λ c. let y : 255 - length path ≡ 256 - suc (length path) = omega arith in ap (λ (f : ℕ). listed f p (scalar_at p c ∷ path) c) y) (first_at p i) (count_at p i))

pub under_root : (p : List ℕ) → list_of p ≡ under p [] 0
unfolding under list_of
under_root p = refl

-- ---- the records of two lists

pub records_both : (a b : List Term) → word_records (a ++ b) ≡ word_records a ++ word_records b
unfolding word_records
records_both [] b = refl
records_both (t ∷ a) b = ap (λ (l : List ℕ). word_record t ++ l) (records_both a b) ∙ sym (append_assoc (word_record t) (word_records a) (word_records b))

pub size_both : (a b : List Term) → length (word_records (a ++ b)) ≡ length (word_records a) + length (word_records b)
size_both a b = ap length (records_both a b) ∙ length-append (word_records a) (word_records b)

in_block : (f : List ℕ → ℕ → List Term) (p path : List ℕ) (s n c : ℕ) → s ≤ c → c < s + n → length (word_records (f (scalar_at p c ∷ path) c)) ≤ length (word_records (block f p path s n))
in_block f p path s zero c a b = absurd (omega arith)
in_block f p path s (suc n) c a b = go (dec_lt s c) (in_block f p path (suc s) n c)
  where
    sum : length (word_records (f (scalar_at p s ∷ path) s ++ block f p path (suc s) n)) ≡ length (word_records (f (scalar_at p s ∷ path) s)) + length (word_records (block f p path (suc s) n))
    sum = size_both (f (scalar_at p s ∷ path) s) (block f p path (suc s) n)

    go : Dec (s < c) → (suc s ≤ c → c < suc s + n → length (word_records (f (scalar_at p c ∷ path) c)) ≤ length (word_records (block f p path (suc s) n))) → length (word_records (f (scalar_at p c ∷ path) c)) ≤ length (word_records (f (scalar_at p s ∷ path) s ++ block f p path (suc s) n))
    go (yes l) ih = omega (arith, sum, ih (omega arith) (omega arith))
    go (no l) ih = let e : c ≡ s = omega arith in omega (arith, sum, ap (λ (z : ℕ). length (word_records (f (scalar_at p z ∷ path) z))) e)

-- ---- paths

module _ (p : List ℕ) (n : ℕ) (g : Sound p n 0) where
  -- a path is at most 255 long
  pub path_short : (u : List ℕ) (i : ℕ) → reach p u ≡ at i → length u ≤ 255
  path_short [] i e = omega arith
  path_short (x ∷ u) i e = go (dec_lt (length u) 255)
    where
      go : Dec (length u < 255) → suc (length u) ≤ 255
      go (yes l) = l
      go (no l) = absurd (omega (arith, level_low p n g.shaped x u i e, ends_mono p n g.shaped 255 (length u) (omega arith), g.shallow, reach_within p n g.shaped (x ∷ u) i e))

  -- what is listed at a node takes no more room than the whole
  pub part_of_all : (u : List ℕ) (i : ℕ) → reach p u ≡ at i → length (word_records (under p u i)) ≤ length (word_records (list_of p))
  part_of_all [] i e = let z : 0 ≡ i = cc in omega (arith, ap (λ (l : List Term). length (word_records l)) (under_root p), ap (λ (k : ℕ). length (word_records (under p [] k))) z)
  part_of_all (x ∷ u) i e =
      let s = step p u x i e in
      let f = child_found p s.mid x i s.then in
      omega (
        arith,
        part_of_all u s.mid s.there,
        ap (λ (l : List Term). length (word_records l)) (under_is p u s.mid (path_short u s.mid s.there)),
        size_both (own u (mark_at p s.mid)) (block (under p) p u (first_at p s.mid) (count_at p s.mid)),
        in_block (under p) p u (first_at p s.mid) (count_at p s.mid) i f.low f.high,
        ap (λ (z : ℕ). length (word_records (under p (z ∷ u) i))) f.is,
      )

  -- the path to a node of a block
  pub path_on : (u : List ℕ) (i c : ℕ) → reach p u ≡ at i → first_at p i ≤ c → c < first_at p i + count_at p i → reach p (scalar_at p c ∷ u) ≡ at c
  path_on u i c e a b = ap (on_place none (λ k. child p k (scalar_at p c))) e ∙ member p n g i c (reach_within p n g.shaped u i e) a b
