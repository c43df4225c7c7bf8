-- Words written from their end, and the path of a word through the last nodes of the levels.
-- Assumes nothing.
use mathlib.Core.Path.{◌≡◌, refl, sym, ap, subst, ◌∙◌}
use mathlib.Core.List.{List, [], ◌∷◌, ◌++◌}
use Prim.Native.Nat.{ℕ, zero, suc, ◌+◌, ◌-◌, ◌≤◌, ◌<◌}
use native.Mathlib.Omega.{arith}
use lib.ListN.{length, get_or, take, length-take}
use lib.Seq.{take-suc, length-take-le, take-take}
use Rattle.trie_pool.specs.Words.{none, at, on_place, child, rev}
use Rattle.trie_pool.specs.inner.Paths.{reach}
use Rattle.trie_build_rules.specs.inner.Laid.{Laid}
use Rattle.trie_build_rules.specs.inner.Growing.{Path}
use Rattle.trie_build_rules.proofs.Building.{reach_level}

pub rev_length : (u w : List ℕ) → length (rev u w) ≡ length u + length w
rev_length [] w = omega arith
rev_length (x ∷ u) w = rev_length u (x ∷ w) ∙ omega arith

-- a word is as long from its end
pub same_length : (v : List ℕ) → length (rev v []) ≡ length v
same_length v = rev_length v [] ∙ omega arith

rev_last : (v a : List ℕ) (x : ℕ) → rev (v ++ (x ∷ [])) a ≡ x ∷ rev v a
rev_last [] a x = refl
rev_last (y ∷ v) a x = rev_last v (y ∷ a) x

-- one character more
pub rev_take : (w : List ℕ) (k : ℕ) → k < length w → rev (take (suc k) w) [] ≡ get_or w k 0 ∷ rev (take k w) []
rev_take w k h = ap (λ (z : List ℕ). rev z []) (take-suc w k 0 h) ∙ rev_last (take k w) [] (get_or w k 0)

pub long : (w : List ℕ) (k : ℕ) → k ≤ length w → length (rev (take k w) []) ≡ k
long w k h = same_length (take k w) ∙ length-take-le k w h

-- the last node of a level that the path goes through
pub record Last (s next : ℕ → ℕ) (k : ℕ) : Type 0 where
  pub low : s k ≤ next k - 1
  pub high : 1 ≤ next k

pub last : (p : List ℕ) (s next : ℕ → ℕ) → Laid p s next → (w : List ℕ) (d k : ℕ) → Path p next w d → k ≤ d → d ≤ length w → length w ≤ 255 → Last s next k
last p s next v w d k h l m few =
    let e = long w k (omega arith) in
    let q = reach_level p s next v (rev (take k w) []) (next k - 1) (omega arith) (h.along k l) in
    record { low = subst (λ (z : ℕ). s z ≤ next k - 1) e q.0; high = let z : next k - 1 < next k = subst (λ (z : ℕ). next k - 1 < next z) e q.1 in omega arith }

-- a path is one of another word that starts alike
pub path_same : {p : List ℕ} {next : ℕ → ℕ} (v w : List ℕ) (d e : ℕ) → d ≤ e → take d v ≡ take d w → Path p next v e → Path p next w d
path_same {p} {next} v w d e l same h = record { along = λ k m. go k m }
  where
    go : (k : ℕ) → k ≤ d → reach p (rev (take k w) []) ≡ at (next k - 1)
    go k m =
        let e' : take k w ≡ take k v = sym (take-take k d w m) ∙ ap (take k) (sym same) ∙ take-take k d v m in
        ap (λ (z : List ℕ). reach p (rev z [])) e' ∙ h.along k (omega arith)
