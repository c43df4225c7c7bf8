-- The words of an image that was surveyed are those that the pool holds. Assumes nothing.
use mathlib.Core.Path.{◌≡◌, refl, sym, ap, subst}
use mathlib.Core.List.{List}
use Prim.Native.Nat.{ℕ, ◌+◌, ◌≤◌}
use Rattle.trie_pool.specs.Cells.{used}
use Rattle.trie_leaf.specs.inner.Planting.{Beside}
use Rattle.image_rules.specs.Records.{Term}
use Rattle.std.specs.Prelude.{Result, Ok}
use Rattle.image_read.specs.declared.Surveyed.{Surveyed}
use Rattle.image_read.specs.inner.Surveys.{Listed, Surveys}
use Rattle.image_place.specs.inner.Placing.{Holds, Placed}
use Rattle.image_build.specs.inner.Building.{Replaces}
use Rattle.word_list_answers.specs.Answers.{list_in}

pub replaces : {image levels p p' : List ℕ} {words nodes room : ℕ} → Listed image levels words nodes → Placed image p' → Beside p p' → used p' ≡ 1 + nodes → 1 + nodes ≤ room → Replaces image p p' room
replaces {image} {levels} {p} {p'} {words} {nodes} {room} l q b u h = record {
  holds = subst (λ (ts : List Term). Holds p' (used p') ts) (sym (ap list_in l.reads)) (q.is l.terms l.reads (used p') refl);
  beside = b;
  within = subst (λ (n : ℕ). n ≤ room) (sym u) h;
}

pub told : {image : List ℕ} {r : Result Surveyed ℕ} {s : Surveyed} → Surveys image r → r ≡ Ok s → Listed image s.levels s.words s.nodes
told {image} {r} {s} g e = subst (λ (z : Result Surveyed ℕ). Surveys image z) e g
