-- What is beside a dictionary stays over one change and the next. Assumes nothing.
use Prim.Native.Nat.{ℕ}
use mathlib.Core.Path.{refl, ◌∙◌}
use mathlib.Core.List.{List}
use Rattle.trie_pool.specs.inner.Sound.{Plain}
use Rattle.trie_leaf.specs.inner.Planting.{Beside}

pub no_change : (p : List ℕ) → Beside p p
no_change p = record { root = refl; aside = λ i r a c. refl }

pub both_change : {p q s : List ℕ} → Beside p q → Beside q s → Beside p s
both_change f g = record { root = g.root ∙ f.root; aside = λ i r a c. g.aside i r a c ∙ f.aside i r a c }

pub plain_kept : {p q : List ℕ} → Beside p q → Plain p → Plain q
plain_kept b f = record { root = b.root ∙ f.root; aside = λ i r l h. b.aside i r l h ∙ f.aside i r l h }
