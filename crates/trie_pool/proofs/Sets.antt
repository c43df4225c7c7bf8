-- Words and their classes with one more or one less. Assumes nothing.
use Prim.Native.Nat.{ℕ, ◌≤◌}
use native.Mathlib.Omega.{arith}
use mathlib.Core.Path.{◌≡◌, refl, sym, ap, ◌∙◌}
use mathlib.Core.Bool.{Bool, true, false, not, cond, ◌&&◌, ◌||◌}
use mathlib.Core.List.{List, [], ◌∷◌}
use mathlib.Core.Option.{Option, none, some}
use borrow.Author.Tests.{eqb-true, eq-eqb}
use lib.Dec.{eqb}
use lib.ListN.{length}
use Rattle.trie_pool.specs.Meaning.{Words, Terms, is_some, words_in, same, with_term, without_term, differ, report_term, with_word, without_word, differs, report, classless}
use Rattle.trie_pool.proofs.Rules.{clash, join}

-- ---- equal words

pub same_true : (v w : List ℕ) → same v w ≡ true → v ≡ w
same_true [] [] h = refl
same_true [] (y ∷ w) h = clash h
same_true (x ∷ v) [] h = clash h
same_true (x ∷ v) (y ∷ w) h = go (eqb x y) refl h (same_true v w)
  where
    go : (b : Bool) → eqb x y ≡ b → b && same v w ≡ true → (same v w ≡ true → v ≡ w) → ◌≡◌ {A = List ℕ} (x ∷ v) (y ∷ w)
    go true e q ih = let heads : x ≡ y = eqb-true x y e in let tails : v ≡ w = ih q in cc
    go false e q ih = clash q

pub same_self : (w : List ℕ) → same w w ≡ true
same_self [] = refl
same_self (x ∷ w) = join (eqb x x) (same w w) (eq-eqb x x refl) (same_self w)

pub same_false : (v w : List ℕ) → same v w ≡ false → v ≡ w → ⊥
same_false v w h e = clash (sym h ∙ ap (λ (z : List ℕ). same z w) e ∙ same_self w)

-- ---- one more

with_is : (w : List ℕ) (c : ℕ) (held : Terms) (v : List ℕ) → 1 ≤ length w → with_term w c held v ≡ cond (same v w) (some c) (held v)
with_is [] c held v l = absurd (omega arith)
with_is (x ∷ w) c held v l = refl

-- terms with the word in this class, and else what is held
pub is_with_term : (w : List ℕ) (c : ℕ) (held after : Terms) → 1 ≤ length w → after w ≡ some c → ((v : List ℕ) → (v ≡ w → ⊥) → after v ≡ held v) → (v : List ℕ) → after v ≡ with_term w c held v
is_with_term w c held after l there others v = go (same v w) refl ∙ sym (with_is w c held v l)
  where
    go : (b : Bool) → same v w ≡ b → after v ≡ cond b (some c) (held v)
    go true e = ap after (same_true v w e) ∙ there
    go false e = others v (same_false v w e)

pub with_held : (w : List ℕ) (c : ℕ) (held : Terms) → 1 ≤ length w → held w ≡ some c → (v : List ℕ) → held v ≡ with_term w c held v
with_held w c held l there v = is_with_term w c held held l there (λ z ne. refl) v

pub with_blank : (w : List ℕ) (c : ℕ) (held : Terms) → length w ≡ 0 → (v : List ℕ) → held v ≡ with_term w c held v
with_blank [] c held l v = refl
with_blank (x ∷ w) c held l v = absurd (omega arith)

-- ---- one less

pub is_without_term : (w : List ℕ) (held after : Terms) → after w ≡ none → ((v : List ℕ) → (v ≡ w → ⊥) → after v ≡ held v) → (v : List ℕ) → after v ≡ without_term w held v
is_without_term w held after gone others v = go (same v w) refl
  where
    go : (b : Bool) → same v w ≡ b → after v ≡ cond b none (held v)
    go true e = ap after (same_true v w e) ∙ gone
    go false e = others v (same_false v w e)

pub without_absent : (w : List ℕ) (held : Terms) → held w ≡ none → (v : List ℕ) → held v ≡ without_term w held v
without_absent w held gone v = is_without_term w held held gone (λ z ne. refl) v

-- ---- reports

pub report_is : (w : List ℕ) (before after : Terms) (a b : Option ℕ) → before w ≡ a → after w ≡ b → differ a b ≡ report_term w before after
report_is w before after a b e f = sym (ap (λ (z : Option ℕ). differ z (after w)) e ∙ ap (differ a) f)

pub differ_self : (a : Option ℕ) → 0 ≡ differ a a
differ_self none = refl
differ_self (some c) = sym (ap {B = ℕ} (λ (b : Bool). cond b 0 1) (eq-eqb c c refl))

pub no_change : (w : List ℕ) (before after : Terms) → ((v : List ℕ) → before v ≡ after v) → 0 ≡ report_term w before after
no_change w before after h = differ_self (before w) ∙ report_is w before after (before w) (before w) refl (sym (h w))

-- ---- the words alone

pub words_with : (w : List ℕ) (c : ℕ) (held : Terms) (v : List ℕ) → words_in (with_term w c held) v ≡ with_word w (words_in held) v
words_with [] c held v = refl
words_with (x ∷ w) c held v = go (same v (x ∷ w))
  where
    go : (b : Bool) → is_some (cond b (some c) (held v)) ≡ b || is_some (held v)
    go true = refl
    go false = refl

-- ---- words that were added without a class

pub classless_with : (w : List ℕ) (held : Words) (v : List ℕ) → with_term w 0 (classless held) v ≡ classless (with_word w held) v
classless_with [] held v = refl
classless_with (x ∷ w) held v = go (same v (x ∷ w))
  where
    go : (b : Bool) → cond b (some 0) (classless held v) ≡ cond (b || held v) (some 0) none
    go true = refl
    go false = refl

pub classless_without : (w : List ℕ) (held : Words) (v : List ℕ) → without_term w (classless held) v ≡ classless (without_word w held) v
classless_without w held v = go (same v w)
  where
    go : (b : Bool) → cond b none (classless held v) ≡ cond (not b && held v) (some 0) none
    go true = refl
    go false = refl

pub classless_report : (w : List ℕ) (before after : Words) → report_term w (classless before) (classless after) ≡ report w before after
classless_report w before after = go (before w) (after w)
  where
    go : (a b : Bool) → differ (cond a (some 0) none) (cond b (some 0) none) ≡ differs a b
    go true true = refl
    go true false = refl
    go false true = refl
    go false false = refl
