-- A reading, one record on. Assumes nothing.
use mathlib.Core.Path.{◌≡◌, refl, sym, ap, ◌∙◌}
use mathlib.Core.Bool.{true, false, ◌&&◌}
use mathlib.Core.List.{List, []}
use Prim.Native.Nat.{ℕ, zero, suc, ◌+◌, ◌-◌}
use native.Mathlib.Omega.{arith}
use borrow.Author.Tests.{eq-eqb, ne_eqb}
use lib.ListN.{length, take, drop}
use Rattle.utf8.specs.Decoding.{run_all, scalars_of}
use Rattle.image_rules.specs.Reading.{size_at, whole, behind, word_bytes, term_of, follows, is_word, is_last, broken, list, onto, ended, read}
use Rattle.image_record.specs.inner.Records.{Entry}
use Rattle.image_word.specs.inner.Words.{Follows}

pub read_word : (f : ℕ) (before : List ℕ) (n at : ℕ) (b : List ℕ) → is_word before b ≡ true → read (suc f) before n at b ≡ onto (term_of b) (read f (term_of b).word (suc n) (at + (4 + size_at b)) (behind b))
unfolding read
read_word f before n at b e = simp e

pub read_other : (f : ℕ) (before : List ℕ) (n at : ℕ) (b : List ℕ) → is_word before b ≡ false → read (suc f) before n at b ≡ ended n at b
unfolding read
read_other f before n at b e = simp e

pub ended_not : (n at : ℕ) (b : List ℕ) → is_last n b ≡ false → ended n at b ≡ broken at
unfolding ended
ended_not n at b e = simp e

pub ended_more : (n at : ℕ) (b : List ℕ) → is_last n b ≡ true → (length b ≡ 10 → ⊥) → ended n at b ≡ broken (at + 10)
unfolding ended
ended_more n at b e h = simp (e, ne_eqb (length b) 10 h)

pub ended_all : (n at : ℕ) (b : List ℕ) → is_last n b ≡ true → length b ≡ 10 → ended n at b ≡ list []
unfolding ended
ended_all n at b e h = simp (e, eq-eqb (length b) 10 h)

pub no_word : (before : List ℕ) → is_word before [] ≡ false
unfolding is_word whole
no_word before = refl

pub no_last : (n : ℕ) → is_last n [] ≡ false
unfolding is_last whole
no_last n = refl

pub read_none : (f : ℕ) (before : List ℕ) (n at : ℕ) → read f before n at [] ≡ broken at
unfolding read
read_none zero before n at = refl
read_none (suc f) before n at = simp (no_word before) (ended_not n at [] (no_last n))

pub term_word : (b : List ℕ) → (term_of b).word ≡ scalars_of (word_bytes b)
unfolding term_of
term_word b = refl

module _ {image w prev : List ℕ} {at c from to size shared : ℕ} (e : Entry image at c from to) (t : Follows (take (to - from) (drop from image)) w prev size shared) where
  pub word_is : (term_of (drop at image)).word ≡ take size prev
  word_is = term_word (drop at image) ∙ ap scalars_of (sym e.word) ∙ sym t.word

  pub is_word_holds : is_word w (drop at image) ≡ true
  is_word_holds = e.is w ∙ ap (λ (q : List ℕ). (run_all (word_bytes (drop at image))).whole && follows w q) (word_is ∙ t.word) ∙ ap (λ (q : List ℕ). (run_all q).whole && follows w (scalars_of (take (to - from) (drop from image)))) (sym e.word) ∙ t.is

  -- the word, then what is read behind it
  pub read_on : (f n : ℕ) → read (suc f) w n at (drop at image) ≡ onto (term_of (drop at image)) (read f (take size prev) (n + 1) to (drop to image))
  read_on f n =
      let m : suc n ≡ n + 1 = omega arith in
      read_word f w n at (drop at image) is_word_holds
      ∙ ap (λ (u : List ℕ). onto (term_of (drop at image)) (read f u (suc n) (at + (4 + size_at (drop at image))) (behind (drop at image)))) word_is
      ∙ ap (λ (i : ℕ). onto (term_of (drop at image)) (read f (take size prev) i (at + (4 + size_at (drop at image))) (behind (drop at image)))) m
      ∙ ap (λ (i : ℕ). onto (term_of (drop at image)) (read f (take size prev) (n + 1) i (behind (drop at image)))) (sym e.next)
      ∙ ap (λ (u : List ℕ). onto (term_of (drop at image)) (read f (take size prev) (n + 1) to u)) (sym e.rest)
