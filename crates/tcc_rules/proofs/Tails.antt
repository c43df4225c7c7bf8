-- The group k, and k where the look-ahead takes a character off. Assumes nothing.
use Prim.Native.Nat.{ℕ, ◌+◌, ◌-◌, ◌≤◌, ◌<◌}
use native.Mathlib.Omega.{arith}
use mathlib.Core.Path.{◌≡◌, refl, sym, ◌∙◌, ap, subst}
use mathlib.Core.Bool.{Bool, true, false, cond}
use mathlib.Core.List.{List, [], ◌∷◌, ◌++◌}
use lib.ListN.{get_or, take}
use lib.Dec.{T}
use borrow.Author.Tests.{lt-ltb, le-ltb}
use Rattle.tcc_rules.specs.Patterns.{holds, Pattern, end, fail, then, Match, none, upto, match, items, one, opt, optional}
use Rattle.tcc_rules.specs.Rules.{is, consonant, leading, d_or_i, ch, k}
use Rattle.tcc_rules.specs.Clusters.{ended}
use Rattle.tcc_rules.specs.inner.Optional.{exact, some, skipped, end_or, k_end, shorter}
use Rattle.tcc_rules.proofs.Steps.{end_by, end_fail, end_end, end_sure, step, stay, sure, match_past}
use Rattle.tcc_rules.proofs.Skips.{skip_either, skip}

-- what is left of k behind its first character
abbrev pub first : Pattern
first = items (opt consonant ∷ opt d_or_i ∷ ch 0xE4C ∷ []) end

or_end : (text : List ℕ) (p q : ℕ) (m : Match) → ended fail text p q m ≡ end_or q m
unfolding match
or_end text p q none = refl
or_end text p q (upto d) = refl

module _ (text : List ℕ) (p : ℕ) where
  -- with nothing left of the look-ahead, k ends where it does
  pub optional_k_end : (e : ℕ) → end_by (optional k) fail text p e ≡ k_end text p
  unfolding end_by k_end
  optional_k_end e = end_sure (optional k) fail text p e p tt ∙ or_end text p p (match (optional k) text p)

  pub k_none : holds consonant (get_or text p 0) ≡ false → p ≡ k_end text p
  k_none h = sym (sym (optional_k_end p) ∙ stay consonant (optional k) fail text p p h tt ∙ end_end fail text p p tt)

  pub k_first : holds consonant (get_or text p 0) ≡ true → k_end text p ≡ end_by first fail text (p + 1) p
  k_first h = sym (optional_k_end p) ∙ step (some consonant) (optional k) fail text p p (h, refl) tt tt tt tt

  -- where k's last character would stand
  abbrev pub last : ℕ
  last = skipped d_or_i text (skipped consonant text (p + 1))

  to_last : holds consonant (get_or text p 0) ≡ true → k_end text p ≡ end_by (then (is 0xE4C) end) fail text last p
  to_last h =
      k_first h ∙ skip consonant first fail text (p + 1) p tt refl refl ∙ skip d_or_i (items (opt d_or_i ∷ ch 0xE4C ∷ []) end) fail text (skipped consonant text (p + 1)) p tt refl refl

  pub k_mark : {q : ℕ} → q ≡ last → holds consonant (get_or text p 0) ≡ true → get_or text q 0 ≡ 0xE4C → q + 1 ≡ k_end text p
  k_mark e h f =
      ap (λ (q : ℕ). q + 1) e
      ∙ sym (to_last h ∙ step (exact 0xE4C) (then (is 0xE4C) end) fail text last p (ap (λ (q : ℕ). get_or text q 0) (sym e) ∙ f) tt tt tt tt ∙ end_end fail text (last + 1) p tt)

  pub k_no_mark : {q : ℕ} → q ≡ last → holds consonant (get_or text p 0) ≡ true → holds (is 0xE4C) (get_or text q 0) ≡ false → p ≡ k_end text p
  k_no_mark e h f =
      sym (to_last h ∙ stay (is 0xE4C) (then (is 0xE4C) end) fail text last p (ap (λ (q : ℕ). holds (is 0xE4C) (get_or text q 0)) (sym e) ∙ f) tt ∙ end_fail fail text last p)

  abbrev Unmarked : ℕ → Type 0
  Unmarked q = holds (is 0xE4C) (get_or text q 0) ≡ false

  pub k_unmarked : Unmarked (p + 1) → Unmarked (p + 2) → Unmarked (p + 3) → p ≡ k_end text p
  k_unmarked f g i = go (holds consonant (get_or text p 0)) refl
    where
      second : Unmarked (p + 1 + 1)
      second = let e : p + 2 ≡ p + 1 + 1 = omega arith in subst Unmarked e g

      third : Unmarked (p + 1 + 1 + 1)
      third = let e : p + 3 ≡ p + 1 + 1 + 1 = omega arith in subst Unmarked e i

      go : (b : Bool) → holds consonant (get_or text p 0) ≡ b → p ≡ k_end text p
      go true h =
          k_no_mark refl h
          (skip_either d_or_i text (skipped consonant text (p + 1)) Unmarked (skip_either consonant text (p + 1) Unmarked f second)
          (skip_either consonant text (p + 1) (λ q. Unmarked (q + 1)) second third))
      go false h = k_none h

  -- where a character of k satisfies the look-ahead
  abbrev ahead : Pattern
  ahead = items (one (leading ++ consonant) ∷ []) (optional k)

  shorter_none : p ≡ k_end text p → p ≡ shorter p (k_end text p)
  shorter_none e = rw (← e) (sym (ap (λ (b : Bool). cond b (p - 1) p) (le-ltb p p (omega arith))))

  taken : (m : Match) → match first text (p + 1) ≡ m → ended (optional k) text (p + 1) p m ≡ shorter p (end_or p m)
  taken none e = sym (ap (λ (b : Bool). cond b (p - 1) p) (le-ltb p p (omega arith)))
  taken (upto d) e =
      let i = match_past first text (p + 1) d e in
      ap (λ (b : Bool). cond b (d - 1) d) (sure (take d text) (p + 1) (optional k) tt) ∙ sym (ap (λ (b : Bool). cond b (d - 1) p) (lt-ltb p d (omega arith)))

  shorter_some : end_by first (optional k) text (p + 1) p ≡ shorter p (end_by first fail text (p + 1) p)
  unfolding end_by
  shorter_some = taken (match first text (p + 1)) refl ∙ ap (shorter p) (sym (or_end text (p + 1) p (match first text (p + 1))))

  pub k_shorter : (e : ℕ) → end_by (optional k) ahead text p e ≡ shorter p (k_end text p)
  k_shorter e = go (holds consonant (get_or text p 0)) refl
    where
      go : (b : Bool) → holds consonant (get_or text p 0) ≡ b → end_by (optional k) ahead text p e ≡ shorter p (k_end text p)
      go true h = step (some consonant) (optional k) ahead text p e (h, refl) tt tt tt tt ∙ shorter_some ∙ ap (shorter p) (sym (k_first h))
      go false h = stay consonant (optional k) ahead text p e h tt ∙ end_end ahead text p e tt ∙ shorter_none (k_none h)

pub shorter_yes : {p e q : ℕ} → e ≡ q → p < e → e - 1 ≡ shorter p q
shorter_yes {p} {e} {q} h i = ap (λ (j : ℕ). j - 1) h ∙ sym (ap (λ (b : Bool). cond b (q - 1) p) (lt-ltb p q (omega arith)))

pub shorter_no : {p e q : ℕ} → e ≡ q → e ≤ p → p ≡ shorter p q
shorter_no {p} {e} {q} h i = sym (ap (λ (b : Bool). cond b (q - 1) p) (le-ltb p q (omega arith)))
