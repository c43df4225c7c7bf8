-- What the contracts of the matcher's inner functions say. No public contract needs this.
use Rattle.std.specs.Prelude.{ℕ, zero, suc, ◌+◌, ◌-◌, ◌<◌, ◌≡◌, true, false, cond, List, [], ◌∷◌, length, get_or, ltb}
use Rattle.tcc_rules.specs.Patterns.{Range, holds, holds_at, Match, none, upto, match, optional}
use Rattle.tcc_rules.specs.Rules.{k}

-- What is known of a character: it is this one, or it is in the first class and not in the second.
pub data Known : Type 0 where
  exact : ℕ → Known
  among : List Range → List Range → Known

abbrev pub Fact : Known → ℕ → Type 0
Fact (exact v) x = x ≡ v
Fact (among ins outs) x = (holds ins x ≡ true) × (holds outs x ≡ false)

abbrev pub some : List Range → Known
some cl = among cl []

-- the place i characters behind p
abbrev pub place : ℕ → ℕ → ℕ
place p zero = p
place p (suc i) = p + suc i

-- so much is known of the characters from the i-th behind p on
abbrev pub KnownFrom : ℕ → List Known → List ℕ → ℕ → Type 0
KnownFrom i [] text p = Unit
KnownFrom i (f ∷ fs) text p = Fact f (get_or text (place p i) 0) × KnownFrom (suc i) fs text p

-- p is a place of the text, and so much is known of the characters there
abbrev pub Begins : List Known → List ℕ → ℕ → Type 0
Begins fs text p = (p < length text) × KnownFrom 0 fs text p

-- behind a character of the class at p, or p where there is none
unfoldable pub skipped : List Range → List ℕ → ℕ → ℕ
skipped cl text p = cond (holds_at cl text p) (p + 1) p

abbrev pub end_or : ℕ → Match → ℕ
end_or e none = e
end_or e (upto q) = q

-- the end of k at p, which is p where there is none
unfoldable pub k_end : List ℕ → ℕ → ℕ
k_end text p = end_or p (match (optional k) text p)

-- one character less, if there is one behind p
abbrev pub shorter : ℕ → ℕ → ℕ
shorter p e = cond (ltb p e) (e - 1) p
