-- What add and remove report, what becomes of a class, and that prefix lengths rise. Assumes
-- nothing.
use Prim.Native.Nat.{ℕ, zero, suc, ◌≤◌}
use native.Mathlib.Omega.{arith}
use mathlib.Core.Path.{◌≡◌, refl, sym, ◌∙◌, ap, subst}
use native.Mathlib.Decide.{ℕ_discrete}
use mathlib.Core.Bool.{Bool, true, false, cond}
use mathlib.Core.List.{List, [], ◌∷◌}
use mathlib.Core.Option.{Option, some}
use mathlib.Core.Option as option
use borrow.Author.Tests.{ne_eqb}
use lib.ListN.{length, take}
use Rattle.trie_pool.specs.Meaning.{Words, Terms, with_term, without_term, report_term, lengths_from, prefix_lengths}
use Rattle.trie_pool.proofs.Sets.{same_self, with_held, with_blank, without_absent, report_is, no_change}
use Rattle.newmm_rules.specs.Positions.{Rises, none, next}
use Rattle.newmm_rules.proofs.Positions.{lower}
use Rattle.theorems_demands.specs.Dictionary.{Reports, changed, unchanged, ReportsChange, ReplacesClass, BlankReportsNone, PrefixesRise}

pub none_some : {P : Type 0} {c : ℕ} → option.none ≡ some c → P
none_some e = absurd (let z : ◌≡◌ {A = ℕ} 0 1 = cc in omega arith)

some_one : {a c : ℕ} → some a ≡ some c → a ≡ c
some_one e = cc

kept : (w : List ℕ) (before after : Terms) → ((v : List ℕ) → before v ≡ after v) → Reports before after (report_term w before after)
kept w before after h = subst (Reports before after) (no_change w before after h) (unchanged h)

-- the word itself
pub with_self : (w : List ℕ) (c : ℕ) (held : Terms) → 1 ≤ length w → with_term w c held w ≡ some c
with_self [] c held l = absurd (omega arith)
with_self (x ∷ w) c held l = ap (λ (b : Bool). cond b (some c) (held (x ∷ w))) (same_self (x ∷ w))

-- another class
other_class : (w : List ℕ) (a c : ℕ) (held : Terms) → 1 ≤ length w → held w ≡ some a → (a ≡ c → ⊥) → 1 ≡ report_term w held (with_term w c held)
other_class w a c held l e ne =
    sym (ap {B = ℕ} (λ (b : Bool). cond b 0 1) (ne_eqb a c ne)) ∙ report_is w held (with_term w c held) (some a) (some c) e (with_self w c held l)

module _ (held : Terms) where
  adding : (w : List ℕ) (c : ℕ) → Reports held (with_term w c held) (report_term w held (with_term w c held))
  adding [] c = kept [] held (with_term [] c held) (λ v. refl)
  adding (x ∷ w) c = go (held (x ∷ w)) refl
    where
      there : with_term (x ∷ w) c held (x ∷ w) ≡ some c
      there = with_self (x ∷ w) c held (omega arith)

      go : (b : Option ℕ) → held (x ∷ w) ≡ b → Reports held (with_term (x ∷ w) c held) (report_term (x ∷ w) held (with_term (x ∷ w) c held))
      go (some a) e = by (ℕ_discrete a c)
        where
          by : Dec (a ≡ c) → Reports held (with_term (x ∷ w) c held) (report_term (x ∷ w) held (with_term (x ∷ w) c held))
          by (yes z) = kept (x ∷ w) held (with_term (x ∷ w) c held) (with_held (x ∷ w) c held (omega arith) (e ∙ ap (λ (k : ℕ). some k) z))
          by (no z) = subst (Reports held (with_term (x ∷ w) c held)) (other_class (x ∷ w) a c held (omega arith) e z) (changed {w = x ∷ w} (λ q. z (some_one (sym e ∙ q ∙ there))))
      go option.none e =
          subst (Reports held (with_term (x ∷ w) c held)) (report_is (x ∷ w) held (with_term (x ∷ w) c held) option.none (some c) e there)
          (changed {w = x ∷ w} (λ q. none_some (sym e ∙ q ∙ there)))

  removing : (w : List ℕ) → Reports held (without_term w held) (report_term w held (without_term w held))
  removing w = go (held w) refl
    where
      gone : without_term w held w ≡ option.none
      gone = ap (λ (b : Bool). cond b option.none (held w)) (same_self w)

      go : (b : Option ℕ) → held w ≡ b → Reports held (without_term w held) (report_term w held (without_term w held))
      go (some a) e =
          subst (Reports held (without_term w held)) (report_is w held (without_term w held) (some a) option.none e gone)
          (changed {w = w} (λ q. none_some (sym gone ∙ sym q ∙ e)))
      go option.none e = kept w held (without_term w held) (without_absent w held e)

module _ (held : Words) where
  lengths_rise : (text : List ℕ) (i n : ℕ) → Rises i (lengths_from held text i n)
  lengths_rise text i zero = none
  lengths_rise text i (suc n) = go (held (take i text)) (lengths_rise text (suc i) n)
    where
      go : (b : Bool) → Rises (suc i) (lengths_from held text (suc i) n) → Rises i (cond b (i ∷ lengths_from held text (suc i) n) (lengths_from held text (suc i) n))
      go true r = next {low = i} {x = i} (omega arith) r
      go false r = lower (omega arith) r

pub reports_change : ReportsChange
reports_change w class held = (adding held w class, removing held w)

pub replaces_class : ReplacesClass
replaces_class w old class held e l = (
  with_self w class held l,
  λ ne. sym (other_class w old class held l e ne),
  λ same. sym (no_change w held (with_term w class held) (with_held w class held l (e ∙ ap (λ (k : ℕ). some k) same))),
)

pub blank_reports_none : BlankReportsNone
blank_reports_none w class held e = sym (no_change w held (with_term w class held) (with_blank w class held e))

pub prefixes_rise : PrefixesRise
unfolding prefix_lengths
prefixes_rise held text = lengths_rise held text 1 (length text)
