-- The profile "sheet", over calls. Assumes nothing.
use Rattle.std.specs.Prelude.{Result, Ok, Err}
use Prim.Native.Nat.{ℕ, ◌<◌}
use native.Mathlib.Omega.{arith}
use mathlib.Core.Path.{◌≡◌, refl, sym, ◌∙◌, ap, subst}
use mathlib.Core.Bool.{Bool, true, false, cond}
use mathlib.Core.List.{List, [], ◌∷◌, ◌++◌}
use lib.ListN.{length, take}
use lib.Dec.{ltb}
use Rattle.refusal.specs.declared.Refusal.{Refusal}
use Rattle.refusal.specs.declared.Refusal.TheVariants.{OutputTooShort}
use Rattle.refusal.specs.Answers.{Cause, answer, output, out_cause}
use Rattle.refusal.specs.Numbers.{number_of}
use Rattle.refusal.proofs.Order.{refused_first, accepted_first}
use Rattle.trie_pool.specs.Meaning.{Words, meaning}
use Rattle.trie_check.specs.Refusals.{held}
use Rattle.newmm_rules.specs.Cutting.{Cut}
use Rattle.newmm_rules.specs.declared.Mode.{Mode}
use Rattle.newmm_rules.specs.declared.Mode.TheVariants.{Safe, Sheet}
use Rattle.newmm_rules.specs.Sheet.{InSheetParts, NoSpaceMet}
use Rattle.newmm_rules.proofs.Sheet.{sheet_parts, sheet_is_safe}
use Rattle.newmm_answers.specs.Answers.{plain_cut, cut_of, first_causes, out_causes, told}
use Rattle.newmm_answers.specs.Calls.{Call, out_of}
use Rattle.newmm_answers.proofs.Plain.{plain_right}
use Rattle.theorems_demands.specs.Sheet.{PartsWrote, AsInSafeMode, RefusedAlike}
use Rattle.theorems_demands.proofs.Ends as ends

-- ---- the parts

in_parts : (words : Words) (text : List ℕ) → InSheetParts (plain_cut words) text (cut_of Sheet words text).ends
unfolding cut_of
in_parts words text = sheet_parts (plain_cut words) (plain_right words) text

pub parts_wrote : PartsWrote
parts_wrote c n edges sheet h =
    let t = ends.told c n edges h in
    record {
      words = t.words;
      means = t.means;
      parted = subst (λ (es : List ℕ). InSheetParts (plain_cut t.words) c.text es) (sym t.front)
          (subst (λ (m : Mode). InSheetParts (plain_cut t.words) c.text (cut_of m t.words c.text).ends) (sym sheet) (in_parts t.words c.text));
    }

-- ---- where no sample holds a space

same_cut : (words : Words) (text : List ℕ) → NoSpaceMet (plain_cut words) text → cut_of Sheet words text ≡ cut_of Safe words text
unfolding cut_of
same_cut words text m = sheet_is_safe (plain_cut words) text m

pub as_in_safe_mode : AsInSafeMode
as_in_safe_mode c m =
    let e = same_cut (held (meaning c.pool)) c.text m in
    let first = first_causes c.text (meaning c.pool) (length c.scratch) in
    let room = length c.out in (
      ap (λ (k : Cut). told (answer (first ++ out_causes k.ends room) (length k.ends)) k.edges) e,
      ap (λ (k : Cut). output (answer (first ++ out_causes k.ends room) (length k.ends)) k.ends c.out) e,
      refl,
    )

-- ---- refusals

told_refused : (x : Result ℕ Refusal) (k : ℕ) (r : Refusal) → told x k ≡ Err r → x ≡ Err r
told_refused (Ok n) k r h = absurd (let z : ◌≡◌ {A = ℕ} 0 1 = cc in omega arith)
told_refused (Err q) k r h = let e : q ≡ r = cc in ap Err e

-- the last cause is 6
six : (needed room n : ℕ) (r : Refusal) → answer (out_cause needed room ∷ []) n ≡ Err r → number_of r ≡ 6
six needed room n r h = go (ltb room needed) h
  where
    go : (b : Bool) → cond b (Err (OutputTooShort needed)) (Ok n) ≡ Err r → number_of r ≡ 6
    go true e = let q : OutputTooShort needed ≡ r = cc in sym (ap number_of q)
    go false e = absurd (let z : ◌≡◌ {A = ℕ} 0 1 = cc in omega arith)

-- a refusal before 6 does not depend on what stands behind the first causes
before_six : (first : List Cause) (needed needed' room n n' : ℕ) (r : Refusal) → number_of r < 6 → answer (first ++ (out_cause needed room ∷ [])) n ≡ Err r
    → answer (first ++ (out_cause needed' room ∷ [])) n' ≡ Err r
before_six first needed needed' room n n' r low h = go (answer first 0) refl
  where
    go : (a : Result ℕ Refusal) → answer first 0 ≡ a → answer (first ++ (out_cause needed' room ∷ [])) n' ≡ Err r
    go (Ok k) e = absurd (omega (arith, six needed room n r (sym (accepted_first first (out_cause needed room ∷ []) 0 n e) ∙ h)))
    go (Err q) e =
        let same : ◌≡◌ {A = Result ℕ Refusal} (Err q) (Err r) = sym (refused_first first (out_cause needed room ∷ []) 0 n e) ∙ h in
        refused_first first (out_cause needed' room ∷ []) 0 n' e ∙ same

pub refused_alike : RefusedAlike
refused_alike c mode other = (
  λ r low h.
      let words = held (meaning c.pool) in
      let first = first_causes c.text (meaning c.pool) (length c.scratch) in
      let cut = cut_of mode words c.text in
      let cut' = cut_of other words c.text in
      let a = told_refused (answer (first ++ out_causes cut.ends (length c.out)) (length cut.ends)) cut.edges r h in
      let b = before_six first (length cut.ends) (length cut'.ends) (length c.out) (length cut.ends) (length cut'.ends) r low a in
      ap (λ (x : Result ℕ Refusal). told x cut'.edges) b,
  refl,
)
