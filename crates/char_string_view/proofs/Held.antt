-- What a `CharView` owns, for the proofs of the functions that take one.
--     Row, type_of, laws_of   the struct's row, its description and its laws, over one lifetime
--     Local, local_laws       the same as a local of a body has them, where MIR erases the lifetime
--     fields                  a view's fields' values
--     own, own_fields         what a view owns, and what its fields own together
--     opens                   a view is Copy: it keeps what it owns, beside what its fields own
--     fields_then, behind     what a callee that takes the fields and then more asks; its proof
--     numbers, Fits, made     what numbers own as arguments, that each fits, and the proof
--     says_both               the walk's end, where the contract has two clauses that state facts
-- `opens`, `behind`, `made` and `says_both` take `Logic`. The rest assumes nothing.
use Prim.Native.Nat.{ℕ, ◌<◌, ◌^◌}
use mathlib.Core.Path.{◌≡◌, refl}
use mathlib.Core.List.{List, [], ◌∷◌}
use seplogic.Ra.Ura.{Ura}
use mir.Syntax.{erased, w64}
use mir.Val.{vint}
use base.Logic.{SProp, ent, sep, emp, via, assoc∗}
use base.Fml.{Lft, Fml, ftrue, fsep}
use types.Logic.{Logic, sem}
use contract.Lifetimes.{Lfts}
use contract.Monad.{fact}
use types.Kit.{Item, Step, step, prop, ‵, ◌⊛◌, given, ◌$◌, ◌∵◌, !, qed, move, drop, use0, use1, split, learn, fsplit, fjoin, done}
use denote.RattleType.{RattleType}
use denote.Laws.{Is}
use denote.Plain.{uint_Makes}
use denote.Builtin.{usize}
use denote.Signature.{named_lft}
use denote.Steps.{nothing, owned}
use denote.Struct.Declared.{Declared}
use denote.Struct.Laws as LL
use denote.Struct.Rest.{all_own, field_own, own_open}
use denote.Struct.Values.{Values}
use denote.Triple.Walked.{says}
use Rattle.char_string_view.specs.declared.CharView.{CharView}
use Rattle.char_string_view.specs.contracts.CharView as T
use Rattle.char_string_view.proofs.CharView.TheLaws as T'

abbrev pub Row : Lfts 1 → RattleType
Row κs = T.the_row (named_lft 1 0 tt κs)

abbrev pub type_of : Lfts 1 → Declared
type_of κs = T.the_type (named_lft 1 0 tt κs)

abbrev pub laws_of : (κs : Lfts 1) → LL.Laws (type_of κs)
laws_of κs = T'.the_laws (named_lft 1 0 tt κs)

abbrev pub Local : Lft → Declared
Local κ = T.the_type (record { mir = erased; lft = κ })

abbrev pub local_laws : (κ : Lft) → LL.Laws (Local κ)
local_laws κ = T'.the_laws (record { mir = erased; lft = κ })

abbrev pub fields : (κs : Lfts 1) → CharView → Values (type_of κs).parts
fields κs d = (d.text, (d.start, (d.end, tt)))

abbrev pub own : Lfts 1 → CharView → Fml
own κs d = (Row κs).own_val d (T'.lowered d ∷ [])

abbrev pub own_fields : Lfts 1 → CharView → Fml
own_fields κs d = all_own (type_of κs).parts (laws_of κs) (fields κs d)

abbrev pub fields_then : Lfts 1 → CharView → Fml → Fml
fields_then κs d F = fsep (field_own (type_of κs).parts (laws_of κs) 0 d.text) (fsep (field_own (type_of κs).parts (laws_of κs) 1 d.start) (fsep (field_own (type_of κs).parts (laws_of κs) 2 d.end) F))

abbrev pub numbers : List ℕ → Fml
numbers [] = ftrue
numbers (x ∷ xs) = fsep (usize.own_val x (vint w64 x ∷ [])) (numbers xs)

abbrev pub Fits : List ℕ → Type 0
Fits [] = Unit {0}
Fits (x ∷ xs) = (x < 2 ^ 64) × Fits xs

module _ {M : Type 1} {𝓤 : Ura M} (𝓛 : Logic 𝓤) where
  pub made : (xs : List ℕ) → Fits xs → ent 𝓤 (emp 𝓤) (sem 𝓛 (numbers xs))
  made [] f = qed 𝓛 [] ∵ nothing ! $ done !
  made (x ∷ xs) f = qed 𝓛 [] ∵ use0 𝓛 (‵ (numbers xs)) (made xs f.1) $ owned ! usize (Is usize) (uint_Makes 𝓛 w64) x _ (refl, f.0) $ fjoin ! $ done !

module _ {M : Type 1} {𝓤 : Ura M} (𝓛 : Logic 𝓤) (κs : Lfts 1) (d : CharView) where
  pub opens : ent 𝓤 (sem 𝓛 (own κs d)) (sep 𝓤 (sem 𝓛 (own_fields κs d)) (sem 𝓛 (own κs d)))
  opens =
      qed 𝓛 (‵ (own κs d) ∷ []) ∵
      use1 𝓛 (‵ (own κs d) ⊛ ‵ (own κs d)) ((LL.copy (type_of κs) (T'.the_copy (named_lft 1 0 tt κs)) 𝓛).twice d (T'.lowered d ∷ [])) $ split ! $
      use1 𝓛 (given (T'.lowered d ∷ [] ≡ T'.lowered d ∷ []) (‵ (own_fields κs d))) (own_open 𝓛 (type_of κs) (laws_of κs) (fields κs d) (T'.lowered d)) $ learn ! (λ _. done !)

  pub behind : (F : Fml) → ent 𝓤 (sep 𝓤 (sem 𝓛 (own_fields κs d)) (sem 𝓛 F)) (sem 𝓛 (fields_then κs d F))
  behind F =
      qed 𝓛 (‵ (own_fields κs d) ∷ ‵ F ∷ []) ∵
      fsplit ! $ move ! (1 ∷ []) $ fsplit ! $ move ! (1 ∷ []) $ fsplit ! $ move ! (1 ∷ []) $ drop ! $
      -- [what end owns; what start owns; what text owns; F]
      move ! (0 ∷ 3 ∷ []) $ fjoin ! $ move ! (1 ∷ 0 ∷ []) $ fjoin ! $ move ! (1 ∷ 0 ∷ []) $ fjoin ! $ done !

pub says_both : {M : Type 1} {𝓤 : Ura M} {𝓛 : Logic 𝓤} {K : Type 0} {Γ : List (Item 𝓤)} → K → {φ ψ : Type 0} {P : SProp 𝓤} → φ → ψ → Step K 𝓛 Γ (prop P) Γ (prop (sep 𝓤 P (sep 𝓤 (fact 𝓤 φ) (fact 𝓤 ψ))))
says_both {𝓤 = 𝓤} t {φ} {ψ} {P} x y = step (λ s. record { prf = via 𝓤 (sep 𝓤 (sep 𝓤 P (fact 𝓤 φ)) (fact 𝓤 ψ)) (says t y $ says t x $ s).prf (assoc∗ 𝓤 P (fact 𝓤 φ) (fact 𝓤 ψ)) })
