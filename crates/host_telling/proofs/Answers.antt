-- Telling an answer whose case is known, and telling on an answer that a library gave. Assumes
-- nothing.
use Rattle.std.specs.Prelude.{Result, Ok, Err}
use Rattle.newmm_answers.specs.Answers.{accepted_with}
use Rattle.newmm_rules.specs.declared.Ends.{Ends}
use Prim.Native.Nat.{ℕ}
use mathlib.Core.Path.{◌≡◌, sym, ap, ◌∙◌}
use mathlib.Core.List.{List}
use Rattle.refusal.specs.declared.Refusal.{Refusal}
use Rattle.refusal.specs.Numbers.{number_of, detail_of}
use Rattle.refusal.specs.Answers.{output}
use Rattle.host_telling.specs.Told.{Told, told, told_cut, tells, tells_cut}
use Rattle.host_telling.specs.Told as specs

-- ---- an answer whose case is known

pub accepted : {a : Result ℕ Refusal} {n : ℕ} → a ≡ Ok n → told 0 n 0 ≡ tells a
accepted e = sym (ap tells e)

pub ends : {a : Result Ends Refusal} {n e : ℕ} → a ≡ accepted_with n e → told_cut 0 n e 0 ≡ tells_cut a
ends e = sym (ap tells_cut e)

same : (r : Refusal) {w n d : ℕ} → w ≡ n → n ≡ number_of r → d ≡ detail_of r → told w 0 d ≡ specs.refused r
same r {d = d} wide number detail = ap (λ (k : ℕ). told k 0 d) (wide ∙ number) ∙ ap (told (number_of r) 0) detail

pub refused : {a : Result ℕ Refusal} {r : Refusal} {w n d : ℕ} → a ≡ Err r → w ≡ n → n ≡ number_of r → d ≡ detail_of r → told w 0 d ≡ tells a
refused {r = r} e wide number detail = same r wide number detail ∙ sym (ap tells e)

pub cut_refused : {a : Result Ends Refusal} {r : Refusal} {w n d : ℕ} → a ≡ Err r → w ≡ n → n ≡ number_of r → d ≡ detail_of r → told_cut w 0 0 d ≡ tells_cut a
cut_refused {r = r} e wide number detail = same r wide number detail ∙ sym (ap tells_cut e)

-- ---- an answer that a library gave

module _ {a b : Result ℕ Refusal} {t : Told} (is : a ≡ b) (e : t ≡ tells a) where
  pub telling : t ≡ tells b
  telling = e ∙ ap tells is

  pub with_output : (written old : List ℕ) {new : List ℕ} → new ≡ output a written old → (t ≡ tells b) × (new ≡ output b written old)
  with_output written old h = (telling, h ∙ ap (λ (x : Result ℕ Refusal). output x written old) is)

pub telling_cut : {a b : Result Ends Refusal} {t : Told} → a ≡ b → t ≡ tells_cut a → t ≡ tells_cut b
telling_cut is e = e ∙ ap tells_cut is
