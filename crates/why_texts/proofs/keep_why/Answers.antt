use native.Mathlib.Omega.{arith}
use Prim.Native.Nat.{ℕ}
use mathlib.Core.Path.{◌≡◌, sym, ◌∙◌, ap}
use Rattle.newmm_reason_rules.specs.declared.Reason.TheVariants.{DictionaryWord, NonThaiRun, ToWord, ToNonThai, ToEnd}
use Rattle.newmm_reason_rules.specs.Numbers.{number_of}
use Rattle.newmm_reason_rules.proofs.Numbers.{number_back, unnumbered}
use Rattle.sheet_texts.specs.Texts.{decimal}
use Rattle.why_texts.specs.Texts.{word, run, to_the_word, to_the_run, to_the_end}
use Rattle.why_texts.proofs.Adding.{added, added_more, added_same, both}
use Rattle.why_texts.proofs.Lines.{why_word, why_run, why_to_word, why_to_run, why_to_end}
use Rattle.why_texts.proofs.keep_why.Goals as goal

pub returns-in-Some-DictionaryWord : goal.returns-in-Some-DictionaryWord
returns-in-Some-DictionaryWord c =
    let n : c.args.reason ≡ number_of DictionaryWord = number_back _ _ (sym c.from_number.ensures ∙ c.in-Some-DictionaryWord.is) ∙ ap number_of c.in-Some-DictionaryWord.field-0-is in
    let both = both (added_same (why_word c.args.end c.args.reason n) (added c.args.out.now c.args.used word c.keep.ensures.value c.keep.ensures.row_after)) in
    record { value = both.0; out_after = both.1 }

pub returns-in-Some-NonThaiRun : goal.returns-in-Some-NonThaiRun
returns-in-Some-NonThaiRun c =
    let n : c.args.reason ≡ number_of NonThaiRun = number_back _ _ (sym c.from_number.ensures ∙ c.in-Some-NonThaiRun.is) ∙ ap number_of c.in-Some-NonThaiRun.field-0-is in
    let both = both (added_same (why_run c.args.end c.args.reason (λ e. omega (arith, n, e)) n) (added c.args.out.now c.args.used run c.keep-in-Some-NonThaiRun.ensures.value c.keep-in-Some-NonThaiRun.ensures.row_after)) in
    record { value = both.0; out_after = both.1 }

pub returns-in-Some-ToWord : goal.returns-in-Some-ToWord
returns-in-Some-ToWord c =
    let n : c.args.reason ≡ number_of ToWord = number_back _ _ (sym c.from_number.ensures ∙ c.in-Some-ToWord.is) ∙ ap number_of c.in-Some-ToWord.field-0-is in
    let both = both (added_same (why_to_word c.args.end c.args.reason (λ e. omega (arith, n, e)) (λ e. omega (arith, n, e)) n) (added_more (added c.args.out.now c.args.used to_the_word c.keep-n.ensures.value c.keep-n.ensures.row_after) (decimal c.args.end) c.keep_number.ensures.value c.keep_number.ensures.out_after)) in
    record { value = both.0; out_after = both.1 }

pub returns-in-Some-ToNonThai : goal.returns-in-Some-ToNonThai
returns-in-Some-ToNonThai c =
    let n : c.args.reason ≡ number_of ToNonThai = number_back _ _ (sym c.from_number.ensures ∙ c.in-Some-ToNonThai.is) ∙ ap number_of c.in-Some-ToNonThai.field-0-is in
    let both = both (added_same (why_to_run c.args.end c.args.reason (λ e. omega (arith, n, e)) (λ e. omega (arith, n, e)) (λ e. omega (arith, n, e)) n) (added_more (added c.args.out.now c.args.used to_the_run c.keep-n-in-Some-ToNonThai.ensures.value c.keep-n-in-Some-ToNonThai.ensures.row_after) (decimal c.args.end) c.keep_number-in-Some-ToNonThai.ensures.value c.keep_number-in-Some-ToNonThai.ensures.out_after)) in
    record { value = both.0; out_after = both.1 }

pub returns-in-Some-ToEnd : goal.returns-in-Some-ToEnd
returns-in-Some-ToEnd c =
    let n : c.args.reason ≡ number_of ToEnd = number_back _ _ (sym c.from_number.ensures ∙ c.in-Some-ToEnd.is) ∙ ap number_of c.in-Some-ToEnd.field-0-is in
    let both = both (added_same (why_to_end c.args.end c.args.reason (λ e. omega (arith, n, e)) (λ e. omega (arith, n, e)) (λ e. omega (arith, n, e)) (λ e. omega (arith, n, e))) (added c.args.out.now c.args.used to_the_end c.keep-in-Some-ToEnd.ensures.value c.keep-in-Some-ToEnd.ensures.row_after)) in
    record { value = both.0; out_after = both.1 }

pub returns-in-None : goal.returns-in-None
returns-in-None c =
    let n = unnumbered c.args.reason (sym c.from_number.ensures ∙ c.in-None.is) in
    let both = both (added_same (why_to_end c.args.end c.args.reason n.0 n.1 n.2 n.3) (added c.args.out.now c.args.used to_the_end c.keep-in-None.ensures.value c.keep-in-None.ensures.row_after)) in
    record { value = both.0; out_after = both.1 }
