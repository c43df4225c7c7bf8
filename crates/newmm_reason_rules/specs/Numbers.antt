-- The numbers of the reasons, as hosts see them.
use Rattle.std.specs.Prelude.{ℕ, ◌==◌, if◌then◌else◌, Option, Some, None}
use Rattle.newmm_reason_rules.specs.declared.Reason.{Reason}
use Rattle.newmm_reason_rules.specs.declared.Reason.TheVariants.{DictionaryWord, NonThaiRun, ToWord, ToNonThai, ToEnd}
use Rattle.newmm_reason_rules.specs.Reasons.{dictionary_word, non_thai_run, to_word, to_non_thai, to_end}

abbrev pub number_of : Reason → ℕ
number_of DictionaryWord = dictionary_word
number_of NonThaiRun = non_thai_run
number_of ToWord = to_word
number_of ToNonThai = to_non_thai
number_of ToEnd = to_end

abbrev pub numbered : ℕ → Option Reason
numbered n =
    if n == dictionary_word then Some DictionaryWord
    else if n == non_thai_run then Some NonThaiRun
    else if n == to_word then Some ToWord
    else if n == to_non_thai then Some ToNonThai
    else if n == to_end then Some ToEnd
    else None
