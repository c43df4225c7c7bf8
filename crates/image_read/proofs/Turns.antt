-- What a turn knows of its record and of its word. Assumes nothing.
use Rattle.std.specs.Prelude.{Option, None, Some}
use mathlib.Core.Path.{◌≡◌, ap, subst, ◌∙◌}
use mathlib.Core.Bool.{false}
use mathlib.Core.List.{List, []}
use Prim.Native.Nat.{ℕ, ◌<◌}
use native.Mathlib.Omega.{arith}
use native.Mathlib.Decide.{dec_lt}
use lib.ListN.{get_or, drop, take, replicate, length-replicate, get_or-replicate, get_or-eq_default}
use Rattle.image_record.specs.declared.Record.{Record}
use Rattle.image_record.specs.declared.Record.TheVariants.{Word, Last}
use Rattle.image_record.specs.inner.Records.{Entry, End, Neither, Says}
use Rattle.image_word.specs.declared.Taken.{Taken}
use Rattle.image_word.specs.declared.WordReader.{WordReader}
use Rattle.image_word.specs.inner.Words.{is_next, Follows, Takes}

module _ (image : List ℕ) (at : ℕ) {r : Option Record} (s : Says image at r) where
  pub neither : r ≡ None → Neither (drop at image)
  neither e = subst (Says image at) e s

  module _ {x : Record} (e : r ≡ Some x) where
    pub end : {n : ℕ} → x ≡ Last n → End image at n
    end f = subst (Says image at) (e ∙ ap Some f) s

    pub entry : {c from to : ℕ} → x ≡ Word c from to → Entry image at c from to
    entry f = subst (Says image at) (e ∙ ap Some f) s

module _ (bytes before : List ℕ) (reader : WordReader) {r : Option Taken} (g : Takes bytes before reader r) where
  pub not_next : r ≡ None → is_next bytes before ≡ false
  not_next e = subst (Takes bytes before reader) e g

  pub taken : {t : Taken} → r ≡ Some t → Follows bytes before reader.last t.size t.shared × (reader.size ≡ t.size)
  taken e = subst (Takes bytes before reader) e g

-- no word stands at the front of a new row, and no node on a level
pub none_read : (size : ℕ) (last : List ℕ) → size ≡ 0 → take size last ≡ []
none_read size last e = ap (λ (n : ℕ). take n last) e

none_at : (d : ℕ) → Dec (d < 257) → get_or (replicate {A = ℕ} 257 0) d 0 ≡ 0
none_at d (yes l) = get_or-replicate {A = ℕ} 257 d 0 0 l
none_at d (no g) = get_or-eq_default (replicate {A = ℕ} 257 0) 0 {n = d} (omega (arith, length-replicate {A = ℕ} 257 0))

pub no_nodes : (d : ℕ) → get_or (replicate {A = ℕ} 257 0) d 0 ≡ 0
no_nodes d = none_at d (dec_lt d 257)
