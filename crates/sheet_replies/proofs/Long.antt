-- A row of more than 1,024 bytes is enough to answer a line of any length. Assumes nothing.
use Prim.Native.Nat.{ℕ, ◌<◌}
use native.Mathlib.Omega.{arith}
use native.Mathlib.Decide.{dec_lt}
use mathlib.Core.Path.{◌≡◌, sym, ◌∙◌, ap}
use mathlib.Core.List.{List}
use lib.ListN.{length, take}
use lib.Seq.{take_all, length-take-le}
use Rattle.utf8.specs.Decoding.{Room}
use Rattle.sheet_replies.specs.declared.Asked.{Asked}
use Rattle.sheet_replies.specs.declared.Asked.TheVariants.{Nothing}
use Rattle.sheet_replies.specs.Replies.{asked, reply_to, reply_of, text_of}
use Rattle.sheet_replies.proofs.Asking.{asked_long}

-- a line of more than 1,024 bytes asks nothing, and so do its first bytes where these are more than
-- 1,024
pub front_asks : (line : List ℕ) (m : ℕ) → 1024 < m → asked (take m line) ≡ asked line
front_asks line m h =
    elim (dec_lt m (length line)) [
      | yes l ↦ sym (long (take m line) (omega (arith, length-take-le m line (omega arith)))) ∙ long line (omega arith)
      | no n ↦ ap asked (take_all m line (omega arith))
    ]
  where
    long : (l : List ℕ) → 1024 < length l → Nothing ≡ asked l
    long l k = asked_long l (λ e. omega arith) k

-- the reply to them is the reply to the line
pub front_replies : (line : List ℕ) (m : ℕ) → 1024 < m → (pool : List ℕ) (room : Room) (cells places : ℕ) → reply_of (take m line) pool room cells places ≡ reply_of line pool room cells places
unfolding reply_to
front_replies line m h pool room cells places =
    elim (dec_lt m (length line)) [
      | yes l ↦ ap (λ (a : Asked). reply_to a (text_of (take m line)) pool room cells places) (nothing (take m line) (omega (arith, length-take-le m line (omega arith))))
          ∙ sym (ap (λ (a : Asked). reply_to a (text_of line) pool room cells places) (nothing line (omega arith)))
      | no n ↦ ap (λ (l : List ℕ). reply_of l pool room cells places) (take_all m line (omega arith))
    ]
  where
    nothing : (l : List ℕ) → 1024 < length l → asked l ≡ Nothing
    nothing l k = sym (asked_long l (λ e. omega arith) k)
