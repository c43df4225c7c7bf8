-- Telling on an answer that a library gave with a changed pool. Assumes nothing.
use Rattle.std.specs.Prelude.{Result}
use Rattle.refusal.specs.declared.Refusal.{Refusal}
use Prim.Native.Nat.{ℕ}
use mathlib.Core.Path.{◌≡◌, subst}
use mathlib.Core.List.{List}
use Rattle.trie_pool.specs.Meaning.{Terms}
use Rattle.trie_char_answers.specs.Changes.{After}
use Rattle.host_telling.specs.Told.{Told, tells}
use Rattle.host_telling.proofs.Answers.{telling}

pub with_pool : {a b : Result ℕ Refusal} {t : Told} → a ≡ b → t ≡ tells a → (old new : List ℕ) (held : Terms) → After a old new held → (t ≡ tells b) × After b old new held
with_pool is e old new held h = (telling is e, subst (λ (x : Result ℕ Refusal). After x old new held) is h)
