-- What a word that may follow is, and a reading that gives a list. Assumes nothing.
use mathlib.Core.Path.{◌≡◌, refl}
use mathlib.Core.Bool.{Bool, true, false, ◌&&◌}
use mathlib.Core.List.{List}
use Prim.Native.Nat.{ℕ, ◌≤◌}
use native.Mathlib.Omega.{arith}
use borrow.Author.Tests.{leb-true}
use lib.Dec.{leb}
use lib.ListN.{length}
use Rattle.char_string_trim.specs.Trimming.{trimmed_of}
use Rattle.trie_pool.specs.Meaning.{same}
use Rattle.trie_pool.proofs.Rules.{clash}
use Rattle.trie_pool.proofs.Sets.{same_true}
use Rattle.image_rules.specs.Records.{Term}
use Rattle.image_rules.specs.Order.{below}
use Rattle.image_rules.specs.Reading.{follows, broken, list}

pub both : (a b : Bool) → (a && b) ≡ true → (a ≡ true) × (b ≡ true)
both true b e = (refl, e)
both false b e = clash e

-- what a word that may follow is
pub record Fine (before w : List ℕ) : Type 0 where
  pub some : 1 ≤ length w
  pub short : length w ≤ 255
  pub trimmed : trimmed_of w ≡ w
  pub above : below before w ≡ true

pub fine : (before w : List ℕ) → follows before w ≡ true → Fine before w
unfolding follows
fine before w h =
    let a = both ((leb 1 (length w) && leb (length w) 255) && same (trimmed_of w) w) (below before w) h in
    let b = both (leb 1 (length w) && leb (length w) 255) (same (trimmed_of w) w) a.0 in
    let c = both (leb 1 (length w)) (leb (length w) 255) b.0 in
    record { some = leb-true 1 (length w) c.0; short = leb-true (length w) 255 c.1; trimmed = same_true (trimmed_of w) w b.1; above = a.1 }

-- ---- broken, or a list

pub no_list : {P : Type 0} {k : ℕ} {ts : List Term} → broken k ≡ list ts → P
no_list e = absurd (let z : ◌≡◌ {A = ℕ} 0 1 = cc in omega arith)

pub list_inj : {ts us : List Term} → list ts ≡ list us → ts ≡ us
list_inj e = cc
