-- A reading that gives a list, one record on. Assumes nothing.
use mathlib.Core.Path.{◌≡◌, refl, sym, ap, subst, ◌∙◌}
use mathlib.Core.Bool.{Bool, true, false, cond, ◌&&◌}
use mathlib.Core.List.{List, [], ◌∷◌}
use Prim.Native.Nat.{ℕ, zero, suc, ◌+◌, ◌-◌, ◌≤◌, ◌<◌}
use native.Mathlib.Omega.{arith}
use lib.Dec.{leb, eqb}
use lib.ListN.{length, get_or}
use Rattle.char_string_scalars.specs.Scalars.{is_scalar, first_non_scalar}
use Rattle.utf8.specs.Decoding.{run_all, scalars_of}
use Rattle.theorems_unicode.proofs.Standard.{accepted}
use Rattle.theorems_unicode.proofs.Encoding.{all_scalars}
use Rattle.trie_pool.specs.Words.{Word}
use Rattle.trie_pool.proofs.Edges.{legal_of}
use Rattle.image_rules.specs.Records.{Term}
use Rattle.image_rules.specs.Order.{below}
use Rattle.image_rules.proofs.Lists.{Climbs}
use Rattle.image_rules.proofs.Readings.{both, Fine, fine, no_list, list_inj}
use Rattle.image_read.proofs.Readings.{read_word, read_other}
use Rattle.image_rules.specs.Reading.{size_at, kind_at, body_at, behind, word_bytes, term_of, follows, is_word, is_last, whole, Read, broken, list, onto, ended, read}

-- the bytes of a word that may follow
pub word_of : (bytes before : List ℕ) → ((run_all bytes).whole && follows before (scalars_of bytes)) ≡ true → Word (scalars_of bytes)
word_of bytes before h =
    let a = both (run_all bytes).whole (follows before (scalars_of bytes)) h in
    let f = fine before (scalars_of bytes) a.1 in
    let l : length (scalars_of bytes) ≤ first_non_scalar (scalars_of bytes) = omega (arith, all_scalars (accepted bytes a.0)) in
    record {
      trimmed = f.trimmed;
      some = f.some;
      short = f.short;
      legal = λ i k. ap (λ (z : List ℕ). is_scalar (get_or z i 0)) (sym f.trimmed) ∙ legal_of (scalars_of bytes) l i (omega (arith, ap length f.trimmed));
    }

-- ---- a reading that gives a list

pub record Onto (t : Term) (q : Read) (ts : List Term) : Type 0 where
  pub us : List Term
  pub rest : q ≡ list us
  pub is : ts ≡ t ∷ us

pub onto_list : (t : Term) (q : Read) (ts : List Term) → onto t q ≡ list ts → Onto t q ts
onto_list t (broken k) ts e = no_list e
onto_list t (list us) ts e = record { us = us; rest = refl; is = list_inj (sym e) }

pub ended_list : (n at : ℕ) (b : List ℕ) (ts : List Term) → ended n at b ≡ list ts → ts ≡ []
unfolding ended
ended_list n at b ts e = go (is_last n b) (eqb (length b) 10) e
  where
    go : (x y : Bool) → cond x (cond y (list []) (broken (at + 10))) (broken at) ≡ list ts → ts ≡ []
    go true true z = list_inj (sym z)
    go true false z = no_list z
    go false y z = no_list z

word_true : (before b : List ℕ) → is_word before b ≡ true → below before (term_of b).word ≡ true
unfolding is_word
word_true before b h =
    let a = both (((whole b && eqb (kind_at b) 1) && leb 3 (length (body_at b))) && (run_all (word_bytes b)).whole) (follows before (term_of b).word) h in
    (fine before (term_of b).word a.1).above

pub read_zero : (w : List ℕ) (n at : ℕ) (b : List ℕ) → read 0 w n at b ≡ broken at
unfolding read
read_zero w n at b = refl

pub climbs : (f : ℕ) (w : List ℕ) (n at : ℕ) (b : List ℕ) (ts : List Term) → read f w n at b ≡ list ts → Climbs w ts
climbs zero w n at b ts e = no_list (sym (read_zero w n at b) ∙ e)
climbs (suc f) w n at b ts e = go (is_word w b) refl (λ us z. climbs f (term_of b).word (suc n) (at + (4 + size_at b)) (behind b) us z)
  where
    go : (x : Bool) → is_word w b ≡ x → ((us : List Term) → read f (term_of b).word (suc n) (at + (4 + size_at b)) (behind b) ≡ list us → Climbs (term_of b).word us) → Climbs w ts
    go true h ih =
        let o = onto_list (term_of b) (read f (term_of b).word (suc n) (at + (4 + size_at b)) (behind b)) ts (sym (read_word f w n at b h) ∙ e) in
        subst (Climbs w) (sym o.is) (word_true w b h, ih o.us o.rest)
    go false h ih = subst (Climbs w) (sym (ended_list n at b ts (sym (read_other f w n at b h) ∙ e))) tt
