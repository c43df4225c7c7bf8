-- What edits make of words and classes: two of different words may change places, the same one
-- twice is one, and adds without a class hold the union. Assumes nothing.
use Prim.Native.Nat.{ℕ, ◌≤◌}
use native.Mathlib.Omega.{arith}
use mathlib.Core.Path.{◌≡◌, refl, sym, ap, ◌∙◌}
use mathlib.Core.Bool.{Bool, true, false, cond}
use mathlib.Core.List.{List, [], ◌∷◌}
use mathlib.Core.Logic.{◌⊎◌, inl, inr}
use mathlib.Core.Option.{Option, none, some}
use lib.ListN.{length}
use Rattle.char_string_trim.specs.Trimming.{trimmed_of}
use Rattle.trie_pool.specs.Listing.{Member}
use Rattle.trie_pool.specs.Meaning.{Terms, same, with_term, without_term, differ, report_term}
use Rattle.trie_pool.proofs.Rules.{clash}
use Rattle.trie_pool.proofs.Sets.{same_true}
use Rattle.theorems_demands.proofs.Dictionary.{none_some, with_self}
use Rattle.theorems_order.specs.Order.{Edit, add, remove, word_of, Apart, Joined, ended, first, second, adds, Listed, HoldsUnion}

-- ---- one edit

abbrev pub edited : Edit → Terms → Terms
edited (add word class) held = with_term (trimmed_of word) class held
edited (remove word) held = without_term (trimmed_of word) held

-- whether it changes what is held of v, and to what
abbrev pub touches : List ℕ → List ℕ → Bool
touches [] v = false
touches (x ∷ w) v = same v (x ∷ w)

abbrev pub hits : Edit → List ℕ → Bool
hits (add word class) v = touches (trimmed_of word) v
hits (remove word) v = same v (trimmed_of word)

abbrev pub left : Edit → Option ℕ
left (add word class) = some class
left (remove word) = none

pub edit_is : (e : Edit) (held : Terms) (v : List ℕ) → edited e held v ≡ cond (hits e v) (left e) (held v)
edit_is (add word class) held v = go (trimmed_of word)
  where
    go : (w : List ℕ) → with_term w class held v ≡ cond (touches w v) (some class) (held v)
    go [] = refl
    go (x ∷ w) = refl
edit_is (remove word) held v = refl

touches_word : (w v : List ℕ) → touches w v ≡ true → (v ≡ w) × (1 ≤ length v)
touches_word [] v h = clash h
touches_word (x ∷ w) [] h = clash h
touches_word (x ∷ w) (y ∷ v) h = (same_true (y ∷ v) (x ∷ w) h, omega arith)

hits_word : (e : Edit) (v : List ℕ) → hits e v ≡ true → v ≡ word_of e
hits_word (add word class) v h = (touches_word (trimmed_of word) v h).0
hits_word (remove word) v h = same_true v (trimmed_of word) h

-- other words stay as they are
pub others : (e : Edit) (held : Terms) (v : List ℕ) → (v ≡ word_of e → ⊥) → edited e held v ≡ held v
others e held v ne = edit_is e held v ∙ go (hits e v) refl
  where
    go : (b : Bool) → hits e v ≡ b → cond b (left e) (held v) ≡ held v
    go true h = absurd (ne (hits_word e v h))
    go false h = refl

-- ---- two edits

module _ (e f : Edit) (ne : word_of e ≡ word_of f → ⊥) (held : Terms) where
  swap : (v : List ℕ) → edited e (edited f held) v ≡ edited f (edited e held) v
  swap v =
      edit_is e (edited f held) v ∙ ap (cond (hits e v) (left e)) (edit_is f held v)
      ∙ go (hits e v) (hits f v) refl refl
      ∙ sym (edit_is f (edited e held) v ∙ ap (cond (hits f v) (left f)) (edit_is e held v))
    where
      go : (b c : Bool) → hits e v ≡ b → hits f v ≡ c → cond b (left e) (cond c (left f) (held v)) ≡ cond c (left f) (cond b (left e) (held v))
      go true true h k = absurd (ne (sym (hits_word e v h) ∙ hits_word f v k))
      go true false h k = refl
      go false c h k = refl

  -- may change places
  pub swapped : edited e (edited f held) ≡ edited f (edited e held)
  swapped = λ i v. swap v i

  -- and the report of the one is the same before and after the other
  pub same_report : report_term (word_of e) held (edited e held) ≡ report_term (word_of e) (edited f held) (edited e (edited f held))
  same_report =
      sym (
      ap (λ (a : Option ℕ). differ a (edited e (edited f held) (word_of e))) (others f held (word_of e) ne)
      ∙ ap (differ (held (word_of e))) (swap (word_of e) ∙ others f (edited e held) (word_of e) ne)
      )

-- ---- the same twice

pub twice_once : (e : Edit) (held : Terms) (v : List ℕ) → edited e held v ≡ edited e (edited e held) v
twice_once e held v =
    edit_is e held v ∙ go (hits e v) ∙ sym (edit_is e (edited e held) v ∙ ap (cond (hits e v) (left e)) (edit_is e held v))
  where
    go : (b : Bool) → cond b (left e) (held v) ≡ cond b (left e) (cond b (left e) (held v))
    go true = refl
    go false = refl

-- ---- files

abbrev pub edited_all : List Edit → Terms → Terms
edited_all [] held = held
edited_all (e ∷ es) held = edited_all es (edited e held)

-- an edit of another word may stand before all or behind all
past : (a : List Edit) (f : Edit) (b : List Edit) → Apart a (f ∷ b) → (held : Terms) → edited_all a (edited f held) ≡ edited f (edited_all a held)
past [] f b d held = refl
past (e ∷ a) f b d held = ap (edited_all a) (swapped e f d.0.0 held) ∙ past a f b d.1 (edited e held)

less : (a : List Edit) (f : Edit) (b : List Edit) → Apart a (f ∷ b) → Apart a b
less [] f b d = tt
less (e ∷ a) f b d = (d.0.1, less a f b d.1)

-- joined in any way they leave what the one leaves behind the other
pub joined_is : {a b c : List Edit} → Joined a b c → Apart a b → (held : Terms) → edited_all c held ≡ edited_all b (edited_all a held)
joined_is ended d held = refl
joined_is (first {e = e} j) d held = joined_is j d.1 (edited e held)
joined_is (second {f = f} {a = a} {b = b} j) d held = joined_is j (less a f b d) (edited f held) ∙ ap (edited_all b) (past a f b d held)

-- ---- adds without a class

-- what is held stays held
keeps : (words : List (List ℕ)) (held : Terms) (v : List ℕ) → held v ≡ some 0 → edited_all (adds words) held v ≡ some 0
keeps [] held v h = h
keeps (w ∷ words) held v h = keeps words (edited (add w 0) held) v (edit_is (add w 0) held v ∙ ap (cond (hits (add w 0) v) (some 0)) h ∙ go (hits (add w 0) v))
  where
    go : (b : Bool) → cond {A = Option ℕ} b (some 0) (some 0) ≡ some 0
    go true = refl
    go false = refl

pub all_listed : (words : List (List ℕ)) (held : Terms) (v : List ℕ) → Listed words v → edited_all (adds words) held v ≡ some 0
all_listed [] held v l = absurd l.among
all_listed (w ∷ words) held v l = go l.among (all_listed words (edited (add w 0) held) v)
  where
    here : l.word ≡ w → v ≡ trimmed_of w
    here e = l.is ∙ ap trimmed_of e

    go : Member l.word (w ∷ words) → (Listed words v → edited_all (adds words) (edited (add w 0) held) v ≡ some 0) → edited_all (adds words) (edited (add w 0) held) v ≡ some 0
    go (inl e) ih =
        let is : v ≡ trimmed_of w = here e in
        keeps words (edited (add w 0) held) v (ap (with_term (trimmed_of w) 0 held) is ∙ with_self (trimmed_of w) 0 held (omega (arith, l.some, ap length is)))
    go (inr m) ih = ih (record { word = l.word; among = m; is = l.is; some = l.some })

pub only_listed : (words : List (List ℕ)) (held : Terms) (v : List ℕ) (c : ℕ) → edited_all (adds words) held v ≡ some c → Listed words v ⊎ (held v ≡ some c)
only_listed [] held v c h = inr h
only_listed (w ∷ words) held v c h = go (only_listed words (edited (add w 0) held) v c h)
  where
    was : (b : Bool) → hits (add w 0) v ≡ b → cond b (some 0) (held v) ≡ some c → Listed (w ∷ words) v ⊎ (held v ≡ some c)
    was true e k = let t = touches_word (trimmed_of w) v e in inl (record { word = w; among = inl refl; is = t.0; some = t.1 })
    was false e k = inr k

    go : Listed words v ⊎ (edited (add w 0) held v ≡ some c) → Listed (w ∷ words) v ⊎ (held v ≡ some c)
    go (inl l) = inl (record { word = l.word; among = inr l.among; is = l.is; some = l.some })
    go (inr k) = was (hits (add w 0) v) refl (sym (edit_is (add w 0) held v) ∙ k)

-- ---- the union

pub union_held : (a b : List (List ℕ)) (held : Terms) → ((v : List ℕ) → held v ≡ none) → HoldsUnion a b (edited_all (adds b) (edited_all (adds a) held))
union_held a b held empty = record { all = all; only = only }
  where
    all : (v : List ℕ) → Listed a v ⊎ Listed b v → edited_all (adds b) (edited_all (adds a) held) v ≡ some 0
    all v (inl l) = keeps b (edited_all (adds a) held) v (all_listed a held v l)
    all v (inr l) = all_listed b (edited_all (adds a) held) v l

    in_a : (v : List ℕ) (c : ℕ) → Listed a v ⊎ (held v ≡ some c) → Listed a v ⊎ Listed b v
    in_a v c (inl l) = inl l
    in_a v c (inr h) = none_some (sym (empty v) ∙ h)

    in_b : (v : List ℕ) (c : ℕ) → Listed b v ⊎ (edited_all (adds a) held v ≡ some c) → Listed a v ⊎ Listed b v
    in_b v c (inl l) = inr l
    in_b v c (inr h) = in_a v c (only_listed a held v c h)

    only : (v : List ℕ) (c : ℕ) → edited_all (adds b) (edited_all (adds a) held) v ≡ some c → Listed a v ⊎ Listed b v
    only v c h = in_b v c (only_listed b (edited_all (adds a) held) v c h)

-- two of them are the same, whichever list came first
pub one_union : (a b : List (List ℕ)) (s t : Terms) → HoldsUnion a b s → HoldsUnion b a t → s ≡ t
one_union a b s t f g = λ i v. at_word v (s v) (t v) refl refl i
  where
    turned : {v : List ℕ} → Listed a v ⊎ Listed b v → Listed b v ⊎ Listed a v
    turned (inl l) = inr l
    turned (inr l) = inl l

    back : {v : List ℕ} → Listed b v ⊎ Listed a v → Listed a v ⊎ Listed b v
    back (inl l) = inr l
    back (inr l) = inl l

    at_word : (v : List ℕ) (m n : Option ℕ) → s v ≡ m → t v ≡ n → s v ≡ t v
    at_word v (some c) n h k = let l = f.only v c h in f.all v l ∙ sym (g.all v (turned l))
    at_word v none (some c) h k = let l = g.only v c k in f.all v (back l) ∙ sym (g.all v l)
    at_word v none none h k = h ∙ sym k
