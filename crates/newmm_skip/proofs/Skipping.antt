-- The walks over places and over word lengths, over plain values. Assumes nothing.
use Prim.Native.Nat.{ℕ, zero, suc, ◌+◌, ◌-◌, ◌≤◌, ◌<◌, min}
use native.Mathlib.Omega.{arith}
use mathlib.Core.Path.{◌≡◌, refl, sym, ◌∙◌, ap, subst}
use mathlib.Core.Bool.{Bool, true, false, cond, not, ◌&&◌, ◌||◌}
use mathlib.Core.List.{List, [], ◌∷◌}
use lib.ListN.{length, get_or, take, drop, length-drop}
use lib.Dec.{ltb, eqb, eqb-suc-suc, eqb-zero-suc}
use borrow.Author.Tests.{le-leb, eq-eqb, ne_eqb}
use Rattle.std.specs.List.{list_all}
use Rattle.lists.specs.Scans.{leading}
use Rattle.lists.proofs.Parts.{tail_drop}
use Rattle.newmm_rules.specs.Positions.{up_from, first_or, any}
use Rattle.newmm_rules.specs.NonThai.{non_thai}
use Rattle.newmm_rules.specs.Words.{Given, size, span, is_word}
use Rattle.newmm_rules.specs.NonDictionary.{non_thai_at, is_consonant, is_short, starts_word, stops_at, skip_end, token_end}
use Rattle.newmm_rules.proofs.Spans.{non_thai_inside}
use Rattle.newmm_rules.proofs.Lengths.{behind, behind_all, behind_end, behind_none, behind_word, behind_part}
use Rattle.trie_pool.specs.inner.Sound.{Readable}
use Rattle.tcc.specs.Flags.{is_end, end_flags}
use Rattle.newmm_word_step.specs.declared.Step.{Step}
use Rattle.newmm_word_step.specs.declared.Step.TheVariants.{Nothing, Word, Part}
use Rattle.newmm_word_step.specs.inner.Walks.{given_by, Walked, Asks, Next, StepIs}
use Rattle.newmm_word_step.proofs.Steps.{start_walk, end_no, end_yes}

-- ---- one or two consonants

all_leading : (p : ℕ → Bool) (w : List ℕ) → list_all p w ≡ eqb (leading p w) (length w)
unfolding leading
all_leading p [] = refl
all_leading p (x ∷ w) = go (p x) (all_leading p w)
  where
    go : (t : Bool) → list_all p w ≡ eqb (leading p w) (length w) → (t && list_all p w) ≡ eqb (cond t (suc (leading p w)) 0) (suc (length w))
    go true h = h ∙ sym (eqb-suc-suc (leading p w) (length w))
    go false h = sym (eqb-zero-suc (length w))

pub short_all : (w : List ℕ) → length w ≤ 2 → list_all is_consonant w ≡ is_short w
short_all w h = simp (le-leb (length w) 2 h) (all_leading is_consonant w)

-- ---- whether the search stops at p

module _ (g : Given) (p : ℕ) where
  pub stops_not_end : g.is_end p ≡ false → stops_at g p ≡ false
  unfolding stops_at
  stops_not_end e = simp e

  or_true : (t : Bool) → (t || true) ≡ true
  or_true true = refl
  or_true false = refl

  pub stops_non_thai : g.is_end p ≡ true → ltb 0 (non_thai_at g p) ≡ true → stops_at g p ≡ true
  unfolding stops_at
  stops_non_thai e n = simp (e, n) (or_true (starts_word g p))

  pub stops_word : g.is_end p ≡ true → starts_word g p ≡ true → stops_at g p ≡ true
  unfolding stops_at
  stops_word e s = ap (λ (t : Bool). t && (starts_word g p || ltb 0 (non_thai_at g p))) e ∙ ap (λ (t : Bool). t || ltb 0 (non_thai_at g p)) s

  and_false : (t : Bool) → (t && false) ≡ false
  and_false true = refl
  and_false false = refl

  pub stops_no_word : starts_word g p ≡ false → ltb 0 (non_thai_at g p) ≡ false → stops_at g p ≡ false
  unfolding stops_at
  stops_no_word s n =
      ap (λ (t : Bool). g.is_end p && (t || ltb 0 (non_thai_at g p))) s ∙ ap (λ (t : Bool). g.is_end p && t) n ∙ and_false (g.is_end p)

-- ---- over places

-- the search has not stopped between b and p
pub record Skipping (g : Given) (b p : ℕ) : Type 0 where
  pub above : b < p
  pub upto : p ≤ size g
  pub rest : skip_end g b ≡ first_or (size g) (stops_at g) (up_from (size g - p) p)

pub skip_first : (g : Given) (b : ℕ) → b < size g → Skipping g b (b + 1)
unfolding skip_end
skip_first g b h = let i : suc b ≡ b + 1 = omega arith in record { above = omega arith; upto = omega arith; rest = ap (λ (p : ℕ). first_or (size g) (stops_at g) (up_from (size g - p) p)) i }

first_none : (d : ℕ) (test : ℕ → Bool) (k p : ℕ) → k ≡ 0 → first_or d test (up_from k p) ≡ d
unfolding first_or up_from
first_none d test zero p e = refl
first_none d test (suc k) p e = absurd (omega arith)

first_next : (d : ℕ) (test : ℕ → Bool) (k p : ℕ) (t : Bool) → 0 < k → test p ≡ t → first_or d test (up_from k p) ≡ cond t p (first_or d test (up_from (k - 1) (suc p)))
unfolding first_or up_from
first_next d test zero p t h e = absurd (omega arith)
first_next d test (suc k) p t h e =
    let i : k ≡ suc k - 1 = omega arith in
    ap (λ (u : Bool). cond u p (first_or d test (up_from k (suc p)))) e ∙ ap (λ (j : ℕ). cond t p (first_or d test (up_from j (suc p)))) i

module _ {g : Given} {b p : ℕ} (s : Skipping g b p) where
  pub skip_all : size g ≤ p → size g ≡ skip_end g b
  skip_all h = sym (s.rest ∙ first_none (size g) (stops_at g) (size g - p) p (omega arith))

  pub skip_here : p < size g → stops_at g p ≡ true → p ≡ skip_end g b
  skip_here h t = sym (s.rest ∙ first_next (size g) (stops_at g) (size g - p) p true (omega arith) t)

  pub skip_on : p < size g → stops_at g p ≡ false → Skipping g b (p + 1)
  skip_on h t =
      let i : suc p ≡ p + 1 = omega arith in
      let k : size g - p - 1 ≡ size g - (p + 1) = omega arith in
      record {
        above = omega (arith, s.above);
        upto = omega arith;
        rest = s.rest ∙ first_next (size g) (stops_at g) (size g - p) p false (omega arith) t ∙ ap (λ (j : ℕ). first_or (size g) (stops_at g) (up_from (size g - p - 1) j)) i
            ∙ ap (λ (j : ℕ). first_or (size g) (stops_at g) (up_from j (p + 1))) k;
      }

-- ---- over word lengths

abbrev pub not_short : Given → ℕ → ℕ → Bool
not_short g p e = not (is_short (span g p e))

-- no word at p that ends at e or before is one to stop at
pub record Trying (text pool : List ℕ) (p limit e node : ℕ) : Type 0 where
  pub walked : Walked text pool p e node
  pub node_is : Readable pool node
  pub far : limit ≤ length text
  pub upto : e ≤ limit
  pub rest : starts_word (given_by text pool) p ≡ any (not_short (given_by text pool) p) (behind (given_by text pool) p limit e)

module _ (text pool : List ℕ) (p limit : ℕ) where
  abbrev g : Given
  g = given_by text pool

  any_none : (l : List ℕ) → l ≡ [] → any (not_short g p) l ≡ false
  unfolding any
  any_none l e = ap (any (not_short g p)) e

  any_next : (x : ℕ) (l : List ℕ) → any (not_short g p) (x ∷ l) ≡ (not_short g p x || any (not_short g p) l)
  unfolding any
  any_next x l = refl

  pub try_first : p ≤ length text → Readable pool 0 → limit ≡ p + min 255 (length text - p) → Trying text pool p limit p 0
  try_first h r e =
      record { walked = start_walk text pool p; node_is = r; far = omega arith; upto = omega arith; rest = ap (any (not_short g p)) (behind_all g p limit e) }

  module _ {e node : ℕ} (t : Trying text pool p limit e node) where
    pub try_end : limit ≤ e → starts_word g p ≡ false
    try_end h = t.rest ∙ any_none (behind g p limit e) (behind_end g p limit e h)

    pub try_none : ((k : ℕ) → e < k → is_word g p k ≡ false) → starts_word g p ≡ false
    try_none h = t.rest ∙ any_none (behind g p limit e) (behind_none g p limit e h)

    pub try_part : {r : ℕ} → e < limit → Next text pool p e r false → Trying text pool p limit (e + 1) r
    try_part h n = record { walked = n.walked; node_is = n.node_is; far = t.far; upto = omega arith; rest = t.rest ∙ ap (any (not_short g p)) (behind_part g p limit e h n.tells) }

    word_rest : {r : ℕ} → e < limit → Next text pool p e r true → starts_word g p ≡ (not_short g p (e + 1) || any (not_short g p) (behind g p limit (e + 1)))
    word_rest h n = t.rest ∙ ap (any (not_short g p)) (behind_word g p limit e h n.tells) ∙ any_next (e + 1) (behind g p limit (e + 1))

    pub try_short : {r : ℕ} → e < limit → Next text pool p e r true → is_short (span g p (e + 1)) ≡ true → Trying text pool p limit (e + 1) r
    try_short h n s =
        record { walked = n.walked; node_is = n.node_is; far = t.far; upto = omega arith; rest = word_rest h n ∙ ap (λ (u : Bool). not u || any (not_short g p) (behind g p limit (e + 1))) s }

    pub try_word : {r : ℕ} → e < limit → Next text pool p e r true → is_short (span g p (e + 1)) ≡ false → starts_word g p ≡ true
    try_word h n s = word_rest h n ∙ ap (λ (u : Bool). not u || any (not_short g p) (behind g p limit (e + 1))) s

-- ---- the token's end

module _ (g : Given) (b : ℕ) where
  token_skip : (k e : ℕ) → k ≡ non_thai_at g b → k ≡ 0 → e ≡ skip_end g b → e ≡ token_end g b
  unfolding token_end
  token_skip k e h z q = simp (eq-eqb (non_thai_at g b) 0 (sym h ∙ z)) q

  token_match : (k : ℕ) → k ≡ non_thai_at g b → (k ≡ 0 → ⊥) → b + k ≡ token_end g b
  unfolding token_end
  token_match k h n = simp (ne_eqb (non_thai_at g b) 0 (λ e. n (h ∙ e))) (ap (λ (i : ℕ). b + i) h)

-- ---- both walks

-- the words at the cluster end p are being tried
pub record Inner (text pool : List ℕ) (b p limit e node : ℕ) : Type 0 where
  pub skipping : Skipping (given_by text pool) b p
  pub inside : p < length text
  pub end_is : is_end text p ≡ true
  pub plain : ltb 0 (non_thai_at (given_by text pool) p) ≡ false
  pub trying : Trying text pool p limit e node

module _ {text : List ℕ} (pool : List ℕ) {b p : ℕ} (s : Skipping (given_by text pool) b p) (inside : p < length text) where
  pub on_plain : (flags : List ℕ) → flags ≡ end_flags text → get_or flags p 0 ≡ 0 → Skipping (given_by text pool) b (p + 1)
  on_plain flags f z = skip_on s inside (stops_not_end (given_by text pool) p (end_no text f (omega arith) z))

  module _ (flags : List ℕ) (f : flags ≡ end_flags text) (n : get_or flags p 0 ≡ 0 → ⊥) {r : Bool} (m : r ≡ ltb 0 (non_thai (take (length text - p) (drop p text)))) where
    ends_here : is_end text p ≡ true
    ends_here = end_yes text f (omega arith) n

    matches : r ≡ ltb 0 (non_thai_at (given_by text pool) p)
    matches = m ∙ ap (λ (l : List ℕ). ltb 0 (non_thai l)) (tail_drop text p)

    pub here_non_thai : r ≡ true → p ≡ skip_end (given_by text pool) b
    here_non_thai t = skip_here s inside (stops_non_thai (given_by text pool) p ends_here (sym matches ∙ t))

    pub inner_first : {limit : ℕ} → r ≡ false → Readable pool 0 → limit ≡ p + min 255 (length text - p) → Inner text pool b p limit p 0
    inner_first {limit} t q l = record { skipping = s; inside = inside; end_is = ends_here; plain = sym matches ∙ t; trying = try_first text pool p limit (omega arith) q l }

module _ {text pool : List ℕ} {b p limit e node : ℕ} (i : Inner text pool b p limit e node) where
  past : starts_word (given_by text pool) p ≡ false → Skipping (given_by text pool) b (p + 1)
  past n = skip_on i.skipping i.inside (stops_no_word (given_by text pool) p n i.plain)

  pub inner_end : limit ≤ e → Skipping (given_by text pool) b (p + 1)
  inner_end h = past (try_end text pool p limit i.trying h)

  module _ (r : Step) (told : (b : ℕ) → Walked text pool b e node → StepIs r text pool b e) where
    pub inner_none : r ≡ Nothing → Skipping (given_by text pool) b (p + 1)
    inner_none q = past (try_none text pool p limit i.trying (subst (λ (x : Step). StepIs x text pool p e) q (told p i.trying.walked)))

    part_of : {k : ℕ} → r ≡ Part k → Next text pool p e k false
    part_of q = subst (λ (x : Step). StepIs x text pool p e) q (told p i.trying.walked)

    word_of : {k : ℕ} → r ≡ Word k → Next text pool p e k true
    word_of q = subst (λ (x : Step). StepIs x text pool p e) q (told p i.trying.walked)

    again : {k : ℕ} → Trying text pool p limit (e + 1) k → Inner text pool b p limit (e + 1) k
    again t = record { skipping = i.skipping; inside = i.inside; end_is = i.end_is; plain = i.plain; trying = t }

    module _ (more : e < limit) where
      pub inner_part : {k : ℕ} → r ≡ Part k → Inner text pool b p limit (e + 1) k
      inner_part q = again (try_part text pool p limit i.trying more (part_of q))

      pub inner_short : {k : ℕ} {t : Bool} → r ≡ Word k → t ≡ is_short (span (given_by text pool) p (e + 1)) → t ≡ true → Inner text pool b p limit (e + 1) k
      inner_short q u v = again (try_short text pool p limit i.trying more (word_of q) (sym u ∙ v))

      pub inner_word : {k : ℕ} {t : Bool} → r ≡ Word k → t ≡ is_short (span (given_by text pool) p (e + 1)) → t ≡ false → p ≡ skip_end (given_by text pool) b
      inner_word q u v = skip_here i.skipping i.inside (stops_word (given_by text pool) p i.end_is (try_word text pool p limit i.trying more (word_of q) (sym u ∙ v)))

  pub asks : (flags : List ℕ) → flags ≡ end_flags text → e < limit → Asks text pool flags e node
  asks flags f h = record { inside = omega (arith, i.trying.far); node_is = i.trying.node_is; flags_are = f }

module _ (text pool : List ℕ) (b k : ℕ) (h : k ≡ non_thai (take (length text - b) (drop b text))) where
  at_b : k ≡ non_thai_at (given_by text pool) b
  at_b = h ∙ ap non_thai (tail_drop text b)

  pub token_skips : (e : ℕ) → k ≡ 0 → e ≡ skip_end (given_by text pool) b → e ≡ token_end (given_by text pool) b
  token_skips e z q = token_skip (given_by text pool) b k e at_b z q

  pub token_matches : (k ≡ 0 → ⊥) → b + k ≡ token_end (given_by text pool) b
  token_matches n = token_match (given_by text pool) b k at_b n

  pub match_inside : b ≤ length text → b + k ≤ length text
  match_inside l = omega (arith, at_b, non_thai_inside (drop b text), length-drop b text)
