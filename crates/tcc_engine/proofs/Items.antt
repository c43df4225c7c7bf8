-- A stretch of items and the group behind it, item by item. Assumes nothing.
use Rattle.std.specs.Prelude.{Option, Some, None}
use Rattle.std.specs.Option.{option_or}
use Prim.Native.Nat.{ℕ, suc, ◌+◌, ◌-◌, ◌/◌, ◌%◌, ◌≤◌, ◌<◌}
use native.Mathlib.Omega.{arith}
use mathlib.Core.Path.{◌≡◌, refl, sym, ◌∙◌, ap}
use mathlib.Core.Bool.{Bool, true, false, cond}
use mathlib.Core.List.{List, [], ◌∷◌, map}
use lib.ListN.{length, get_or, take, drop}
use lib.Seq.{drop-cons}
use lib.Dec.{eqb}
use borrow.Author.Tests.{eq-eqb, ne_eqb}
use Rattle.tcc_rules.specs.Patterns.{Range, Pattern, Match, none, upto, or_else, match, holds_at, Item, one, opt, items, optional}
use Rattle.tcc_engine.specs.Tables.{class_in, item_in}
use Rattle.tcc_engine.specs.inner.Trying.{part, stretch, matched}

pub part_none : (row : List ℕ) (i : ℕ) → part row i i ≡ []
unfolding part
part_none row i = let z : i - i ≡ 0 = omega arith in ap (λ (n : ℕ). take n (drop i row)) z

pub part_next : (row : List ℕ) (i g : ℕ) → i < g → g ≤ length row → part row i g ≡ get_or row i 0 ∷ part row (i + 1) g
unfolding part
part_next row i g h k =
    let n : g - i ≡ suc (g - (i + 1)) = omega arith in
    let s : suc i ≡ i + 1 = omega arith in
    ap (λ (l : List ℕ). take (g - i) l) (drop-cons row i 0 (omega arith))
    ∙ ap (λ (m : ℕ). take m (get_or row i 0 ∷ drop (suc i) row)) n
    ∙ ap (λ (m : ℕ). get_or row i 0 ∷ take (g - (i + 1)) (drop m row)) s

-- ---- what the engine tells says what the match is

differ : {P : Type 0} {e : ℕ} → None ≡ Some e → P
differ h = absurd (let z : ◌≡◌ {A = ℕ} 0 1 = cc in omega arith)

pub is_none : (m : Match) {r : Option ℕ} → r ≡ matched m → r ≡ None → m ≡ none
is_none none h k = refl
is_none (upto e) h k = differ (sym k ∙ h)

pub is_upto : (m : Match) {r : Option ℕ} {e : ℕ} → r ≡ matched m → r ≡ Some e → m ≡ upto e
is_upto none h k = differ (sym h ∙ k)
is_upto (upto d) {r} {e} h k = let z : d ≡ e = cc in ap upto z

with_or : (m : Match) (p : ℕ) → option_or (matched m) (Some p) ≡ matched (or_else m (upto p))
with_or none p = refl
with_or (upto e) p = refl

module _ (classes row text : List ℕ) where
  item : ℕ → Item
  item = item_in classes

  at_end : (i p : ℕ) → match (stretch classes row i i i) text p ≡ upto p
  unfolding stretch match item
  at_end i p = ap (λ (l : List ℕ). match (items (map item l) (optional (map item l))) text p) (part_none row i)

  pub no_item : (i g e p : ℕ) → i ≡ g → g ≡ e → Some p ≡ matched (match (stretch classes row i g e) text p)
  no_item i g e p h k =
      sym
      (ap (λ (a : ℕ). matched (match (stretch classes row i a e) text p)) (sym h)
      ∙ ap (λ (a : ℕ). matched (match (stretch classes row i i a) text p)) (sym (h ∙ k))
      ∙ ap matched (at_end i p))

  -- ---- the group

  group_is : (g e p : ℕ) → g < e → e ≤ length row → match (stretch classes row g g e) text p ≡ or_else (match (stretch classes row g e e) text p) (upto p)
  unfolding stretch match item
  group_is g e p h k =
      ap (λ (l : List ℕ). match (items (map item l) (optional (map item (part row g e)))) text p) (part_none row g)
      ∙ ap (λ (l : List ℕ). match (optional (map item l)) text p) (part_next row g e h k)
      ∙ sym
      (ap (λ (l : List ℕ). or_else (match (items (map item l) (optional (map item (part row e e)))) text p) (upto p)) (part_next row g e h k)
      ∙ ap (λ (l : List ℕ). or_else (match (items (map item (get_or row g 0 ∷ part row (g + 1) e)) (optional (map item l))) text p) (upto p)) (part_none row e))

  module _ (i g e p : ℕ) (h : i ≡ g) (k : g < e) (l : e ≤ length row) {r : Option ℕ} (is : r ≡ matched (match (stretch classes row g e e) text p)) where
    whole : match (stretch classes row i g e) text p ≡ or_else (match (stretch classes row g e e) text p) (upto p)
    whole = ap (λ (a : ℕ). match (stretch classes row a g e) text p) h ∙ group_is g e p k l

    -- the group is tried first with and then without a character
    pub group_or : option_or r (Some p) ≡ matched (match (stretch classes row i g e) text p)
    group_or = ap (λ (o : Option ℕ). option_or o (Some p)) is ∙ with_or (match (stretch classes row g e e) text p) p ∙ sym (ap matched whole)

  -- ---- one item

  -- what an item and the rest give, by whether it is needed and whether it is there, from the rest
  -- behind it and from the rest at its place
  abbrev tried : Bool → Bool → Match → Match → Match
  tried true here behind at_once = cond here behind none
  tried false here behind at_once = or_else (cond here behind none) at_once

  kinds : (b : Bool) (cl : List Range) (more : List Item) (rest : Pattern) (p : ℕ)
      → match (items (cond b (one cl) (opt cl) ∷ more) rest) text p ≡ tried b (holds_at cl text p) (match (items more rest) text (p + 1)) (match (items more rest) text p)
  unfolding match
  kinds true cl more rest p = refl
  kinds false cl more rest p = refl

  item_is : (i g e p : ℕ) → i < g → g ≤ length row
      → match (stretch classes row i g e) text p
      ≡ tried (eqb (get_or row i 0 / 16 % 16) 0) (holds_at (class_in classes (get_or row i 0 / 256)) text p) (match (stretch classes row (i + 1) g e) text (p + 1)) (match (stretch classes row (i + 1) g e) text p)
  unfolding stretch item
  item_is i g e p h k =
      ap (λ (l : List ℕ). match (items (map item l) (optional (map item (part row g e)))) text p) (part_next row i g h k)
      ∙ kinds (eqb (get_or row i 0 / 16 % 16) 0) (class_in classes (get_or row i 0 / 256)) (map item (part row (i + 1) g)) (optional (map item (part row g e))) p

  module _ (i g e p : ℕ) (h : i < g) (k : g ≤ length row) {x c : ℕ} {here : Bool} (xs : x ≡ get_or row i 0) (cs : c ≡ x / 256) (is : here ≡ holds_at (class_in classes c) text p) where
    behind : Match
    behind = match (stretch classes row (i + 1) g e) text (p + 1)

    at_once : Match
    at_once = match (stretch classes row (i + 1) g e) text p

    seen : match (stretch classes row i g e) text p ≡ tried (eqb (x / 16 % 16) 0) here behind at_once
    unfolding behind at_once
    seen =
        item_is i g e p h k
        ∙ ap (λ (z : ℕ). tried (eqb (z / 16 % 16) 0) (holds_at (class_in classes (z / 256)) text p) behind at_once) (sym xs)
        ∙ ap (λ (z : ℕ). tried (eqb (x / 16 % 16) 0) (holds_at (class_in classes z) text p) behind at_once) (sym cs)
        ∙ ap (λ (t : Bool). tried (eqb (x / 16 % 16) 0) t behind at_once) (sym is)

    case_is : (b t : Bool) → eqb (x / 16 % 16) 0 ≡ b → here ≡ t → match (stretch classes row i g e) text p ≡ tried b t behind at_once
    case_is b t u v = seen ∙ ap (λ (z : Bool). tried z here behind at_once) u ∙ ap (λ (z : Bool). tried b z behind at_once) v

    pub needed_not_there : x / 16 % 16 ≡ 0 → here ≡ false → None ≡ matched (match (stretch classes row i g e) text p)
    needed_not_there u v = sym (ap matched (case_is true false (eq-eqb (x / 16 % 16) 0 u) v))

    pub needed_there : {r : Option ℕ} → x / 16 % 16 ≡ 0 → here ≡ true → r ≡ matched (match (stretch classes row (i + 1) g e) text (p + 1)) → r ≡ matched (match (stretch classes row i g e) text p)
    unfolding behind
    needed_there u v w = w ∙ sym (ap matched (case_is true true (eq-eqb (x / 16 % 16) 0 u) v))

    pub optional_not_there : {r : Option ℕ} → (x / 16 % 16 ≡ 0 → ⊥) → here ≡ false → r ≡ matched (match (stretch classes row (i + 1) g e) text p) → r ≡ matched (match (stretch classes row i g e) text p)
    unfolding at_once
    optional_not_there u v w = w ∙ sym (ap matched (case_is false false (ne_eqb (x / 16 % 16) 0 u) v))

    module _ (u : x / 16 % 16 ≡ 0 → ⊥) (v : here ≡ true) {first : Option ℕ} (w : first ≡ matched (match (stretch classes row (i + 1) g e) text (p + 1))) where
      pub optional_with : {q : ℕ} → first ≡ Some q → first ≡ matched (match (stretch classes row i g e) text p)
      unfolding behind at_once
      optional_with y =
          y ∙ sym (ap matched (case_is false true (ne_eqb (x / 16 % 16) 0 u) v ∙ ap (λ (z : Match). or_else z at_once) (is_upto behind w y)))

      pub optional_without : {r : Option ℕ} → first ≡ None → r ≡ matched (match (stretch classes row (i + 1) g e) text p) → r ≡ matched (match (stretch classes row i g e) text p)
      unfolding behind at_once
      optional_without y r =
          r ∙ sym (ap matched (case_is false true (ne_eqb (x / 16 % 16) 0 u) v ∙ ap (λ (z : Match). or_else z at_once) (is_none behind w y)))
