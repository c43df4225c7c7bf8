-- A step of a walk, over plain values. Assumes nothing.
use Prim.Native.Nat.{ℕ, suc, ◌+◌, ◌-◌, ◌≤◌, ◌<◌}
use native.Mathlib.Omega.{arith}
use native.Mathlib.Nat.{sub_self}
use mathlib.Core.Path.{◌≡◌, refl, sym, ◌∙◌, ap}
use mathlib.Core.Bool.{Bool, true, false, ◌&&◌}
use mathlib.Core.List.{List, [], append-nil}
use lib.ListN.{length, get_or, take, drop, length-drop}
use lib.Seq.{get_or-drop}
use Rattle.newmm_rules.specs.Words.{is_word}
use Rattle.tcc.specs.Flags.{is_end, flag, end_flags}
use Rattle.tcc.proofs.Marks.{ends_long, ends_at}
use Rattle.trie_pool.specs.Cells.{mark_at}
use Rattle.trie_pool.specs.Words.{Place, none, at, on_place, child, walk, marked}
use Rattle.trie_pool.specs.inner.Sound.{Readable}
use Rattle.trie_pool.proofs.Shape.{walk_more, walk_append}
use Rattle.trie_pool.proofs.Walks.{child_past, readable_child}
use Rattle.trie_child.specs.inner.Search.{to_place}
use Rattle.std.specs.Prelude.{Option, Some, None}
use Rattle.newmm_word_step.specs.inner.Walks.{given_by, Walked, Asks, Next}

pub start_walk : (text pool : List ℕ) (b : ℕ) → Walked text pool b b 0
start_walk text pool b = record { order = omega arith; leads = ap (λ (k : ℕ). walk pool (take k (drop b text)) 0) (sub_self b) }

-- ---- a flag tells of a cluster end

flag_at : (text : List ℕ) {flags : List ℕ} {p : ℕ} → flags ≡ end_flags text → p ≤ length text → get_or flags p 0 ≡ flag (is_end text p)
flag_at text {flags} {p} e h = ap (λ (l : List ℕ). get_or l p 0) (e ∙ sym (append-nil (end_flags text))) ∙ ends_at text [] p h

flag_no : (t : Bool) → flag t ≡ 0 → t ≡ false
flag_no true e = absurd (omega arith)
flag_no false e = refl

flag_yes : (t : Bool) → (flag t ≡ 0 → ⊥) → t ≡ true
flag_yes true n = refl
flag_yes false n = absurd (n refl)

pub end_no : (text : List ℕ) {flags : List ℕ} {p : ℕ} → flags ≡ end_flags text → p ≤ length text → get_or flags p 0 ≡ 0 → is_end text p ≡ false
end_no text {flags} {p} e h z = flag_no (is_end text p) (sym (flag_at text e h) ∙ z)

pub end_yes : (text : List ℕ) {flags : List ℕ} {p : ℕ} → flags ≡ end_flags text → p ≤ length text → (get_or flags p 0 ≡ 0 → ⊥) → is_end text p ≡ true
end_yes text {flags} {p} e h n = flag_yes (is_end text p) (λ z. n (flag_at text e h ∙ z))

pub flags_size : (text : List ℕ) {flags : List ℕ} → flags ≡ end_flags text → length flags ≡ length text + 1
flags_size text e = ap length e ∙ ends_long text

-- ---- a step

module _ {text pool flags : List ℕ} {e node : ℕ} (a : Asks text pool flags e node) where
  module _ {b : ℕ} (w : Walked text pool b e node) where
    -- one character more
    on_walk : walk pool (take (suc (e - b)) (drop b text)) 0 ≡ child pool node (get_or text e 0)
    on_walk =
        let i : b + (e - b) ≡ e = omega (arith, w.order) in
        walk_more pool (drop b text) (e - b) node (omega (arith, length-drop b text, a.inside, w.order)) w.leads
        ∙ ap (child pool node) (get_or-drop b text (e - b) 0 ∙ ap (λ (k : ℕ). get_or text k 0) i)

    pub no_more : (k : Option ℕ) → to_place k ≡ child pool node (get_or text e 0) → k ≡ None → (j : ℕ) → e < j → is_word (given_by text pool) b j ≡ false
    no_more k c q j h =
        let n : walk pool (take (suc (e - b)) (drop b text)) 0 ≡ none = on_walk ∙ sym c ∙ ap to_place q in
        let f : walk pool (take (j - b) (drop b text)) 0 ≡ none = walk_append pool (drop b text) (suc (e - b)) (j - b) (omega (arith, w.order)) n in
        ap (λ (p : Place). on_place false (λ r. marked (mark_at pool r)) p && is_end text j) f

    module _ {k : Option ℕ} {r : ℕ} (c : to_place k ≡ child pool node (get_or text e 0)) (q : k ≡ Some r) where
      leads_to : walk pool (take (e + 1 - b) (drop b text)) 0 ≡ at r
      leads_to =
          let i : e + 1 - b ≡ suc (e - b) = omega (arith, w.order) in
          ap (λ (j : ℕ). walk pool (take j (drop b text)) 0) i ∙ on_walk ∙ sym c ∙ ap to_place q

      tells_of : (t u : Bool) → marked (mark_at pool r) ≡ t → is_end text (e + 1) ≡ u → is_word (given_by text pool) b (e + 1) ≡ (t && u)
      tells_of t u m n =
          ap (λ (p : Place). on_place false (λ r. marked (mark_at pool r)) p && is_end text (e + 1)) leads_to ∙ ap (λ (x : Bool). x && is_end text (e + 1)) m ∙ ap (λ (x : Bool). t && x) n

  module _ {k : Option ℕ} {r : ℕ} (c : to_place k ≡ child pool node (get_or text e 0)) (q : k ≡ Some r) where
    found_node : Readable pool r
    found_node = readable_child pool node (get_or text e 0) r (sym c ∙ ap to_place q) a.node_is

    -- it is a child, so never the root
    pub found_child : (0 < r) × Readable pool r
    found_child = (child_past pool node (get_or text e 0) r (sym c ∙ ap to_place q) a.node_is, found_node)

    pub flag_index : e + 1 < length flags
    flag_index = omega (arith, ap length a.flags_are, ends_long text, a.inside)

    and_false : (t : Bool) → (t && false) ≡ false
    and_false true = refl
    and_false false = refl

    next_of : {b : ℕ} {t : Bool} (w : Walked text pool b e node) → is_word (given_by text pool) b (e + 1) ≡ t → Next text pool b e r t
    next_of w n = record { walked = record { order = omega (arith, w.order); leads = leads_to w c q }; node_is = found_node; tells = n }

    pub unmarked_part : marked (mark_at pool r) ≡ false → (b : ℕ) → Walked text pool b e node → Next text pool b e r false
    unmarked_part z b w = next_of w (tells_of w c q false (is_end text (e + 1)) z refl)

    pub unended_part : get_or flags (e + 1) 0 ≡ 0 → (b : ℕ) → Walked text pool b e node → Next text pool b e r false
    unended_part z b w =
        next_of w (tells_of w c q (marked (mark_at pool r)) false refl (end_no text a.flags_are (omega (arith, a.inside)) z) ∙ and_false (marked (mark_at pool r)))

    pub whole_word : marked (mark_at pool r) ≡ true → (get_or flags (e + 1) 0 ≡ 0 → ⊥) → (b : ℕ) → Walked text pool b e node → Next text pool b e r true
    whole_word m f b w = next_of w (tells_of w c q true true m (end_yes text a.flags_are (omega (arith, a.inside)) f))
