-- Input, part by part. Assumes nothing.
use Prim.Native.Nat.{ℕ, ◌+◌, ◌-◌, ◌≤◌, ◌<◌}
use native.Mathlib.Omega.{arith}
use mathlib.Core.Path.{◌≡◌, refl, sym, ◌∙◌, ap, subst}
use mathlib.Core.Bool.{Bool, true, false, not, cond}
use mathlib.Core.List.{List, []}
use lib.Dec.{eqb}
use lib.ListN.{length, take, drop, length-drop}
use lib.Seq.{take-append_seam}
use borrow.Author.Tests.{lt-ltb, le-ltb, eq-eqb, ne_eqb, ltb-true, ltb-false}
use Rattle.lists.proofs.Parts.{tail_drop}
use Rattle.lists.proofs.Scans.{leading_inside}
use Rattle.sheet_input.specs.declared.Fed.{Fed}
use Rattle.sheet_replies.specs.declared.Asked.TheVariants.{Nothing}
use Rattle.sheet_texts.specs.declared.Reply.{Reply}
use Rattle.sheet_bytes.specs.Lines.{line_end, kept, laid}
use Rattle.sheet_replies.specs.Replies.{asked, text_of, ends_after, RowsAfter, PoolAfter, decoded_after, scratch_after}
use Rattle.sheet_texts.specs.Texts.{line_of, written, amount}
use Rattle.sheet_input.specs.Feeding.{line_with, has_end, asked_if, fed_with}

-- ---- a line's text, from its reply and the ends

module _ {reply r : Reply} {row ends : List ℕ} (e : reply ≡ r) (f : row ≡ ends) where
  same_line : line_of reply row ≡ line_of r ends
  same_line = ap (λ (x : Reply). line_of x row) e ∙ ap (line_of r) f

  pub told_size : (out : List ℕ) {n : ℕ} → n ≡ amount (line_of reply row) out → n ≡ amount (line_of r ends) out
  told_size out h = h ∙ ap (λ (t : List ℕ). amount t out) same_line

  pub told_is : (out : List ℕ) {out₁ : List ℕ} → out₁ ≡ written (line_of reply row) out → out₁ ≡ written (line_of r ends) out
  told_is out h = h ∙ ap (λ (t : List ℕ). written t out) same_line

-- nothing asked, nothing changed
pub untouched : (text pool scalars positions ends scratch : List ℕ) → RowsAfter Nothing text pool pool scalars scalars positions positions ends ends scratch scratch
unfolding PoolAfter decoded_after ends_after scratch_after
untouched text pool scalars positions ends scratch = record { pool_is = refl; scalars_are = refl; positions_are = refl; ends_are = refl; scratch_is = refl }

-- ---- bytes that are fed

pub end_inside : (bytes : List ℕ) {end : ℕ} → end ≡ line_end bytes → end ≤ length bytes
end_inside bytes e = subst (λ (k : ℕ). k ≤ length bytes) (sym e) (leading_inside (λ (b : ℕ). not (eqb b 10)) bytes)

pub end_below : (bytes : List ℕ) {end : ℕ} → end ≡ line_end bytes → (end ≡ length bytes → ⊥) → end < length bytes
end_below bytes {end} e h = strict end (length bytes) (end_inside bytes e) h
  where
    strict : (a b : ℕ) → a ≤ b → (a ≡ b → ⊥) → a < b
    strict a b l no' = omega arith

module _ (bytes line : List ℕ) (used : ℕ) {end n : ℕ} {line₁ : List ℕ} (e : end ≡ line_end bytes) (size : n ≡ length (kept line used (take end bytes)))
    (is : line₁ ≡ laid (kept line used (take end bytes)) line) where
  with_is : kept line used (take end bytes) ≡ line_with bytes line used
  with_is = ap (λ (k : ℕ). kept line used (take k bytes)) e

  pub line_is : line₁ ≡ laid (line_with bytes line used) line
  line_is = is ∙ ap (λ (l : List ℕ). laid l line) with_is

  size_is : n ≡ length (line_with bytes line used)
  size_is = size ∙ ap length with_is

  module _ (h : end ≡ length bytes) where
    pub goes_on : has_end bytes ≡ false
    goes_on = le-ltb (line_end bytes) (length bytes) (omega (arith, e))

    pub open_fed : (k : ℕ) → fed_with false end n 0 ≡ fed_with (has_end bytes) (line_end bytes) (length (line_with bytes line used)) k
    open_fed k = ap (λ (x : ℕ). fed_with false x n k) e ∙ ap (λ (x : ℕ). fed_with false (line_end bytes) x k) size_is ∙ sym (ap (λ (b : Bool). fed_with b (line_end bytes) (length (line_with bytes line used)) k) goes_on)

    pub open_out : (after out : List ℕ) → out ≡ cond (has_end bytes) after out
    open_out after out = sym (ap (λ (b : Bool). cond b after out) goes_on)

    pub open_line : (P : Bool → List ℕ → Type 0) → P false (line_with bytes line used) → P (has_end bytes) (line_with bytes line used)
    open_line P q = subst (λ (b : Bool). P b (line_with bytes line used)) (sym goes_on) q

    pub open_rows : (pool scalars positions ends scratch : List ℕ)
        → RowsAfter (asked_if (has_end bytes) (line_with bytes line used)) (text_of (line_with bytes line used)) pool pool scalars scalars positions positions ends ends scratch scratch
    open_rows pool scalars positions ends scratch =
        open_line (λ (b : Bool) (l : List ℕ). RowsAfter (asked_if b l) (text_of l) pool pool scalars scalars positions positions ends ends scratch scratch)
        (untouched (text_of (line_with bytes line used)) pool scalars positions ends scratch)

  module _ (h : end ≡ length bytes → ⊥) {whole : List ℕ} (w : whole ≡ take n line₁) where
    pub ends_here : has_end bytes ≡ true
    ends_here = lt-ltb (line_end bytes) (length bytes) (subst (λ (k : ℕ). k < length bytes) e (end_below bytes e h))

    pub whole_is : whole ≡ line_with bytes line used
    whole_is =
        w ∙ ap (take n) line_is ∙ ap (λ (k : ℕ). take k (laid (line_with bytes line used) line)) size_is
        ∙ take-append_seam (line_with bytes line used) (drop (length (line_with bytes line used)) line)

    -- what is told by the whole line: so many bytes, a row as it becomes, and the rows
    pub end_fed : (many : List ℕ → ℕ) {k : ℕ} → k ≡ many whole
        → fed_with true end 0 k ≡ fed_with (has_end bytes) (line_end bytes) (length (line_with bytes line used)) (many (line_with bytes line used))
    end_fed many {k} q =
        ap (λ (x : ℕ). fed_with true x 0 k) e ∙ ap (fed_with true (line_end bytes) 0) (q ∙ ap many whole_is)
        ∙ sym (ap (λ (b : Bool). fed_with b (line_end bytes) (length (line_with bytes line used)) (many (line_with bytes line used))) ends_here)

    pub end_out : (after : List ℕ → List ℕ) (out : List ℕ) {out₁ : List ℕ} → out₁ ≡ after whole → out₁ ≡ cond (has_end bytes) (after (line_with bytes line used)) out
    end_out after out q = q ∙ ap after whole_is ∙ sym (ap (λ (b : Bool). cond b (after (line_with bytes line used)) out) ends_here)

    pub end_line : (P : Bool → List ℕ → Type 0) → P true whole → P (has_end bytes) (line_with bytes line used)
    end_line P q = subst (λ (b : Bool). P b (line_with bytes line used)) (sym ends_here) (subst (P true) whole_is q)

    pub end_rows : (pool scalars positions ends scratch : List ℕ) {pool₁ scalars₁ positions₁ ends₁ scratch₁ : List ℕ} → RowsAfter (asked whole) (text_of whole) pool pool₁ scalars scalars₁ positions positions₁ ends ends₁ scratch scratch₁
        → RowsAfter (asked_if (has_end bytes) (line_with bytes line used)) (text_of (line_with bytes line used)) pool pool₁ scalars scalars₁ positions positions₁ ends ends₁ scratch scratch₁
    end_rows pool scalars positions ends scratch {pool₁} {scalars₁} {positions₁} {ends₁} {scratch₁} q =
        end_line (λ (b : Bool) (l : List ℕ). RowsAfter (asked_if b l) (text_of l) pool pool₁ scalars scalars₁ positions positions₁ ends ends₁ scratch scratch₁) q

-- Bytes are taken, where there are any, and no more than there are.
pub taken_some : (bytes : List ℕ) (n k : ℕ) {r : Fed} → r ≡ fed_with (has_end bytes) (line_end bytes) n k → 0 < length bytes → (1 ≤ r.taken) × (r.taken ≤ length bytes)
taken_some bytes n k {r} e h = go (has_end bytes) refl (ap (λ (f : Fed). f.taken) e)
  where
    inside : line_end bytes ≤ length bytes
    inside = end_inside bytes refl

    go : (b : Bool) → has_end bytes ≡ b → r.taken ≡ (fed_with b (line_end bytes) n k).taken → (1 ≤ r.taken) × (r.taken ≤ length bytes)
    go true t q = (omega (arith, q), omega (arith, q, ltb-true (line_end bytes) (length bytes) t))
    go false t q = (omega (arith, q, ltb-false (line_end bytes) (length bytes) t), omega (arith, q, inside))

-- where bytes from `at` on are fed, the place moves on, and not over their end
pub moves : (bytes : List ℕ) (at n k : ℕ) {r : Fed} → r ≡ fed_with (has_end (take (length bytes - at) (drop at bytes))) (line_end (take (length bytes - at) (drop at bytes))) n k → at < length bytes → (1 ≤ r.taken) × (at + r.taken ≤ length bytes)
moves bytes at n k e h =
    let size : length (take (length bytes - at) (drop at bytes)) ≡ length bytes - at = ap length (tail_drop bytes at) ∙ length-drop at bytes in
    let t = taken_some (take (length bytes - at) (drop at bytes)) n k e (omega arith) in
    (omega arith, omega arith)

-- ---- a last line

module _ (n : ℕ) (h : n ≡ 0) where
  pub no_line : (k : ℕ) → 0 ≡ cond (eqb n 0) 0 k
  no_line k = sym (ap (λ (b : Bool). cond b 0 k) (eq-eqb n 0 h))

  pub no_text : (out after : List ℕ) → out ≡ cond (eqb n 0) out after
  no_text out after = sym (ap (λ (b : Bool). cond b out after) (eq-eqb n 0 h))

  pub no_rows : (line pool scalars positions ends scratch : List ℕ) → RowsAfter (asked (take n line)) (text_of (take n line)) pool pool scalars scalars positions positions ends ends scratch scratch
  no_rows line pool scalars positions ends scratch =
      subst (λ (k : ℕ). RowsAfter (asked (take k line)) (text_of (take k line)) pool pool scalars scalars positions positions ends ends scratch scratch) (sym h) (untouched [] pool scalars positions ends scratch)

module _ (line : List ℕ) (n : ℕ) (h : n ≡ 0 → ⊥) {whole : List ℕ} (w : whole ≡ take n line) where
  pub last_size : (size : List ℕ → ℕ) {k : ℕ} → k ≡ size whole → k ≡ cond (eqb n 0) 0 (size (take n line))
  last_size size q = q ∙ ap size w ∙ sym (ap (λ (b : Bool). cond b 0 (size (take n line))) (ne_eqb n 0 h))

  pub last_out : (after : List ℕ → List ℕ) (out : List ℕ) {out₁ : List ℕ} → out₁ ≡ after whole → out₁ ≡ cond (eqb n 0) out (after (take n line))
  last_out after out q = q ∙ ap after w ∙ sym (ap (λ (b : Bool). cond b out (after (take n line))) (ne_eqb n 0 h))

  pub last_rows : (pool scalars positions ends scratch : List ℕ) {pool₁ scalars₁ positions₁ ends₁ scratch₁ : List ℕ} → RowsAfter (asked whole) (text_of whole) pool pool₁ scalars scalars₁ positions positions₁ ends ends₁ scratch scratch₁
      → RowsAfter (asked (take n line)) (text_of (take n line)) pool pool₁ scalars scalars₁ positions positions₁ ends ends₁ scratch scratch₁
  last_rows pool scalars positions ends scratch {pool₁} {scalars₁} {positions₁} {ends₁} {scratch₁} q =
      subst (λ (l : List ℕ). RowsAfter (asked l) (text_of l) pool pool₁ scalars scalars₁ positions positions₁ ends ends₁ scratch scratch₁) w q
