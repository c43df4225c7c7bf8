-- The words of a pool in a view of it. Assumes nothing.
use Rattle.std.specs.Prelude.{Result}
use Rattle.newmm_rules.specs.declared.Ends.{Ends}
use Rattle.refusal.specs.declared.Refusal.{Refusal}
use Prim.Native.Nat.{ℕ, ◌*◌, ◌/◌, min}
use mathlib.Core.Path.{◌≡◌, sym, ◌∙◌, ap, subst}
use mathlib.Core.Bool.{false}
use mathlib.Core.List.{List}
use mathlib.Core.Option.{Option}
use lib.ListN.{length, take}
use Rattle.trie_pool.specs.Meaning.{Words, meaning}
use Rattle.trie_pool.specs.inner.Sound.{Readable}
use Rattle.trie_check.specs.Refusals.{is_none}
use Rattle.trie_check.proofs.Parts.{meaning_yes, known_is, cells_are, readable}
use Rattle.newmm_rules.specs.declared.Mode.{Mode}
use Rattle.newmm_answers.specs.inner.Passing.{Passes, in_view, Sees, CutsBy}

-- the words that m knows stand in a view that can be read
pub record Viewed (m : Option Words) (view : List ℕ) : Type 0 where
  pub means : m ≡ in_view view
  pub readable : Readable view 0

-- those of a plain pool in its cells
pub plain_view : (pool : List ℕ) (n : ℕ) → n ≡ min (length pool / 8) 1048576 → is_none (meaning pool) ≡ false → Viewed (meaning pool) (take (8 * n) pool)
plain_view pool n is k =
    let e = known_is pool k in
    record { means = meaning_yes pool e ∙ ap in_view (sym (cells_are pool n is)); readable = readable pool n is e }

module _ {m : Option Words} {view : List ℕ} (z : Viewed m view) where
  -- a text that passes with the pool passes with the view
  pub sees : {text : List ℕ} {cells : ℕ} → Passes text m cells → Sees text view cells
  sees {text} {cells} p = record { passes = subst (λ (x : Option Words). Passes text x cells) z.means p; readable = z.readable }

  -- and what is cut by the view is cut by the pool
  pub by_view : (text out scratch : List ℕ) (mode : Mode) {r : Result Ends Refusal} {out' scratch' : List ℕ} → CutsBy (in_view view) text out scratch mode r out' scratch' → CutsBy m text out scratch mode r out' scratch'
  by_view text out scratch mode {r} {out'} {scratch'} = subst (λ (x : Option Words). CutsBy x text out scratch mode r out' scratch') (sym z.means)
