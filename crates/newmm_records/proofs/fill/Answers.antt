-- Each turn writes a record and clears a cell, as `cur` and `taken` say. Assumes nothing.
use Rattle.std.proofs.Common.{◌≡◌, ℕ, ◌+◌, List, get_or, set, refl, sym, ap, ◌∙◌, arith}
use Rattle.std.proofs.Math.Numerals.{add-one}
use Rattle.newmm_records.specs.declared.Record.{Record}
use Rattle.newmm_records.specs.inner.Cells.{record_of}
use Rattle.newmm_records.proofs.Filled.{cur, cur_is, taken, taken_is, taken_at}
use Rattle.newmm_records.proofs.fill.Goals as goal

cur_more : (us : List ℕ) (ys : List Record) (i : ℕ) (rows : List Record) (told : List ℕ) → rows ≡ cur us ys i → told ≡ taken us i
    → set rows i (record_of (get_or told i 0)) ≡ cur us ys (i + 1)
unfolding cur
cur_more us ys i rows told r t =
    ap (λ (q : List Record). set q i (record_of (get_or told i 0))) r
    ∙ ap (λ (v : ℕ). set (cur us ys i) i (record_of v)) (ap (λ (l : List ℕ). get_or l i 0) t ∙ taken_at us i)
    ∙ ap (cur us ys) (sym (add-one i))

taken_more : (us : List ℕ) (i : ℕ) (told : List ℕ) → told ≡ taken us i → set told i 0 ≡ taken us (i + 1)
unfolding taken
taken_more us i told t = ap (λ (l : List ℕ). set l i 0) t ∙ ap (taken us) (sym (add-one i))

pub loop-i-init : goal.loop-i-init
unfolding cur taken
loop-i-init c = record { within = omega arith; filled = refl; cleared = refl }

pub loop-i-preserved : goal.loop-i-preserved
loop-i-preserved c =
    let held = c.loop-i.invariant in
    record {
      within = omega arith;
      filled = cur_more c.args.told.now c.args.records.now c.loop-i.i c.loop-i.records c.loop-i.told held.filled held.cleared;
      cleared = taken_more c.args.told.now c.loop-i.i c.loop-i.told held.cleared;
    }

pub returns : goal.returns
returns c =
    let held = c.loop-i.invariant in
    let all : c.loop-i.i ≡ c.args.n = omega arith in (
      held.filled ∙ ap (cur c.args.told.now c.args.records.now) all ∙ cur_is c.args.told.now c.args.records.now c.args.n c.requires.0,
      held.cleared ∙ ap (taken c.args.told.now) all ∙ taken_is c.args.told.now c.args.n c.requires.1,
    )
