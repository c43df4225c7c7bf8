use native.Mathlib.Omega.{arith}
use Prim.Native.Nat.{ℕ}
use mathlib.Core.Path.{◌≡◌, refl, sym, ◌∙◌, ap}
use lib.ListN.{length, replicate}
use Rattle.std.proofs.lemmas.Grind.{common_steps}
use lib.Seq.{length-take-le}
use Rattle.trie_check.proofs.Parts.{long}
use Rattle.newmm_claim.proofs.Answers.{flags_fit, judges, judged}
use Rattle.newmm_claim.proofs.claim_checked.Goals as goal

pub tcc_flags-requires : goal.tcc_flags-requires
tcc_flags-requires c = flags_fit c.requires

pub slice_bounds-judge-end : goal.slice_bounds-judge-end
slice_bounds-judge-end c = sym (long c.args.pool.now c.capacity-cells.result c.capacity-cells.ensures)

pub slice_bounds-judge-end-2 : goal.slice_bounds-judge-end-2
slice_bounds-judge-end-2 c = omega (arith, flags_fit c.requires, c.tcc_flags.auto.row)

pub slice_bounds-judge-end-3 : goal.slice_bounds-judge-end-3
slice_bounds-judge-end-3 c =
    sym (length-take-le _ c.tcc_flags.new.row
    (omega (arith, flags_fit c.requires, c.tcc_flags.auto.row)))

pub judge-r-requires : goal.judge-r-requires
judge-r-requires c =
    judges c.args.text.now c.args.pool.now c.requires c.capacity-cells.ensures
    c.tcc_flags.new.row c.args.scratch.now _ refl c.tcc_flags.ensures

pub returns : goal.returns
returns c =
    let e : c.fill.new.self ≡ replicate (length c.tcc_flags.new.row) 0 = grind (arith, common_steps) in
    judged c.args.text.now c.args.pool.now c.args.claimed.now c.args.scratch.now
    c.requires c.capacity-cells.ensures c.judge-r.ensures
    (e ∙ ap (λ (k : ℕ). replicate {A = ℕ} k 0) c.tcc_flags.auto.row)
