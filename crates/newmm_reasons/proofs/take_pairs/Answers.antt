use native.Mathlib.Omega.{arith}
use mathlib.Core.Path.{◌≡◌, sym, ◌∙◌, ap}
use mathlib.Core.List.{List, ◌++◌}
use Prim.Native.Nat.{ℕ, ◌*◌}
use lib.ListN.{length, take, drop, replicate}
use lib.Seq.{length-take-le}
use Rattle.newmm_reasons_answers.specs.inner.Cells.{unpacked}
use Rattle.newmm_reasons.proofs.Pairs.{put_first}
use Rattle.newmm_reasons.proofs.take_pairs.Goals as goal

pub put_pairs-requires : goal.put_pairs-requires
put_pairs-requires c =
    let whole = length-take-le c.ends_told-k.result c.args.scratch.now (omega (arith, c.requires.0, c.ends_told-k.ensures)) in
    omega (arith, whole, c.requires.1, c.ends_told-k.ensures)

pub returns-clause-out : goal.returns-clause-out
returns-clause-out c =
    put_first c.args.scratch.now c.args.out.now c.ends_told-k.result (omega (arith, c.requires.0, c.ends_told-k.ensures)) c.put_pairs.ensures
    ∙ ap (λ (k : ℕ). unpacked (take k c.args.scratch.now) ++ drop (2 * k) c.args.out.now) c.ends_told-k.ensures

pub returns-clause-scratch : goal.returns-clause-scratch
returns-clause-scratch c =
    c.clear_first.ensures ∙ ap (λ (k : ℕ). replicate {A = ℕ} k 0 ++ drop k c.args.scratch.now) c.ends_told-k.ensures
