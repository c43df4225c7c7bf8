use native.Mathlib.Omega.{arith}
use Prim.Native.Nat.{ℕ}
use mathlib.Core.Path.{◌≡◌, sym, ◌∙◌, ap}
use mathlib.Core.List.{List, ◌++◌}
use lib.ListN.{length, take, drop, replicate}
use Rattle.std.proofs.Common.{rules}
use Rattle.newmm_answers.specs.Answers.{cut_of}
use Rattle.newmm.proofs.Calls.{the_cut, Ended, ready, ends_fit, ends_lent, short_cuts, done_cuts}
use Rattle.newmm.proofs.cut_ready.Goals as goal

pub segment_single-r-requires : goal.segment_single-r-requires
segment_single-r-requires c = ready (record { sees = c.requires.0; blank = c.requires.1 })

pub slice_bounds-fill-end : goal.slice_bounds-fill-end
slice_bounds-fill-end c =
    let ended : Ended cut_of c.args.mode c.args.text.now c.args.view.now c.segment_single-r.new.row (length c.args.scratch.now) c.segment_single-r.result = record { like = the_cut; blank_row = _; lent = record { sees = c.requires.0; blank = c.requires.1 }; written = c.segment_single-r.ensures } in
    ends_fit (ended)

pub returns-then-out-n : goal.returns-then-out-n
returns-then-out-n c =
    let ended : Ended cut_of c.args.mode c.args.text.now c.args.view.now c.segment_single-r.new.row (length c.args.scratch.now) c.segment_single-r.result = record { like = the_cut; blank_row = _; lent = record { sees = c.requires.0; blank = c.requires.1 }; written = c.segment_single-r.ensures } in
    let z : c.fill.new.self ≡ replicate {A = ℕ} (length (take c.segment_single-r.result.ends c.segment_single-r.new.row)) 0 = search rules in
    short_cuts c.args.scratch.now c.args.out.now (ended) c.if-out-n.true
    (ap (λ (l : List ℕ). l ++ drop c.segment_single-r.result.ends c.segment_single-r.new.row) (z ∙ ap (λ (k : ℕ). replicate {A = ℕ} k 0) (ends_lent (ended))))

pub copy-requires : goal.copy-requires
copy-requires c =
    let ended : Ended cut_of c.args.mode c.args.text.now c.args.view.now c.segment_single-r.new.row (length c.args.scratch.now) c.segment_single-r.result = record { like = the_cut; blank_row = _; lent = record { sees = c.requires.0; blank = c.requires.1 }; written = c.segment_single-r.ensures } in
    (ends_fit (ended), c.if-out-n.false)

pub returns : goal.returns
returns c =
    let ended : Ended cut_of c.args.mode c.args.text.now c.args.view.now c.segment_single-r.new.row (length c.args.scratch.now) c.segment_single-r.result = record { like = the_cut; blank_row = _; lent = record { sees = c.requires.0; blank = c.requires.1 }; written = c.segment_single-r.ensures } in
    let z : c.fill-2.new.self ≡ replicate {A = ℕ} (length (take c.segment_single-r.result.ends c.segment_single-r.new.row)) 0 = search rules in
    done_cuts c.args.scratch.now c.args.out.now (ended) c.if-out-n.false c.copy.ensures
    (ap (λ (l : List ℕ). l ++ drop c.segment_single-r.result.ends c.segment_single-r.new.row) (z ∙ ap (λ (k : ℕ). replicate {A = ℕ} k 0) (ends_lent (ended))))
