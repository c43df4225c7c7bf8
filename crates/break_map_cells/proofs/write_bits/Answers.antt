use Prim.Native.Nat.{ℕ, ◌+◌}
use native.Mathlib.Omega.{arith}
use mathlib.Core.Path.{◌≡◌, refl, sym, ◌∙◌, ap, subst}
use mathlib.Core.List.{List}
use lib.ListN.{length, replicate}
use Rattle.std.proofs.lemmas.Grind.{common_steps}
use Rattle.newmm_rules.specs.Positions.{member}
use Rattle.break_map_rules.specs.Maps.{cells}
use Rattle.break_map_cells.proofs.Setting.{SetUpTo, zeros_are, set_none, set_more, set_all}
use Rattle.break_map_cells.proofs.write_bits.Goals as goal

pub loop-p-init : goal.loop-p-init
loop-p-init c =
    let e : c.fill.new.self ≡ replicate (length c.args.map.now) 0 = grind (arith, common_steps) in
    set_none _ _ (zeros_are _ _ e)

pub set_bit-requires : goal.set_bit-requires
set_bit-requires c = omega (arith, c.requires _ c.loop-p-test.true, c.fill.ensures.len)

pub loop-p-preserved : goal.loop-p-preserved
loop-p-preserved c =
    subst (λ (l : List ℕ). SetUpTo c.args.positions.now c.fill.new.self l (c.loop-p.p-index + 1))
    (sym c.set_bit.ensures)
    (set_more c.loop-p.invariant c.loop-p-test.true _ refl
    (omega (arith, c.requires _ c.loop-p-test.true, c.fill.ensures.len)))

pub returns : goal.returns
returns c =
    set_all c.loop-p.invariant c.loop-p-test.false
    ∙ ap (λ (k : ℕ). cells (λ (p : ℕ). member p c.args.positions.now) k 0) c.fill.ensures.len
