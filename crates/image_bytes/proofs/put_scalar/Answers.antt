use mathlib.Core.Path.{refl}
use native.Mathlib.Omega.{arith}
use lib.ListN.{length-set}
use Rattle.image_bytes.proofs.Scalars.{size_1, size_2, size_3, size_4, scalar_1, scalar_2, scalar_3, scalar_4}
use Rattle.image_bytes.proofs.put_scalar.Goals as goal

pub bounds-row-at : goal.bounds-row-at
bounds-row-at c = omega (arith, size_1 c.args.x _ refl c.if-v-lt128.true)

pub returns-then-v-lt128 : goal.returns-then-v-lt128
returns-then-v-lt128 c =
    let both = scalar_1 c.args.x _ refl c.args.row.now c.args.at c.requires.1
    c.if-v-lt128.true in record { value = both.0; row_after = both.1 }

pub bounds-row-at-then-v-lt2048 : goal.bounds-row-at-then-v-lt2048
bounds-row-at-then-v-lt2048 c = omega (arith, size_2 c.args.x _ refl c.if-v-lt128.false c.if-v-lt2048.true)

pub bounds-row-at-then-v-lt2048-2 : goal.bounds-row-at-then-v-lt2048-2
bounds-row-at-then-v-lt2048-2 c = simp length-set (omega (arith, size_2 c.args.x _ refl c.if-v-lt128.false c.if-v-lt2048.true))

pub returns-then-v-lt2048 : goal.returns-then-v-lt2048
returns-then-v-lt2048 c =
    let both = scalar_2 c.args.x _ refl c.args.row.now c.args.at c.requires.1
    c.if-v-lt128.false c.if-v-lt2048.true in record { value = both.0; row_after = both.1 }

pub bounds-row-at-then-v-lt65536 : goal.bounds-row-at-then-v-lt65536
bounds-row-at-then-v-lt65536 c = omega (arith, size_3 c.args.x _ refl c.if-v-lt2048.false c.if-v-lt65536.true)

pub bounds-row-at-then-v-lt65536-2 : goal.bounds-row-at-then-v-lt65536-2
bounds-row-at-then-v-lt65536-2 c = simp length-set (omega (arith, size_3 c.args.x _ refl c.if-v-lt2048.false c.if-v-lt65536.true))

pub bounds-row-at-then-v-lt65536-3 : goal.bounds-row-at-then-v-lt65536-3
bounds-row-at-then-v-lt65536-3 c = simp length-set (omega (arith, size_3 c.args.x _ refl c.if-v-lt2048.false c.if-v-lt65536.true))

pub returns-then-v-lt65536 : goal.returns-then-v-lt65536
returns-then-v-lt65536 c =
    let both = scalar_3 c.args.x _ refl c.args.row.now c.args.at c.requires.1
    c.if-v-lt2048.false c.if-v-lt65536.true in record { value = both.0; row_after = both.1 }

pub bounds-row-at-2 : goal.bounds-row-at-2
bounds-row-at-2 c = omega (arith, size_4 c.args.x _ refl c.if-v-lt65536.false)

pub bounds-row-at-3 : goal.bounds-row-at-3
bounds-row-at-3 c = simp length-set (omega (arith, size_4 c.args.x _ refl c.if-v-lt65536.false))

pub bounds-row-at-4 : goal.bounds-row-at-4
bounds-row-at-4 c = simp length-set (omega (arith, size_4 c.args.x _ refl c.if-v-lt65536.false))

pub bounds-row-at-5 : goal.bounds-row-at-5
bounds-row-at-5 c = simp length-set (omega (arith, size_4 c.args.x _ refl c.if-v-lt65536.false))

pub returns : goal.returns
returns c = let both = scalar_4 c.args.x _ refl c.args.row.now c.args.at c.requires.1 c.if-v-lt65536.false in record { value = both.0; row_after = both.1 }
