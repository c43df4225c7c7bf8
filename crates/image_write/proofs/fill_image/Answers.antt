use Prim.Native.Nat.{ℕ}
use native.Mathlib.Omega.{arith}
use lib.ListN.{replicate, length-replicate}
use Rattle.image_write.proofs.Writing.{root_writes, last_room, image_written}
use Rattle.image_write.proofs.fill_image.Goals as goal

pub write_below-end-requires : goal.write_below-end-requires
write_below-end-requires c =
    root_writes c.args.p.now c.requires.sound c.args.out.now c.requires.p_in_bounds (replicate {A = ℕ} 1020 0)
    (omega (arith, length-replicate {A = ℕ} 1020 0))

pub put_last-requires : goal.put_last-requires
put_last-requires c =
    last_room c.args.p.now c.requires.sound c.args.out.now c.requires.p_in_bounds _ _ _ _ c.write_below-end.ensures
    c.write_below-end.auto.out

pub returns : goal.returns
returns c =
    image_written c.args.p.now c.requires.sound c.args.out.now c.requires.p_in_bounds _ _ _ _
    c.write_below-end.ensures _ _ c.count_words-n.ensures c.put_last.ensures
