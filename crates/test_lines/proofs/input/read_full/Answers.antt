-- What a turn reads stands behind what was read before. Assumes nothing.
use Rattle.std.proofs.Common.{ℕ, ◌≡◌, ◌≤◌, ◌+◌, ◌-◌, List, ◌++◌, length, take, sym, ap, ◌∙◌, subst, arith}
use Rattle.std.proofs.lemmas.List.{take-append-le, length-take-le, length-append}
use Rattle.std.proofs.Math.Seq.{take-append-add}
use Rattle.std.proofs.KnownBytes.{Consumes-trans}
use Rattle.std.specs.Io.KnownBytes.{Consumes}
use borrow.Rule.Slice.PartMut.{put_mid, post_of}
use Rattle.test_lines.proofs.input.read_full.Goals as goal

-- The front of a row whose part from `a` on was written over by `ys`.
front_grows : (a k n : ℕ) (xs ys : List ℕ) → a ≤ length xs → n ≤ length ys → take (a + n) (put_mid a k xs ys) ≡ take a xs ++ take n ys
front_grows a k n xs ys low fits =
    ap (λ m. take (m + n) (put_mid a k xs ys)) (sym (length-take-le a xs low))
    ∙ take-append-add (take a xs) (ys ++ post_of a k xs) n
    ∙ ap (λ l. take a xs ++ l) (take-append-le n ys (post_of a k xs) fits)

-- The row is as long as the front at least.
front_fits : (a k n : ℕ) (xs ys : List ℕ) → a ≤ length xs → n ≤ length ys → a + n ≤ length (put_mid a k xs ys)
front_fits a k n xs ys low fits =
    omega (arith, length-append (take a xs) (ys ++ post_of a k xs), length-append ys (post_of a k xs), length-take-le a xs low, fits)

pub loop-done-preserved : goal.loop-done-preserved
loop-done-preserved g c =
    let a = c.loop-done.done in
    let n = c.in-Ok.n in
    let held = c.loop-done.invariant in
    let fits = c.in-Ok.ensures.bound.0 in (
      front_fits a (length c.loop-done.buffer - a) n c.loop-done.buffer c.read.new.buf held.0 fits,
      subst (Consumes (g.R.Read.remaining c.args.input.now) (g.R.Read.remaining c.read.new.self))
          (sym (front_grows a (length c.loop-done.buffer - a) n c.loop-done.buffer c.read.new.buf held.0 fits))
          (Consumes-trans _ _ _ _ _ held.1 c.in-Ok.ensures.bytes.0),
    )
