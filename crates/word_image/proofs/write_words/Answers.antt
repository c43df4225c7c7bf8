use Rattle.std.proofs.Common.{ℕ, sym, ◌∙◌}
use Rattle.std.proofs.Math.ListN.{length-replicate}
use Rattle.word_image.proofs.write_words.Goals as goal

pub slice_bounds-write_image-end : goal.slice_bounds-write_image-end
slice_bounds-write_image-end g c = sym (length-replicate {0} {A = ℕ} 524288 0)

pub slice_bounds-front-end : goal.slice_bounds-front-end
slice_bounds-front-end g c = sym (c.write_image.auto.out ∙ length-replicate {0} {A = ℕ} 524288 0)
