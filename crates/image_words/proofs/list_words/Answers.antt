use Rattle.std.proofs.Common.{ℕ, sym, ◌∙◌}
use Rattle.std.proofs.Math.ListN.{length-replicate}
use Rattle.image_words.proofs.list_words.Goals as goal

pub slice_bounds-read_all-end : goal.slice_bounds-read_all-end
slice_bounds-read_all-end g c = sym (length-replicate {0} {A = ℕ} 524288 0)

pub slice_bounds-front-end : goal.slice_bounds-front-end
slice_bounds-front-end g c = sym (c.read_all.auto.image ∙ length-replicate {0} {A = ℕ} 524288 0)

pub slice_bounds-read_image-end : goal.slice_bounds-read_image-end
slice_bounds-read_image-end g c = sym (c.fresh.auto.pool ∙ length-replicate {0} {A = ℕ} 262144 0)
