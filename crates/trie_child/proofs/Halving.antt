-- Where a child stands, or would stand, by halving the children that are left. Assumes nothing.
use Prim.Native.Nat.{ℕ, ◌+◌, ◌-◌, ◌*◌, ◌/◌, ◌≤◌, ◌<◌}
use native.Mathlib.Omega.{arith}
use mathlib.Core.Path.{◌≡◌}
use mathlib.Core.List.{List}
use lib.ListN.{length, get_or}
use Rattle.trie_pool.specs.Cells.{first_at, count_at, scalar_at}
use Rattle.trie_pool.proofs.Shape.{within, climb}
use Rattle.trie_child.specs.inner.Search.{Between, Sought}

module _ (p : List ℕ) (b x low high : ℕ) (v : Between p b x low high) where
  -- both are nodes of the pool
  pub between_fits : 8 * high + 4 ≤ length p
  between_fits = let g = v.readable in omega (arith, within p g.nodes g.shaped b g.inside, g.fits, v.upto)

  module _ (middle : ℕ) (more : low + 1 < high) (is : middle ≡ low + (high - low) / 2) where
    pub to_upper : get_or p (8 * middle) 0 < x → Between p b x middle high
    unfolding scalar_at
    to_upper l =
        record { readable = v.readable; from = omega (arith, v.from); order = omega arith; upto = v.upto; lower = l; higher = v.higher }

    pub to_lower : x ≤ get_or p (8 * middle) 0 → Between p b x low middle
    unfolding scalar_at
    to_lower l =
        record { readable = v.readable; from = v.from; order = omega arith; upto = omega (arith, v.upto); lower = v.lower; higher = l }

  -- the two stand side by side
  pub found : high ≤ low + 1 → Sought p b x high
  found h =
      record {
        from = omega (arith, v.from, v.order);
        upto = omega (arith, v.upto);
        below = λ k a c.
            let g = v.readable in
            omega (arith, climb p (first_at p b) (first_at p b + count_at p b) (g.rising b g.inside) k low a (omega arith) (omega (arith, v.order, v.upto)), v.lower);
        stop = λ y. v.higher;
      }
