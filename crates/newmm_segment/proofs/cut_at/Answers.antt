use native.Mathlib.Omega.{arith}
use Prim.Native.Nat.{ℕ}
use mathlib.Core.Path.{refl, sym, ◌∙◌, ap}
use mathlib.Core.List.{List, ◌++◌}
use lib.ListN.{drop, length-take, replicate}
use lib.Seq.{length-take-le}
use Rattle.trie_pool.specs.Words.{holds}
use Rattle.newmm_answers.proofs.Plain.{plain_right}
use Rattle.newmm_segment.proofs.Samples.{lent, written, at_space, sample_rising, sample_fits, no_space, row_back}
use Rattle.newmm_segment.proofs.cut_at.Goals as goal

pub one_cut-r-requires : goal.one_cut-r-requires
one_cut-r-requires c = lent c.requires.0 _ (omega (arith, length-take 40 (drop 100 c.args.rest.now)))

pub slice_bounds-longest_start-end : goal.slice_bounds-longest_start-end
slice_bounds-longest_start-end c =
    let w = written c.args.pool.now c.one_cut-r.ensures in
    sample_fits c.requires.0 c.requires.1 c.args.space_cut _ w (plain_right (holds c.args.pool.now))

pub longest_start-at-requires : goal.longest_start-at-requires
longest_start-at-requires c =
    let w = written c.args.pool.now c.one_cut-r.ensures in
    sample_rising c.requires.0 c.requires.1 c.args.space_cut _ w (plain_right (holds c.args.pool.now))

pub returns-in-Some : goal.returns-in-Some
returns-in-Some c =
    record {
      sampled = at_space c.requires.0 c.requires.1 c.args.space_cut _
          (sym c.rfind_space_char_index.ensures ∙ c.in-Some.is);
      row_unchanged = refl;
    }

pub returns-in-None : goal.returns-in-None
returns-in-None c =
    let w = written c.args.pool.now c.one_cut-r.ensures in
    let right = plain_right (holds c.args.pool.now) in
    let n = length-take-le c.one_cut-r.result.ends c.one_cut-r.new.row (sample_fits c.requires.0 c.requires.1 c.args.space_cut _ w right) in
    record {
      sampled = no_space c.requires.0 c.requires.1 c.args.space_cut _ w right _
          (sym c.rfind_space_char_index.ensures ∙ c.in-None.is) c.longest_start-at.ensures.value;
      row_unchanged = row_back c.requires.0 c.requires.1 c.args.space_cut _ w right _
          (ap (λ (l : List ℕ). l ++ drop c.one_cut-r.result.ends c.one_cut-r.new.row) (c.longest_start-at.ensures.cleared ∙ ap (λ (k : ℕ). replicate {A = ℕ} k 0) n));
    }
