use native.Mathlib.Omega.{arith}
use mathlib.Core.Path.{refl}
use Rattle.newmm_word_step.specs.inner.Walks.{given_by}
use Rattle.newmm_word_step.proofs.Steps.{flags_size}
use Rattle.newmm_skip.proofs.Skipping.{skip_first, skip_all, on_plain, here_non_thai, inner_first, inner_end, inner_none, inner_part, inner_short, inner_word, asks}
use Rattle.newmm_skip.proofs.skip_end.Goals as goal

pub places-init : goal.places-init
places-init c = skip_first (given_by c.args.text.now c.args.pool.now) _ c.requires.inside

pub bounds-flags-p : goal.bounds-flags-p
bounds-flags-p c =
    let s = flags_size c.args.text.now c.requires.flags_are in
    omega (arith, s, c.if-text-p.false)

pub places-preserved-then-flags-p-eq0 : goal.places-preserved-then-flags-p-eq0
places-preserved-then-flags-p-eq0 c = on_plain c.args.pool.now c.places.invariant c.if-text-p.false _ c.requires.flags_are c.if-flags-p-eq0.true

pub lengths-init : goal.lengths-init
lengths-init c = (
  inner_first c.args.pool.now c.places.invariant c.if-text-p.false _ c.requires.flags_are c.if-flags-p-eq0.false
      c.starts_non_thai.ensures c.if-starts_non_thai.false c.requires.root_is c.word_limit-limit.ensures,
  refl,
)

pub places-preserved-then-limit-e : goal.places-preserved-then-limit-e
places-preserved-then-limit-e c = inner_end c.lengths.invariant.0 c.if-limit-e.true

pub word_step-requires : goal.word_step-requires
word_step-requires c = asks c.lengths.invariant.0 _ c.requires.flags_are c.if-limit-e.false

pub places-preserved : goal.places-preserved
places-preserved c = inner_none c.lengths.invariant.0 _ c.word_step.ensures c.in-Nothing.is

pub lengths-preserved-in-Part : goal.lengths-preserved-in-Part
lengths-preserved-in-Part c = (
  inner_part c.lengths.invariant.0 _ c.word_step.ensures c.if-limit-e.false
      c.in-Part.is,
  c.lengths.invariant.1,
)

pub lengths-preserved : goal.lengths-preserved
lengths-preserved c = (
  inner_short c.lengths.invariant.0 _ c.word_step.ensures c.if-limit-e.false c.in-Word.is
      c.is_short.ensures c.if-not-is_short.false,
  c.lengths.invariant.1,
)

pub returns-then-text-p : goal.returns-then-text-p
returns-then-text-p c = skip_all c.places.invariant c.if-text-p.true

pub returns-then-starts_non_thai : goal.returns-then-starts_non_thai
returns-then-starts_non_thai c =
    here_non_thai c.args.pool.now c.places.invariant c.if-text-p.false _ c.requires.flags_are c.if-flags-p-eq0.false
    c.starts_non_thai.ensures c.if-starts_non_thai.true

pub returns-then-not-is_short : goal.returns-then-not-is_short
returns-then-not-is_short c =
    inner_word c.lengths.invariant.0 _ c.word_step.ensures c.if-limit-e.false c.in-Word.is
    c.is_short.ensures c.if-not-is_short.true
