use native.Mathlib.Omega.{arith}
use Rattle.image_record.proofs.Records.{short, small, cut, last_size, last_is, no_kind, word_small, word_is}
use Rattle.image_record.proofs.record_at.Goals.{then-size-lt2-via-then-size-lt2, then-size-lt2-via-else-size-lt2+then-left-size}
use Rattle.image_record.proofs.record_at.Goals as goal

pub returns-then-left-lt4 : goal.returns-then-left-lt4
returns-then-left-lt4 c = short c.args.image.now c.args.at c.requires c.if-left-lt4.true

pub returns-then-size-lt2 : goal.returns-then-size-lt2
returns-then-size-lt2 c =
    elim c.then-size-lt2.branch [
      | then-size-lt2-via-then-size-lt2 w ↦ small c.args.image.now c.args.at c.requires c.if-left-lt4.false _ c.four-size.ensures.value w.if-size-lt2.true
      | then-size-lt2-via-else-size-lt2+then-left-size w ↦ cut c.args.image.now c.args.at c.requires c.if-left-lt4.false _ c.four-size.ensures.value w.if-size-lt2.false w.if-left-size.true
    ]

pub returns-then-size-eq6 : goal.returns-then-size-eq6
returns-then-size-eq6 c =
    last_is c.args.image.now c.args.at c.requires c.if-left-lt4.false _ c.four-size.ensures.value c.if-size-lt2.false
    c.if-left-size.false _ c.two.ensures.value c.in-0.is c.if-size-eq6.true _ c.four.ensures.value

pub returns-else-size-eq6 : goal.returns-else-size-eq6
returns-else-size-eq6 c =
    last_size c.args.image.now c.args.at c.requires c.if-left-lt4.false _ c.four-size.ensures.value c.if-size-lt2.false
    c.if-left-size.false _ c.two.ensures.value c.in-0.is c.if-size-eq6.false

pub returns-then-size-ge5 : goal.returns-then-size-ge5
returns-then-size-ge5 c =
    word_is c.args.image.now c.args.at c.requires c.if-left-lt4.false _ c.four-size.ensures.value c.if-size-lt2.false
    c.if-left-size.false _ c.two.ensures.value c.in-1.is c.if-size-ge5.true _ c.two-then-size-ge5.ensures.value
    c.two-then-size-ge5.ensures.upper_bound

pub returns-else-size-ge5 : goal.returns-else-size-ge5
returns-else-size-ge5 c =
    word_small c.args.image.now c.args.at c.requires c.if-left-lt4.false _ c.four-size.ensures.value c.if-size-lt2.false
    c.if-left-size.false _ c.two.ensures.value c.in-1.is c.if-size-ge5.false

pub returns-in_default : goal.returns-in_default
returns-in_default c =
    no_kind c.args.image.now c.args.at c.requires c.if-left-lt4.false _ c.four-size.ensures.value c.if-size-lt2.false
    c.if-left-size.false _ c.two.ensures.value (λ z. omega (arith, z)) (λ o. omega (arith, o))
