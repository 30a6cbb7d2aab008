-- A number out of range or a payload that reaches past the end is no slot, and else it is one.
use Rattle.std.proofs.Common.{arith}
use Rattle.fm_slots.proofs.Heads.{stands_bad, stands_open}
use Rattle.fm_slots.proofs.standing.standing_at.Goals as goal

pub returns-then-sequence-eq0 : goal.returns-then-sequence-eq0
returns-then-sequence-eq0 c = λ bytes long gate numbered counted.
    stands_bad bytes c.args.sequence c.args.count gate numbered counted
    (omega (arith, c.ranges.sequence.fits)) (omega (arith, c.ranges.count.fits))
    (omega (arith, long, c.requires))
    (λ positive fits short inside. omega (arith, positive, c.if-sequence-eq0.true))

pub returns-then-sequence-ge-END_OF_SEQUENCES : goal.returns-then-sequence-ge-END_OF_SEQUENCES
returns-then-sequence-ge-END_OF_SEQUENCES c = λ bytes long gate numbered counted.
    stands_bad bytes c.args.sequence c.args.count gate numbered counted
    (omega (arith, c.ranges.sequence.fits)) (omega (arith, c.ranges.count.fits))
    (omega (arith, long, c.requires))
    (λ positive fits short inside. omega (arith, fits, c.if-sequence-ge-END_OF_SEQUENCES.true))

pub returns-then-count-gt-MAX_LENGTH : goal.returns-then-count-gt-MAX_LENGTH
returns-then-count-gt-MAX_LENGTH c = λ bytes long gate numbered counted.
    stands_bad bytes c.args.sequence c.args.count gate numbered counted
    (omega (arith, c.ranges.sequence.fits)) (omega (arith, c.ranges.count.fits))
    (omega (arith, long, c.requires))
    (λ positive fits short inside. omega (arith, short, c.if-count-gt-MAX_LENGTH.true))

pub returns-then-size-count : goal.returns-then-size-count
returns-then-size-count c = λ bytes long gate numbered counted.
    stands_bad bytes c.args.sequence c.args.count gate numbered counted
    (omega (arith, c.ranges.sequence.fits)) (omega (arith, c.ranges.count.fits))
    (omega (arith, long, c.requires))
    (λ positive fits short inside.
    omega (arith, long, c.requires, inside, c.if-size-count.true))

pub returns : goal.returns
returns c = λ bytes long gate numbered counted.
    stands_open bytes c.args.sequence c.args.count gate numbered counted
    (omega (arith, c.if-sequence-eq0.false))
    (omega (arith, c.if-sequence-ge-END_OF_SEQUENCES.false))
    (omega (arith, c.if-count-gt-MAX_LENGTH.false))
    (omega (arith, long, c.requires, c.if-size-count.false))
