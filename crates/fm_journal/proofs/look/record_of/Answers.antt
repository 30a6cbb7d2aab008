-- What the tests of a length tell of the record.
use Rattle.std.proofs.Common.{◌+◌, refl, arith}
use Rattle.fm_journal.proofs.Looking.{shows_record, shows_bad}
use Rattle.fm_journal.proofs.look.record_of.Goals as goal

pub returns-then-count-gt-MAX_LENGTH-clause-shows :
    goal.returns-then-count-gt-MAX_LENGTH-clause-shows
returns-then-count-gt-MAX_LENGTH-clause-shows c =
    λ bytes long gate size. shows_bad bytes c.args.at c.args.count gate size (omega arith)
    (λ short inside small. omega arith)

pub returns-then-next-size-clause-shows : goal.returns-then-next-size-clause-shows
returns-then-next-size-clause-shows c =
    λ bytes long gate size. shows_bad bytes c.args.at c.args.count gate size (omega arith)
    (λ short inside small. omega arith)

pub returns-then-next-ge-MAX_BYTES-clause-shows : goal.returns-then-next-ge-MAX_BYTES-clause-shows
returns-then-next-ge-MAX_BYTES-clause-shows c =
    λ bytes long gate size. shows_bad bytes c.args.at c.args.count gate size (omega arith)
    (λ short inside small. omega arith)

pub returns-clause-shows : goal.returns-clause-shows
returns-clause-shows c =
    λ bytes long gate size. shows_record bytes c.args.at c.args.count gate size
    (c.args.at + 5 + c.args.count) refl (omega arith) (omega arith) (omega arith)
