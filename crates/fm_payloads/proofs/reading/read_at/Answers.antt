-- Where a payload stands a fault is the disk's.
use Rattle.std.proofs.lemmas.Result.{err_from_is_err_and}
use Rattle.fm_payloads.proofs.Kept.{payload_cause}
use Rattle.fm_payloads.proofs.reading.read_at.Goals as goal

pub returns-in_err-size-clause-cause : goal.returns-in_err-size-clause-cause
returns-in_err-size-clause-cause g c =
    let p = err_from_is_err_and c.from_residual.result c.from_residual.ensures.1 in
    rw (p.1, p.2) (payload_cause g.D.Disk c.args.journal.now c.args.place c.requires.before _
    c.read_piecewise.new.self c.requires.is_open c.in_err-size.ensures.cause)
