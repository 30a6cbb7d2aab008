-- A journal with a payload is a store; one without, and what is no journal, is none.
use Rattle.std.proofs.Common.{subst}
use Rattle.fm_journal.specs.Causes.{OpenCause}
use Rattle.fm_init.proofs.Stores.{there_where_some, none_where_none}
use Rattle.fm_init.proofs.making.has_store.Goals as goal

pub returns-in-Ok-clause-there : goal.returns-in-Ok-clause-there
returns-in-Ok-clause-there g c = λ some bytes told.
    there_where_some g.D.Disk c.in-Ok.journal (g.D.Disk.seen c.args.disk) c.in-Ok.ensures.still.same
    c.in-Ok.ensures.found c.count-there.result c.count-there.ensures.value some bytes told

pub returns-in-Ok-clause-none : goal.returns-in-Ok-clause-none
returns-in-Ok-clause-none g c = λ none bytes told.
    none_where_none g.D.Disk c.in-Ok.journal (g.D.Disk.seen c.args.disk) c.in-Ok.ensures.still.same
    c.in-Ok.ensures.found c.count-there.result c.count-there.ensures.value none bytes told

pub returns-in-Damaged-clause-none : goal.returns-in-Damaged-clause-none
returns-in-Damaged-clause-none g c = λ same bytes told first payloads is.
    absurd (((subst (OpenCause (g.D.Disk.seen c.args.disk) _ _) c.in-Damaged.is
    c.in-Err.ensures.cause).1 bytes told).none first payloads is)
