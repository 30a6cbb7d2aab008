-- The bytes are a header and a closed gate.
use Rattle.std.proofs.Common.{refl}
use Rattle.fm_journal.proofs.Opened.{sound_none, none_told}
use Rattle.fm_journal.proofs.journal.Journal.create.Goals as goal

pub invariant_of-result : goal.invariant_of-result
invariant_of-result g c =
    sound_none g.D.Disk _ refl c.in-Ok.ensures.settled (g.D.Disk.seen c.args.disk)
    c.in-Ok.ensures.made c.requires refl refl

pub returns-in-Ok-clause-list : goal.returns-in-Ok-clause-list
returns-in-Ok-clause-list g c = λ bytes told.
    none_told g.D.Disk _ refl c.in-Ok.ensures.settled (g.D.Disk.seen c.args.disk) bytes
    c.in-Ok.ensures.made told c.requires refl refl
