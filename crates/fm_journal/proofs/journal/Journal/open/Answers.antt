-- What the scan found is the journal.
use Rattle.std.proofs.Common.{refl, sym, ◌∙◌}
use Rattle.fm_journal.proofs.Opened.{sound_found, keeps_list, keeps_found}
use Rattle.fm_journal.proofs.journal.Journal.open.Goals as goal

pub invariant_of-result : goal.invariant_of-result
invariant_of-result g c =
    sound_found g.D.Disk _ refl c.in-Ok.ensures.settled c.in-Ok.ensures.bounded
    (λ bytes told. c.in-Ok.ensures.found bytes (sym c.in-Ok.ensures.still.same ∙ told))

pub returns-in-Ok-clause-list : goal.returns-in-Ok-clause-list
returns-in-Ok-clause-list g c = λ bytes first payloads told is.
    keeps_list g.D.Disk _ refl c.in-Ok.ensures.settled bytes first payloads
    (c.in-Ok.ensures.still.same ∙ told) (c.in-Ok.ensures.found bytes told) is

pub returns-in-Ok-clause-found : goal.returns-in-Ok-clause-found
returns-in-Ok-clause-found g c = λ bytes told.
    let found = c.in-Ok.ensures.found bytes told in (
      found.payloads,
      keeps_found g.D.Disk _ refl c.in-Ok.ensures.settled bytes
          (c.in-Ok.ensures.still.same ∙ told) found,
    )
