-- The values that all payloads spell, or the place of the first that spells none.
use Rattle.std.proofs.Common.{refl, subst}
use Rattle.fm_payloads.specs.Spelling.{SpellsUpTo}
use Rattle.fm_logs.proofs.SpelledOnce.{none_spelled}
use Rattle.fm_logs.proofs.reading.read_log.Goals as goal

pub returns-in-Some-clause-cause : goal.returns-in-Some-clause-cause
returns-in-Some-clause-cause g c = (
  refl,
  λ payloads xs keeps spelled.
      none_spelled g.C.PayloadCodec.spells payloads c.in-Ok.read.values.items xs c.in-Some.place
      (subst (λ o. SpellsUpTo g.C.PayloadCodec.spells payloads c.in-Ok.read.values.items o)
      c.in-Some.is (c.in-Ok.ensures.read payloads keeps)) spelled,
)
