-- A value more, which the payload spells.
use Rattle.std.proofs.Common.{Option, IfSome, subst}
use Rattle.fm_payloads.proofs.Spelling.{each_push}
use Rattle.fm_payloads.proofs.values.ValuesPayloadReader.take.Goals as goal

pub returns-in_ok-push-in-Some-clause-taken : goal.returns-in_ok-push-in-Some-clause-taken
returns-in_ok-push-in-Some-clause-taken g c = λ taken payloads all.
    rw c.in_ok-push-in-Some.ensures.items
    (each_push g.C.PayloadCodec.spells payloads c.args.self.now.values.items c.args.payload.now
    c.in-Some.value all
    (subst (λ (o : Option _). IfSome o (λ x. g.C.PayloadCodec.spells c.args.payload.now x))
    c.in-Some.is c.in_ok-value.ensures.found))
