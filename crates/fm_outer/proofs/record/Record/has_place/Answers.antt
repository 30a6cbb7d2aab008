use Rattle.std.proofs.Common.{◌+◌, arith}
use Rattle.fm_outer.proofs.Tapes.{places-ops_of, places_fit}
use Rattle.fm_outer.proofs.record.Record.has_place.Goals as goal

pub returns : goal.returns
returns c =
    let tape = c.self.inside in
    let counts = places-ops_of tape.calls.items tape.bytes.items c.self.invariant.whole in
    rw (← c.self.view_is)
    (places_fit c.args.count tape.size (c.len.result + c.len-2.result) _ (omega (arith, counts))
    (omega arith))
