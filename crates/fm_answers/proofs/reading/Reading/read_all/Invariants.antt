use Rattle.std.proofs.Common.{◌≡◌, ◌-◌, ◌≤◌, ◌^◌}
use Rattle.std.specs.Io.KnownBytes.{Appends, Consumes}
use Rattle.fm_answers.specs.Halting.{MovedOn}
use Rattle.fm_answers.proofs.reading.Reading.read_all.Given as goal

abbrev pub invariant-input : goal.invariant-input
invariant-input g l = record {
  within : l.total ≤ 2 ^ 40;
  moved : MovedOn (g.T.Taker.went l.initial.taker l.taker)
      (Appends (g.K.Sink.put_bytes l.initial.out) (g.K.Sink.put_bytes l.out))
      g.T.Taker.TELLS_NUMBERS (g.T.Taker.next l.initial.taker)
      (Consumes (g.S.Source.left l.initial.input) (g.S.Source.left l.input))
      l.initial.self.splitter.pending l.self.splitter.pending l.initial.self.lines l.self.lines
      l.total;
  few : l.self.lines ≤ l.total;
  ready : g.T.Taker.ready l.taker;
  same_taker : g.T.Taker.name l.taker ≡ g.T.Taker.name l.initial.taker;
  quiet_out : g.K.Sink.failures l.out ≡ g.K.Sink.failures l.initial.out;
  quiet_input : g.S.Source.failures l.input ≡ g.S.Source.failures l.initial.input;
}

abbrev pub decreases-input : goal.decreases-input
decreases-input g l = 2 ^ 40 - l.total
