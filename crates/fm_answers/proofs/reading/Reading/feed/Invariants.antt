use Rattle.std.proofs.Common.{◌≡◌, ◌+◌, ◌-◌, ◌≤◌, length, take}
use Rattle.std.specs.Io.KnownBytes.{Appends}
use Rattle.fm_answers.specs.Halting.{Moved}
use Rattle.fm_answers.proofs.reading.Reading.feed.Given as goal

abbrev pub invariant-piece : goal.invariant-piece
invariant-piece g l = record {
  inside : l.at ≤ length l.piece;
  moved : Moved (g.T.Taker.went l.initial.taker l.taker)
      (Appends (g.K.Sink.put_bytes l.initial.out) (g.K.Sink.put_bytes l.out))
      g.T.Taker.TELLS_NUMBERS (g.T.Taker.next l.initial.taker) (take l.at l.piece)
      l.initial.self.splitter.pending l.self.splitter.pending l.initial.self.lines l.self.lines;
  grew : l.self.lines ≤ l.initial.self.lines + l.at;
  ready : g.T.Taker.ready l.taker;
  same_taker : g.T.Taker.name l.taker ≡ g.T.Taker.name l.initial.taker;
  quiet : g.K.Sink.failures l.out ≡ g.K.Sink.failures l.initial.out;
}

abbrev pub decreases-piece : goal.decreases-piece
decreases-piece g l = length l.piece - l.at
