use Rattle.std.proofs.Common.{◌+◌, ◌∙◌, arith, refl}
use Rattle.std.proofs.lemmas.Result.{err_from_is_err_and}
use Rattle.fm_answers.proofs.OnPieces.{on_nothing, on_moved, on_stopped}
use Rattle.fm_answers.proofs.reading.Reading.read_all.Goals as goal

pub input-init : goal.input-init
input-init g c = record {
  within = omega arith;
  moved = on_nothing g.T.Taker.went g.met.T.Taker.stays c.args.taker.now _
      (g.K.Sink.put_bytes c.args.out.now) (g.S.Source.left c.args.input.now) _ _ _;
  few = omega arith;
  ready = c.requires.ready;
  same_taker = refl;
  quiet_out = refl;
  quiet_input = refl;
}

pub returns-in_err-count-clause-stopped : goal.returns-in_err-count-clause-stopped
returns-in_err-count-clause-stopped g c =
    let p = err_from_is_err_and c.from_residual.result c.from_residual.ensures.1 in
    rw (p.1, p.2) (on_stopped g.T.Taker.went g.T.Taker.next g.met.T.Taker.goes_on
    g.met.T.Taker.numbers
    c.args.taker.now c.input.taker c.read_on.new.taker (g.K.Sink.put_bytes c.args.out.now)
    (g.K.Sink.put_bytes c.input.out) (g.K.Sink.put_bytes c.read_on.new.out)
    (g.S.Source.left c.args.input.now) (g.S.Source.left c.input.input)
    (g.S.Source.left c.read_on.new.input) g.T.Taker.TELLS_NUMBERS
    c.args.self.now.splitter.pending c.input.self.splitter.pending c.args.self.now.lines
    c.input.self.lines c.input.total _
    c.input.invariant.moved c.in_err-count.ensures.stopped)

pub returns-then-count-eq0-clause-moved : goal.returns-then-count-eq0-clause-moved
returns-then-count-eq0-clause-moved g c = record {
  total = c.input.total + c.in_ok-count.count;
  within = c.in_ok-count.ensures.within.1;
  moved_on = on_moved g.T.Taker.went g.T.Taker.next g.met.T.Taker.goes_on g.met.T.Taker.numbers
      c.args.taker.now c.input.taker c.read_on.new.taker (g.K.Sink.put_bytes c.args.out.now)
      (g.K.Sink.put_bytes c.input.out) (g.K.Sink.put_bytes c.read_on.new.out)
      (g.S.Source.left c.args.input.now) (g.S.Source.left c.input.input)
      (g.S.Source.left c.read_on.new.input) g.T.Taker.TELLS_NUMBERS
      c.args.self.now.splitter.pending c.input.self.splitter.pending
      c.read_on.new.self.splitter.pending c.args.self.now.lines c.input.self.lines
      c.read_on.new.self.lines c.input.total c.in_ok-count.count
      c.input.invariant.moved c.in_ok-count.ensures.moved;
}

pub input-preserved : goal.input-preserved
input-preserved g c = record {
  within = c.in_ok-count.ensures.within.1;
  moved = on_moved g.T.Taker.went g.T.Taker.next g.met.T.Taker.goes_on g.met.T.Taker.numbers
      c.args.taker.now c.input.taker c.read_on.new.taker (g.K.Sink.put_bytes c.args.out.now)
      (g.K.Sink.put_bytes c.input.out) (g.K.Sink.put_bytes c.read_on.new.out)
      (g.S.Source.left c.args.input.now) (g.S.Source.left c.input.input)
      (g.S.Source.left c.read_on.new.input) g.T.Taker.TELLS_NUMBERS
      c.args.self.now.splitter.pending c.input.self.splitter.pending
      c.read_on.new.self.splitter.pending c.args.self.now.lines c.input.self.lines
      c.read_on.new.self.lines c.input.total c.in_ok-count.count
      c.input.invariant.moved c.in_ok-count.ensures.moved;
  few = c.in_ok-count.ensures.within.0;
  ready = c.in_ok-count.ensures.ready;
  same_taker = c.read_on.ensures.same_taker ∙ c.input.invariant.same_taker;
  quiet_out = c.in_ok-count.ensures.counts_out ∙ c.input.invariant.quiet_out;
  quiet_input = c.in_ok-count.ensures.counts_input ∙ c.input.invariant.quiet_input;
}
