use Rattle.std.specs.Io.KnownBytes.{Appends, Consumes}
use Rattle.std.proofs.lemmas.Result.{err_from_is_err_and}
use Rattle.fm_answers.proofs.OnPieces.{ran_nothing, ran_stopped_of, ran_all_of, ran_last_of}
use Rattle.fm_answers.proofs.reading.run.Goals as goal

pub returns-in_err-reading-clause-until : goal.returns-in_err-reading-clause-until
returns-in_err-reading-clause-until g c =
    let p = err_from_is_err_and c.from_residual.result c.from_residual.ensures.1 in
    rw (p.1, p.2, c.in_err-reading.ensures.err)
    (ran_nothing g.T.Taker.went g.met.T.Taker.stays c.args.taker.now
    (g.T.Taker.next c.args.taker.now)
    (g.K.Sink.put_bytes c.args.out.now) (g.S.Source.left c.args.input.now) g.T.Taker.TELLS_NUMBERS
    _)

pub returns-in_err-read_all-clause-until : goal.returns-in_err-read_all-clause-until
returns-in_err-read_all-clause-until g c =
    let p = err_from_is_err_and c.from_residual-in_err-read_all.result
    c.from_residual-in_err-read_all.ensures.1 in
    rw (p.1, p.2)
    (ran_stopped_of (g.T.Taker.went c.args.taker.now c.read_all.new.taker)
    (Appends (g.K.Sink.put_bytes c.args.out.now) (g.K.Sink.put_bytes c.read_all.new.out))
    g.T.Taker.TELLS_NUMBERS (g.T.Taker.next c.args.taker.now)
    (Consumes (g.S.Source.left c.args.input.now) (g.S.Source.left c.read_all.new.input)) _ _
    c.in_ok-reading.reading.splitter.pending c.in_ok-reading.reading.lines
    c.in_ok-reading.ensures.pending c.in_ok-reading.ensures.lines c.in_err-read_all.ensures.stopped)

pub returns-clause-all : goal.returns-clause-all
returns-clause-all g c =
    ran_all_of g.T.Taker.went g.T.Taker.next g.met.T.Taker.goes_on g.met.T.Taker.numbers
    c.args.taker.now c.read_all.new.taker c.finish.new.taker
    (g.K.Sink.put_bytes c.args.out.now) (g.K.Sink.put_bytes c.read_all.new.out)
    (g.K.Sink.put_bytes c.finish.new.out)
    g.T.Taker.TELLS_NUMBERS
    (Consumes (g.S.Source.left c.args.input.now) (g.S.Source.left c.read_all.new.input)) _
    c.in_ok-reading.reading.splitter.pending c.read_all.new.self.splitter.pending
    c.in_ok-reading.reading.lines c.read_all.new.self.lines _
    c.in_ok-reading.ensures.pending c.in_ok-reading.ensures.lines
    c.in_ok-read_all.ensures.end c.in_ok-read_all.ensures.moved c.finish.ensures.all

pub returns-clause-until : goal.returns-clause-until
returns-clause-until g c =
    ran_last_of g.T.Taker.went g.T.Taker.next g.met.T.Taker.goes_on g.met.T.Taker.numbers
    c.args.taker.now c.read_all.new.taker c.finish.new.taker
    (g.K.Sink.put_bytes c.args.out.now) (g.K.Sink.put_bytes c.read_all.new.out)
    (g.K.Sink.put_bytes c.finish.new.out)
    g.T.Taker.TELLS_NUMBERS
    (Consumes (g.S.Source.left c.args.input.now) (g.S.Source.left c.read_all.new.input)) _
    c.in_ok-reading.reading.splitter.pending c.read_all.new.self.splitter.pending
    c.in_ok-reading.reading.lines c.read_all.new.self.lines _
    c.in_ok-reading.ensures.pending c.in_ok-reading.ensures.lines
    c.in_ok-read_all.ensures.end c.in_ok-read_all.ensures.moved c.finish.ensures.until
