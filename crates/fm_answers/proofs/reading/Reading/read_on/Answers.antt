use Rattle.std.proofs.Common.{rules}
use Rattle.std.proofs.lemmas.Result.{err_from_is_err_and}
use Rattle.fm_answers.proofs.OnPieces.{read_stopped, feed_stopped, full_stopped}
use Rattle.fm_answers.proofs.reading.Reading.read_on.Goals as goal

pub returns-in_err-count-clause-stopped : goal.returns-in_err-count-clause-stopped
returns-in_err-count-clause-stopped g c =
    let p = err_from_is_err_and c.from_residual.result c.from_residual.ensures.1 in
    rw (p.1, p.2) (read_stopped g.T.Taker.went g.met.T.Taker.stays c.args.taker.now _
    (g.K.Sink.put_bytes c.args.out.now) _ _ _ _ _ _
    c.requires.within c.in_err-count.ensures.err)

pub returns-in_err-feed-clause-stopped : goal.returns-in_err-feed-clause-stopped
returns-in_err-feed-clause-stopped g c =
    let p = err_from_is_err_and c.from_residual-in_err-feed.result
    c.from_residual-in_err-feed.ensures.1 in
    rw (p.1, p.2) (feed_stopped _ _ _ _ _ _ _ _ _ c.read_piece.new.buf c.within_limit-kept.result
    c.in_ok-count.count
    c.within_limit-kept.ensures c.in_ok-count.ensures.bound (search rules) c.requires.within
    c.in_ok-count.ensures.bytes
    c.in_err-feed.ensures.halted)

pub returns-then-kept-count-clause-stopped : goal.returns-then-kept-count-clause-stopped
returns-then-kept-count-clause-stopped g c =
    full_stopped _ _ _ _ _ _ c.feed.new.self.splitter.pending _ c.feed.new.self.lines _
    c.read_piece.new.buf c.within_limit-kept.result c.in_ok-count.count
    c.within_limit-kept.ensures c.if-kept-count.true c.in_ok-count.ensures.bound (search rules)
    c.requires.within
    c.in_ok-count.ensures.bytes c.in_ok-feed.ensures.moved
