use Rattle.std.proofs.Common.{◌∙◌, arith, refl, rules}
use Rattle.std.proofs.lemmas.Result.{err_from_is_err_and}
use Rattle.fm_answers.proofs.Moving.{moved_nil}
use Rattle.fm_answers.proofs.Feeding.{feed_moved, feed_halted}
use Rattle.fm_answers.proofs.reading.Reading.feed.Goals as goal
use Rattle.fm_entry.proofs.Places.{drop_whole}

pub piece-init : goal.piece-init
piece-init g c = record {
  inside = omega arith;
  moved = moved_nil g.T.Taker.went g.met.T.Taker.stays c.args.taker.now
      (g.T.Taker.next c.args.taker.now) (g.K.Sink.put_bytes c.args.out.now)
      g.T.Taker.TELLS_NUMBERS c.args.self.now.splitter.pending c.args.self.now.lines;
  grew = omega arith;
  ready = c.requires.ready;
  same_taker = refl;
  quiet = refl;
}

pub returns-in_err-at-clause-halted : goal.returns-in_err-at-clause-halted
returns-in_err-at-clause-halted g c =
    let p = err_from_is_err_and c.from_residual.result c.from_residual.ensures.1 in
    rw (p.1, p.2) (feed_halted g.T.Taker.went g.T.Taker.next g.met.T.Taker.goes_on
    g.met.T.Taker.numbers
    c.args.taker.now c.piece.taker c.step.new.taker (g.K.Sink.put_bytes c.args.out.now)
    (g.K.Sink.put_bytes c.piece.out) (g.K.Sink.put_bytes c.step.new.out)
    g.T.Taker.TELLS_NUMBERS c.args.piece.now _ c.piece.at c.args.self.now.splitter.pending
    c.piece.self.splitter.pending c.args.self.now.lines c.piece.self.lines _
    (drop_whole c.piece.at c.args.piece.now) c.piece.invariant.moved c.in_err-at.ensures.halted)

pub piece-preserved : goal.piece-preserved
piece-preserved g c = record {
  inside = search rules;
  moved = feed_moved g.T.Taker.went g.T.Taker.next g.met.T.Taker.goes_on g.met.T.Taker.numbers
      c.args.taker.now c.piece.taker c.step.new.taker (g.K.Sink.put_bytes c.args.out.now)
      (g.K.Sink.put_bytes c.piece.out) (g.K.Sink.put_bytes c.step.new.out)
      g.T.Taker.TELLS_NUMBERS c.args.piece.now _ c.piece.at c.in_ok-at.field-0
      c.args.self.now.splitter.pending c.piece.self.splitter.pending
      c.step.new.self.splitter.pending c.args.self.now.lines c.piece.self.lines
      c.step.new.self.lines
      (drop_whole c.piece.at c.args.piece.now) c.piece.invariant.moved c.in_ok-at.ensures.moved;
  grew = omega (arith, c.in_ok-at.ensures.grew, c.piece.invariant.grew);
  ready = c.in_ok-at.ensures.ready;
  same_taker = c.step.ensures.same_taker ∙ c.piece.invariant.same_taker;
  quiet = c.in_ok-at.ensures.counts ∙ c.piece.invariant.quiet;
}
