use Rattle.std.proofs.lemmas.Result.{err_from_is_err_and}
use Rattle.fm_answers.specs.StreamsAt.{sink_at}
use Rattle.fm_answers.specs.declared.stops.Stop.TheVariants.{Read}
use Rattle.fm_answers.proofs.Replays.{still_accounts, replay_nothing, replay_until, replay_all}
use Rattle.fm_answers.proofs.Replays.{replay_cut}
use Rattle.fm_answers.proofs.replaying.replay.Goals as goal

pub returns-in_err-tally-clause-until : goal.returns-in_err-tally-clause-until
returns-in_err-tally-clause-until g c =
    let p = err_from_is_err_and c.from_residual.result c.from_residual.ensures.1 in
    rw (p.1, p.2, c.in_err-tally.ensures.err)
    (replay_nothing (g.K.Sink.put_bytes c.args.out.now) (g.S.Source.left c.args.input.now) _)

pub returns-in_err-run-clause-until : goal.returns-in_err-run-clause-until
returns-in_err-run-clause-until g c =
    let p = err_from_is_err_and c.from_residual-in_err-run.result
    c.from_residual-in_err-run.ensures.1 in
    rw (p.1, p.2) (replay_until c.in_ok-tally.tally c.run.new.taker _ _ _ _
    c.in_ok-tally.ensures.fresh c.in_err-run.ensures.until)

pub returns-clause-all : goal.returns-clause-all
returns-clause-all g c =
    replay_all c.in_ok-tally.tally c.run.new.taker (g.K.Sink.put_bytes c.args.out.now)
    (g.K.Sink.put_bytes c.run.new.out)
    (g.K.Sink.put_bytes c.put_summary.new.out) _ _ c.put_summary.result
    c.in_ok-tally.ensures.fresh c.in_ok-run.ensures.all c.put_summary.ensures.ok

pub returns-clause-until : goal.returns-clause-until
returns-clause-until g c =
    replay_cut c.in_ok-tally.tally c.run.new.taker (g.K.Sink.put_bytes c.args.out.now)
    (sink_at g.K.Sink c.run.new.out) (sink_at g.K.Sink c.put_summary.new.out) _ _
    c.put_summary.result
    c.in_ok-tally.ensures.fresh c.in_ok-run.ensures.all c.put_summary.ensures.err

pub returns-clause-counts_input : goal.returns-clause-counts_input
returns-clause-counts_input g c =
    still_accounts Read _ _ c.put_summary.result c.in_ok-run.ensures.counts_input
    c.put_summary.ensures.no_read
