use Rattle.std.specs.Io.KnownBytes.{Appends}
use Rattle.fm_answers.proofs.AnswerLists.{entries_none, entries_one, answers_none, answers_one}
use Rattle.fm_answers.proofs.Sinks.{appends_none}
use Rattle.fm_answers.proofs.Stopping.{line_stops_in}
use Rattle.fm_answers.proofs.reading.Reading.answer_ended.Goals as goal

pub returns-in-None-clause-put : goal.returns-in-None-clause-put
returns-in-None-clause-put g c = rw (c.in-None.is, answers_none) (appends_none _)

pub returns-in-None-clause-took : goal.returns-in-None-clause-took
returns-in-None-clause-took g c = rw (c.in-None.is, entries_none) (g.met.T.Taker.stays _)

pub returns-in-Some-clause-put : goal.returns-in-Some-clause-put
returns-in-Some-clause-put g c =
    rw (c.in-Some.is, answers_one, ← c.line.ensures) c.answer_line.ensures.put

pub returns-in-Some-clause-took : goal.returns-in-Some-clause-took
returns-in-Some-clause-took g c =
    rw (c.in-Some.is, entries_one, ← c.line.ensures) c.answer_line.ensures.took

pub returns-in-Some-clause-err : goal.returns-in-Some-clause-err
returns-in-Some-clause-err g c =
    rw (c.in-Some.is, ← c.line.ensures)
    (line_stops_in (g.T.Taker.went c.args.taker.now c.answer_line.new.taker)
    (Appends (g.K.Sink.put_bytes c.args.out.now) (g.K.Sink.put_bytes c.answer_line.new.out)) _ _ _ _
    _ c.answer_line.ensures.err)
