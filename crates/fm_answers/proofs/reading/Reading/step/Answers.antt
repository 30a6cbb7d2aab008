use Rattle.std.proofs.lemmas.Result.{err_from_is_err_and}
use Rattle.fm_answers.proofs.Feeding.{step_moved, step_halted}
use Rattle.fm_answers.proofs.reading.Reading.step.Goals as goal

pub returns-in_err-answer_ended-clause-halted : goal.returns-in_err-answer_ended-clause-halted
returns-in_err-answer_ended-clause-halted g c =
    let p = err_from_is_err_and c.from_residual.result c.from_residual.ensures.1 in
    rw (p.1, p.2) (step_halted _ _ _ _ _ c.take-taken.new.self.pending _ c.take-taken.new.self.line
    c.take-taken.result.0 c.take-taken.result.1 _ _
    (record {
      count = c.take-taken.ensures.count;
      none = c.take-taken.ensures.none;
      afresh =
          c.take-taken.ensures.afresh;
      lines = c.take-taken.ensures.lines;
    })
    c.in_err-answer_ended.ensures.err)

pub returns-clause-moved : goal.returns-clause-moved
returns-clause-moved g c = rw c.answer_ended.ensures.same
    (step_moved _ _ _ _ _ c.take-taken.new.self.pending _ c.take-taken.new.self.line
    c.take-taken.result.0 c.take-taken.result.1 _ _
    (record {
      count = c.take-taken.ensures.count;
      none = c.take-taken.ensures.none;
      afresh =
          c.take-taken.ensures.afresh;
      lines = c.take-taken.ensures.lines;
    })
    c.in_ok-answer_ended.ensures.counted c.in_ok-answer_ended.ensures.put
    c.in_ok-answer_ended.ensures.took)
