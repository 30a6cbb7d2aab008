use Rattle.fm_answers.proofs.answering.answer_text.Goals as goal

pub take_entry-requires-clause-admitted : goal.take_entry-requires-clause-admitted
take_entry-requires-clause-admitted g c =
    record { spelled = c.in-Ok.ensures.spelled; no_reload = c.in-Ok.ensures.no_reload }
