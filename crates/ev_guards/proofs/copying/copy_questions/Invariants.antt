use Rattle.std.proofs.Common.{◌≡◌, map, take}
use Rattle.ev_guards.specs.Watched.{view_question}
use Rattle.ev_guards.proofs.copying.copy_questions.Given as goal

abbrev pub invariant-loop-question : goal.invariant-loop-question
invariant-loop-question l =
    map view_question l.copies.items ≡ map view_question (take l.question-index l.questions)
