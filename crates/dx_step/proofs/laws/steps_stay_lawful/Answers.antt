use Rattle.dx_step.proofs.Stepping.{stepped}
use Rattle.dx_step.proofs.Module.{spelled_words}
use Rattle.dx_step.proofs.laws.steps_stay_lawful.Goals as goal

pub returns-clause-lawful : goal.returns-clause-lawful
returns-clause-lawful c = λ r s n e h few spelled. (stepped r s n e h few spelled).lawful

pub returns-clause-words : goal.returns-clause-words
returns-clause-words c = spelled_words
