use Rattle.dx_state.proofs.StateReader.{diagnosis_spelled, diagnosis_whole}
use Rattle.dx_state.proofs.laws.states_are_read.Goals as goal

pub returns-clause-read : goal.returns-clause-read
returns-clause-read c = λ own bytes s known fits same.
    diagnosis_whole own known bytes s fits same

pub returns-clause-spelled : goal.returns-clause-spelled
returns-clause-spelled c = λ own bytes s known all h. diagnosis_spelled own known bytes s all h
