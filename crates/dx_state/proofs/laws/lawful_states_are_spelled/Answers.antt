use Rattle.dx_state.proofs.Facts.{formed_is, state_is}
use Rattle.dx_state.proofs.Spelled.{state_fits}
use Rattle.dx_state.proofs.laws.lawful_states_are_spelled.Goals as goal

pub returns : goal.returns
returns c = λ own x s formed conf state short.
    state_fits own x s (formed_is x formed) conf (state_is own x s state) short
