use Rattle.dx_serd.proofs.Decides.{alike}
use Rattle.dx_serd.proofs.laws.last_decide.Goals as goal

pub returns : goal.returns
returns c = λ n t since ms some h. record { fires_alike = alike n t ms since some h }
