use Rattle.std.proofs.lemmas.Bool.{and_parts}
use Rattle.dx_serd.specs.Rates.{is_rising}
use Rattle.dx_serd.proofs.Decides.{stays_kept}
use Rattle.dx_serd.proofs.laws.notes_are_kept.Goals as goal

pub returns : goal.returns
returns c = λ n t kept m some are past.
    stays_kept n t kept m some (and_parts (is_rising kept) _ are).0 past
