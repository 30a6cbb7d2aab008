use Rattle.std.proofs.Common.{◌≡◌, drop}
use Rattle.dx_serd.specs.Rates.{is_rising, is_rising_from}
use Rattle.dx_serd.proofs.engine.are_rising.Given as goal

abbrev pub invariant-loop-moment : goal.invariant-loop-moment
invariant-loop-moment l =
    is_rising_from l.last (drop l.moment-index l.moments) ≡ is_rising l.moments
