-- The place of the gate of the configuration that is reached.
use Rattle.std.proofs.Common.{◌≡◌, ◌+◌, ◌*◌, ◌^◌, ◌≤◌}
use Rattle.fm_modules.specs.Opening.{conf_gate}
use Rattle.fm_modules.proofs.places.gate_of.Given as goal

abbrev pub invariant-confs : goal.invariant-confs
invariant-confs l =
    (l.place ≡ conf_gate l.conf-items l.conf-index)
    × (l.place ≤ 16 + l.conf-index * (5 + 2 ^ 36))
