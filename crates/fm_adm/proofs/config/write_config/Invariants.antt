use Rattle.std.proofs.Common.{◌≡◌, ◌++◌, drop}
use Rattle.fm_adm.specs.Config.{listing_lines}
use Rattle.fm_adm.proofs.config.write_config.Given as goal

abbrev pub invariant-modules : goal.invariant-modules
invariant-modules l =
    l.text.items ++ listing_lines l.number (drop l.number l.modules)
    ≡ l.initial.text.items ++ listing_lines 0 l.modules
