use Rattle.std.proofs.Common.{◌≡◌, ◌++◌, drop}
use Rattle.std.specs.Prelude.{flat_map}
use Rattle.fm_status.specs.Lines.{suspect_line}
use Rattle.fm_status.proofs.lines.put_suspects.Given as goal

abbrev pub invariant-suspects : goal.invariant-suspects
invariant-suspects l = l.out.items ++ flat_map suspect_line (drop l.suspect-index l.suspects)
    ≡ l.initial.out.items ++ flat_map suspect_line l.suspects
