use Rattle.std.proofs.Common.{◌≡◌, ◌++◌, drop}
use Rattle.std.specs.Prelude.{flat_map}
use Rattle.fm_explain.specs.Explained.{suspect_head}
use Rattle.fm_explain.proofs.explained.put_heads.Given as goal

abbrev pub invariant-suspects : goal.invariant-suspects
invariant-suspects l = l.out.items ++ flat_map suspect_head (drop l.suspect-index l.suspects)
    ≡ l.initial.out.items ++ flat_map suspect_head l.suspects
