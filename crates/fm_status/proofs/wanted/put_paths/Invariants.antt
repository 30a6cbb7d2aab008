use Rattle.std.proofs.Common.{◌≡◌, drop}
use Rattle.std.specs.Prelude.{nat_eq}
use Rattle.std.specs.Cmp.Lexicographic.{pointwise}
use Rattle.indexmap.specs.IndexSet.{insert_all}
use Rattle.fm_status.specs.Wanted.{out_paths}
use Rattle.fm_status.proofs.wanted.put_paths.Given as goal

abbrev pub invariant-suspects : goal.invariant-suspects
invariant-suspects l =
    insert_all (pointwise nat_eq) l.met.keys (out_paths (drop l.suspect-index l.suspect-items))
    ≡ insert_all (pointwise nat_eq) l.initial.met.keys (out_paths l.suspect-items)
