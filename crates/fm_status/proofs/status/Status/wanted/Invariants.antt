use Rattle.std.proofs.Common.{◌≡◌, [], take}
use Rattle.std.specs.Prelude.{flat_map, nat_eq}
use Rattle.std.specs.Cmp.Lexicographic.{pointwise}
use Rattle.indexmap.specs.IndexSet.{insert_all}
use Rattle.fm_status.specs.Wanted.{row_paths}
use Rattle.fm_status.proofs.status.Status.wanted.Given as goal

abbrev pub invariant-rows : goal.invariant-rows
invariant-rows l =
    l.met.keys
    ≡ insert_all (pointwise nat_eq) [] (flat_map row_paths (take l.row-index l.row-items))
