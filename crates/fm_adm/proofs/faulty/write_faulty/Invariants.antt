use Rattle.std.proofs.Common.{◌≡◌, ◌++◌, drop, map}
use Rattle.std.specs.Prelude.{flat_map}
use Rattle.fm_adm.specs.Faulty.{row_lines}
use Rattle.fm_adm.proofs.faulty.write_faulty.Given as goal

abbrev pub invariant-rows : goal.invariant-rows
invariant-rows l =
    l.text.items
    ++ flat_map (row_lines l.namespace) (map (λ row. row.now) (drop l.row-index l.row-items))
    ≡ flat_map (row_lines l.namespace) (map (λ row. row.now) l.row-items)
