use Rattle.std.proofs.Common.{◌≤◌, [], length, ap, ◌∙◌, subst, arith}
use Rattle.std.specs.Prelude.{flat_map, nat_eq}
use Rattle.std.specs.Cmp.Lexicographic.{pointwise}
use Rattle.std.proofs.lemmas.List.{take_all}
use Rattle.std.proofs.lemmas.Result.{IfOk-weaker}
use Rattle.indexmap.specs.IndexSet.{insert_all}
use Rattle.fm_status.specs.Wanted.{row_paths, IsWantedOf}
use Rattle.fm_status.proofs.WantedRows.{wanted_in_order}
use Rattle.fm_status.proofs.status.Status.wanted.Goals as goal

pub returns : goal.returns
returns c =
    let items = c.as_slice-row-items.result.now in
    let past : length items ≤ c.rows.row-index = omega (arith, c.rows-test.false) in
    let rows = c.self.inside.rows.items in
    let places = c.self.inside.places.entries in
    IfOk-weaker c.of.result (IsWantedOf rows) (IsWantedOf c.args.self.now)
    (λ paths is. subst (λ z. IsWantedOf z paths) c.self.view_is
    (wanted_in_order rows places paths c.self.invariant is))
    (c.of.ensures rows (c.rows.invariant
    ∙ ap (λ z. insert_all (pointwise nat_eq) [] (flat_map row_paths z))
    (take_all c.rows.row-index items past ∙ c.as_slice-row-items.ensures.value)))
