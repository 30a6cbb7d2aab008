use Rattle.std.proofs.Common.{rules, ◌≡◌, option_copied, slice_get, ap, ◌∙◌}
use Rattle.fm_status.specs.Rows.{case_row}
use Rattle.fm_status.proofs.RowPlaces.{row_at_key, row_at_found}
use Rattle.fm_status.proofs.status.Status.row.Goals as goal

pub returns-in-Some : goal.returns-in-Some
returns-in-Some c =
    let there : option_copied c.row_at.result
    ≡ slice_get c.self.inside.rows.items c.in-Some.place.now = search rules in
    there
    ∙ (ap (row_at_found c.self.inside.rows.items) c.in-Some.ensures.value
    ∙ (row_at_key c.self.inside.rows.items c.self.inside.places.entries c.case_key.result
    c.args.case.now c.self.invariant c.case_key.ensures
    ∙ ap (λ z. case_row c.args.case.now z) c.self.view_is))

pub returns-in-None : goal.returns-in-None
returns-in-None c =
    ap (row_at_found c.self.inside.rows.items) c.in-None.ensures.value
    ∙ (row_at_key c.self.inside.rows.items c.self.inside.places.entries c.case_key.result
    c.args.case.now c.self.invariant c.case_key.ensures
    ∙ ap (λ z. case_row c.args.case.now z) c.self.view_is)
