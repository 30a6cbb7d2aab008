use Rattle.std.proofs.Common.{rules, ◌≡◌, ◌∷◌, Some, None, map, slice_get}
use Rattle.fm_status.proofs.RowPlaces.{row_more, none_more}
use Rattle.fm_status.proofs.status.Status.rows.Goals as goal

pub places-preserved-in-Continue-branch-2 : goal.places-preserved-in-Continue-branch-2
places-preserved-in-Continue-branch-2 c =
    let step : c.places.place-iterator ≡ c.in-Some.place.now ∷ c.next.new.self = search rules in
    let there : Some c.in-Some-row_at.row.now
    ≡ slice_get c.self.inside.rows.items c.in-Some.place.now = search rules in
    row_more (λ row. row.now) c.places.rows.items c.push.new.self.items c.in-Some-row_at.row
    c.self.inside.rows.items c.args.self.now c.places.place-iterator c.next.new.self
    c.in-Some.place.now c.in_ok-push.ensures.items c.places.invariant step there

pub places-preserved : goal.places-preserved
places-preserved c =
    let step : c.places.place-iterator ≡ c.in-Some.place.now ∷ c.next.new.self = search rules in
    let there : None ≡ slice_get c.self.inside.rows.items c.in-Some.place.now = search rules in
    none_more (map (λ row. row.now) c.places.rows.items) c.args.self.now c.self.inside.rows.items
    c.places.place-iterator c.next.new.self c.in-Some.place.now c.places.invariant step there
