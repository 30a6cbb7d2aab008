use Rattle.fm_topo.proofs.Printing.{places_some}
use Rattle.fm_topo.proofs.printer.add_places.Goals as goal

pub returns-in_ok-add_rest-in-Some : goal.returns-in_ok-add_rest-in-Some
returns-in_ok-add_rest-in-Some c =
    places_some c.args.out.now.items c.add_place.new.out.items c.add_rest.new.out.items
    c.args.places.now c.in-Some.rest.now c.in-Some.first.now
    c.in-Some.ensures.cases.0 c.in_ok-add_place-in-Some.ensures c.in_ok-add_rest-in-Some.ensures
