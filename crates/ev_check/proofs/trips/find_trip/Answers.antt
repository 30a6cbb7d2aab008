use Rattle.std.proofs.Common.{sym, refl, ◌∙◌, ap, subst, List}
use Rattle.ev_tree.specs.declared.tree.Declared.{Declared}
use Rattle.ev_check.specs.Drawn.{trip_among}
use Rattle.ev_check.specs.Faults.{AreUpsets}
use Rattle.ev_check.proofs.Finding.{stands_at}
use Rattle.ev_check.proofs.Tripping.{far_none, far_yes, tripped_none, tripped_yes, trips_more}
use Rattle.ev_check.proofs.Tripping.{trips_none}
use Rattle.ev_check.proofs.trips.find_trip.Goals as goal

pub loop-statement-preserved : goal.loop-statement-preserved
loop-statement-preserved c =
    let ss = c.args.statements.now in
    let n = c.loop-statement.statement-index in
    let x = c.statement-item.result in
    let P : List Declared → Type 0 = λ y. AreUpsets y c.args.starts.now in
    trips_more ss n x c.loop-statement.invariant
    (stands_at ss n x c.loop-statement-test.true c.statement-item.is)
    (tripped_none ss x c.args.starts.now c.args.distance.now _
    (subst P c.requires.events c.requires.starts) c.requires.distance
    (c.in_ok-trip.ensures ∙ ap (λ y. trip_among y x) c.requires.events)
    (far_none c.args.distance.now _ (sym c.has_distance.ensures ∙ c.if-has_distance.false)))

pub returns-then-has_distance-clause-err : goal.returns-then-has_distance-clause-err
returns-then-has_distance-clause-err c =
    let ss = c.args.statements.now in
    let n = c.loop-statement.statement-index in
    let x = c.statement-item.result in
    let P : List Declared → Type 0 = λ y. AreUpsets y c.args.starts.now in (
      record {
        number = n;
        statement = x;
        stands = stands_at ss n x c.loop-statement-test.true c.statement-item.is;
        begins = sym c.place.ensures;
        tripped = tripped_yes ss x c.args.starts.now c.args.distance.now _
            (subst P c.requires.events c.requires.starts) c.requires.distance
            (c.in_ok-trip.ensures ∙ ap (λ y. trip_among y x) c.requires.events)
            (far_yes c.args.distance.now _ (sym c.has_distance.ensures
            ∙ c.if-has_distance.true));
        first = c.loop-statement.invariant;
      },
      refl,
    )

pub returns-clause-ok : goal.returns-clause-ok
returns-clause-ok c =
    trips_none c.args.statements.now c.loop-statement.statement-index c.loop-statement-test.false
    c.loop-statement.invariant
