-- What was picked of what the two looks tell is the slot in force.
use Rattle.std.proofs.Common.{true, Option, refl, sym, ◌∙◌, ap}
use Rattle.std.proofs.lemmas.Result.{err_from_is_err_and}
use Rattle.fm_slots.specs.Pair.{pick_at, later_pick, which}
use Rattle.fm_slots.specs.declared.pair.Pick.{Pick}
use Rattle.fm_slots.proofs.Picks.{picked_inside, which_told, found_in_force, none_in_force}
use Rattle.fm_slots.proofs.Picks.{second_damaged}
use Rattle.fm_slots.proofs.pair.newest.Goals as goal

pub picked_payload-requires : goal.picked_payload-requires
picked_payload-requires g c =
    picked_inside g.D.Disk.seen c.peek.new.disk c.peek-2.new.disk c.in_ok-first.first
    c.in_ok-second.second c.in-Some.pick
    (λ bytes told. c.in_ok-first.ensures.tells bytes (sym c.in_ok-first.ensures.still.same ∙ told))
    (λ bytes told. c.in_ok-second.ensures.tells bytes
    (sym c.in_ok-second.ensures.still.same ∙ told))
    (ap (λ (p : Option Pick). later_pick p (pick_at true c.in_ok-second.second))
    (sym c.in_ok-one.ensures.found)
    ∙ ap (λ (p : Option Pick). later_pick c.in_ok-one.one p) (sym c.in_ok-other.ensures.found)
    ∙ sym c.later_of.ensures ∙ c.in-Some.is)

pub returns-in_default-clause-found : goal.returns-in_default-clause-found
returns-in_default-clause-found g c = λ x y left right.
    none_in_force x y c.in_ok-first.first c.in_ok-second.second c.in_ok-one.ensures.whole
    c.in_ok-other.ensures.whole (c.in_ok-first.ensures.tells x left)
    (c.in_ok-second.ensures.tells y right)
    (ap (λ (p : Option Pick). later_pick p (pick_at true c.in_ok-second.second))
    (sym c.in_ok-one.ensures.found)
    ∙ ap (λ (p : Option Pick). later_pick c.in_ok-one.one p) (sym c.in_ok-other.ensures.found)
    ∙ sym c.later_of.ensures ∙ c.in_default.is)

pub returns-clause-found : goal.returns-clause-found
returns-clause-found g c = λ x y left right.
    found_in_force x y c.in_ok-first.first c.in_ok-second.second c.in-Some.pick
    c.in_ok-payload.payload.items c.in_ok-one.ensures.whole c.in_ok-other.ensures.whole
    (c.in_ok-first.ensures.tells x left) (c.in_ok-second.ensures.tells y right)
    (ap (λ (p : Option Pick). later_pick p (pick_at true c.in_ok-second.second))
    (sym c.in_ok-one.ensures.found)
    ∙ ap (λ (p : Option Pick). later_pick c.in_ok-one.one p) (sym c.in_ok-other.ensures.found)
    ∙ sym c.later_of.ensures ∙ c.in-Some.is)
    (c.in_ok-payload.ensures.payload (which c.in-Some.pick.second x y)
    (which_told g.D.Disk.seen c.peek.new.disk c.peek-2.new.disk x y c.in-Some.pick.second
    (c.in_ok-first.ensures.still.same ∙ left) (c.in_ok-second.ensures.still.same ∙ right)))

pub returns-in_err-other-clause-cause : goal.returns-in_err-other-clause-cause
returns-in_err-other-clause-cause g c =
    let judged = c.in_err-other.ensures.damaged in
    let found = err_from_is_err_and c.from_residual-in_err-other.result
    c.from_residual-in_err-other.ensures.1 in
    rw (found.1, found.2, judged.0) (
      refl,
      (c.in_ok-first.ensures.cause, c.in_ok-second.ensures.cause),
      (c.in_ok-first.ensures.settled, c.in_ok-second.ensures.settled),
      λ x y left right.
          second_damaged x y c.in_ok-first.first c.in_ok-second.second
          c.in_ok-one.ensures.whole (c.in_ok-first.ensures.tells x left) judged.1
          (c.in_ok-second.ensures.tells y right),
    )
