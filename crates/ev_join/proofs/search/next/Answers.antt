use Rattle.std.proofs.Common.{◌≡◌, ◌++◌, ◌∷◌, [], ◌+◌, ◌<◌, Some, None, length, subst, sym}
use Rattle.std.proofs.Common.{◌∙◌, rules}
use Rattle.std.proofs.lemmas.List.{nil_from_length}
use Rattle.ev_join.specs.Search.{GoesOn, IsLeastFrom, steps_left}
use Rattle.ev_join.proofs.Turns.{Turning, off_falls, on_falls, turn_off, turn_on}
use Rattle.ev_join.proofs.Turns.{turn_over}
use Rattle.ev_join.proofs.Turns.{turn_whole}
use Rattle.ev_join.proofs.search.next.Goals as goal

pub returns-then-len-count : goal.returns-then-len-count
returns-then-len-count c =
    let tables = c.args.tables.now in
    let least : IsLeastFrom (GoesOn tables c.turns.front.items) c.turns.from
    (Some c.in-Some.found) =
    subst (λ k. IsLeastFrom (GoesOn tables k) c.turns.from (Some c.in-Some.found))
    c.as_slice.ensures.value c.in-Some.ensures in
    let len : c.len.result ≡ length c.push.new.self.items = search rules in
    turn_whole tables c.args.count (c.args.front.now.items ++ c.args.value ∷ [])
    c.turns.front.items c.push.new.self.items c.turns.from c.turns.invariant c.in-Some.found
    c.in_ok-push-in-Some.ensures.items least (sym len ∙ c.if-len-count.true)

pub turns-smaller-in-Some : goal.turns-smaller-in-Some
turns-smaller-in-Some c =
    let tables = c.args.tables.now in
    let least : IsLeastFrom (GoesOn tables c.turns.front.items) c.turns.from
    (Some c.in-Some.found) =
    subst (λ k. IsLeastFrom (GoesOn tables k) c.turns.from (Some c.in-Some.found))
    c.as_slice.ensures.value c.in-Some.ensures in
    let len : c.len.result ≡ length c.push.new.self.items = search rules in
    on_falls tables c.args.count (c.args.front.now.items ++ c.args.value ∷ [])
    c.turns.front.items c.push.new.self.items c.turns.from c.turns.invariant c.in-Some.found
    c.in_ok-push-in-Some.ensures.items least (λ e. c.if-len-count.false (len ∙ e))

pub turns-preserved-in-Some : goal.turns-preserved-in-Some
turns-preserved-in-Some c =
    let tables = c.args.tables.now in
    let least : IsLeastFrom (GoesOn tables c.turns.front.items) c.turns.from
    (Some c.in-Some.found) =
    subst (λ k. IsLeastFrom (GoesOn tables k) c.turns.from (Some c.in-Some.found))
    c.as_slice.ensures.value c.in-Some.ensures in
    let len : c.len.result ≡ length c.push.new.self.items = search rules in
    turn_on tables c.args.count (c.args.front.now.items ++ c.args.value ∷ [])
    c.turns.front.items c.push.new.self.items c.turns.from c.turns.invariant c.in-Some.found
    c.in_ok-push-in-Some.ensures.items least (λ e. c.if-len-count.false (len ∙ e))

pub turns-smaller : goal.turns-smaller
turns-smaller c =
    subst (λ k. steps_left c.args.count (c.pop.new.self.items ++ (k + 1) ∷ [])
    < steps_left c.args.count (c.turns.front.items ++ c.turns.from ∷ [])) (sym c.from-from.ensures)
    (off_falls c.args.tables.now c.args.count (c.args.front.now.items ++ c.args.value ∷ [])
    c.turns.front.items c.pop.new.self.items c.turns.from c.turns.invariant c.in-Some-pop.last
    c.in-Some-pop.ensures.items)

pub turns-preserved : goal.turns-preserved
turns-preserved c =
    let tables = c.args.tables.now in
    let none : IsLeastFrom (GoesOn tables c.turns.front.items) c.turns.from None =
    subst (λ k. IsLeastFrom (GoesOn tables k) c.turns.from None)
    c.as_slice.ensures.value c.in-None.ensures in
    let old = c.args.front.now.items ++ c.args.value ∷ [] in
    subst (λ k. Turning tables c.args.count old c.pop.new.self.items (k + 1))
    (sym c.from-from.ensures)
    (turn_off tables c.args.count old c.turns.front.items c.pop.new.self.items c.turns.from
    c.turns.invariant c.in-Some-pop.last c.in-Some-pop.ensures.items none)

pub returns-in-None-pop : goal.returns-in-None-pop
returns-in-None-pop c =
    let tables = c.args.tables.now in
    let none : IsLeastFrom (GoesOn tables c.turns.front.items) c.turns.from None =
    subst (λ k. IsLeastFrom (GoesOn tables k) c.turns.from None)
    c.as_slice.ensures.value c.in-None.ensures in
    let len : length c.turns.front.items ≡ 0 = search rules in
    turn_over tables c.args.count (c.args.front.now.items ++ c.args.value ∷ [])
    c.turns.front.items [] c.turns.from c.turns.invariant
    (nil_from_length c.turns.front.items len) none
