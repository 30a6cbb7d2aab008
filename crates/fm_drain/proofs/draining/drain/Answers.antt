-- One hand after another was drained, until one stopped.
use Rattle.std.proofs.Common.{◌≡◌, ◌+◌, suc, [], ◌∷◌, length, sym, ◌∙◌, ap, arith, length-append}
use Rattle.std.proofs.lemmas.List.{nil_from_length}
use Rattle.std.specs.Vec.Iter.{into_iter_items}
use Rattle.fm_drain.proofs.DrainLaws.{none_does, none_on_book, list_none, list_next, list_end}
use Rattle.fm_drain.proofs.DrainLaws.{few_next, at_next, drain_does, drains_on_book}
use Rattle.fm_drain.proofs.draining.drain.Goals as goal

pub returns-in_default-clause-does : goal.returns-in_default-clause-does
returns-in_default-clause-does g c =
    none_does g.D.Disk g.M.Module c.args.store.now c.args.hands.items c.requires.at_cursors

pub returns-in_default-clause-book : goal.returns-in_default-clause-book
returns-in_default-clause-book g c = λ fresh k st follows.
    none_on_book g.D.Disk g.M.Module g.met.D.Disk.only_now c.args.store.now c.args.hands.items fresh
    k st follows

pub hands-init : goal.hands-init
hands-init g c =
    let none : length c.in-Ok.back.items ≡ 0 = ap length c.in-Ok.ensures.items in
    let gives = c.into_iter-hand-iterator.ensures.into_iter_gives in (
      list_none g.D.Disk g.M.Module g.met.D.Disk.only_now c.args.store.now c.args.hands.items
          c.in-Ok.back.items (into_iter_items c.into_iter-hand-iterator.result) tt
          c.in-Ok.ensures.items gives.0 c.requires.at_cursors,
      gives.1 ∙ c.args.hands.ok.0 ∙ ap length (sym gives.0),
      omega (arith, none, gives.1, c.len.ensures, c.in-Ok.ensures.capacity),
    )

pub drain_next-hand-requires-clause-few : goal.drain_next-hand-requires-clause-few
drain_next-hand-requires-clause-few g c κs within =
    few_next g.D.Disk g.M.Module c.args.store.now c.hands.store c.args.hands.items
    c.hands.back.items (into_iter_items c.hands.hand-iterator) (into_iter_items c.next.new.self)
    c.in-Some.hand c.hands.done
    c.hands.invariant.0 c.in-Some.ensures.steps.0 c.requires.few

pub drain_next-hand-requires-clause-at_cursor : goal.drain_next-hand-requires-clause-at_cursor
drain_next-hand-requires-clause-at_cursor g c κs within =
    at_next g.D.Disk g.M.Module c.args.store.now c.hands.store c.args.hands.items
    c.hands.back.items (into_iter_items c.hands.hand-iterator) (into_iter_items c.next.new.self)
    c.in-Some.hand c.hands.done
    c.hands.invariant.0 c.in-Some.ensures.steps.0

pub hands-preserved : goal.hands-preserved
hands-preserved g c =
    let step = c.in-Some.ensures.steps in
    let left : length (into_iter_items c.hands.hand-iterator)
    ≡ suc (length (into_iter_items c.next.new.self)) = ap length step.0 in
    let back : length c.push_reserved.new.self.items ≡ length c.hands.back.items + 1 =
    ap length c.push_reserved.ensures.items
    ∙ length-append c.hands.back.items (c.drain_next-hand.result.0 ∷ []) in (
      list_next g.D.Disk g.M.Module c.args.store.now c.hands.store c.drain_next-hand.new.store
          c.args.hands.items c.hands.back.items (into_iter_items c.hands.hand-iterator)
          (into_iter_items c.next.new.self) c.push_reserved.new.self.items c.in-Some.hand
          c.drain_next-hand.result.0 c.hands.done c.drain_next-hand.result.1
          c.hands.invariant.0 step.0 c.drain_next-hand.ensures c.push_reserved.ensures.items,
      omega (arith, left, step.1, c.hands.invariant.1),
      omega (arith, back, step.1, c.hands.invariant.2, c.push_reserved.ensures.capacity),
    )

pub returns-clause-does : goal.returns-clause-does
returns-clause-does g c =
    let end = list_end g.D.Disk g.M.Module c.args.store.now c.hands.store c.args.hands.items
    c.hands.back.items (into_iter_items c.hands.hand-iterator) c.hands.done c.hands.invariant.0
    (nil_from_length (into_iter_items c.hands.hand-iterator)
    (sym c.hands.invariant.1 ∙ c.in-None.ensures.steps.0)) in
    drain_does g.D.Disk g.M.Module c.args.store.now c.hands.store c.args.hands.items _
    c.hands.back.items c.hands.done end.0 end.1

pub returns-clause-book : goal.returns-clause-book
returns-clause-book g c = λ fresh k st follows.
    let end = list_end g.D.Disk g.M.Module c.args.store.now c.hands.store c.args.hands.items
    c.hands.back.items (into_iter_items c.hands.hand-iterator) c.hands.done c.hands.invariant.0
    (nil_from_length (into_iter_items c.hands.hand-iterator)
    (sym c.hands.invariant.1 ∙ c.in-None.ensures.steps.0)) in
    drains_on_book g.D.Disk g.M.Module c.args.store.now c.hands.store c.args.hands.items _
    c.hands.back.items c.hands.done end.0 end.1 fresh k st follows

pub returns-clause-same_disks : goal.returns-clause-same_disks
returns-clause-same_disks g c = c.hands.invariant.0.same_disks
