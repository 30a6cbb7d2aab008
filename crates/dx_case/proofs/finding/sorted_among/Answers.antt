use Rattle.std.proofs.Common.{◌∙◌, sym, ap}
use Rattle.std.specs.List.{filter}
use Rattle.std.proofs.lemmas.List.{take_all}
use Rattle.dx_case.specs.Candidates.{is_of_kind}
use Rattle.dx_case.specs.Kinds.{is_asked}
use Rattle.dx_case.proofs.Elements.{filter_more, filter_past}
use Rattle.dx_case.proofs.Searching.{sorted_is}
use Rattle.dx_case.proofs.finding.sorted_among.Goals as goal
use Rattle.dx_case.proofs.finding.sorted_among.Goals.{
  then-has_node+in_ok-push,
  else-has_node,
}

pub loop-number-init : goal.loop-number-init
loop-number-init c = c.new-list.ensures.items

pub loop-number-preserved : goal.loop-number-preserved
loop-number-preserved c =
    let test = is_of_kind (is_asked c.args.kind) c.args.nodes.now in
    let numbers = c.args.numbers.now in
    let i = c.loop-number.number-index in
    elim c.if-has_node.branch [
      | then-has_node+in_ok-push w ↦ rw w.list-is (w.in_ok-push.ensures.items
          ∙ filter_more test numbers i 0 c.loop-number.list.items c.loop-number-test.true
          (sym c.has_node.ensures ∙ w.if-has_node.true) c.loop-number.invariant)
      | else-has_node w ↦ rw w.list-is
          (filter_past test numbers i 0 c.loop-number.list.items c.loop-number-test.true
          (sym c.has_node.ensures ∙ w.if-has_node.false) c.loop-number.invariant)
    ]

pub returns : goal.returns
returns c =
    let test = is_of_kind (is_asked c.args.kind) c.args.nodes.now in
    sorted_is test c.args.numbers.now c.loop-number.list.items c.sort_unstable.new.self.items
    c.dedup.new.self.items (c.loop-number.invariant ∙ ap (filter test)
    (take_all c.loop-number.number-index c.args.numbers.now c.loop-number-test.false))
    c.sort_unstable.ensures.permutation c.sort_unstable.ensures.sorted c.dedup.ensures.filtered
