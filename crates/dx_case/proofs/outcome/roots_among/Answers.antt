use Rattle.std.proofs.Common.{◌∙◌, sym, ap}
use Rattle.std.specs.List.{filter}
use Rattle.dx_case.specs.Kinds.{is_asked}
use Rattle.dx_case.specs.Candidates.{is_of_kind}
use Rattle.dx_case.proofs.Elements.{root_kept, root_past, all_roots}
use Rattle.dx_case.proofs.outcome.roots_among.Goals as goal
use Rattle.dx_case.proofs.outcome.roots_among.Goals.{
  then-has_node+in_ok-push,
  else-has_node,
}

pub loop-candidate-init : goal.loop-candidate-init
loop-candidate-init c = c.new-list.ensures.items

pub loop-candidate-preserved : goal.loop-candidate-preserved
loop-candidate-preserved c =
    let test = is_of_kind (is_asked c.args.kind) c.args.nodes.now in
    let cs = c.args.candidates.now in
    let i = c.loop-candidate.candidate-index in
    elim c.if-has_node.branch [
      | then-has_node+in_ok-push w ↦ rw w.list-is (w.in_ok-push.ensures.items
          ∙ root_kept test cs i c.candidate-item.result c.loop-candidate.list.items
          c.loop-candidate-test.true c.candidate-item.is
          (sym c.has_node.ensures ∙ w.if-has_node.true) c.loop-candidate.invariant)
      | else-has_node w ↦ rw w.list-is
          (root_past test cs i c.candidate-item.result c.loop-candidate.list.items
          c.loop-candidate-test.true c.candidate-item.is
          (sym c.has_node.ensures ∙ w.if-has_node.false) c.loop-candidate.invariant)
    ]

pub returns : goal.returns
returns c =
    c.loop-candidate.invariant
    ∙ ap (filter (is_of_kind (is_asked c.args.kind) c.args.nodes.now))
    (all_roots c.args.candidates.now c.loop-candidate.candidate-index
    c.loop-candidate-test.false)
