use Rattle.std.proofs.Common.{sym, ◌∙◌}
use Rattle.std.proofs.lemmas.Bool.{OnTrue_from, OnFalse_from}
use Rattle.ev_incidence.specs.Sets.{is_member}
use Rattle.ev_graph.specs.Cutting.{is_cut}
use Rattle.dx_explain.specs.Explaining.{set_of}
use Rattle.dx_explain.proofs.Greatest.{answers_yes, answers_no}
use Rattle.dx_explain.proofs.solver.explain_in.Goals as goal

pub returns-clause-possible : goal.returns-clause-possible
returns-clause-possible c =
    let kind = rw c.nodes.ensures.nodes at (sym c.is_root_node.ensures
    ∙ c.if-not-is_root_node.false) in
    OnTrue_from c.has_root_and_all.result _
    (λ t. answers_yes c.args.graph.now (is_cut c.args.less.now) c.args.root
    (is_member c.args.allowed.now) (set_of c.solve.new.sets) kind c.solve.ensures.greatest
    c.args.seen.now (sym c.has_root_and_all.ensures ∙ t))

pub returns-clause-impossible : goal.returns-clause-impossible
returns-clause-impossible c =
    let kind = rw c.nodes.ensures.nodes at (sym c.is_root_node.ensures
    ∙ c.if-not-is_root_node.false) in
    OnFalse_from c.has_root_and_all.result _
    (λ f. answers_no c.args.graph.now (is_cut c.args.less.now) c.args.root
    (is_member c.args.allowed.now) (set_of c.solve.new.sets) kind c.solve.ensures.greatest
    c.args.seen.now (sym c.has_root_and_all.ensures ∙ f))
