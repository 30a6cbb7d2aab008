use Rattle.std.proofs.Common.{false, get_or, List, subst}
use Rattle.std.proofs.lemmas.List.{take_all, get_or_default}
use Rattle.ev_graph.specs.declared.instances.Link.{Link}
use Rattle.dx_case.specs.Changes.{IsChanged}
use Rattle.dx_case.proofs.Changing.{changed_none, changed_cut}
use Rattle.dx_case.proofs.changes.cut_all.Goals as goal

pub loop-link-init : goal.loop-link-init
loop-link-init g c = changed_none c.args.graph.now c.args.live.now c.requires

pub loop-link-preserved : goal.loop-link-preserved
loop-link-preserved g c =
    let links = c.args.links.now in
    let i = c.loop-link.link-index in
    let d : Link = record { instance = 0; effect = 0 } in
    let x = get_or links i d in
    changed_cut c.args.graph.now links i x (λ e. false) c.args.live.now c.loop-link.live
    c.cut.new.self c.loop-link-test.true (get_or_default links i x d c.loop-link-test.true)
    c.loop-link.invariant c.cut.ensures.live c.cut.ensures.root c.cut.ensures.best

pub cut-requires : goal.cut-requires
cut-requires g c = c.loop-link.invariant.live

pub returns : goal.returns
returns g c =
    let P : List Link → Type 0 = λ ks. IsChanged c.args.graph.now ks (λ e. false) c.args.live.now
    c.loop-link.live in
    subst P (take_all c.loop-link.link-index c.args.links.now c.loop-link-test.false)
    c.loop-link.invariant
