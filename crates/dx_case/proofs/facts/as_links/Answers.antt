use Rattle.std.proofs.Common.{get_or, map, refl, ap, ◌∙◌}
use Rattle.std.proofs.lemmas.List.{take_all}
use Rattle.fm_entry.specs.declared.broken.Broken.{Broken}
use Rattle.dx_explain.specs.Cases.{broken_of}
use Rattle.dx_case.proofs.Fitting.{link_more}
use Rattle.dx_case.proofs.facts.as_links.Goals as goal

pub loop-link-init : goal.loop-link-init
loop-link-init c = ap (map broken_of) c.new-links.ensures.items

pub loop-link-preserved : goal.loop-link-preserved
loop-link-preserved c =
    let broken = c.args.broken.now in
    let i = c.loop-link.link-index in
    let d : Broken = record { instance = 0; effect = 0 } in
    let b = get_or broken i d in
    ap (map broken_of) c.in_ok-push.ensures.items
    ∙ link_more broken i d c.loop-link.links.items
    (record { instance = b.instance; effect = b.effect }) c.loop-link-test.true refl
    c.loop-link.invariant

pub returns : goal.returns
returns c =
    c.loop-link.invariant ∙ take_all c.loop-link.link-index c.args.broken.now c.loop-link-test.false
