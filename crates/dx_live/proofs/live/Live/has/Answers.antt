use Rattle.std.proofs.Common.{◌≡◌, false, ap, sym, subst, ◌∙◌}
use Rattle.ev_incidence.specs.Sets.{has_mark}
use Rattle.dx_live.specs.Live.{LiveValue, live_set}
use Rattle.dx_live.specs.Region.{lifted}
use Rattle.dx_live.proofs.Regions.{lifted_at}
use Rattle.dx_live.proofs.Shrinks.{none_away}
use Rattle.dx_live.proofs.live.Live.has.Goals as goal

pub returns-in-Some : goal.returns-in-Some
returns-in-Some c =
    let l = c.self.inside in
    let Q : LiveValue → Type 0 = λ x. c.has.result ≡ live_set x c.args.node in
    let found = rw c.nodes.ensures.nodes at c.in-Some.ensures.found in
    subst Q c.self.view_is (c.has.ensures
    ∙ (sym (lifted_at l.region.nodes (has_mark l.sets.marks) c.in-Some.at c.nodes.ensures.ascend
    found.0) ∙ ap (lifted l.region.nodes (has_mark l.sets.marks)) found.1))

pub returns-in-None : goal.returns-in-None
returns-in-None c =
    let l = c.self.inside in
    let Q : LiveValue → Type 0 = λ x. false ≡ live_set x c.args.node in
    let none = rw c.nodes.ensures.nodes at (c.place_among.ensures.none c.in-None.is) in
    subst Q c.self.view_is
    (sym (none_away l.region.nodes (has_mark l.sets.marks) c.args.node none))
