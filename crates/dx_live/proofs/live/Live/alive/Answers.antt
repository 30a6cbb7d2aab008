use Rattle.std.proofs.Common.{◌≡◌, sym, subst, ◌∙◌}
use Rattle.ev_incidence.specs.Sets.{has_mark}
use Rattle.dx_live.specs.Live.{LiveValue, live_root, live_set}
use Rattle.dx_live.proofs.Regions.{lifted_at}
use Rattle.dx_live.proofs.live.Live.alive.Goals as goal

pub returns : goal.returns
returns c =
    let l = c.self.inside in
    let Q : LiveValue → Type 0 = λ x. c.has.result ≡ live_set x (live_root x) in
    subst Q c.self.view_is (c.has.ensures
    ∙ sym (lifted_at l.region.nodes (has_mark l.sets.marks) l.here c.self.invariant.1
    c.self.invariant.0))
