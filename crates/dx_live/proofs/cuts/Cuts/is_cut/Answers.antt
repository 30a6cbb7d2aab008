use Rattle.std.proofs.Common.{◌&&◌, Bool, ap, sym, ◌∙◌}
use Rattle.ev_incidence.specs.Sets.{has_mark}
use Rattle.dx_live.specs.Cuts.{mark_place}
use Rattle.dx_live.proofs.cuts.Cuts.is_cut.Goals as goal

pub returns-in-Some : goal.returns-in-Some
returns-in-Some c =
    let f = c.in-Some.ensures.found in
    let m = mark_place c.args.self.now c.args.effects.now c.args.place c.args.effect in
    c.has.ensures
    ∙ (ap (has_mark c.args.self.now.marks) f.1
    ∙ sym (ap (λ (b : Bool). b && has_mark c.args.self.now.marks m) f.0))

pub returns-in-None : goal.returns-in-None
returns-in-None c =
    let m = mark_place c.args.self.now c.args.effects.now c.args.place c.args.effect in
    sym (ap (λ (b : Bool). b && has_mark c.args.self.now.marks m)
    (c.place_of.ensures.none c.in-None.is))
