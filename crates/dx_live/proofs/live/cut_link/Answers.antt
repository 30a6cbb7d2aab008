use Rattle.std.proofs.Common.{sym, ◌∙◌}
use Rattle.std.proofs.lemmas.Bool.{both_ways}
use Rattle.ev_incidence.specs.Sets.{is_member}
use Rattle.ev_incidence.specs.Table.{row_at}
use Rattle.dx_live.proofs.Marking.{nothing_cut}
use Rattle.dx_live.proofs.live.cut_link.Goals as goal

pub place_of-requires-clause-ascend : goal.place_of-requires-clause-ascend
place_of-requires-clause-ascend g c =
    rw c.effects-effects.ensures.effects (c.requires.cuts.ascending.each c.args.link.instance)

pub cut_there-requires-clause-there : goal.cut_there-requires-clause-there
cut_there-requires-clause-there g c =
    let f = rw c.effects-effects.ensures.effects at c.in-Some.ensures.found in f.0

pub cut_there-requires-clause-at : goal.cut_there-requires-clause-at
cut_there-requires-clause-at g c =
    let f = rw c.effects-effects.ensures.effects at c.in-Some.ensures.found in f.1

pub cut_there-requires-clause-uncut : goal.cut_there-requires-clause-uncut
cut_there-requires-clause-uncut g c = sym c.has.ensures ∙ c.if-not-has.true

pub returns-in-None-clause-made : goal.returns-in-None-clause-made
returns-in-None-clause-made g c =
    let none = rw c.effects-effects.ensures.effects at (c.place_of.ensures.none c.in-None.is) in
    nothing_cut c.args.table.now c.args.here c.args.link c.args.cuts.now c.args.sets.now
    c.requires.cuts c.requires.steady c.requires.over
    (λ m. absurd (both_ways (is_member (row_at c.args.table.now.effects c.args.link.instance)
    c.args.link.effect) none m))
