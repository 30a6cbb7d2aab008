use Rattle.std.proofs.Common.{ap, sym, ◌∙◌}
use Rattle.ev_incidence.specs.Sets.{has_mark}
use Rattle.dx_live.proofs.Marking.{uncut_once, mark_inside, one_marked, made_cut}
use Rattle.dx_live.proofs.live.cut_there.Goals as goal

pub lose_link-requires-clause-once : goal.lose_link-requires-clause-once
lose_link-requires-clause-once g c =
    uncut_once c.args.table.now c.args.cuts.now c.args.link c.requires.cuts c.requires.there
    (ap (has_mark c.args.cuts.now.marks) (sym c.requires.at) ∙ c.requires.uncut)

pub mark-requires : goal.mark-requires
mark-requires g c =
    rw c.requires.at (mark_inside c.args.table.now.effects c.args.cuts.now c.requires.cuts
    c.args.link c.requires.there)

pub settle-requires : goal.settle-requires
settle-requires g c =
    rw (c.mark.ensures, c.requires.at) (c.lose_link.ensures.lost.steady _
    (one_marked c.args.table.now.effects c.args.cuts.now c.requires.cuts c.args.link
    c.requires.there))

pub returns-clause-made : goal.returns-clause-made
returns-clause-made g c =
    made_cut c.args.table.now c.args.here c.args.link c.args.cuts.now c.requires.cuts
    c.requires.there c.args.sets.now c.lose_link.new.sets c.settle.new.sets c.mark.new.self
    (rw c.requires.at at c.mark.ensures) c.lose_link.ensures.lost c.settle.ensures.steady
    c.settle.ensures.over c.settle.ensures.settles
