use Rattle.std.proofs.Common.{Bool, ◌&&◌, false, sym, ap, ◌∙◌}
use Rattle.dx_kept.specs.Kept.{diagnosis_of}
use Rattle.dx_lawful.specs.Trials.{are_numbered}
use Rattle.dx_lawful.proofs.Trying.{tried}
use Rattle.dx_lawful.proofs.state.is_state.Goals as goal

pub returns-then-not-have_ranges : goal.returns-then-not-have_ranges
returns-then-not-have_ranges g c =
    let s = diagnosis_of c.args.kept.now in
    tried c.args.own c.args.graph.now (g.C.CutTest.is_cut c.args.guarded.now) s false c.requires
    (sym (ap (λ (b : Bool). b && are_numbered s.open_cases s.solved)
    (sym c.have_ranges.ensures ∙ c.if-not-have_ranges.true)))

pub returns : goal.returns
returns g c =
    let s = diagnosis_of c.args.kept.now in
    tried c.args.own c.args.graph.now (g.C.CutTest.is_cut c.args.guarded.now) s
    c.in_ok-numbered.numbered
    c.requires
    (c.in_ok-numbered.ensures
    ∙ (λ i. are_numbered (c.as_slice.ensures i) (c.as_slice-2.ensures i))
    ∙ ap (λ (b : Bool). b && are_numbered s.open_cases s.solved)
    (sym (sym c.have_ranges.ensures ∙ c.if-not-have_ranges.false)))
