use Rattle.std.proofs.Common.{List, refl, subst, ◌∙◌}
use Rattle.fm_core.specs.Meaning.{OpenCase}
use Rattle.dx_kept.specs.Kept.{diagnosis_of}
use Rattle.dx_restore.specs.Parts.{engines_with}
use Rattle.dx_restore.specs.Restoring.{AreCasesAgain}
use Rattle.dx_restore.proofs.Again.{parts_again}
use Rattle.dx_restore.proofs.loading.restore.Goals as goal

pub returns : goal.returns
returns c =
    let g = c.args.graph.now in
    let s = diagnosis_of c.args.kept in
    parts_again g s _ refl refl refl c.into_vec.ensures
    (subst (λ (cs : List OpenCase). AreCasesAgain g s.time cs c.in-Some.cases.items)
    c.as_slice.ensures (rw c.in-Some.is at c.in_ok-cases.ensures))
    (c.in_ok-engines.ensures
    ∙ (λ i. engines_with (c.engines-2.ensures.engines i) (c.as_slice-2.ensures i)))
    c.requires
