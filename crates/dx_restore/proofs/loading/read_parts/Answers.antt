use Rattle.std.proofs.Common.{subst}
use Rattle.dx_kept.specs.Kept.{diagnosis_of}
use Rattle.dx_rules.specs.Rulebooks.{rules_in}
use Rattle.dx_restore.specs.Loading.{IsKeptAs}
use Rattle.dx_restore.proofs.Readings.{can_restore, read_as}
use Rattle.dx_restore.proofs.loading.read_parts.Goals as goal

pub restore-requires : goal.restore-requires
restore-requires c =
    let r = rules_in c.args.rules.now in
    can_restore r c.args.bytes.now (diagnosis_of c.in-Some.kept) c.graph-graph.result.now
    c.graph-graph.ensures
    (subst (IsKeptAs r c.args.bytes.now) c.in-Some.is c.in_ok-kept.ensures)

pub returns : goal.returns
returns c =
    let r = rules_in c.args.rules.now in
    read_as r c.args.bytes.now (diagnosis_of c.in-Some.kept) c.graph-graph.result.now
    c.in_ok-parts.parts c.requires c.graph-graph.ensures
    (subst (IsKeptAs r c.args.bytes.now) c.in-Some.is c.in_ok-kept.ensures) c.in_ok-parts.ensures
