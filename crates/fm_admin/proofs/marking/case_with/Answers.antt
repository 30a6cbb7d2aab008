-- The first row that was found has the case.
use Rattle.fm_admin.specs.Rows.{has_uuid}
use Rattle.fm_admin.proofs.Rows.{case_found}
use Rattle.fm_admin.proofs.marking.case_with.Goals as goal

pub returns-in-Some : goal.returns-in-Some
returns-in-Some c =
    case_found (has_uuid c.args.namespace.now c.args.uuid.now) c.args.rows.now _
    c.in-Some.ensures

pub returns-in-None : goal.returns-in-None
returns-in-None c =
    case_found (has_uuid c.args.namespace.now c.args.uuid.now) c.args.rows.now _
    c.in-None.ensures
