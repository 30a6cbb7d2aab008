-- The first row that was found is the first that has the UUID.
use Rattle.std.proofs.Common.{Some, None, sym, subst}
use Rattle.fm_admin.specs.Explaining.{IsTextOfFound}
use Rattle.fm_admin.specs.Rows.{has_uuid}
use Rattle.fm_admin.proofs.Rows.{row_in}
use Rattle.fm_admin.proofs.explaining.explained_of.Goals as goal

pub returns-in-Some : goal.returns-in-Some
returns-in-Some c =
    subst (λ o. IsTextOfFound c.args.conf.now c.args.in_force o
    (Some c.in_ok-row_text-in-Some.field-0.items))
    (sym (row_in (has_uuid c.args.conf.now.namespace c.args.uuid.now) c.in_ok-rows.rows.items
    c.deref.result.now c.args.status.now (Some c.in-Some.row.now) c.deref.ensures.value
    c.in_ok-rows.ensures.rows c.in-Some.ensures)) c.in_ok-row_text-in-Some.ensures

pub returns : goal.returns
returns c =
    subst (λ o. IsTextOfFound c.args.conf.now c.args.in_force o None)
    (sym (row_in (has_uuid c.args.conf.now.namespace c.args.uuid.now) c.in_ok-rows.rows.items
    c.deref.result.now c.args.status.now None c.deref.ensures.value c.in_ok-rows.ensures.rows
    c.in-None.ensures)) tt
