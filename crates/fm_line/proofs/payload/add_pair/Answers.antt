use Rattle.std.proofs.Common.{◌∙◌, ap, Some}
use Rattle.fm_nv.specs.Data.{add}
use Rattle.fm_nv.specs.Refusal.{refusal}
use Rattle.fm_nv.specs.View.{datum}
use Rattle.fm_line.proofs.Pushes.{pushed_ok}
use Rattle.fm_line.proofs.payload.add_pair.Goals as goal

pub returns-in-Ok : goal.returns-in-Ok
returns-in-Ok c =
    ap Some c.in-Ok.ensures.ok
    ∙ pushed_ok (refusal c.args.name.now (datum c.args.value) c.args.list)
    (add c.args.name.now (datum c.args.value) c.args.list)
    c.push.result c.in-Ok.field-0 c.push.ensures.refused c.in-Ok.is
