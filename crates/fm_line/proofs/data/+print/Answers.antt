use Rattle.std.proofs.Common.{◌≡◌, ◌∙◌, sym, ap, arith}
use Rattle.serde_json.specs.Data.{object}
use Rattle.serde_json.specs.View.{members_view}
use Rattle.serde_json.proofs.Views.{view-Object}
use Rattle.fm_nv.specs.Data.{count}
use Rattle.fm_line.specs.Printed.{members_onto}
use Rattle.fm_line.proofs.Listed.{from_end}
use Rattle.fm_line.proofs.data.+print.Goals as goal

pub list_json-returns : goal.list_json-returns
list_json-returns t c =
    let end : c.loop-at.at ≡ count c.args.list.now = omega (arith, c.len-at-end.ensures) in
    view-Object c.loop-at.members
    ∙ ap object (sym (c.loop-at.invariant
    ∙ ap (members_onto (members_view c.loop-at.members.entries))
    (from_end c.args.list.now c.loop-at.at end)))
