use Rattle.std.proofs.Common.{◌∙◌, ap}
use Rattle.std.specs.List.{filter}
use Rattle.dx_turn.specs.Standing.{has_kept}
use Rattle.dx_turn.proofs.Ends.{back_cases}
use Rattle.dx_turn.proofs.ending.undo_turn.Goals as goal

pub returns : goal.returns
returns c =
    c.drop_blank.ensures ∙ ap (filter has_kept) c.undo_each.ensures
    ∙ back_cases c.args.cases.now.items
