use Rattle.std.proofs.Common.{◌∙◌, ap, sym}
use Rattle.std.specs.List.{filter}
use Rattle.dx_turn.specs.Standing.{has_kept}
use Rattle.dx_turn.proofs.Ends.{left_cases, still_cases}
use Rattle.dx_turn.proofs.ending.end_turn.Goals as goal

pub returns-then-are_still : goal.returns-then-are_still
returns-then-are_still c =
    still_cases c.args.cases.now.items
    (rw c.as_slice.ensures.value at (sym c.are_still.ensures ∙ c.if-are_still.true))

pub returns : goal.returns
returns c =
    c.drop_blank.ensures ∙ ap (filter has_kept) c.end_each.ensures
    ∙ left_cases c.args.cases.now.items
