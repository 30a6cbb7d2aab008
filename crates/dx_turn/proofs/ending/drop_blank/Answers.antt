use Rattle.std.proofs.Common.{rules}
use Rattle.std.proofs.lemmas.Fn.{filter_same}
use Rattle.dx_turn.specs.Standing.{has_kept}
use Rattle.dx_turn.proofs.ending.drop_blank.Goals as goal

pub returns : goal.returns
returns c = filter_same _ has_kept _ (λ x b f' k. search rules) _ _ c.retain.ensures.filtered
