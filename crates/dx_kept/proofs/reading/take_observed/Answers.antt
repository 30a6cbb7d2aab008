use Rattle.dx_kept.proofs.Few.{few_numbers}
use Rattle.dx_kept.proofs.reading.take_observed.Goals as goal

pub returns-clause-few : goal.returns-clause-few
returns-clause-few c =
    few_numbers _ _ _ c.left-all.ensures.bytes c.in_ok-nodes.ensures.ok
