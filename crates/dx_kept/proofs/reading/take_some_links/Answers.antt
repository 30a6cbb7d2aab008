use Rattle.dx_kept.proofs.Few.{few_links}
use Rattle.dx_kept.proofs.reading.take_some_links.Goals as goal

pub returns-then-links_ascend-clause-few : goal.returns-then-links_ascend-clause-few
returns-then-links_ascend-clause-few c =
    few_links _ _ _ c.left-all.ensures.bytes c.in_ok-links.ensures.ok
