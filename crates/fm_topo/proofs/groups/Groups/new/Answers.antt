use Rattle.std.proofs.Common.{◌∙◌}
use Rattle.fm_topo.proofs.Grouping.{grouped_more}
use Rattle.fm_topo.proofs.groups.Groups.new.Goals as goal

pub texts-preserved : goal.texts-preserved
texts-preserved c q =
    grouped_more q c.args.texts.now c.texts.at c.in_ok-text.text _ _ _ c.texts-test.true
    (c.in_ok-text.ensures ∙ c.index-texts-at.is) (c.texts.invariant q)
    (c.in_ok-add_place.ensures q)
