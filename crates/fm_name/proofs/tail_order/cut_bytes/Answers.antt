use Rattle.std.proofs.Common.{◌∙◌, sym}
use Rattle.fm_name.proofs.Cutting.{cut_some, split_none}
use Rattle.fm_name.proofs.Firsts.{after_some, before_some, place_none, place_some}
use Rattle.fm_name.proofs.tail_order.cut_bytes.Goals as goal

pub returns-in-Some-clause-texts : goal.returns-in-Some-clause-texts
returns-in-Some-clause-texts c =
    let place = sym c.first_slash.ensures ∙ c.in-Some.is in
    cut_some _ c.args.text.now _ _ (before_some _ c.args.text.now c.in-Some.at place)
    (c.split_at.ensures.back ∙ after_some _ c.args.text.now c.in-Some.at place)
    (place_some _ c.args.text.now c.in-Some.at place)

pub returns-in-None-clause-texts : goal.returns-in-None-clause-texts
returns-in-None-clause-texts c =
    split_none _ c.args.text.now
    (place_none _ c.args.text.now (sym c.first_slash.ensures ∙ c.in-None.is))
