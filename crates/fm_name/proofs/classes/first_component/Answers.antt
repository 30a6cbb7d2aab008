use Rattle.std.proofs.Common.{◌∙◌, sym}
use Rattle.fm_name.proofs.Firsts.{before_some, before_none}
use Rattle.fm_name.proofs.classes.first_component.Goals as goal

pub returns-in-Some : goal.returns-in-Some
returns-in-Some c = before_some _ c.args.text.now c.in-Some.at
    (sym c.first_dot.ensures ∙ c.in-Some.is)

pub returns-in-None : goal.returns-in-None
returns-in-None c = before_none _ c.args.text.now (sym c.first_dot.ensures ∙ c.in-None.is)
