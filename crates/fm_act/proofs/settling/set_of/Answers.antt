use Rattle.std.proofs.Common.{Ok, ◌∙◌}
use Rattle.std.specs.BTreeSet.{IsFromIterResult}
use Rattle.std.proofs.lemmas.Iterator.Adapters.{YieldsList-from_vec, fact_from_collect}
use Rattle.fm_name.specs.Order.{path_cmp}
use Rattle.fm_act.proofs.settling.set_of.Goals as goal

pub returns : goal.returns
returns c =
    fact_from_collect {E = Unit {0}} (IsFromIterResult path_cmp) (Ok c.in_ok-set.set)
    c.in_ok-set.ensures.ran
    (YieldsList-from_vec c.args.paths.items c.into_iter.ensures.rest
    (c.into_iter.ensures.len ∙ c.args.paths.ok.0))
