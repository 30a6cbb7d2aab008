use Rattle.std.proofs.Common.{rules}
use Rattle.std.proofs.lemmas.Fn.{filter_same}
use Rattle.dx_case.specs.Candidates.{covers}
use Rattle.dx_case.proofs.candidate.drop_lost.Goals as goal

pub returns : goal.returns
returns c = filter_same _ (covers c.args.observed.now) _ (λ x b f' k. search rules) _ _
    c.retain.ensures.filtered
