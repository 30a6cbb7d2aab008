use Rattle.std.proofs.Common.{lit<}
use Rattle.fm_name.proofs.Cutting.{cut_some, split_none}
use Rattle.fm_name.proofs.parts.cut.Goals as goal

pub returns-in-Some-clause-texts : goal.returns-in-Some-clause-texts
returns-in-Some-clause-texts c = let h = c.in-Some.ensures.byte (lit< tt) (λ w o f. f) in
    cut_some _ _ _ _ h.0 h.1 h.2

pub returns-in-None-clause-texts : goal.returns-in-None-clause-texts
returns-in-None-clause-texts c = split_none _ _ (c.in-None.ensures.byte (lit< tt) (λ w o f. f))
