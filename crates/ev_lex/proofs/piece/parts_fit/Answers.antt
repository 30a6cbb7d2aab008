use Rattle.std.proofs.Common.{rules, tests, length, nat_le, ◌==◌}
use Rattle.std.proofs.lemmas.Iterator.Search.{all_from_yields_List}
use Rattle.std.proofs.lemmas.Iterator.Splits.{YieldsList-from_slice_split}
use Rattle.ev_lex.proofs.piece.parts_fit.Goals as goal

pub returns : goal.returns
returns c =
    all_from_yields_List (λ part. nat_le (length part) 32) _ _ c.all.result c.all.ensures.ran
    (YieldsList-from_slice_split _ (λ b. b == 46) c.args.word.now c.split.ensures.rest
    c.split.ensures.done c.split.ensures.closure (λ x b q k. search (rules, tests)))
    (λ x b q k. search (rules, tests))
