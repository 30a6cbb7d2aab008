use Rattle.std.proofs.Common.{◌≡◌, IfErr, rules, subst}
use Rattle.fm_answers.specs.StreamsAt.{sink_at}
use Rattle.fm_answers.specs.Refusing.{PutCut}
use Rattle.fm_answers.specs.Stops.{last_text}
use Rattle.fm_answers.specs.declared.stops.Stop.TheVariants.{DamagedInput}
use Rattle.fm_answers.proofs.last.put_damaged_input.Goals as goal

pub returns-clause-err : goal.returns-clause-err
returns-clause-err g c =
    let text : c.as_str.result.now ≡ last_text (DamagedInput c.args.place) = search rules in
    subst (λ t. IfErr c.put_text.result
    (PutCut (sink_at g.K.Sink c.args.out.now) (sink_at g.K.Sink c.put_text.new.out) t)) text
    c.put_text.ensures.err
