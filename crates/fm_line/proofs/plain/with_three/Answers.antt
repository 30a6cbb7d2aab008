use Rattle.std.proofs.Common.{◌∷◌, ◌∙◌, ap, option_map}
use Rattle.fm_line.specs.Forms.{words_entry, words_after}
use Rattle.fm_line.proofs.Cuts.{words_past}
use Rattle.fm_line.proofs.plain.with_three.Goals as goal

pub returns-in_default-Some-clause-err : goal.returns-in_default-Some-clause-err
returns-in_default-Some-clause-err c = λ _.
    ap (λ ws. words_entry (c.args.first.now ∷ c.args.second.now ∷ c.args.third.now ∷ ws))
    (c.cut_word.ensures ∙ ap
    (λ o. c.cut_word.result.0.now ∷ words_after (option_map (λ w. w.now) o))
    c.in_default-Some.is-1)
    ∙ words_past c.args.first.now c.args.second.now c.args.third.now c.cut_word.result.0.now
    c.in_default-Some.field-0-1.now
