use Rattle.std.proofs.Common.{◌<◌, ◌+◌, ◌∷◌, false, length, take, drop, sym, ap, subst, ◌∙◌}
use Rattle.fm_topo.specs.Line.{parted_words}
use Rattle.fm_topo.specs.Word.{word_end}
use Rattle.fm_topo.proofs.Pieces.{word_cut}
use Rattle.fm_topo.proofs.Ranges.{rest_all}
use Rattle.fm_topo.proofs.bytes.cut_word.Goals as goal

pub returns-then-at-text-clause-words : goal.returns-then-at-text-clause-words
returns-then-at-text-clause-words c =
    let text = c.args.text.now in
    let at = c.first_word_end-at.result in
    let e = c.first_word_end-at.ensures.same in
    let l : word_end false text < length text = subst (λ n. n < length text) e c.if-at-text.true in
    word_cut false text l
    ∙ (ap (λ n. take n text ∷ parted_words false (drop (n + 1) text)) (sym e)
    ∙ ap (λ r. take at text ∷ parted_words false r) (sym (rest_all (at + 1) text)))
