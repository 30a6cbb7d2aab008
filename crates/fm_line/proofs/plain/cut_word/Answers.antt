use Rattle.std.proofs.Common.{◌∙◌, ◌+◌, ◌∷◌, sym, ap, take}
use Rattle.fm_line.specs.Forms.{words}
use Rattle.fm_line.proofs.Cuts.{words_none, words_at}
use Rattle.fm_line.proofs.plain.cut_word.Goals as goal
use Rattle.fm_entry.proofs.Places.{drop_whole}

pub returns-in-None : goal.returns-in-None
returns-in-None c = words_none c.args.line.now (sym c.space_place.ensures ∙ c.in-None.is)

pub returns-in-Some : goal.returns-in-Some
returns-in-Some c =
    words_at c.args.line.now c.in-Some.at (sym c.space_place.ensures ∙ c.in-Some.is)
    ∙ ap (λ rest. take c.in-Some.at c.args.line.now ∷ words rest)
    (sym (drop_whole (c.in-Some.at + 1) c.args.line.now))
