use Rattle.std.proofs.Common.{sym, ◌∙◌}
use Rattle.fm_topo.proofs.Meanings.{word_added}
use Rattle.fm_topo.proofs.entries.add_word.Goals as goal

pub returns-in_ok-insert-in-Some-clause-put : goal.returns-in_ok-insert-in-Some-clause-put
returns-in_ok-insert-in-Some-clause-put c = λ _.
    word_added c.args.word.now c.in-Some.name c.in-Some.value c.args.map.now.entries
    c.insert.new.self.entries
    (sym c.in-Some.is ∙ c.in_ok-name.ensures) c.in_ok-insert-in-Some.ensures.entries
