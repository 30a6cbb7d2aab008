-- Words that are written as a record's are the record's.
use Rattle.std.proofs.Common.{rules}
use Rattle.fm_retrace.proofs.Said.{written_alike}
use Rattle.fm_retrace.proofs.words.are_words_of.Goals as goal

pub returns-clause-yes : goal.returns-clause-yes
returns-clause-yes c = λ same.
    written_alike c.args.words.items c.args.record.now c.new.result
    c.write_spoken.new.out.items c.write_spoken-2.new.out.items c.eq.result c.requires.spelled
    (search rules) (search rules) (search rules) c.new.ensures (search rules) (search rules)
    c.eq.ensures same
