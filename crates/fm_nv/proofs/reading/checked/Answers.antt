-- A list of no pair.
use Rattle.std.proofs.Common.{ap, sym, ◌∙◌}
use Rattle.fm_nv.specs.Spelled.{distinct}
use Rattle.fm_nv.proofs.Places.{none_there}
use Rattle.fm_nv.proofs.reading.checked.Goals as goal

pub returns-then-len-eq0-clause-ok : goal.returns-then-len-eq0-clause-ok
returns-then-len-eq0-clause-ok c =
    let none = none_there c.args.content (sym c.len.ensures.count ∙ c.if-len-eq0.true) in
    (c.new.ensures ∙ sym none, ap distinct c.new.ensures)
