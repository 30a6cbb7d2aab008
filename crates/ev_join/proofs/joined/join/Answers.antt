use Rattle.std.proofs.Common.{subst, sym, ◌∙◌}
use Rattle.ev_join.specs.Candidates.{AreAllCandidates}
use Rattle.ev_join.proofs.Collecting.{none_all}
use Rattle.ev_join.proofs.joined.join.Goals as goal

pub returns-then-not-have_rows-clause-all : goal.returns-then-not-have_rows-clause-all
returns-then-not-have_rows-clause-all c =
    subst (AreAllCandidates c.args.tables.now c.args.count)
    (sym (c.new-bindings.ensures ∙ c.new.ensures.items))
    (none_all c.args.tables.now c.args.count c.if-not-have_rows.ensures)
