-- The node at the place has the path and the class.
use Rattle.std.proofs.Common.{◌∙◌, sym, rules}
use Rattle.std.proofs.lemmas.Bool.{not-false}
use Rattle.std.specs.Cmp.Lexicographic.{bytes_decides}
use Rattle.ev_inst.proofs.Numbering.{event_at}
use Rattle.ev_inst.proofs.numbers.find_from.Goals as goal

pub returns-then-eq-clause-event : goal.returns-then-eq-clause-event
returns-then-eq-clause-event c =
    event_at c.args.nodes.now c.loop-at.at c.index-nodes-at.result c.args.class.now
    c.args.path.now (search rules)
    ((bytes_decides _ _).0 (sym c.eq.ensures ∙ c.if-eq.true))
    ((bytes_decides _ _).0 (not-false _ (sym c.ne.ensures ∙ c.if-ne.false)))
