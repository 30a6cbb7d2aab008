use Rattle.std.proofs.Common.{sym, ◌∙◌}
use Rattle.dx_serd.proofs.Decides.{fired_is, cleared_is, pushed_is}
use Rattle.dx_serd.proofs.engine.note_in.Goals as goal

pub returns-then-fired-clause-fired : goal.returns-then-fired-clause-fired
returns-then-fired-clause-fired c =
    fired_is c.args.n c.args.t c.args.moment c.saturating_sub.result c.args.ring.now
    c.push_back-oldest.new.self
    c.has_rate-fired.result c.requires.some c.requires.capacity c.requires.rising c.requires.past
    c.push_back-oldest.ensures.items c.saturating_sub.ensures c.has_rate-fired.ensures

pub returns-then-fired-clause-kept : goal.returns-then-fired-clause-kept
returns-then-fired-clause-kept c =
    cleared_is c.args.n c.args.t c.args.moment c.args.ring.now c.push_back-oldest.new.self
    c.clear.new.self c.push_back-oldest.ensures.items c.clear.ensures
    (sym (returns-then-fired-clause-fired c) ∙ c.if-fired.true)

pub returns-else-fired-clause-fired : goal.returns-else-fired-clause-fired
returns-else-fired-clause-fired c =
    fired_is c.args.n c.args.t c.args.moment c.saturating_sub.result c.args.ring.now
    c.push_back-oldest.new.self
    c.has_rate-fired.result c.requires.some c.requires.capacity c.requires.rising c.requires.past
    c.push_back-oldest.ensures.items c.saturating_sub.ensures c.has_rate-fired.ensures

pub returns-else-fired-clause-kept : goal.returns-else-fired-clause-kept
returns-else-fired-clause-kept c =
    pushed_is c.args.n c.args.t c.args.moment c.args.ring.now c.push_back-oldest.new.self
    c.requires.capacity c.push_back-oldest.ensures.items
    (sym (returns-else-fired-clause-fired c) ∙ c.if-fired.false)
