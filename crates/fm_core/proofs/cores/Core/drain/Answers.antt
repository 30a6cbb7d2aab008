use Rattle.std.proofs.Common.{◌≡◌, ◌∙◌, length}
use Rattle.fm_core.specs.Seen.{Seen, seen}
use Rattle.fm_core.proofs.Draining.{drain_turn, drained_all, modules_drained, only_both}
use Rattle.fm_core.proofs.cores.Core.drain.Goals as goal

pub turns-preserved : goal.turns-preserved
turns-preserved g c =
    let size : c.len-turn-end.result ≡ length c.args.self.now.entries =
    rw (← c.self.view_is) (c.len-turn-end.ensures ∙ c.self.inside.entries.ok.0) in
    drain_turn (seen g.M.Module c.args.self.now) (seen g.M.Module c.turns.self)
    (seen g.M.Module c.work_each.new.self) c.turns._turn c.len-turn-end.result c.turns.invariant.0
    c.turns.invariant.1 c.turns-test.true size c.work_each.ensures.worked
    c.in_ok-work_each.ensures.on

pub returns-clause-done : goal.returns-clause-done
returns-clause-done g c =
    let size : c.len-turn-end.result ≡ length c.args.self.now.entries =
    rw (← c.self.view_is) (c.len-turn-end.ensures ∙ c.self.inside.entries.ok.0) in
    drained_all (seen g.M.Module c.args.self.now) (seen g.M.Module c.turns.self)
    c.turns._turn c.len-turn-end.result c.turns.invariant.0 c.turns.invariant.1 c.turns-test.false
    size

pub returns-clause-modules : goal.returns-clause-modules
returns-clause-modules g c =
    let size : c.len-turn-end.result ≡ length c.args.self.now.entries =
    rw (← c.self.view_is) (c.len-turn-end.ensures ∙ c.self.inside.entries.ok.0) in
    let old : Seen = seen g.M.Module c.args.self.now in
    let now : Seen = seen g.M.Module c.turns.self in
    modules_drained old now c.turns.invariant.0
    (drained_all old now c.turns._turn c.len-turn-end.result c.turns.invariant.0
    c.turns.invariant.1 c.turns-test.false size)

pub returns-in_err-work_each-clause-worked : goal.returns-in_err-work_each-clause-worked
returns-in_err-work_each-clause-worked g c =
    only_both (seen g.M.Module c.args.self.now) (seen g.M.Module c.turns.self)
    (seen g.M.Module c.work_each.new.self) c.turns.invariant.0 c.work_each.ensures.worked
