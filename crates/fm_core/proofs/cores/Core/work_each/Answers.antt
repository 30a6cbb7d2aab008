use Rattle.std.proofs.Common.{◌≡◌, ◌∙◌, length, sym}
use Rattle.std.proofs.lemmas.List.{length-map}
use Rattle.fm_core.specs.Hands.{shown}
use Rattle.fm_core.specs.Seen.{seen}
use Rattle.fm_core.proofs.Draining.{comes_to_none, comes_to_next, comes_to_all, only_same}
use Rattle.fm_core.proofs.cores.Core.work_each.Goals as goal

pub modules-init : goal.modules-init
modules-init g c = (
  only_same (seen g.M.Module c.args.self.now) c.requires,
  comes_to_none (seen g.M.Module c.args.self.now),
)

pub modules-preserved : goal.modules-preserved
modules-preserved g c =
    comes_to_next (seen g.M.Module c.args.self.now) (seen g.M.Module c.modules.self)
    (seen g.M.Module c.work_at.new.self) c.modules.at c.modules.invariant.0 c.modules.invariant.1
    c.in_ok-work_at.ensures.lawful
    (length-map c.work_at.new.self.hands (shown g.M.Module) ∙ c.in_ok-work_at.ensures.modules
    ∙ sym (length-map c.modules.self.hands (shown g.M.Module)))
    c.in_ok-work_at.ensures.worked

pub returns-clause-on : goal.returns-clause-on
returns-clause-on g c =
    let size : c.len-at-end.result ≡ length c.args.self.now.hands =
    rw (← c.self.view_is) (c.len-at-end.ensures ∙ c.self.inside.hands.ok.0) in
    comes_to_all (seen g.M.Module c.args.self.now) (seen g.M.Module c.modules.self) c.modules.at
    c.len-at-end.result c.modules.invariant.0 c.modules.invariant.1 c.modules-test.false
    (size ∙ sym (length-map c.args.self.now.hands (shown g.M.Module)))
