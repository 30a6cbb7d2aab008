use Rattle.std.proofs.Common.{◌∙◌, sym}
use Rattle.std.proofs.lemmas.List.{length-map}
use Rattle.fm_core.specs.Hands.{shown}
use Rattle.fm_core.specs.Seen.{seen}
use Rattle.fm_core.proofs.Draining.{only_after}
use Rattle.fm_core.proofs.cores.Core.work.Goals as goal

pub returns-clause-only : goal.returns-clause-only
returns-clause-only g c =
    only_after c.work_at.result (seen g.M.Module c.args.self.now)
    (seen g.M.Module c.work_at.new.self)
    c.args.module c.requires.lawful c.work_at.ensures.lawful
    (length-map c.work_at.new.self.hands (shown g.M.Module) ∙ c.work_at.ensures.modules
    ∙ sym (length-map c.args.self.now.hands (shown g.M.Module)))
    c.work_at.ensures.worked c.work_at.ensures.err
