use Rattle.fm_top.specs.Calls.{outside_of}
use Rattle.fm_top_laws.proofs.Runs.{valid_done}
use Rattle.fm_top_laws.proofs.laws.valid_runs_are_done.Goals as goal

pub returns : goal.returns
returns g c act words old new out out_now status =
    valid_done words (outside_of g.S.Source g.K.Sink g.D.Disk act old out)
    (outside_of g.S.Source g.K.Sink g.D.Disk act new out_now) status
