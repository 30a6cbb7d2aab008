-- The bytes are the payload's frame, which has five bytes more.
use Rattle.std.proofs.Common.{length, ◌∙◌, ap}
use Rattle.fm_journal.specs.Format.{framed}
use Rattle.fm_journal.proofs.Records.{length-framed}
use Rattle.fm_journal.proofs.frame.Frame.body.Goals as goal

pub returns-clause-size : goal.returns-clause-size
returns-clause-size c =
    ap length (c.deref.ensures.value ∙ c.self.invariant.0 ∙ ap framed c.self.view_is)
    ∙ length-framed c.args.self.now
