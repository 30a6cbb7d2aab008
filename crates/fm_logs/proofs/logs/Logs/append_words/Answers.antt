-- What was said stands at the end of the fault log.
use Rattle.std.proofs.Common.{rules, refl}
use Rattle.fm_logs.proofs.Logged.{keeps_said, words_leave}
use Rattle.fm_logs.proofs.logs.Logs.append_words.Goals as goal

pub returns-in-Ok-clause-keeps : goal.returns-in-Ok-clause-keeps
returns-in-Ok-clause-keeps g c =
    rw (← c.self.view_is) (λ done older records said frames keep.
    keeps_said g.D.Disk _ c.append.new.self _ _ (search rules) (c.in-Ok.ensures.list refl) older
    records said frames keep)

pub returns-in-Ok-clause-any_moment : goal.returns-in-Ok-clause-any_moment
returns-in-Ok-clause-any_moment g c =
    rw (← c.self.view_is) (λ older records said frames keep.
    words_leave g.D.Disk _ c.append.new.self.disk _ _ (search rules) c.append.ensures.any_moment
    older records said frames keep)

pub returns-in-Err-Full-clause-any_moment : goal.returns-in-Err-Full-clause-any_moment
returns-in-Err-Full-clause-any_moment g c =
    rw (← c.self.view_is) (λ older records said frames keep.
    words_leave g.D.Disk _ c.append.new.self.disk _ _ (search rules) c.append.ensures.any_moment
    older records said frames keep)

pub returns-in-Err-Disk-clause-any_moment : goal.returns-in-Err-Disk-clause-any_moment
returns-in-Err-Disk-clause-any_moment g c =
    rw (← c.self.view_is) (λ older records said frames keep.
    words_leave g.D.Disk _ c.append.new.self.disk _ _ (search rules) c.append.ensures.any_moment
    older records said frames keep)
