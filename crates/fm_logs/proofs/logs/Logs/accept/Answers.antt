-- The entry stands at the end of the active journal.
use Rattle.std.proofs.Common.{rules, refl}
use Rattle.fm_logs.proofs.Logged.{takes_entry, taken_sound, entry_leaves}
use Rattle.fm_logs.specs.LogsLimits.{logs_of}
use Rattle.fm_logs.proofs.logs.Logs.accept.Goals as goal

pub invariant_of-self-in-Ok : goal.invariant_of-self-in-Ok
invariant_of-self-in-Ok g c =
    taken_sound g.D.Disk
    (logs_of c.self.inside.active c.self.inside.flt c.self.inside.second c.self.inside.base
    c.self.inside.entries.items c.self.inside.cursors.items c.self.inside.closed)
    c.append.new.self c.push.new.self.items c.args.entry c.in-Ok.number _ _ c.self.invariant
    (search rules) c.requires.spelled (search rules) refl c.in-Ok.ensures.refused
    c.in-Ok.ensures.done

pub returns-in-Ok-clause-does : goal.returns-in-Ok-clause-does
returns-in-Ok-clause-does g c =
    rw (← c.self.view_is)
    (takes_entry g.D.Disk _ c.append.new.self c.push.new.self.items c.args.entry c.in-Ok.number _ _
    c.self.invariant (search rules) c.requires.spelled c.in_ok-frame.ensures.ok
    c.in_ok-frame.ensures.short (search rules) (search rules) refl c.in-Ok.ensures.refused
    c.in-Ok.ensures.done (c.in-Ok.ensures.list refl) c.in-Ok.ensures.count_kept)

pub returns-in-Ok-clause-any_moment : goal.returns-in-Ok-clause-any_moment
returns-in-Ok-clause-any_moment g c =
    rw (← c.self.view_is) (λ older records keep.
    entry_leaves g.D.Disk _ c.append.new.self.disk c.args.entry _ c.requires.spelled
    c.in_ok-frame.ensures.ok c.append.ensures.any_moment older records keep)

pub returns-in-Err-Full-clause-any_moment : goal.returns-in-Err-Full-clause-any_moment
returns-in-Err-Full-clause-any_moment g c =
    rw (← c.self.view_is) (λ older records keep.
    entry_leaves g.D.Disk _ c.append.new.self.disk c.args.entry _ c.requires.spelled
    c.in_ok-frame.ensures.ok c.append.ensures.any_moment older records keep)

pub returns-in-Err-Disk-clause-any_moment : goal.returns-in-Err-Disk-clause-any_moment
returns-in-Err-Disk-clause-any_moment g c =
    rw (← c.self.view_is) (λ older records keep.
    entry_leaves g.D.Disk _ c.append.new.self.disk c.args.entry _ c.requires.spelled
    c.in_ok-frame.ensures.ok c.append.ensures.any_moment older records keep)
