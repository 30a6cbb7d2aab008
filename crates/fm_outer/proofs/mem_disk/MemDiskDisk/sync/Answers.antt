use Rattle.std.proofs.Common.{Some, List, ℕ, sym, ap, ◌∙◌}
use Rattle.fm_outer.specs.Record.{Synced}
use Rattle.fm_outer.proofs.DiskCalls.{on_ok, does-place, sync-content, sync-no_more, sync-durable}
use Rattle.fm_outer.proofs.DiskCalls.{called-time}
use Rattle.fm_outer.proofs.mem_disk.MemDiskDisk.sync.Goals as goal

pub invariant_of-self : goal.invariant_of-self
invariant_of-self c =
    let is = sync-content c.self.inside.base.items c.self.inside.tape c.note_sync.new.self
    c.does-done.result c.note_sync.ensures in
    (c.self.invariant.0 ∙ sym is, c.self.invariant.1)

pub returns-clause-durable : goal.returns-clause-durable
returns-clause-durable c =
    let full = rw (← c.self.view_is) at
    (does-place 1 c.args.self.now c.does-done.result c.does-done.ensures) in
    rw (← c.self.view_is) (on_ok c.answer.result c.does-done.result _ c.answer.ensures.answer
    (sync-durable c.self.inside.base.items c.self.inside.tape c.note_sync.new.self
    c.does-done.result c.note_sync.ensures full))

pub returns-clause-same : goal.returns-clause-same
returns-clause-same c =
    let is = sync-content c.self.inside.base.items c.self.inside.tape c.note_sync.new.self
    c.does-done.result c.note_sync.ensures in
    rw (← c.self.view_is) (ap (λ (l : List ℕ). Some l) is)

pub returns-clause-crash : goal.returns-clause-crash
returns-clause-crash c =
    rw (← c.self.view_is)
    (sync-no_more c.self.inside.base.items c.self.inside.tape c.note_sync.new.self
    c.does-done.result c.note_sync.ensures)

pub returns-clause-time : goal.returns-clause-time
returns-clause-time c =
    rw (← c.self.view_is)
    (called-time c.self.inside.base.items c.self.inside.tape c.note_sync.new.self
    (Synced c.does-done.result) c.note_sync.ensures)
