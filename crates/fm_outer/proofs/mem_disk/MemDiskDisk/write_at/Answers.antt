use Rattle.std.proofs.Common.{Some, List, ℕ, length, refl, ap, arith}
use Rattle.fm_outer.specs.Record.{Wrote}
use Rattle.fm_outer.proofs.DiskCalls.{on_ok, does_write-place, write-content, write-follows}
use Rattle.fm_outer.proofs.DiskCalls.{called-time}
use Rattle.fm_outer.proofs.mem_disk.MemDiskDisk.write_at.Goals as goal

pub invariant_of-self : goal.invariant_of-self
invariant_of-self c =
    let full = rw (← c.self.view_is) at
    (does_write-place c.args.at (length c.args.bytes.now) c.args.self.now
    c.does_write-done.result c.does_write-done.ensures) in
    let inside = rw (← c.self.view_is) at (c.requires _ refl) in
    let is = write-content c.self.inside.base.items c.self.inside.tape c.note_write.new.self
    c.args.at c.args.bytes.now c.does_write-done.result c.note_write.ensures full inside in (
      rw (is, ← c.self.invariant.0) c.write_if.ensures.items,
      omega (arith, c.self.invariant.1, c.write_if.ensures.capacity),
    )

pub returns-clause-written : goal.returns-clause-written
returns-clause-written c =
    let full = rw (← c.self.view_is) at
    (does_write-place c.args.at (length c.args.bytes.now) c.args.self.now
    c.does_write-done.result c.does_write-done.ensures) in
    let inside = rw (← c.self.view_is) at (c.requires _ refl) in
    let is = write-content c.self.inside.base.items c.self.inside.tape c.note_write.new.self
    c.args.at c.args.bytes.now c.does_write-done.result c.note_write.ensures full inside in
    rw (← c.self.view_is)
    (on_ok c.answer.result c.does_write-done.result _ c.answer.ensures.answer
    (λ did. ap (λ (l : List ℕ). Some l) (rw did at is)))

pub returns-clause-crash : goal.returns-clause-crash
returns-clause-crash c =
    rw (← c.self.view_is)
    (write-follows c.self.inside.base.items c.self.inside.tape c.note_write.new.self c.args.at
    c.args.bytes.now c.does_write-done.result c.note_write.ensures)

pub returns-clause-time : goal.returns-clause-time
returns-clause-time c =
    rw (← c.self.view_is)
    (called-time c.self.inside.base.items c.self.inside.tape c.note_write.new.self
    (Wrote c.args.at c.args.bytes.now c.does_write-done.result) c.note_write.ensures)
