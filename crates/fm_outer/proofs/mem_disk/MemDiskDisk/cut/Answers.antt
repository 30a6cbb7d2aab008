use Rattle.std.proofs.Common.{Some, List, ℕ, ap}
use Rattle.fm_outer.proofs.DiskCalls.{on_ok, does-place, cut-content, cut-follows}
use Rattle.fm_outer.proofs.mem_disk.MemDiskDisk.cut.Goals as goal

pub invariant_of-self : goal.invariant_of-self
invariant_of-self c =
    let full = rw (← c.self.view_is) at
    (does-place 1 c.args.self.now c.does-done.result c.does-done.ensures) in
    let is = cut-content c.self.inside.base.items c.self.inside.tape c.note_cut.new.self c.args.len
    c.does-done.result c.note_cut.ensures full in (
      rw (is, ← c.self.invariant.0) c.cut_if.ensures.items,
      rw c.cut_if.ensures.capacity c.self.invariant.1,
    )

pub returns-clause-shorter : goal.returns-clause-shorter
returns-clause-shorter c =
    let full = rw (← c.self.view_is) at
    (does-place 1 c.args.self.now c.does-done.result c.does-done.ensures) in
    let is = cut-content c.self.inside.base.items c.self.inside.tape c.note_cut.new.self c.args.len
    c.does-done.result c.note_cut.ensures full in
    rw (← c.self.view_is)
    (on_ok c.answer.result c.does-done.result _ c.answer.ensures.answer
    (λ did. ap (λ (l : List ℕ). Some l) (rw did at is)))

pub returns-clause-crash : goal.returns-clause-crash
returns-clause-crash c =
    rw (← c.self.view_is)
    (cut-follows c.self.inside.base.items c.self.inside.tape c.note_cut.new.self c.args.len
    c.does-done.result c.note_cut.ensures)
