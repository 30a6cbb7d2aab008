-- The body stands behind a gate that isn't open, and then the gate is opened.
use Rattle.std.proofs.Common.{List, ℕ, inl, ◌∙◌, ap}
use Rattle.std.specs.Option.{option_map}
use Rattle.fm_outer.specs.Bytes.{written}
use Rattle.fm_outer.proofs.Moments.{leaves-weaker, leaves-then}
use Rattle.fm_slots.specs.Filling.{IsShutOrFilled}
use Rattle.fm_slots.specs.Format.{IsShut}
use Rattle.fm_slots.proofs.Filled.{open_leaves, all_open, on_two}
use Rattle.fm_slots.proofs.filling.fill.Goals as goal

pub returns-clause-open : goal.returns-clause-open
returns-clause-open g c =
    let laid = c.in_ok-write_body.ensures.written
    ∙ ap (λ (b : List ℕ). option_map (written 1 b) (g.D.Disk.seen c.args.disk.now))
    c.body.ensures.bytes in
    on_two c.write_through.result _ _ _
    (all_open g.D.Disk g.met.D.Disk.seen_is_image c.args.disk.now c.write_body.new.disk
    c.write_through.new.disk c.args.frame.now c.body.ensures.limits c.requires.shut laid)
    c.write_through.ensures.written c.write_through.ensures.settled

pub returns-clause-any_moment : goal.returns-clause-any_moment
returns-clause-any_moment g c =
    let laid = c.in_ok-write_body.ensures.written
    ∙ ap (λ (b : List ℕ). option_map (written 1 b) (g.D.Disk.seen c.args.disk.now))
    c.body.ensures.bytes in
    leaves-then g.D.Disk c.args.disk.now c.write_body.new.disk c.write_through.new.disk
    (IsShutOrFilled c.args.frame.now)
    (leaves-weaker g.D.Disk c.args.disk.now c.write_body.new.disk IsShut
    (IsShutOrFilled c.args.frame.now)
    c.write_body.ensures.any_moment (λ image shut. inl shut))
    (open_leaves g.D.Disk g.met.D.Disk.seen_is_image c.args.disk.now c.write_body.new.disk
    c.write_through.new.disk c.args.frame.now c.body.ensures.limits c.requires.shut laid
    c.write_through.ensures.any_moment)
