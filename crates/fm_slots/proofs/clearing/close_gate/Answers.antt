-- The gate was open, or there was none.
use Rattle.std.proofs.Common.{[], ◌∷◌, List, ℕ, Option, Some, ◌∙◌, ap}
use Rattle.std.specs.Option.{option_map}
use Rattle.std.proofs.lemmas.Result.{on_ok_weaker}
use Rattle.fm_outer.specs.Bytes.{written}
use Rattle.fm_slots.proofs.Gates.{cleared_is}
use Rattle.fm_slots.proofs.Filled.{shut_leaves, all_shut, on_two}
use Rattle.fm_slots.proofs.clearing.close_gate.Goals as goal

pub returns-clause-shut : goal.returns-clause-shut
returns-clause-shut g c =
    on_two c.write_through.result _ _ _
    (all_shut g.D.Disk g.met.D.Disk.seen_is_image c.args.disk.now c.write_through.new.disk)
    c.write_through.ensures.written c.write_through.ensures.settled

pub returns-clause-written : goal.returns-clause-written
returns-clause-written g c = λ bytes told.
    on_ok_weaker c.write_through.result
    (λ is. is ∙ ap (λ (o : Option (List ℕ)). option_map (written 0 (0 ∷ [])) o) told
    ∙ ap (λ (l : List ℕ). Some l) (cleared_is bytes (c.requires.open bytes told)))
    c.write_through.ensures.written

pub returns-clause-any_moment : goal.returns-clause-any_moment
returns-clause-any_moment g c =
    shut_leaves g.D.Disk g.met.D.Disk.seen_is_image c.args.disk.now c.write_through.new.disk
    c.requires.open c.write_through.ensures.any_moment
