-- The parts of an open store.
use Rattle.fm_store.specs.Opened.{OpenedOf}
use Rattle.fm_store.specs.declared.adopting.Beside.{Beside}

-- an open store without its fault log, its entries and its states
abbrev pub beside_of : {D : Type 0} → OpenedOf D → Beside D
beside_of o = record {
  conf = o.conf;
  active = o.active;
  spare = o.spare;
  slot_a = o.slot_a;
  slot_b = o.slot_b;
  second = o.checkpoint.second;
  newest = o.newest;
  base = o.checkpoint.base;
  moment = o.checkpoint.moment;
  in_force = o.checkpoint.conf;
}
