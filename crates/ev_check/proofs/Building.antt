-- The file that the lists of a tree's statements make.
use Rattle.std.proofs.Common.{◌≡◌, List, map, filter_map, ap, ◌∙◌}
use Rattle.ev_tree.specs.declared.tree.Declared.{Declared}
use Rattle.ev_tree.specs.declared.tree.Statement.{Statement}
use Rattle.ev_check.specs.declared.checked.EventSpec.{EventSpec}
use Rattle.ev_check.specs.declared.checked.SerdSpec.{SerdSpec}
use Rattle.ev_check.specs.declared.checked.PropSpec.{PropSpec}
use Rattle.ev_check.specs.CheckedFile.{IsFileOf, event_spec, serd_spec, linking, view_prop}
use Rattle.ev_check.specs.Declarations.{events_in, engines_in}

pub built : (ss : List Statement) (declared rated : List Declared) (events : List EventSpec)
    (engines : List SerdSpec) (props : List PropSpec)
    → declared ≡ events_in ss → rated ≡ engines_in ss
    → events ≡ filter_map (event_spec rated) ss → engines ≡ filter_map (serd_spec declared) ss
    → map view_prop props ≡ filter_map linking ss
    → IsFileOf ss (record { events = events; engines = engines; props = props })
built ss declared rated events engines props a b e f g = record {
  events_are = e ∙ ap (λ ds. filter_map (event_spec ds) ss) b;
  engines_are = f ∙ ap (λ ds. filter_map (serd_spec ds) ss) a;
  props_are = g;
}
