-- What a diagnosis module says of a case.
use Rattle.std.specs.Prelude.{ℕ, Bool, false, List, [], ◌∷◌, map, nat_lt}
use Rattle.std.specs.Prelude.{slice_get}
use Rattle.std.specs.List.{cons_option}
use Rattle.fm_name.specs.declared.events.EventName.{EventName}
use Rattle.fm_entry.specs.declared.suspect.Mark.TheVariants.{Present}
use Rattle.fm_entry.specs.declared.suspect.Suspect.{Suspect}
use Rattle.fm_entry.specs.declared.list_event.ListKind.{ListKind}
use Rattle.fm_entry.specs.declared.list_event.ListEvent.{ListEvent}
use Rattle.fm_core.specs.Meaning.{OpenCase, Diagnosis}
use Rattle.ev_graph.specs.Lawful.{GraphValue}
use Rattle.ev_graph.specs.declared.nodes.Node.{Node}
use Rattle.ev_graph.specs.declared.nodes.NodeKind.{NodeKind}
use Rattle.ev_graph.specs.declared.nodes.NodeKind.TheVariants.{Fault, Defect}
use Rattle.dx_explain.specs.Cases.{inserted}
use Rattle.dx_step.specs.Certainty.{certainties}

-- the nodes of these numbers
abbrev pub nodes_of : GraphValue → List ℕ → List Node
nodes_of g [] = []
nodes_of g (e ∷ es) = cons_option (slice_get g.nodes e) (nodes_of g es)

-- the names of these nodes
abbrev pub event_names : GraphValue → List ℕ → List EventName
event_names g es = map (λ node. node.name) (nodes_of g es)

-- the rate of a fault or defect: its failures in a billion hours
abbrev pub failures_of : NodeKind → ℕ
failures_of (Fault fit retire) = fit
failures_of (Defect fit retire) = fit
failures_of _ = 0

-- whether its resource is to be retired
abbrev pub retires : NodeKind → Bool
retires (Fault fit retire) = retire
retires (Defect fit retire) = retire
retires _ = false

-- a suspect that is present
abbrev pub suspect_at : Node → ℕ → Suspect
suspect_at node certainty = record {
  class = node.name.class;
  path = node.name.path;
  certainty = certainty;
  retire = retires node.kind;
  mark = Present;
}

abbrev pub suspects_with : List Node → List ℕ → List Suspect
suspects_with (node ∷ nodes) (p ∷ ps) = suspect_at node p ∷ suspects_with nodes ps
suspects_with _ _ = []

-- the suspects that these nodes are, each as certain as its rate says
abbrev pub suspects_of : List Node → List Suspect
suspects_of nodes = suspects_with nodes (certainties (map (λ node. failures_of node.kind) nodes))

-- the same without certainties
abbrev pub upsets_named : List Node → List Suspect
upsets_named nodes = map (λ node. suspect_at node 0) nodes

-- a word on a case, at the module's time and in its configuration
abbrev pub word_on : ℕ → GraphValue → Diagnosis → ListKind → OpenCase → List Suspect → ListEvent
word_on own g s kind c suspects = record {
  kind = kind;
  case = record { «module» = own; case = c.number };
  moment = s.time;
  conf = s.conf;
  observed = event_names g c.observed;
  suspects = suspects;
  broken = c.broken;
}

-- the word of a solved case among those of others, by number
abbrev pub with_last_word : ListEvent → List ListEvent → List ListEvent
with_last_word w ws = inserted (λ a b. nat_lt a.case.case b.case.case) w ws
