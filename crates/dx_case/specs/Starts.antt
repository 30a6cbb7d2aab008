-- What was found for nodes that opened cases.
use Rattle.std.specs.Prelude.{◌≡◌, ◌∷◌, [], ℕ, Some}
use Rattle.std.specs.Ordering.{nat_cmp}
use Rattle.std.specs.BTreeMap.{get}
use Rattle.ev_incidence.specs.Sets.{is_member}
use Rattle.ev_graph.specs.Lawful.{GraphValue}
use Rattle.dx_live.specs.Live.{no_cut, all_allowed}
use Rattle.dx_case.specs.declared.finding.Fresh.{Fresh}
use Rattle.dx_case.specs.declared.starts.Starts.{Starts}
use Rattle.dx_case.specs.Candidates.{AreCandidates}

-- candidates of all roots whose stories have the node, with all reports allowed and no link cut,
-- and the reports that these roots reach
abbrev pub IsFreshOf : GraphValue → ℕ → Fresh → Type 0
IsFreshOf g node f = AreCandidates g no_cut (is_member (node ∷ [])) all_allowed
    f.candidates.items f.reports.items

-- what was found for each node is so in this graph
pub record AreStartsOf (g : GraphValue) (starts : Starts) : Type 0 where
  pub each : (node : ℕ) (f : Fresh) → get nat_cmp starts.found node ≡ Some f → IsFreshOf g node f
