-- What the tests mean, in the relations of stories.
use Rattle.std.specs.Prelude.{◌≡◌, ◌↔◌, ℕ, Bool, true, List, slice_get}
use Rattle.ev_incidence.specs.Sets.{is_member, ascends}
use Rattle.ev_graph.specs.Kinds.{has_kind}
use Rattle.ev_graph.specs.declared.nodes.NodeKind.{NodeKind}
use Rattle.ev_graph.specs.Lawful.{GraphValue, IsGraph}
use Rattle.dx_sets.specs.Engine.{CutsOf}
use Rattle.dx_explain.specs.Laws.{Explains, IsPending}
use Rattle.fm_core.specs.Meaning.{OpenCase}
use Rattle.dx_explain.specs.Stories.{explains}
use Rattle.dx_explain.specs.Cases.{cuts_of, is_allowed, is_pending, waits, blamed}

-- a root explains what was seen exactly where some story of it has just that as its reports
abbrev pub ExplainsIs : Type 0
ExplainsIs = (g : GraphValue) (cut : CutsOf) (seen : List ℕ) (root : ℕ) → IsGraph g
    → (explains g cut seen root ≡ true) ↔ Explains g cut root (is_member seen)

-- a report is pending exactly where some story, of some root, that has all that was observed and no
-- report but those allowed has it too
abbrev pub PendingIs : Type 0
PendingIs = (g : GraphValue) (c : OpenCase) (time e : ℕ) → IsGraph g
    → (is_pending g time c e ≡ true)
    ↔ IsPending g (cuts_of c) (is_member c.observed) (is_allowed g time c) e

-- a case waits exactly where some report is pending
pub record HasPending (g : GraphValue) (time : ℕ) (c : OpenCase) : Type 0 where
  pub report : ℕ
  pub pending : IsPending g (cuts_of c) (is_member c.observed) (is_allowed g time c) report

abbrev pub WaitsIs : Type 0
WaitsIs = (g : GraphValue) (c : OpenCase) (time : ℕ) → IsGraph g
    → (waits g time c ≡ true) ↔ HasPending g time c

-- the roots of a kind that explain a case are blamed, each once, in order
abbrev pub BlamedIs : Type 0
BlamedIs = (kind : NodeKind → Bool) (g : GraphValue) (c : OpenCase) (e : ℕ) → IsGraph g
    → (is_member (blamed kind g c) e ≡ true)
    ↔ ((has_kind kind (slice_get g.nodes e) ≡ true)
    × Explains g (cuts_of c) e (is_member c.observed))

abbrev pub BlamedAscends : Type 0
BlamedAscends = (kind : NodeKind → Bool) (g : GraphValue) (c : OpenCase)
    → ascends (blamed kind g c) ≡ true
