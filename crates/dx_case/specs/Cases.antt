-- What a case is: an open case at a time, or finished.
use Rattle.std.specs.Prelude.{◌≡◌, ◌-◌, ℕ, Bool, true, false, List, map}
use Rattle.std.specs.Prelude.{Option, Some, None, ◌≤◌, ◌<◌, length}
use Rattle.std.specs.List.{list_all, list_any, filter}
use Rattle.ev_incidence.specs.Sets.{NodeSet, is_member, ascends, ascends_by}
use Rattle.ev_graph.specs.Kinds.{is_report_node}
use Rattle.ev_graph.specs.Cutting.{is_before_link}
use Rattle.ev_graph.specs.Lawful.{GraphValue, IsGraph}
use Rattle.fm_core.specs.Meaning.{OpenCase}
use Rattle.dx_explain.specs.Cases.{is_allowed, waits, takes_report, broken_of, cuts_of}
use Rattle.dx_explain.specs.Cases.{Verdict, Solving, Upsetting, Unexplained}
use Rattle.ev_graph.specs.declared.nodes.Node.{Node}
use Rattle.ev_graph.specs.declared.instances.Link.{Link}
use Rattle.dx_case.specs.declared.candidate.Candidate.{Candidate}
use Rattle.dx_case.specs.Changes.{node_within, AreChanged}
use Rattle.dx_case.specs.Candidates.{AreCandidates, covers, is_left}
use Rattle.dx_case.specs.declared.case.Case.{Case}
use Rattle.dx_case.specs.declared.outcome.Outcome.{Outcome}
use Rattle.dx_case.specs.declared.outcome.Outcome.TheVariants.{Solved, Upset, Undiagnosable}

-- its number, when it was opened, its entries, what was observed, and the broken links
abbrev pub open_of : Case → OpenCase
open_of c = record {
  number = c.number;
  opened = c.opened;
  entries = c.entries.items;
  observed = c.observed.items;
  broken = map broken_of c.broken.items;
}

-- the moment that it has come to, none once it is finished
abbrev pub time_of : Case → Option ℕ
time_of c = c.time

-- what is allowed at a time, and once the case is finished: what was observed alone
abbrev pub allowed_at : GraphValue → Option ℕ → OpenCase → NodeSet
allowed_at g None c = is_member c.observed
allowed_at g (Some time) c = is_allowed g time c

-- some report is pending; none is once the case is finished
abbrev pub waits_at : GraphValue → Option ℕ → OpenCase → Bool
waits_at g None c = false
waits_at g (Some time) c = waits g time c

-- a report of the node joins the case
abbrev pub takes_at : GraphValue → Option ℕ → ℕ → OpenCase → Bool
takes_at g None node c = is_member c.observed node
takes_at g (Some time) node c = takes_report g time node c

-- the moment that it has come to is not after this one
abbrev pub IsBefore : Option ℕ → ℕ → Type 0
IsBefore None moment = ⊥
IsBefore (Some time) moment = time ≤ moment

-- at a later moment the same is pending as at the one that the case has come to
pub record StaysSame (g : GraphValue) (c : OpenCase) (time : Option ℕ) (moment : ℕ) : Type 0 where
  pub waits : waits_at g (Some moment) c ≡ waits_at g time c
  pub takes : (node : ℕ) → takes_at g (Some moment) node c ≡ takes_at g time node c

-- an outcome, as a verdict
abbrev pub told : Outcome → Verdict
told (Solved xs) = Solving xs.items
told (Upset xs) = Upsetting xs.items
told Undiagnosable = Unexplained

-- each of these reports whose window is not over at the age `now` is awaited until another age
pub record AreAwaited (nodes : List Node) (reports : List ℕ) (now until : ℕ) : Type 0 where
  pub each : (e : ℕ) → is_member reports e ≡ true → now ≤ node_within nodes e
      → until ≤ node_within nodes e

abbrev pub AreAwaitedAt : List Node → List ℕ → ℕ → ℕ → Option ℕ → Type 0
AreAwaitedAt nodes reports opened until None = Unit {0}
AreAwaitedAt nodes reports opened until (Some time) = AreAwaited nodes reports (time - opened) until

-- what a case keeps
pub record CaseParts : Type 0 where
  pub number : ℕ
  pub opened : ℕ
  pub time : Option ℕ
  pub until : ℕ
  pub entries : List ℕ
  pub observed : List ℕ
  pub broken : List Link
  pub candidates : List Candidate
  pub reports : List ℕ
  pub waiting : Bool

abbrev pub case_parts : Case → CaseParts
case_parts c = record {
  number = c.number;
  opened = c.opened;
  time = c.time;
  until = c.until;
  entries = c.entries.items;
  observed = c.observed.items;
  broken = c.broken.items;
  candidates = c.candidates.items;
  reports = c.reports.items;
  waiting = c.waiting;
}

abbrev pub open_case : CaseParts → OpenCase
open_case p = record {
  number = p.number;
  opened = p.opened;
  entries = p.entries;
  observed = p.observed;
  broken = map broken_of p.broken;
}

-- what a case keeps is right in this graph
pub record IsCase (g : GraphValue) (p : CaseParts) : Type 0 where
  pub graph : IsGraph g
  pub observed_ascend : ascends p.observed ≡ true
  pub observed_are : list_all (is_report_node g.nodes) p.observed ≡ true
  pub broken_ascend : ascends_by is_before_link p.broken ≡ true
  pub candidates : AreCandidates g (cuts_of (open_case p)) (is_member p.observed)
      (allowed_at g p.time (open_case p)) p.candidates p.reports
  pub kept : list_all (covers p.observed) p.candidates ≡ true
  pub waiting : p.waiting ≡ list_any (is_left p.candidates p.observed) p.reports
  pub awaited : AreAwaitedAt g.nodes p.reports p.opened p.until p.time

-- the case was made in this graph
abbrev pub IsCaseOf : GraphValue → Case → Type 0
IsCaseOf g c = IsCase g (case_parts c)

-- the case as it is opened: it has some reports of the graph, and broken links, both in order, and
-- no moment has come since
pub record IsCaseOpened (g : GraphValue) (c : Case) : Type 0 where
  pub some : 0 < length c.observed.items
  pub observed_ascend : ascends c.observed.items ≡ true
  pub observed_are : list_all (is_report_node g.nodes) c.observed.items ≡ true
  pub broken_ascend : ascends_by is_before_link c.broken.items ≡ true
  pub time : c.time ≡ Some c.opened
  pub until : c.until ≡ 0

-- links were cut of all sets and reports went; the lost candidates were dropped, and it was looked
-- whether some report is pending
pub record IsCaseSettled (g : GraphValue) (links : List Link) (gone : NodeSet) (old new : Case) :
    Type 0
  where
    pub mid : List Candidate
    pub changed : AreChanged g links gone old.candidates.items mid
    pub kept : new.candidates.items ≡ filter (covers old.observed.items) mid
    pub waiting : new.waiting
        ≡ list_any (is_left new.candidates.items old.observed.items) old.reports.items

-- all but the candidates, and whether some report is pending, is as it was
pub record IsSameBut (old new : Case) : Type 0 where
  pub open_same : open_of new ≡ open_of old
  pub time : new.time ≡ old.time
  pub until : new.until ≡ old.until
  pub opened : new.opened ≡ old.opened
  pub observed : new.observed.items ≡ old.observed.items
  pub broken : new.broken.items ≡ old.broken.items
  pub reports : new.reports.items ≡ old.reports.items
