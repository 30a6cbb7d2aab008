-- The words at small graphs, computed.
use Rattle.std.specs.Prelude.{◌≡◌, [], ◌∷◌, ℕ, true, false, List, refl}
use Rattle.ev_graph.specs.Lawful.{GraphValue}
use Rattle.ev_graph.specs.declared.nodes.Node.{Node}
use Rattle.ev_graph.specs.declared.nodes.NodeKind.{NodeKind}
use Rattle.ev_graph.specs.declared.nodes.NodeKind.TheVariants.{Fault, Inner, Report}
use Rattle.ev_graph.specs.declared.instances.Instance.{Instance}
use Rattle.ev_graph.specs.declared.instances.Link.{Link}
use Rattle.fm_core.specs.Meaning.{OpenCase}
use Rattle.dx_explain.specs.Search.{some_below, every_below, numbers_below, some_set}
use Rattle.dx_explain.specs.Stories.{is_story, explains, comes_from}
use Rattle.dx_explain.specs.Cases.{waits, blamed, Solving, Unexplained, verdict_of}
use Rattle.dx_explain.specs.Cases.{case_opened, case_joined}

node : NodeKind → Node
node kind = record { name = record { class = []; path = [] }; kind = kind }

leads : List ℕ → List ℕ → ℕ → ℕ → Instance
leads causes effects n k = record { causes = causes; effects = effects; n = n; k = k }

link : ℕ → ℕ → Link
link instance effect = record { instance = instance; effect = effect }

-- A cpu: the reports 0 and 1, awaited for 5, and the faults 2 and 3. The fault 3 shows the report
-- 0, and the fault 2 shows n of both.
cpu : ℕ → GraphValue
cpu n = record {
  nodes = node (Report 5) ∷ node (Report 5) ∷ node (Fault 200 true) ∷ node (Fault 100 true) ∷ [];
  engines = [];
  instances = leads (3 ∷ []) (0 ∷ []) 1 1 ∷ leads (2 ∷ []) (0 ∷ 1 ∷ []) n 1 ∷ [];
}

one_report : OpenCase
one_report = case_opened 0 0 10 7 []

-- the report 1 may still come at the end of its window, and not later
waits_in_window : waits (cpu 0) 15 one_report ≡ true
unfolding cpu node leads one_report waits comes_from is_story some_below every_below some_set
waits_in_window = refl

waits_no_longer : waits (cpu 0) 16 one_report ≡ false
unfolding cpu node leads one_report waits comes_from is_story some_below every_below some_set
waits_no_longer = refl

-- either fault explains the one report
solved_by_both : verdict_of (cpu 0) one_report ≡ Solving (2 ∷ 3 ∷ [])
unfolding cpu node leads one_report blamed explains is_story some_below every_below some_set
    numbers_below
solved_by_both = refl

-- the other report decides: it joins, nothing is pending, and one fault explains both
waits_for_none : waits (cpu 0) 12 (case_joined 1 8 [] one_report) ≡ false
unfolding cpu node leads one_report waits comes_from is_story some_below every_below some_set
waits_for_none = refl

solved_by_one : verdict_of (cpu 0) (case_joined 1 8 [] one_report) ≡ Solving (2 ∷ [])
unfolding cpu node leads one_report blamed explains is_story some_below every_below some_set
    numbers_below
solved_by_one = refl

-- a fault that must show both reports doesn't explain one of them
solved_where_both_must_show : verdict_of (cpu 2) one_report ≡ Solving (3 ∷ [])
unfolding cpu node leads one_report blamed explains is_story some_below every_below some_set
    numbers_below
solved_where_both_must_show = refl

-- A fan: the reports 0 and 1, the errors 2 and 3, and the fault 4. The fault leads to the error 2,
-- and both errors together to the report 0.
fan : List Instance → GraphValue
fan more = record {
  nodes =
      node (Report 0) ∷ node (Report 0) ∷ node Inner ∷ node Inner ∷ node (Fault 1 true) ∷ [];
  engines = [];
  instances = leads (4 ∷ []) (2 ∷ []) 1 1 ∷ leads (2 ∷ 3 ∷ []) (0 ∷ []) 1 2 ∷ more;
}

-- one of two causes is not enough
unexplained_by_one_cause : verdict_of (fan []) (case_opened 0 0 1 0 []) ≡ Unexplained
unfolding fan node leads blamed explains is_story some_below every_below some_set numbers_below
unexplained_by_one_cause = refl

solved_by_both_causes :
    verdict_of (fan (leads (4 ∷ []) (3 ∷ []) 1 1 ∷ [])) (case_opened 0 0 1 0 []) ≡ Solving (4 ∷ [])
unfolding fan node leads blamed explains is_story some_below every_below some_set numbers_below
solved_by_both_causes = refl

-- the error 2 must show the report 0, which has one of its two causes alone
unexplained_where_more_must_show :
    verdict_of (fan (leads (2 ∷ []) (1 ∷ []) 0 1 ∷ [])) (case_opened 0 1 1 0 []) ≡ Unexplained
unfolding fan node leads blamed explains is_story some_below every_below some_set numbers_below
unexplained_where_more_must_show = refl

-- A payload breaks the link of the instance 1 and the report 0: the fault 2 doesn't lead to it
-- then.
links : GraphValue
links = record {
  nodes = node (Report 0) ∷ node (Report 5) ∷ node (Fault 200 true) ∷ node (Fault 100 true) ∷ [];
  engines = [];
  instances =
      leads (3 ∷ []) (0 ∷ []) 1 1 ∷ leads (2 ∷ []) (0 ∷ []) 1 1 ∷ leads (2 ∷ []) (1 ∷ []) 0 1 ∷ [];
}

waits_for_the_next : waits links 10 (case_opened 0 0 10 0 []) ≡ true
unfolding links node leads waits comes_from is_story some_below every_below some_set
waits_for_the_next = refl

waits_for_none_once_broken :
    waits links 11 (case_joined 0 1 (link 1 0 ∷ []) (case_opened 0 0 10 0 [])) ≡ false
unfolding links node leads link waits comes_from is_story some_below every_below some_set
waits_for_none_once_broken = refl

solved_once_broken :
    verdict_of links (case_joined 0 1 (link 1 0 ∷ []) (case_opened 0 0 10 0 [])) ≡ Solving (3 ∷ [])
unfolding links node leads link blamed explains is_story some_below every_below some_set
    numbers_below
solved_once_broken = refl
