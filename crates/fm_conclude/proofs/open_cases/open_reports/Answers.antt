-- One hand after another gives its open cases.
use denote.Param.Send.{sendable}
use Rattle.std.proofs.Common.{◌≡◌, ◌++◌, flat_map, map, ap, ◌∙◌}
use Rattle.std.proofs.lemmas.List.{take_all}
use Rattle.fm_core.specs.Hands.{shown}
use Rattle.dx_engine.proofs.Crossing.{diagnoser_send}
use Rattle.fm_conclude.specs.DrainedSummary.{open_by_state, open_of_shown}
use Rattle.dx_engine.specs.Diagnosers.{diagnosers}
use Rattle.fm_conclude.proofs.OpenCases.{hands_none, hands_more}
use Rattle.fm_conclude.proofs.open_cases.open_reports.Goals as goal

pub hands-init : goal.hands-init
hands-init c = hands_none diagnosers c.args.hands.now c.new-cases.result.items
    c.new-cases.ensures.items

pub hands-preserved : goal.hands-preserved
hands-preserved c =
    hands_more diagnosers c.args.hands.now c.hands.hand-index c.hand-item.result
    c.hands.cases.items c.push_open_reports.new.cases.items c.hands-test.true c.hand-item.is
    c.hands.invariant (cases_of c.state.ensures c.in_ok-push_open_reports.ensures)
  where
    cases_of : c.state.result.now ≡ c.hand-item.result.object
        → c.push_open_reports.new.cases.items ≡ c.hands.cases.items
        ++ open_by_state (diagnosers.meaning c.state.result.now).own
        (diagnosers.state c.state.result.now)
        → c.push_open_reports.new.cases.items ≡ c.hands.cases.items
        ++ open_of_shown (shown diagnosers c.hand-item.result)
    cases_of same is = is ∙ ap (λ d. c.hands.cases.items
        ++ open_by_state (diagnosers.meaning d).own (diagnosers.state d)) same

pub returns : goal.returns
returns c = c.hands.invariant
    ∙ ap (λ l. flat_map open_of_shown (map (shown diagnosers) l))
    (take_all c.hands.hand-index c.args.hands.now c.hands-test.false)

pub state-requires-send-M : goal.state-requires-send-M
state-requires-send-M c κs = search (diagnoser_send, sendable)
