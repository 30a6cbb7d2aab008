use Rattle.std.proofs.Common.{◌≡◌, ◌+◌, ◌∷◌, [], length, map, ap, ◌∙◌}
use Rattle.std.proofs.lemmas.Result.{IfOk-weaker}
use Rattle.fm_answers.specs.Draining.{hand_at, moved_to}
use Rattle.fm_answers.proofs.Tallies.{number_is, both_moved}
use Rattle.fm_answers.proofs.tally.last_hands.Goals as goal

pub two_hands-requires-clause-first : goal.two_hands-requires-clause-first
two_hands-requires-clause-first c =
    ap (λ o. o.number) (c.in_ok-first.ensures ∙ c.state.ensures)
    ∙ number_is c.args.core.now 0 c.hand.result.now c.requires.ready c.hand.ensures

pub two_hands-requires-clause-second : goal.two_hands-requires-clause-second
two_hands-requires-clause-second c =
    ap (λ o. o.number) (c.in_ok-second.ensures ∙ c.state-2.ensures)
    ∙ number_is c.args.core.now 1 c.hand-2.result.now c.requires.ready c.hand-2.ensures

pub returns-clause-ok : goal.returns-clause-ok
returns-clause-ok c =
    let same : hand_at c.len.result c.in_ok-first.first ∷ hand_at c.len.result c.in_ok-second.second
    ∷ []
    ≡ map (moved_to (c.args.core.now.base + length c.args.core.now.entries)) c.args.core.now.hands =
    ap (λ o. hand_at c.len.result o ∷ hand_at c.len.result c.in_ok-second.second ∷ [])
    (c.in_ok-first.ensures ∙ c.state.ensures)
    ∙ ap (λ o. hand_at c.len.result c.hand.result.now.object ∷ hand_at c.len.result o ∷ [])
    (c.in_ok-second.ensures ∙ c.state-2.ensures)
    ∙ both_moved c.len.result c.args.core.now.hands c.hand.result.now c.hand-2.result.now
    c.requires.two c.hand.ensures c.hand-2.ensures
    ∙ ap (λ n. map (moved_to n) c.args.core.now.hands) c.len.ensures in
    IfOk-weaker c.two_hands.result _ _ (λ hands is. is ∙ same) c.two_hands.ensures.ok
