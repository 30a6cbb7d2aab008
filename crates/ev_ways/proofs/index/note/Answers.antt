use Rattle.std.proofs.Common.{◌≡◌, ◌<◌, ◌++◌, ◌∷◌, [], length, arith, get_or, ◌∙◌, ap}
use Rattle.std.proofs.lemmas.List.{get_or_default}
use Rattle.ev_ways.specs.Lists.{row}
use Rattle.ev_ways.proofs.Membership.{note_more}
use Rattle.ev_ways.proofs.index.note.Goals as goal

pub loop-node-preserved : goal.loop-node-preserved
loop-node-preserved c =
    let x = get_or c.args.members.now c.loop-node.node-index 0 in
    let lt : c.loop-node.node-index < length c.args.members.now = omega arith in
    let inside : x < length c.loop-node.uses =
    omega (
      arith,
      c.requires.inside c.loop-node.node-index lt,
      c.loop-node.invariant.same_length,
    ) in
    let pushed : c.push.new.self ≡ row c.loop-node.uses x ++ c.args.arrow ∷ [] =
    c.in_ok-push.ensures.ok
    ∙ ap (λ r. r ++ c.args.arrow ∷ []) (get_or_default c.loop-node.uses x _ [] inside) in
    rw pushed (note_more c.args.members.now c.args.arrow c.loop-node.node-index c.args.uses.now
    c.loop-node.uses lt inside c.loop-node.invariant)
