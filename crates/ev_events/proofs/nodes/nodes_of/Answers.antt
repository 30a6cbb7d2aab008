-- One node more is that of one name more.
use Rattle.std.proofs.Common.{◌<◌, ℕ, List, Some, length, slice_get, get_or, sym, ap, ◌∙◌}
use Rattle.std.proofs.Common.{arith}
use Rattle.std.proofs.lemmas.Option.{slice_get-get_or}
use Rattle.fm_name.specs.declared.events.EventName.{EventName}
use Rattle.ev_events.proofs.Declaring.{nodes_more}
use Rattle.ev_events.proofs.nodes.nodes_of.Goals as goal

pub names-preserved : goal.names-preserved
names-preserved c =
    let names = c.as_slice-names.result.now in
    let numbers = c.as_slice-numbers.result.now in
    let at = c.names.at in
    let name = c.index-names-at.result in
    let less : at < length names = c.names-test.true in
    let long = ap (λ (xs : List EventName). length xs) c.as_slice-names.ensures.value in
    let count = ap (λ (xs : List ℕ). length xs) c.as_slice-numbers.ensures.value in
    let within : at < length numbers = omega (arith, less, long, count, c.requires.there.long) in
    nodes_more c.args.checked.now c.args.engines.now c.args.places.now.names.items
    c.args.places.now.numbers.items at (get_or numbers at 0) name c.names.nodes.items
    c.push.new.self.items c.in_ok-node.node c.names.invariant
    (ap (λ (xs : List EventName). slice_get xs at) (sym c.as_slice-names.ensures.value)
    ∙ slice_get-get_or names at name less ∙ ap Some (sym c.index-names-at.is))
    (ap (λ (xs : List ℕ). slice_get xs at) (sym c.as_slice-numbers.ensures.value)
    ∙ slice_get-get_or numbers at 0 within)
    c.in_ok-node.ensures.name c.in_ok-node.ensures.node c.in_ok-push.ensures.items
