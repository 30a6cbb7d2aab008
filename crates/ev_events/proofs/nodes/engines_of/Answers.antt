-- One engine more is that of one name more.
use Rattle.std.proofs.Common.{◌<◌, ℕ, List, Some, length, slice_get, get_or, sym, ap, ◌∙◌}
use Rattle.std.proofs.Common.{arith}
use Rattle.std.proofs.lemmas.Option.{slice_get-get_or}
use Rattle.fm_name.specs.declared.events.EventName.{EventName}
use Rattle.ev_events.proofs.Declaring.{engines_more}
use Rattle.ev_events.proofs.nodes.engines_of.Goals as goal

pub names-preserved : goal.names-preserved
names-preserved c =
    let names = c.as_slice-own.result.now in
    let numbers = c.as_slice-numbers.result.now in
    let at = c.names.at in
    let name = c.index-own-at.result in
    let less : at < length names = c.names-test.true in
    let long = ap (λ (xs : List EventName). length xs) c.as_slice-own.ensures.value in
    let count = ap (λ (xs : List ℕ). length xs) c.as_slice-numbers.ensures.value in
    let within : at < length numbers = omega (arith, less, long, count, c.requires.there.long) in
    engines_more c.args.checked.now c.args.names.now c.args.places.now.names.items
    c.args.places.now.numbers.items at (get_or numbers at 0) name c.names.engines.items
    c.push.new.self.items c.in_ok-engine.engine c.names.invariant
    (ap (λ (xs : List EventName). slice_get xs at) (sym c.as_slice-own.ensures.value)
    ∙ slice_get-get_or names at name less ∙ ap Some (sym c.index-own-at.is))
    (ap (λ (xs : List ℕ). slice_get xs at) (sym c.as_slice-numbers.ensures.value)
    ∙ slice_get-get_or numbers at 0 within)
    c.in_ok-engine.ensures.name c.in_ok-engine.ensures.engine c.in_ok-push.ensures.items
