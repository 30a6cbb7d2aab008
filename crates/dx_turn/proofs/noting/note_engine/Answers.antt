use Rattle.std.proofs.Common.{◌<◌, length, arith, sym, ap, subst, ◌∙◌, get_or}
use Rattle.std.proofs.Math.ListN.{set}
use Rattle.dx_serd.specs.Rates.{RateOf, none_past}
use Rattle.dx_turn.specs.Turning.{rates_by}
use Rattle.dx_turn.proofs.Rates.{rates_at, noted_from}
use Rattle.dx_turn.proofs.noting.note_engine.Goals as goal

pub index_mut-requires : goal.index_mut-requires
index_mut-requires c =
    let d = c.args.ground.now in
    let one = rates_at d.time d.graph.now.engines (rates_by d c.args.told.now) c.args.at
    c.args.spec.now c.requires.told.rates c.requires.spec in
    let low : c.args.at < length c.in_ok-engines.engines.items =
    subst (λ rs. c.args.at < length rs) (sym c.in_ok-engines.ensures.engines) one.low in
    omega arith

pub note-fired-requires : goal.note-fired-requires
note-fired-requires c =
    let d = c.args.ground.now in
    let was = c.index_mut.result.now in
    let one = rates_at d.time d.graph.now.engines (rates_by d c.args.told.now) c.args.at
    c.args.spec.now c.requires.told.rates c.requires.spec in
    ap (λ (x : RateOf). none_past d.time x.kept)
    (c.index_mut.ensures.value
    ∙ ap (λ rs. get_or rs c.args.at was) c.in_ok-engines.ensures.engines)
    ∙ one.past was

pub returns : goal.returns
returns c =
    let d = c.args.ground.now in
    let was = c.index_mut.result.now in
    noted_from d c.args.at c.args.spec.now c.args.told.now c.take_engines.new.told was
    c.note-fired.new.self c.new.result c.push_if.new.nodes c.note-fired.result
    c.node_count-nodes.ensures.graph c.requires.told c.requires.spec
    (c.index_mut.ensures.value
    ∙ ap (λ rs. get_or rs c.args.at was) c.in_ok-engines.ensures.engines)
    c.note-fired.ensures.kept c.take_engines.ensures.told
    (c.new.ensures ∙ ap (λ rs. set rs c.args.at c.note-fired.new.self)
    c.in_ok-engines.ensures.engines)
    c.note-fired.ensures.fired c.in_ok-push_if.ensures
