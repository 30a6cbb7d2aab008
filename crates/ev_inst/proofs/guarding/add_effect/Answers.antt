-- The guard of the link to one effect.
use Rattle.std.proofs.Common.{get_or, map, refl, arith}
use Rattle.std.proofs.lemmas.Option.{slice_get-get_or}
use Rattle.ev_tree.specs.Pattern.{view_pattern}
use Rattle.ev_inst.proofs.Collected.{effect_event, effect_within, guarded_effect}
use Rattle.ev_inst.proofs.Collected.{unguarded_effect}
use Rattle.ev_inst.proofs.Questioning.{given_at}
use Rattle.ev_inst.proofs.guarding.add_effect.Goals as goal

pub unreachable-requires : goal.unreachable-requires
unreachable-requires c =
    let within = effect_within c.args.side.now c.args.effect c.requires.event in
    omega (arith, within)

pub questions_of-requires : goal.questions_of-requires
questions_of-requires c =
    let r = c.args.side.now in
    given_at r.binding.now.topo.now r.nodes.now r.binding.now.names.now
    r.binding.now.instances.now c.args.effect _
    (slice_get-get_or r.nodes.now c.args.effect c.index-side-effect.result c.if-effect-side.false)
    (map view_pattern r.patterns.now) r.given.now c.requires.side

pub returns-in_ok-add_guard-in-Some : goal.returns-in_ok-add_guard-in-Some
returns-in_ok-add_guard-in-Some c =
    let r = c.args.side.now in
    let node = get_or r.nodes.now c.args.effect c.index-side-effect.result in
    let there = slice_get-get_or r.nodes.now c.args.effect c.index-side-effect.result
    c.if-effect-side.false in
    let told = rw c.in-Some.is at c.in_ok-questions.ensures in
    guarded_effect r c.args.effect node there
    (effect_event r c.args.effect node there c.requires.event) told.0
    (record { instance = r.instance; questions = c.in-Some.questions }) refl told.1
    c.args.guarded.now c.add_guard.new.guarded c.in_ok-add_guard-in-Some.ensures

pub returns-in-None : goal.returns-in-None
returns-in-None c =
    let r = c.args.side.now in
    let there = slice_get-get_or r.nodes.now c.args.effect c.index-side-effect.result
    c.if-effect-side.false in
    let told = rw c.in-None.is at c.in_ok-questions.ensures in
    unguarded_effect r c.args.effect
    (get_or r.nodes.now c.args.effect c.index-side-effect.result) there told c.args.guarded.now
