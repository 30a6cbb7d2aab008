-- One pair more, where a condition can ask it.
use Rattle.std.proofs.Common.{◌<◌, ◌≤◌, subst}
use Rattle.fm_nv.specs.Data.{count}
use Rattle.dx_rules.proofs.Asking.{props_none, props_more, props_all}
use Rattle.dx_rules.proofs.pairs.props_of.Goals as goal

pub loop-at-preserved : goal.loop-at-preserved
loop-at-preserved c =
    let room : c.loop-at.at < count c.args.payload.now =
    subst (λ n. c.loop-at.at < n) c.len-at-end.ensures.count c.loop-at-test.true in
    props_more c.args.payload.now c.loop-at.at c.loop-at.props.items c.put_prop.new.props.items
    c.name.result.now _ room c.name.ensures c.value.ensures.value
    c.in_ok-put_prop.ensures c.loop-at.invariant

pub loop-at-init : goal.loop-at-init
loop-at-init c = props_none c.args.payload.now _ c.new-props.ensures.items

pub returns : goal.returns
returns c =
    let past : count c.args.payload.now ≤ c.loop-at.at =
    subst (λ n. n ≤ c.loop-at.at) c.len-at-end.ensures.count c.loop-at-test.false in
    props_all c.args.payload.now c.loop-at.at c.loop-at.props.items past c.loop-at.invariant
