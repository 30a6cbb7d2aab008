use Rattle.std.proofs.Common.{◌≡◌, ◌∙◌, sym, true, false, rules}
use Rattle.ev_expr.specs.Operands.{setting_of}
use Rattle.ev_expr.proofs.Members.{any_at, any_more, all_at, all_more}
use Rattle.ev_expr.proofs.conditions.+holds.Goals as goal

pub any_holds-returns-then-cond_holds : goal.any_holds-returns-then-cond_holds
any_holds-returns-then-cond_holds t c =
    sym (any_at (setting_of c.args.env.now) c.args.conds.now c.loop-cond.cond-index
    c.cond-item.result c.loop-cond-test.true c.cond-item.is
    (sym c.cond_holds.ensures ∙ c.if-cond_holds.true))

pub any_holds-loop-cond-preserved : goal.any_holds-loop-cond-preserved
any_holds-loop-cond-preserved t c =
    any_more (setting_of c.args.env.now) c.args.conds.now c.loop-cond.cond-index
    c.cond-item.result c.loop-cond-test.true c.cond-item.is
    (sym c.cond_holds.ensures ∙ c.if-cond_holds.false) c.loop-cond.invariant

pub all_hold-returns-then-not-cond_holds : goal.all_hold-returns-then-not-cond_holds
all_hold-returns-then-not-cond_holds t c =
    let no : c.cond_holds.result ≡ false = search rules in
    sym (all_at (setting_of c.args.env.now) c.args.conds.now c.loop-cond.cond-index
    c.cond-item.result c.loop-cond-test.true c.cond-item.is (sym c.cond_holds.ensures ∙ no))

pub all_hold-loop-cond-preserved : goal.all_hold-loop-cond-preserved
all_hold-loop-cond-preserved t c =
    let yes : c.cond_holds.result ≡ true = search rules in
    all_more (setting_of c.args.env.now) c.args.conds.now c.loop-cond.cond-index
    c.cond-item.result c.loop-cond-test.true c.cond-item.is (sym c.cond_holds.ensures ∙ yes)
    c.loop-cond.invariant
