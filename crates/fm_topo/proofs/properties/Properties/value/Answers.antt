use Rattle.std.proofs.Common.{rules, sym}
use Rattle.std.specs.Ordering.{nat_cmp}
use Rattle.std.specs.Cmp.Lexicographic.{slice_cmp, nat_list_cmp_total}
use Rattle.std.proofs.lemmas.Fn.{always_returns_same}
use Rattle.fm_name.specs.OrderLaws.{bytes_tie}
use Rattle.fm_topo.proofs.Search.{found, missing, rising}
use Rattle.fm_topo.proofs.properties.Properties.value.Goals as goal

pub returns-in-Ok : goal.returns-in-Ok
returns-in-Ok c =
    rw (← c.self.view_is)
    (found nat_list_cmp_total bytes_tie c.self.inside.items.items c.args.name.now c.in-Ok.at
    c.index.result.now c.self.invariant
    (rw (← c.deref.ensures.value) c.in-Ok.ensures.bound)
    (rw (← c.deref.ensures.value)
    (c.in-Ok.ensures.position (λ e. slice_cmp nat_cmp e.0 c.args.name.now)
    (always_returns_same _ _ _ (λ a r q k. search rules)))) c.index.ensures)

pub returns-in-Err : goal.returns-in-Err
returns-in-Err c =
    let p = c.in-Err.ensures.position (λ e. slice_cmp nat_cmp e.0 c.args.name.now)
    (always_returns_same _ _ _ (λ a r q k. search rules))
    (rw c.deref.ensures.value
    (rising nat_list_cmp_total c.self.inside.items.items c.args.name.now c.self.invariant)) in
    let t = rw c.deref.ensures.value at p in
    rw (← c.self.view_is)
    (sym (missing nat_list_cmp_total c.self.inside.items.items c.args.name.now c.in-Err.field-0
    c.self.invariant t.0 t.1))
