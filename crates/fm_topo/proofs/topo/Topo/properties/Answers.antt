use Rattle.std.proofs.Common.{rules, sym}
use Rattle.fm_name.specs.Order.{path_cmp}
use Rattle.fm_name.specs.OrderLaws.{path_cmp_total, path_tie}
use Rattle.std.proofs.lemmas.Fn.{always_returns_same}
use Rattle.fm_topo.proofs.Search.{found, missing, rising}
use Rattle.fm_topo.proofs.topo.Topo.properties.Goals as goal

pub returns-in-Ok-clause-found : goal.returns-in-Ok-clause-found
returns-in-Ok-clause-found c =
    rw (← c.self.view_is)
    (found path_cmp_total path_tie c.self.inside.places.items c.args.path.now c.in-Ok.at
    c.index.result.now c.self.invariant.order
    (rw (← c.deref.ensures.value) c.in-Ok.ensures.bound)
    (rw (← c.deref.ensures.value)
    (c.in-Ok.ensures.position (λ e. path_cmp e.0 c.args.path.now)
    (always_returns_same _ _ _ (λ a r q k. search rules)))) c.index.ensures)

pub returns-in-Err-clause-found : goal.returns-in-Err-clause-found
returns-in-Err-clause-found c =
    let p = c.in-Err.ensures.position (λ e. path_cmp e.0 c.args.path.now)
    (always_returns_same _ _ _ (λ a r q k. search rules))
    (rw c.deref.ensures.value
    (rising path_cmp_total c.self.inside.places.items c.args.path.now c.self.invariant.order))
    in
    let t = rw c.deref.ensures.value at p in
    rw (← c.self.view_is)
    (sym (missing path_cmp_total c.self.inside.places.items c.args.path.now c.in-Err.field-0
    c.self.invariant.order t.0 t.1))
