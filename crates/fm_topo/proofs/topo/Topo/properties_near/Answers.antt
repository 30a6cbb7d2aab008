use Rattle.std.proofs.Common.{◌≡◌, ◌<◌, Some, length, rules, subst}
use Rattle.std.specs.BTreeMap.{is_at}
use Rattle.std.specs.Cmp.Lexicographic.{bytes_decides}
use Rattle.std.specs.Map.{lookup}
use Rattle.fm_name.specs.Order.{path_cmp}
use Rattle.fm_name.specs.OrderLaws.{path_cmp_total}
use Rattle.fm_topo.proofs.Search.{found_at}
use Rattle.fm_topo.proofs.topo.Topo.properties_near.Goals as goal

pub returns-then-eq-clause-found : goal.returns-then-eq-clause-found
returns-then-eq-clause-found c =
    let within : c.args.near < length c.self.inside.places.items = search rules in
    let same : c.index-place.result.now.0 ≡ c.args.path.now =
    (bytes_decides c.index-place.result.now.0 c.args.path.now).0 (search rules) in
    rw (← c.self.view_is)
    (subst (λ path. Some c.index-place.result.now.1
    ≡ lookup (is_at (path_cmp path)) c.self.inside.places.items) same
    (found_at path_cmp_total c.self.inside.places.items c.args.near c.index-place.result.now
    c.self.invariant.order within c.index-place.ensures))
