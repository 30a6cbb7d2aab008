use Rattle.std.proofs.Common.{◌≡◌, refl, subst, length, Some, arith}
use Rattle.std.specs.Prelude.{slice_get}
use Rattle.std.proofs.lemmas.Option.{slice_get_read}
use Rattle.dx_live.proofs.Ordered.{once_ascends, once_members}
use Rattle.fm_explain.specs.Explained.{AreFound}
use Rattle.fm_explain.proofs.Named.{found_none, found_push, found_past, found_same}
use Rattle.fm_explain.proofs.story.reports_named.Goals as goal
use Rattle.fm_explain.proofs.story.reports_named.Goals.{in-Some+in_ok-push-in-Some, in-None}

pub names-init : goal.names-init
names-init c = rw c.new-list.ensures.items (found_none c.args.graph.now.nodes c.args.names.now)

pub names-preserved : goal.names-preserved
names-preserved c =
    let nodes = c.args.graph.now.nodes in
    let names = c.args.names.now in
    let i = c.names.name-index in
    let name = c.name-item.result in
    let here : slice_get names i ≡ Some name =
    slice_get_read names (length names) i name refl c.names-test.true c.name-item.is in
    elim c.match-find.branch [
      | in-Some+in_ok-push-in-Some w ↦ rw (w.list-is, w.in_ok-push-in-Some.ensures.items)
          (found_push
          nodes names i w.in-Some.node name c.names.list.items here w.in-Some.ensures.found
          c.names.invariant)
      | in-None w ↦ rw w.list-is (found_past nodes names i name c.names.list.items here
          w.in-None.ensures.found c.names.invariant)
    ]

pub returns : goal.returns
returns c =
    let sorted = c.sort_unstable.new.self.items in
    let new = c.dedup.new.self.items in
    let old = c.names.list.items in
    let nodes = c.args.graph.now.nodes in
    let names = c.args.names.now in
    let end : c.names.name-index ≡ length names =
    omega (arith, c.names-test.false, c.names.auto.name-index-end) in
    let all : AreFound nodes names (length names) old =
    subst (λ n. AreFound nodes names n old) end c.names.invariant in
    record {
      ascend = once_ascends old sorted new c.sort_unstable.ensures.permutation
          c.sort_unstable.ensures.sorted c.dedup.ensures.filtered;
      found = found_same nodes names (length names) old new
          (once_members old sorted new c.sort_unstable.ensures.permutation
          c.sort_unstable.ensures.sorted c.dedup.ensures.filtered) all;
    }
