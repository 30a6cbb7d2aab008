-- One declared one more is kept, and what is kept is all or more than the limit.
use Rattle.std.proofs.Common.{◌≡◌, ◌<◌, ◌+◌, ℕ, List, Bor, Some, map, length, slice_get}
use Rattle.std.proofs.Common.{get_or}
use Rattle.std.proofs.Common.{sym, ap, ◌∙◌, subst, arith}
use Rattle.std.specs.Map.{values_of}
use Rattle.std.proofs.lemmas.Map.Entries.{length-keys_of}
use Rattle.std.proofs.lemmas.Option.{slice_get-get_or}
use Rattle.fm_name.specs.declared.events.EventName.{EventName}
use Rattle.ev_tree.specs.declared.tree.Declared.{Declared}
use Rattle.ev_events.specs.Placed.{ArePlaced}
use Rattle.ev_events.proofs.Declaring.{map_long}
use Rattle.ev_events.proofs.Keeping.{kept_many, kept_more, kept_placed}
use Rattle.ev_events.proofs.placed.placed_of.Goals as goal
use Rattle.ev_events.proofs.Places.{map_there}

declared_there : (ds : List (Bor Declared)) (i : ℕ) (d : Bor Declared) → i < length ds
    → d ≡ get_or ds i d → slice_get (map (λ (x : Bor Declared). x.now) ds) i ≡ Some d.now
declared_there ds i d less is =
    map_there (λ (x : Bor Declared). x.now) ds i d
    (slice_get-get_or ds i d less ∙ ap Some (sym is))

pub returns-then-len-limit : goal.returns-then-len-limit
returns-then-len-limit c =
    let ds = map (λ (x : Bor Declared). x.now) c.args.declared.now in
    let stands = declared_there c.args.declared.now c.declared.at c.index-declared-at.result
    c.declared-test.true c.index-declared-at.is in
    let kept = kept_more c.args.topo.now ds c.declared.at c.index-declared-at.result.now
    c.declared.found.entries c.put_declared.new.found.entries stands
    c.in_ok-put_declared.ensures c.declared.invariant.0 in
    kept_many c.args.topo.now ds c.put_declared.new.found c.len.ensures.ordered
    (c.declared.at + 1) c.args.limit kept (omega (arith, c.len.ensures.len, c.if-len-limit.true))

pub declared-preserved : goal.declared-preserved
declared-preserved c =
    let ds = map (λ (x : Bor Declared). x.now) c.args.declared.now in
    let stands = declared_there c.args.declared.now c.declared.at c.index-declared-at.result
    c.declared-test.true c.index-declared-at.is in (
      kept_more c.args.topo.now ds c.declared.at c.index-declared-at.result.now
          c.declared.found.entries c.put_declared.new.found.entries stands
          c.in_ok-put_declared.ensures c.declared.invariant.0,
      (omega (arith, c.len.ensures.len, c.if-len-limit.false), c.len.ensures.ordered),
    )

pub returns : goal.returns
returns c =
    let ds = map (λ (x : Bor Declared). x.now) c.args.declared.now in
    let long = map_long (λ (x : Bor Declared). x.now) c.args.declared.now in
    let placed = kept_placed c.args.topo.now ds c.declared.found c.declared.invariant.1.1
    c.declared.at (omega (arith, long, c.declared-test.false)) c.declared.invariant.0 in
    let few = c.declared.invariant.1.0 in
    let keys = length-keys_of c.declared.found.entries in
    let names = ap (λ (xs : List EventName). length xs) c.in_ok-places.ensures.names in (
      subst (λ (ks : List ℕ). ArePlaced c.args.topo.now ds c.in_ok-places.places.names.items ks)
          (sym c.in_ok-places.ensures.numbers)
          (subst (λ (xs : List EventName).
          ArePlaced c.args.topo.now ds xs (values_of c.declared.found.entries))
          (sym c.in_ok-places.ensures.names) placed),
      omega (arith, names, keys, few),
    )
