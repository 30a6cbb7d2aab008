use Rattle.std.proofs.Common.{[], ◌∷◌, refl, arith, length-append}
use Rattle.fm_outer.proofs.Tapes.{ops_of-snoc, all_bytes-snoc, place-left}
use Rattle.fm_outer.proofs.record.Record.put_call.Goals as goal

pub push_reserved-requires : goal.push_reserved-requires
push_reserved-requires c =
    let left = place-left c.self.inside.calls.items c.self.inside.bytes.items _ c.self.inside.size
    c.self.invariant.whole (rw (← c.self.view_is) at c.requires.place) in
    omega (arith, left)

pub append-requires : goal.append-requires
append-requires c =
    let left = place-left c.self.inside.calls.items c.self.inside.bytes.items _ c.self.inside.size
    c.self.invariant.whole (rw (← c.self.view_is) at c.requires.place) in
    omega (arith, left)

pub invariant_of-self : goal.invariant_of-self
invariant_of-self c =
    let left = place-left c.self.inside.calls.items c.self.inside.bytes.items _ c.self.inside.size
    c.self.invariant.whole (rw (← c.self.view_is) at c.requires.place) in
    rw (c.push_reserved.ensures.items, c.append.ensures.items) (record {
      whole = omega (
        arith,
        all_bytes-snoc c.self.inside.calls.items c.args.call,
        length-append c.self.inside.bytes.items c.args.bytes.now,
        c.self.invariant.whole,
        c.requires.count,
      );
      fits = omega (
        arith,
        left,
        length-append c.self.inside.bytes.items c.args.bytes.now,
        length-append c.self.inside.calls.items (c.args.call ∷ []),
      );
      calls_fit = omega (arith, c.push_reserved.ensures.capacity);
      bytes_fit = omega (arith, c.append.ensures.capacity);
    })

pub returns : goal.returns
returns c =
    rw (← c.self.view_is, c.push_reserved.ensures.items, c.append.ensures.items)
    (rw (ops_of-snoc c.self.inside.calls.items c.args.call c.self.inside.bytes.items
    c.args.bytes.now c.self.invariant.whole c.requires.count) refl)
