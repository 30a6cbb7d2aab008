-- What the piece shows at the place, and what is copied from it.
use Rattle.std.proofs.Common.{◌+◌, ◌-◌, ◌≤◌, ◌^◌, IfSome, ℕ, take, Option, subst, ◌∙◌, ap, arith}
use Rattle.std.proofs.lemmas.List.{length-take-le}
use Rattle.fm_outer.specs.Bytes.{range}
use Rattle.fm_journal.specs.Look.{ShowsNext}
use Rattle.fm_journal.proofs.Reading.{reads_none, reads_size, reads_payload}
use Rattle.fm_journal.proofs.journal.Journal.read_piecewise.Goals as goal

pub returns-then-place-self-clause-found : goal.returns-then-place-self-clause-found
returns-then-place-self-clause-found g c =
    rw (← c.self.view_is) (reads_none g.D.Disk _ c.args.place _ _ c.if-place-self.true)

pub returns-then-size-into-clause-found : goal.returns-then-size-into-clause-found
returns-then-size-into-clause-found g c =
    let within = subst (λ (o : Option ℕ). IfSome o (λ next. (c.args.place + 5 ≤ next)
    × (next ≤ c.self.inside.end) × (next ≤ c.args.place + 5 + 2 ^ 28))) c.in-Some-2.is
    c.in_ok-next.ensures.within in
    rw (← c.self.view_is) (reads_size g.D.Disk _ c.args.place _ c.in-Some-2.next
    c.if-place-self.false within.0 within.1
    (λ bytes told. subst (λ (o : Option ℕ).
    ShowsNext (take (c.self.inside.end + 1) bytes) c.args.place o) c.in-Some-2.is
    (c.in_ok-next.ensures.shows bytes told))
    _ c.if-size-into.true)

pub returns-clause-found : goal.returns-clause-found
returns-clause-found g c =
    let long = length-take-le (c.in-Some-2.next - c.args.place - 5) c.args.into.now
    (omega (arith, c.if-size-into.false)) in
    let within = subst (λ (o : Option ℕ). IfSome o (λ next. (c.args.place + 5 ≤ next)
    × (next ≤ c.self.inside.end) × (next ≤ c.args.place + 5 + 2 ^ 28))) c.in-Some-2.is
    c.in_ok-next.ensures.within in
    rw (← c.self.view_is) (reads_payload g.D.Disk _ c.args.place _ c.in-Some-2.next
    c.if-place-self.false within.0 within.1
    (λ bytes told. subst (λ (o : Option ℕ).
    ShowsNext (take (c.self.inside.end + 1) bytes) c.args.place o) c.in-Some-2.is
    (c.in_ok-next.ensures.shows bytes told))
    c.copy.new.into _
    (λ bytes told. c.in_ok-copy.ensures.bytes bytes (c.in_ok-next.ensures.still.same ∙ told)
    ∙ ap (λ (n : ℕ). range (c.args.place + 5) n bytes) long))
