-- What stands at the place of a payload that is kept is its record.
use Rattle.std.proofs.Common.{◌≡◌, ℕ, ◌+◌, ◌-◌, ◌≤◌, ◌^◌, List, length, take, Option, Some, IfSome}
use Rattle.std.proofs.Common.{refl, sym, ◌∙◌, ap, subst, arith}
use Rattle.fm_outer.specs.Bytes.{range}
use Rattle.fm_journal.specs.Format.{end_of}
use Rattle.fm_journal.specs.Look.{ShowsNext}
use Rattle.fm_journal.proofs.Places.{shown_is, shown_stands, next_kept, next_place}
use Rattle.fm_journal.proofs.Places.{payload_kept}
use Rattle.fm_journal.proofs.journal.Journal.read.Goals as goal

pub returns-then-next-place-clause-cause : goal.returns-then-next-place-clause-cause
returns-then-next-place-clause-cause g c =
    rw (← c.self.view_is) (
      c.in_ok-next.ensures.cause,
      refl,
      λ bytes told payload gate rest fits there.
          let shows = subst (λ (o : Option ℕ). ShowsNext (take (c.self.inside.end + 1) bytes)
          c.args.place o)
          c.in-Some-2.is (c.in_ok-next.ensures.shows bytes told) in
          let ends = shown_is (take (c.self.inside.end + 1) bytes) c.args.place c.in-Some-2.next
          payload gate rest
          shows there in
          c.if-next-place.true (omega (arith, ends, fits)),
    )

pub returns-clause-found : goal.returns-clause-found
returns-clause-found g c =
    rw (← c.self.view_is) (λ payloads k payload keeps at is.
    let bytes = keeps.told.0 in
    let told = keeps.told.1 in
    let shows = subst (λ (o : Option ℕ). ShowsNext (take (c.self.inside.end + 1) bytes)
    c.args.place o)
    c.in-Some-2.is (c.in_ok-next.ensures.shows bytes told) in
    let ends = next_kept g.D.Disk _ payloads keeps k c.in-Some-2.next payload is
    (subst (λ (n : ℕ). ShowsNext (take (c.self.inside.end + 1) bytes) n (Some c.in-Some-2.next))
    at shows) in
    let long : length c.args.into.now ≡ length payload =
    omega (arith, ends, at, c.if-next-place.false) in
    let got = subst (λ (o : Option (List ℕ)).
    IfSome o (λ xs. c.read.new.buf ≡ range (c.args.place + 5) (length c.args.into.now) xs))
    (c.in_ok-next.ensures.still.same ∙ told) c.in_ok-read.ensures.bytes in (
      got ∙ ap (λ (n : ℕ). range (n + 5) (length c.args.into.now) bytes) at
          ∙ ap (λ (n : ℕ). range (end_of (take k payloads) + 5) n bytes) long
          ∙ payload_kept g.D.Disk _ payloads keeps k payload is,
      ends ∙ sym (next_place payloads k payload is),
    ))

pub returns-clause-stands : goal.returns-clause-stands
returns-clause-stands g c =
    let within = subst (λ (o : Option ℕ). IfSome o (λ next. (c.args.place + 5 ≤ next)
    × (next ≤ c.self.inside.end) × (next ≤ c.args.place + 5 + 2 ^ 28))) c.in-Some-2.is
    c.in_ok-next.ensures.within in
    let long : length c.args.into.now ≡ c.in-Some-2.next - c.args.place - 5 =
    omega (arith, c.if-next-place.false) in
    rw (← c.self.view_is) (λ bytes told.
    let there = shown_stands bytes c.args.place c.in-Some-2.next c.self.inside.end within.1
    (subst (λ (o : Option ℕ). ShowsNext (take (c.self.inside.end + 1) bytes) c.args.place o)
    c.in-Some-2.is (c.in_ok-next.ensures.shows bytes told)) in
    let got = subst (λ (o : Option (List ℕ)).
    IfSome o (λ xs. c.read.new.buf ≡ range (c.args.place + 5) (length c.args.into.now) xs))
    (c.in_ok-next.ensures.still.same ∙ told) c.in_ok-read.ensures.bytes in (
      there.0,
      there.1,
      there.2,
      sym (got ∙ ap (λ (n : ℕ). range (c.args.place + 5) n bytes) long ∙ there.3.1),
      there.4,
    ))
