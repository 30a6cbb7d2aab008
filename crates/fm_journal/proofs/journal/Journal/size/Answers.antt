-- At the end is no record, and before it the record of a payload that is kept.
use Rattle.std.proofs.Common.{◌≡◌, ℕ, ◌+◌, ◌-◌, ◌≤◌, ◌^◌, take, Option, Some, IfSome, sym, ◌∙◌}
use Rattle.std.proofs.Common.{subst}
use Rattle.std.specs.Prelude.{slice_get, length}
use Rattle.std.specs.Option.{option_map}
use Rattle.fm_journal.specs.Look.{ShowsNext}
use Rattle.fm_journal.proofs.Places.{none_at_end, size_kept, shown_stands}
use Rattle.fm_journal.proofs.journal.Journal.size.Goals as goal

pub returns-then-place-self-clause-found : goal.returns-then-place-self-clause-found
returns-then-place-self-clause-found g c =
    rw (← c.self.view_is) (λ payloads k keeps at.
    none_at_end payloads k (sym at ∙ c.if-place-self.true ∙ keeps.ends))

pub returns-clause-found : goal.returns-clause-found
returns-clause-found g c =
    rw (← c.self.view_is) (λ payloads k keeps at.
    let bytes = keeps.told.0 in
    let shows = subst (λ (o : Option ℕ). ShowsNext (take (c.self.inside.end + 1) bytes)
    c.args.place o)
    c.in-Some-2.is (c.in_ok-next.ensures.shows bytes keeps.told.1) in
    subst (λ (n : ℕ). Some (c.in-Some-2.next - n - 5)
    ≡ option_map length (slice_get payloads k)) (sym at)
    (size_kept g.D.Disk _ payloads keeps k c.in-Some-2.next
    (λ same. c.if-place-self.false (at ∙ same))
    (subst (λ (n : ℕ). ShowsNext (take (c.self.inside.end + 1) bytes) n (Some c.in-Some-2.next))
    at shows)))

pub returns-clause-stands : goal.returns-clause-stands
returns-clause-stands g c =
    let within = subst (λ (o : Option ℕ). IfSome o (λ next. (c.args.place + 5 ≤ next)
    × (next ≤ c.self.inside.end) × (next ≤ c.args.place + 5 + 2 ^ 28))) c.in-Some-2.is
    c.in_ok-next.ensures.within in
    rw (← c.self.view_is) (λ bytes told.
    let there = shown_stands bytes c.args.place c.in-Some-2.next c.self.inside.end within.1
    (subst (λ (o : Option ℕ). ShowsNext (take (c.self.inside.end + 1) bytes) c.args.place o)
    c.in-Some-2.is (c.in_ok-next.ensures.shows bytes told)) in
    (there.0, there.1, there.2, there.3.0, there.4))
