use Rattle.std.proofs.Common.{◌≡◌, ◌+◌, ◌-◌, ◌/◌, ◌<◌, ◌≤◌, ◌^◌, ◌∙◌, sym, ap, subst, rules, arith}
use Rattle.std.specs.Prelude.{All}
use Rattle.fm_entry.specs.Words.{IsWordOf}
use Rattle.fm_core.specs.Counts.{count_of, total_of, cases_of}
use Rattle.fm_core.specs.Places.{place_in}
use Rattle.fm_core.specs.CountsOnce.{counts_are}
use Rattle.fm_core.specs.CountsKept.{cases_fit, events_are}
use Rattle.fm_core.proofs.Tallies.{says_is, count_fits, count_found_is, found_within}
use Rattle.fm_core.proofs.Tallies.{cases_after_fit, holds_after}
use Rattle.fm_core.proofs.counter.Counter.report.Goals as goal

pub overflow_add-before : goal.overflow_add-before
overflow_add-before c =
    let tested : c.count_at-before.result ≡ count_of c.args.class.now c.self.inside.counts.items =
    count_found_is c.args.class.now c.self.inside.counts.items c.deref.result.now
    c.deref-2.result.now c.find_class-place.result
    c.count_at-before.result c.self.invariant.0 c.deref.ensures.value c.deref-2.ensures.value
    c.find_class-place.ensures c.count_at-before.ensures in
    let few : count_of c.args.class.now c.self.inside.counts.items
    ≤ total_of c.self.inside.counts.items =
    count_fits c.args.class.now c.self.inside.counts.items in
    let total : c.self.inside.total ≡ total_of c.self.inside.counts.items = c.self.invariant.1 in
    let fits : c.count_at-before.result + 1 < 2 ^ 64 = omega (arith, c.if-self-ge-MOST.false) in
    search rules

pub overflow_add-self-2 : goal.overflow_add-self-2
overflow_add-self-2 c =
    let tested : c.count_at-before.result ≡ count_of c.args.class.now c.self.inside.counts.items =
    count_found_is c.args.class.now c.self.inside.counts.items c.deref.result.now
    c.deref-2.result.now c.find_class-place.result
    c.count_at-before.result c.self.invariant.0 c.deref.ensures.value c.deref-2.ensures.value
    c.find_class-place.ensures c.count_at-before.ensures in
    let few : count_of c.args.class.now c.self.inside.counts.items
    ≤ total_of c.self.inside.counts.items =
    count_fits c.args.class.now c.self.inside.counts.items in
    let total : c.self.inside.total ≡ total_of c.self.inside.counts.items = c.self.invariant.1 in
    let fits : c.count_at-before.result + 1 < 2 ^ 64 = omega (arith, c.if-self-ge-MOST.false) in
    search rules

pub overflow_add-self-3 : goal.overflow_add-self-3
overflow_add-self-3 c =
    let total : c.self.inside.total ≡ total_of c.self.inside.counts.items = c.self.invariant.1 in
    let room : total_of c.self.inside.counts.items < 2 ^ 46 =
    omega (arith, c.if-self-ge-MOST.false) in
    let fits : c.self.inside.cases +
    ((c.count_at-before.result + 1) / 3 - c.count_at-before.result / 3) < 2 ^ 64 =
    cases_after_fit c.args.class.now c.self.inside.counts.items c.self.inside.cases
    c.count_at-before.result
    ((counts_are c.self.inside.counts.items c.self.invariant.0).ordered) c.self.invariant.2
    (count_found_is c.args.class.now c.self.inside.counts.items c.deref.result.now
    c.deref-2.result.now c.find_class-place.result
    c.count_at-before.result c.self.invariant.0 c.deref.ensures.value c.deref-2.ensures.value
    c.find_class-place.ensures c.count_at-before.ensures) room in
    search rules

pub invariant_of-self-2 : goal.invariant_of-self-2
invariant_of-self-2 c =
    holds_after c.args.class.now c.self.inside.counts.items c.count_in.new.counts.items
    c.self.inside.total c.self.inside.cases
    c.count_at-before.result c.requires.ereport c.self.invariant.0 c.self.invariant.1
    c.if-self-ge-MOST.false c.self.invariant.2
    (count_found_is c.args.class.now c.self.inside.counts.items c.deref.result.now
    c.deref-2.result.now c.find_class-place.result
    c.count_at-before.result c.self.invariant.0 c.deref.ensures.value c.deref-2.ensures.value
    c.find_class-place.ensures c.count_at-before.ensures) c.in_ok-count_in.ensures.ok

pub returns-clause-says : goal.returns-clause-says
returns-clause-says c =
    rw (← c.self.view_is)
    (says_is c.self.inside.number c.self.inside.total c.self.inside.cases c.count_at-before.result
    c.self.inside.counts.items
    c.args.class.now c.args.path.now c.args.moment c.in_ok-words.words.items c.self.invariant.1
    c.if-self-ge-MOST.false c.self.invariant.2
    (count_found_is c.args.class.now c.self.inside.counts.items c.deref.result.now
    c.deref-2.result.now c.find_class-place.result
    c.count_at-before.result c.self.invariant.0 c.deref.ensures.value c.deref-2.ensures.value
    c.find_class-place.ensures c.count_at-before.ensures) c.in_ok-words.ensures)

pub returns-clause-events : goal.returns-clause-events
returns-clause-events c =
    let total : c.self.inside.total ≡ total_of c.self.inside.counts.items = c.self.invariant.1 in
    let cases : c.self.inside.cases ≡ cases_of c.self.inside.counts.items = c.self.invariant.2 in
    let few : cases_of c.self.inside.counts.items ≤ total_of c.self.inside.counts.items =
    cases_fit c.self.inside.counts.items in
    let fits : c.self.inside.cases < 2 ^ 63 = omega (arith, c.if-self-ge-MOST.false) in
    rw (← c.self.view_is)
    (subst (All (IsWordOf c.self.inside.number)) (sym c.in_ok-words.ensures)
    (events_are c.self.inside.number c.self.inside.cases c.args.class.now c.args.path.now
    c.args.moment _ c.requires.ereport
    c.requires.path c.requires.moment fits))

pub count_at-before-requires : goal.count_at-before-requires
count_at-before-requires c =
    found_within c.args.class.now c.deref-2.result.now c.find_class-place.result
    (c.find_class-place.ensures
    ∙ ap (place_in c.args.class.now) (c.deref.ensures.value ∙ sym c.deref-2.ensures.value))
