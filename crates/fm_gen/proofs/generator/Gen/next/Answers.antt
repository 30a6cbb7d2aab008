use Rattle.std.proofs.Common.{◌≡◌, ◌+◌, ◌%◌, ◌∙◌, ap, sym, arith}
use Rattle.fm_gen.specs.Generated.{picked}
use Rattle.fm_gen.proofs.Turns.{tick_left, turn_left}
use Rattle.fm_gen.proofs.generator.Gen.next.Goals as goal

pub returns-in_default-clause-ok : goal.returns-in_default-clause-ok
returns-in_default-clause-ok c =
    let none : c.self.inside.turns ≡ 0 = omega (arith, c.in_default.ensures) in
    rw (← c.self.view_is)
    (tick_left c.self.inside.ended c.self.inside.reports.items c.self.inside.turns
    c.self.inside.state c.self.inside.moment c.if-self.false none)

pub returns-clause-ok : goal.returns-clause-ok
returns-clause-ok c =
    let one : c.self.inside.turns ≡ c.in-Some.turns + 1 = omega (arith, c.in-Some.ensures) in
    rw (← c.self.view_is, c.new.ensures)
    (turn_left c.self.inside.ended c.self.inside.reports.items c.self.inside.turns
    c.in-Some.turns c.self.inside.state c.self.inside.moment c.from_state-draws.result.state
    _ c.in_ok-event.event c.if-self.false one c.from_state-draws.ensures.state
    (ap (λ n. c.self.inside.moment + n % 2000000000) c.from_state-draws.ensures.delay)
    (ap (picked c.self.inside.reports.items) (sym c.from_state-draws.ensures.event)
    ∙ ap (λ events. picked events c.from_state-draws.result.event) (sym c.deref.ensures.value)
    ∙ c.in_ok-event.ensures.picked))
