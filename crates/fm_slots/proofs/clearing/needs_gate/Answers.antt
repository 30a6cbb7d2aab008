-- The gate that was read stands in front of every image.
use Rattle.std.proofs.Common.{◌≡◌, ℕ, List, [], ◌∷◌, length, Option, IfSome, ◌∙◌, ap, subst, arith}
use Rattle.fm_slots.proofs.Gates.{none_is_not_shut, open_is_not_shut, shut_there, cleared_shut}
use Rattle.fm_slots.proofs.clearing.needs_gate.Goals as goal

pub returns-then-size-eq0-clause-open : goal.returns-then-size-eq0-clause-open
returns-then-size-eq0-clause-open g c = λ needs bytes told.
    let long : c.in_ok-size.size ≡ length bytes =
    subst (λ (o : Option (List ℕ)). IfSome o (λ xs. c.in_ok-size.size ≡ length xs))
    (c.in_ok-sync.ensures.same ∙ told) c.in_ok-size.ensures.length in
    none_is_not_shut bytes (omega (arith, long, c.if-size-eq0.true))

pub returns-then-gate-eq-OPEN-clause-open : goal.returns-then-gate-eq-OPEN-clause-open
returns-then-gate-eq-OPEN-clause-open g c = λ needs bytes told.
    open_is_not_shut bytes
    (c.in_ok-gate.ensures.byte bytes
    (c.in_ok-size.ensures.same ∙ c.in_ok-sync.ensures.same ∙ told)
    ∙ ap (λ (n : ℕ). n ∷ []) c.if-gate-eq-OPEN.true)

pub returns-clause-shut : goal.returns-clause-shut
returns-clause-shut g c = λ none image now.
    let told = c.in_ok-sync.ensures.durable image
    (c.in_ok-size.ensures.crash image (c.in_ok-gate.ensures.still.no_more image now)) in
    shut_there image c.in_ok-gate.gate
    (c.in_ok-gate.ensures.byte image
    (c.in_ok-size.ensures.same ∙ c.in_ok-sync.ensures.same ∙ told))
    c.if-gate-eq-OPEN.false

pub returns-clause-kept : goal.returns-clause-kept
returns-clause-kept g c = λ none bytes told.
    let shut = shut_there bytes c.in_ok-gate.gate
    (c.in_ok-gate.ensures.byte bytes
    (c.in_ok-size.ensures.same ∙ c.in_ok-sync.ensures.same ∙ told))
    c.if-gate-eq-OPEN.false in
    (shut, cleared_shut bytes shut)
