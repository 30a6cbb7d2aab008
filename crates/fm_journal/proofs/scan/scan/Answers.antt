-- Too few bytes, and bytes that are no header.
use Rattle.std.proofs.Common.{◌≡◌, ℕ, List, length, take, Option, IfSome, refl, sym, ◌∙◌}
use Rattle.std.proofs.Common.{ap, subst, arith}
use Rattle.fm_journal.proofs.Places.{piece_range}
use Rattle.fm_journal.proofs.Walking.{damaged_header}
use Rattle.fm_journal.proofs.scan.scan.Goals as goal

pub returns-then-size-lt17-clause-cause : goal.returns-then-size-lt17-clause-cause
returns-then-size-lt17-clause-cause g c = (
  c.in_ok-size.ensures.cause ∙ c.in_ok-sync.ensures.cause,
  λ bytes told.
      let long : c.in_ok-size.size ≡ length bytes =
      subst (λ (o : Option (List ℕ)). IfSome o (λ xs. c.in_ok-size.size ≡ length xs))
      (c.in_ok-sync.ensures.same ∙ told) c.in_ok-size.ensures.length in
      damaged_header bytes (λ first fits some front. omega arith),
)

pub returns-in_default-clause-cause : goal.returns-in_default-clause-cause
returns-in_default-clause-cause g c = (
  c.in_ok-reach.ensures.cause ∙ c.in_ok-size.ensures.cause ∙ c.in_ok-sync.ensures.cause,
  λ bytes told.
      let piece = c.reach.new.self in
      let head = piece_range piece.start 0 16 bytes piece.held c.in_ok-reach.ensures.after
      c.in_ok-reach.ensures.before
      (c.in_ok-reach.ensures.read bytes (c.in_ok-size.ensures.same ∙ c.in_ok-sync.ensures.same
      ∙ told)) in
      damaged_header bytes (λ first fits some front. c.in_default.ensures.none refl first fits
      (ap (take 16) c.from.ensures ∙ sym head ∙ front)),
)

pub walk-requires-clause-front : goal.walk-requires-clause-front
walk-requires-clause-front g c = λ bytes told.
    let piece = c.reach.new.self in
    let head = piece_range piece.start 0 16 bytes piece.held c.in_ok-reach.ensures.after
    c.in_ok-reach.ensures.before
    (c.in_ok-reach.ensures.read bytes (sym c.in_ok-reach.ensures.still.same ∙ told)) in
    head ∙ sym (ap (take 16) c.from.ensures) ∙ c.in-Some.ensures.found.1
