-- Each way out of a turn, and the next turn, from what was found at the gate.
use Rattle.std.proofs.Common.{ℕ, List, Option, refl, ◌∙◌, subst, arith}
use Rattle.fm_outer.proofs.Moments.{read-none, read-then}
use Rattle.fm_journal.specs.Look.{LiesWithin}
use Rattle.fm_journal.specs.Pieces.{IsPiece}
use Rattle.fm_journal.specs.declared.look.Look.{Look}
use Rattle.fm_journal.proofs.Looking.{shown_as}
use Rattle.fm_journal.proofs.Walking.{reached_start, reached_more, found_closed, damaged_record}
use Rattle.fm_journal.proofs.Walking.{damaged_count}
use Rattle.fm_journal.proofs.scan.walk.Goals as goal

pub records-init : goal.records-init
records-init g c = record {
  still = read-none g.D.Disk g.met.D.Disk.only_now c.args.disk.now;
  count_kept = refl;
  read = c.requires.read;
  reached = λ bytes told.
      reached_start bytes c.args.first c.requires.fits (c.requires.front bytes told);
  inside = omega arith;
  bounded = record {
    first_fits = omega arith;
    counted = omega arith;
    numbered = omega arith;
    sized = omega arith;
  };
}

pub returns-in-Shut-clause-found : goal.returns-in-Shut-clause-found
returns-in-Shut-clause-found g c = λ bytes told.
    found_closed bytes c.args.first c.records.at c.records.count
    (c.records.invariant.reached bytes told)
    (shown_as c.args.size bytes c.records.at _ _ (c.requires.told bytes told)
    (c.in_ok-look_at.ensures.shows bytes (c.records.invariant.still.same ∙ told)) c.in-Shut.is)

pub returns-in-Bad-clause-cause : goal.returns-in-Bad-clause-cause
returns-in-Bad-clause-cause g c = (
  c.in_ok-look_at.ensures.cause ∙ c.records.invariant.count_kept,
  λ bytes told. damaged_record bytes c.args.first c.records.at c.records.count
      (c.records.invariant.reached bytes told)
      (shown_as c.args.size bytes c.records.at _ _ (c.requires.told bytes told)
      (c.in_ok-look_at.ensures.shows bytes (c.records.invariant.still.same ∙ told)) c.in-Bad.is),
)

pub returns-then-count-eq-MAX_COUNT-clause-cause :
    goal.returns-then-count-eq-MAX_COUNT-clause-cause
returns-then-count-eq-MAX_COUNT-clause-cause g c = (
  c.in_ok-look_at.ensures.cause ∙ c.records.invariant.count_kept,
  λ bytes told. damaged_count bytes c.args.first c.records.at c.records.count
      (c.records.invariant.reached bytes told) c.in-Record.next
      (shown_as c.args.size bytes c.records.at _ _ (c.requires.told bytes told)
      (c.in_ok-look_at.ensures.shows bytes (c.records.invariant.still.same ∙ told)) c.in-Record.is)
      (λ counts numbers. omega arith),
)

pub returns-then-first-count-eq-END_OF_NUMBERS-clause-cause :
    goal.returns-then-first-count-eq-END_OF_NUMBERS-clause-cause
returns-then-first-count-eq-END_OF_NUMBERS-clause-cause g c = (
  c.in_ok-look_at.ensures.cause ∙ c.records.invariant.count_kept,
  λ bytes told. damaged_count bytes c.args.first c.records.at c.records.count
      (c.records.invariant.reached bytes told) c.in-Record.next
      (shown_as c.args.size bytes c.records.at _ _ (c.requires.told bytes told)
      (c.in_ok-look_at.ensures.shows bytes (c.records.invariant.still.same ∙ told)) c.in-Record.is)
      (λ counts numbers. omega arith),
)

pub records-preserved : goal.records-preserved
records-preserved g c =
    let within = subst (λ (l : Look). LiesWithin c.records.at c.args.size l) c.in-Record.is
    c.in_ok-look_at.ensures.within in
    record {
      still = read-then g.D.Disk c.args.disk.now c.records.disk c.look_at.new.disk
          c.records.invariant.still c.in_ok-look_at.ensures.still;
      count_kept = c.in_ok-look_at.ensures.cause ∙ c.records.invariant.count_kept;
      read = subst (λ (s : Option (List ℕ)). IsPiece s c.look_at.new.piece)
          c.records.invariant.still.same c.in_ok-look_at.ensures.read;
      reached = λ bytes told.
          reached_more bytes c.args.first c.records.at c.records.count
          (c.records.invariant.reached bytes told) c.in-Record.next
          (shown_as c.args.size bytes c.records.at _ _ (c.requires.told bytes told)
          (c.in_ok-look_at.ensures.shows bytes (c.records.invariant.still.same ∙ told))
          c.in-Record.is)
          (omega (arith, c.records.invariant.bounded)) (omega (arith, c.records.invariant.bounded));
      inside = within.1;
      bounded = record {
        first_fits = c.records.invariant.bounded.first_fits;
        counted = omega (arith, c.records.invariant.bounded.counted);
        numbered = omega (arith, c.records.invariant.bounded.numbered);
        sized = within.2;
      };
    }
