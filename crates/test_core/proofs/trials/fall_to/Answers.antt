use Rattle.std.proofs.Common.{◌≡◌, ◌≤◌, ◌∙◌, ◌^◌, ap, subst, length, take, arith}
use Rattle.std.proofs.lemmas.List.{length-take-le}
use Rattle.std.proofs.lemmas.List.Elements.{All-take}
use Rattle.fm_entry.specs.Entries.{IsSpelled}
use Rattle.fm_core.specs.Book.{floor_of}
use Rattle.fm_core.specs.Seen.{book_of, seen}
use Rattle.fm_core.specs.Counter.{counters}
use Rattle.test_core.specs.Trials.{shown_after}
use Rattle.test_core.proofs.Counters.{rebuilt_follows, floor_below, below_own, filled_fallen}
use Rattle.test_core.proofs.trials.fall_to.Goals as goal

pub rebuilt-requires-clause-spelled : goal.rebuilt-requires-clause-spelled
rebuilt-requires-clause-spelled c =
    All-take IsSpelled c.args.place c.entries-entries.result.now
    c.entries-entries.ensures.few.spelled

pub rebuilt-requires-clause-few : goal.rebuilt-requires-clause-few
rebuilt-requires-clause-few c =
    let size : length (take c.args.place c.entries-entries.result.now) ≡ c.args.place =
    length-take-le c.args.place c.entries-entries.result.now c.if-place-entries.false in
    let most : length c.entries-entries.result.now ≤ 2 ^ 46 =
    omega (arith, c.entries-entries.ensures.few.few) in
    omega (arith, c.if-place-entries.false)

pub fall-own-requires-clause-may : goal.fall-own-requires-clause-may
fall-own-requires-clause-may c κs =
    record {
      follows = rebuilt_follows c.args.core.now c.in_ok-hand.hand c.args.place c.requires
          (subst (λ es. c.args.place ≤ length es) c.entries-entries.ensures.entries
          c.if-place-entries.false)
          (c.in_ok-hand.ensures
          ∙ ap (λ es. shown_after (take c.args.place es)) c.entries-entries.ensures.entries);
      above = subst (λ n. floor_of (book_of (seen counters c.args.core.now)) 0 ≤ n)
          c.cursor-3.ensures
          (floor_below c.args.core.now c.spoken.result.now c.cursor-3.result c.requires
          c.spoken.ensures (c.are_below.ensures c.if-not-are_below.false));
      below = below_own c.args.core.now c.hand.result.now c.in_ok-hand.hand.cursor c.hand.ensures
          (omega (arith, c.if-cursor.false, c.cursor.ensures, c.cursor-2.ensures));
    }

pub returns : goal.returns
returns c = filled_fallen c.args.core.now c.fall-own.new.self c.in_ok-hand.hand
    c.fall-own.ensures.put c.fall-own.ensures.lawful c.requires
