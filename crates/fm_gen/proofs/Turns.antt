-- One turn, and all of them.
use Rattle.std.proofs.Common.{◌≡◌, ℕ, zero, suc, ◌+◌, ◌%◌, ◌^◌, ◌≤◌, Bool, true, false, cond}
use Rattle.std.proofs.Common.{List, [], ◌∷◌, length, Some, nat_le, refl, ap}
use Rattle.std.proofs.Common.{◌∙◌, arith, inl, inr, add-one}
use Rattle.std.proofs.lemmas.Bool.{and_from}
use Rattle.std.proofs.lemmas.Grind.{common_steps}
use Rattle.std.proofs.lemmas.Nat.{mod_below}
use Rattle.std.proofs.lemmas.Option.{slice_get_cases}
use Rattle.fm_name.specs.declared.events.EventName.{EventName}
use Rattle.fm_nv.specs.Data.{no_pairs}
use Rattle.fm_entry.specs.declared.entry.Entry.TheVariants.{Report, Tick}
use Rattle.fm_gen.specs.Generated.{drawn, draw_of, picked, entries_from, turns_of}
use Rattle.fm_gen.specs.Generated.{rises_from, IsGenerated}

-- a number picks an event, where there is one
picks : (reports : List EventName) (n : ℕ) → 1 ≤ length reports
    → (event : EventName) × (picked reports n ≡ Some event)
picks reports n some =
    elim (slice_get_cases reports (n % length reports)).1 [
      | inl here ↦ (here.0, here.2)
      | inr past ↦
          let below = mod_below n (length reports) some in
          absurd (omega arith)
    ]

-- the entries of a turn and of those after it
pub turn_is : (reports : List EventName) (turns x moment : ℕ) (event : EventName)
    → picked reports (draw_of (drawn x)) ≡ Some event
    → entries_from reports (suc turns) x moment
    ≡ Report event.class event.path (moment + draw_of (drawn (drawn x)) % 2000000000) no_pairs
    ∷ entries_from reports turns (drawn (drawn x))
    (moment + draw_of (drawn (drawn x)) % 2000000000)
unfolding entries_from
turn_is reports turns x moment event e = rw e

-- the tick, after the last turn
pub end_is : (reports : List EventName) (x moment : ℕ)
    → entries_from reports 0 x moment ≡ Tick (moment + 2 ^ 50) ∷ []
unfolding entries_from
end_is reports x moment = refl

-- what is left where only the tick is
pub tick_left : (ended : Bool) (reports : List EventName) (turns x moment : ℕ) → ended ≡ false
    → turns ≡ 0
    → cond ended [] (entries_from reports turns x moment) ≡ Tick (moment + 2 ^ 50) ∷ []
tick_left ended reports turns x moment e t = rw (e, t) (end_is reports x moment)

-- what is left where a turn is to come, by the values that it comes to
pub turn_left : (ended : Bool) (reports : List EventName)
    (turns left x moment after later : ℕ) (event : EventName)
    → ended ≡ false → turns ≡ left + 1 → after ≡ drawn (drawn x)
    → later ≡ moment + draw_of (drawn (drawn x)) % 2000000000
    → picked reports (draw_of (drawn x)) ≡ Some event
    → cond ended [] (entries_from reports turns x moment)
    ≡ Report event.class event.path later no_pairs
    ∷ cond ended [] (entries_from reports left after later)
turn_left ended reports turns left x moment after later event n e a l p =
    rw (n, e, add-one left, l, a) (turn_is reports left x moment event p)

as_many_from : (reports : List EventName) (turns x moment : ℕ) → (1 ≤ turns → 1 ≤ length reports)
    → length (entries_from reports turns x moment) ≡ turns + 1
as_many_from reports zero x moment some = ap length (end_is reports x moment)
as_many_from reports (suc turns) x moment some =
    let here = some (omega arith) in
    let event = picks reports (draw_of (drawn x)) here in
    let more : suc (turns + 1) ≡ suc turns + 1 = omega arith in
    ap length (turn_is reports turns x moment event.0 event.1)
    ∙ (ap suc (as_many_from reports turns (drawn (drawn x))
    (moment + draw_of (drawn (drawn x)) % 2000000000) (λ _. here)) ∙ more)

later_le : (moment more : ℕ) → nat_le moment (moment + more) ≡ true
later_le moment more = grind (arith, common_steps)

rises_all : (reports : List EventName) (turns x moment : ℕ) → (1 ≤ turns → 1 ≤ length reports)
    → rises_from moment (entries_from reports turns x moment) ≡ true
rises_all reports zero x moment some =
    ap (rises_from moment) (end_is reports x moment)
    ∙ and_from _ true (later_le moment (2 ^ 50)) refl
rises_all reports (suc turns) x moment some =
    let here = some (omega arith) in
    let event = picks reports (draw_of (drawn x)) here in
    ap (rises_from moment) (turn_is reports turns x moment event.0 event.1)
    ∙ and_from _ _ (later_le moment (draw_of (drawn (drawn x)) % 2000000000))
    (rises_all reports turns (drawn (drawn x))
    (moment + draw_of (drawn (drawn x)) % 2000000000) (λ _. here))

-- where there are turns there is something to report
turns_need : (reports : List EventName) → 1 ≤ turns_of reports → 1 ≤ length reports
turns_need [] h = h
turns_need (event ∷ events) h = omega arith

pub are_generated : (seed start : ℕ) (reports : List EventName) → IsGenerated seed start reports
are_generated seed start reports = record {
  as_many = as_many_from reports (turns_of reports) seed start (turns_need reports);
  rises = rises_all reports (turns_of reports) seed start (turns_need reports);
}
