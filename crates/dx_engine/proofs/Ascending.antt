-- Words that ascend with some more ascend without them.
use Rattle.std.proofs.Common.{ℕ, Bool, true, false, nat_lt, IsTrue, List, [], ◌∷◌}
use Rattle.std.proofs.Common.{refl, if◌then◌else◌}
use Rattle.std.specs.List.{list_all}
use Rattle.std.proofs.lemmas.Bool.{and_from, and_parts}
use Rattle.fm_entry.specs.declared.list_event.ListEvent.{ListEvent}
use Rattle.ev_incidence.specs.Sets.{ascends}
use Rattle.dx_explain.specs.Cases.{inserted}
use Rattle.dx_said.specs.Making.{with_words}
use Rattle.dx_state.specs.LawfulState.{solved_numbers}
use Rattle.dx_state.proofs.Lists.{is_strict, strict_of, ascends_of}
use Rattle.dx_step.specs.Said.{with_last_word}

abbrev by_case : ListEvent → ListEvent → Bool
by_case a b = nat_lt a.case.case b.case.case

-- what all numbers pass with one word more, they pass without it
without_all : (p : ℕ → Bool) (w : ListEvent) (ws : List ListEvent)
    → IsTrue (list_all p (solved_numbers (inserted by_case w ws)))
    → IsTrue (list_all p (solved_numbers ws))
without_all p w [] h = refl
without_all p w (v ∷ vs) h =
    elim (by_case w v) as (λ (b : Bool). IsTrue (list_all p (solved_numbers (if b then w ∷ v ∷ vs
    else (if by_case v w then v ∷ inserted by_case w vs else v ∷ vs))))
    → IsTrue (list_all p (solved_numbers (v ∷ vs)))) [
      | true ↦ λ k. (and_parts (p w.case.case) (list_all p (solved_numbers (v ∷ vs))) k).1
      | false ↦
          elim (by_case v w) as (λ (b : Bool). IsTrue (list_all p (solved_numbers
          (if b then v ∷ inserted by_case w vs else v ∷ vs)))
          → IsTrue (list_all p (solved_numbers (v ∷ vs)))) [
            | true ↦ λ k.
                let parts = and_parts (p v.case.case)
                (list_all p (solved_numbers (inserted by_case w vs))) k in
                and_from (p v.case.case) (list_all p (solved_numbers vs)) parts.0
                (without_all p w vs parts.1)
            | false ↦ λ k. k
          ]
    ] h

without_one : (w : ListEvent) (ws : List ListEvent)
    → IsTrue (is_strict (solved_numbers (inserted by_case w ws)))
    → IsTrue (is_strict (solved_numbers ws))
without_one w [] h = refl
without_one w (v ∷ vs) h =
    elim (by_case w v) as (λ (b : Bool). IsTrue (is_strict (solved_numbers (if b then w ∷ v ∷ vs
    else (if by_case v w then v ∷ inserted by_case w vs else v ∷ vs))))
    → IsTrue (is_strict (solved_numbers (v ∷ vs)))) [
      | true ↦ λ k.
          (and_parts (list_all (nat_lt w.case.case) (solved_numbers (v ∷ vs)))
          (is_strict (solved_numbers (v ∷ vs))) k).1
      | false ↦
          elim (by_case v w) as (λ (b : Bool). IsTrue (is_strict (solved_numbers
          (if b then v ∷ inserted by_case w vs else v ∷ vs)))
          → IsTrue (is_strict (solved_numbers (v ∷ vs)))) [
            | true ↦ λ k.
                let all = list_all (nat_lt v.case.case)
                (solved_numbers (inserted by_case w vs)) in
                let parts = and_parts all
                (is_strict (solved_numbers (inserted by_case w vs))) k in
                and_from (list_all (nat_lt v.case.case) (solved_numbers vs))
                (is_strict (solved_numbers vs))
                (without_all (nat_lt v.case.case) w vs parts.0) (without_one w vs parts.1)
            | false ↦ λ k. k
          ]
    ] h

without_strict : (more ws : List ListEvent)
    → IsTrue (is_strict (solved_numbers (with_words more ws)))
    → IsTrue (is_strict (solved_numbers ws))
without_strict [] ws h = h
without_strict (w ∷ more) ws h =
    without_one w ws (without_strict more (with_last_word w ws) h)

pub without_words : (more ws : List ListEvent)
    → IsTrue (ascends (solved_numbers (with_words more ws)))
    → IsTrue (ascends (solved_numbers ws))
without_words more ws h =
    ascends_of (solved_numbers ws)
    (without_strict more ws (strict_of (solved_numbers (with_words more ws)) h))
