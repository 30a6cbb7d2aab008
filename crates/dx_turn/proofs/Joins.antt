-- A report joins a case, or opens one.
use Rattle.std.proofs.Common.{◌≡◌, ℕ, ◌+◌, ◌^◌, ◌<◌, ◌≤◌, Bool, true, false, nat_lt, List, ◌∷◌}
use Rattle.std.proofs.Common.{◌++◌, length, sym, ap, ◌∙◌, arith, Option}
use Rattle.std.proofs.Common.{if◌then◌else◌, slice_set}
use Rattle.std.specs.Prelude.{remove, position}
use Rattle.std.proofs.lemmas.Bool.{lt-ltb}
use Rattle.std.proofs.lemmas.Bool.Decides.{nat_tests}
use Rattle.fm_core.specs.Meaning.{OpenCase}
use Rattle.ev_graph.specs.Lawful.{GraphValue}
use Rattle.dx_explain.specs.Cases.{waits, takes_report, case_joined, case_opened}
use Rattle.dx_step.specs.Turns.{Turn, decide, settle}
use Rattle.dx_step.specs.Reports.{opens_case, join_case, join_or_open}
use Rattle.dx_turn.specs.declared.ground.Ground.{Ground}
use Rattle.dx_turn.specs.declared.joining.Incoming.{Incoming}
use Rattle.dx_turn.specs.declared.told.Told.{Told}
use Rattle.dx_turn.specs.Grounds.{IsGround, rules_on}
use Rattle.dx_turn.specs.Turning.{turn_at, HasTurned, decided_or_left, left_of}
use Rattle.dx_turn.specs.Joining.{takes_any, joined_by}
use Rattle.dx_turn.proofs.Places.{place_none, place_first, get_there, set_there, remove_there}
use Rattle.dx_turn.proofs.Settles.{decided_among, settled_any}

module _ (d : Ground) (i : Incoming) (ground : IsGround d) where
  -- the report at a place, or at none
  abbrev by_place : Option ℕ → Turn → Turn
  by_place o t = join_or_open (rules_on d) i.notes i.entry i.node i.links.now o t

  placed : (xs : List OpenCase) (next : ℕ) (told : Told)
      → joined_by d i (turn_at d next xs told)
      ≡ by_place (position (takes_report d.graph.now d.time i.node) xs) (turn_at d next xs told)
  placed xs next told =
      ap (λ (g : GraphValue). by_place (position (takes_report g d.time i.node) xs)
      (turn_at d next xs told)) ground.graph

  -- it joins the first case that takes it
  joined_there : (xs ys : List OpenCase) (o : OpenCase) (next : ℕ) (told : Told)
      → takes_any d i.node xs ≡ false → takes_report d.graph.now d.time i.node o ≡ true
      → joined_by d i (turn_at d next (xs ++ o ∷ ys) told)
      ≡ (if waits d.graph.now d.time (case_joined i.node i.entry i.links.now o)
      then turn_at d next (xs ++ case_joined i.node i.entry i.links.now o ∷ ys) told
      else decide (rules_on d) i.notes (case_joined i.node i.entry i.links.now o)
      (turn_at d next (xs ++ ys) told))
  joined_there xs ys o next told none takes =
      let p = takes_report d.graph.now d.time i.node in
      let t = turn_at d next (xs ++ o ∷ ys) told in
      let c = case_joined i.node i.entry i.links.now o in
      placed (xs ++ o ∷ ys) next told
      ∙ ap (λ (q : Option ℕ). by_place q t) (place_first p xs ys o none takes)
      ∙ ap (λ (q : Option OpenCase). join_case (rules_on d) i.notes i.entry i.node i.links.now
      (length xs) q t) (get_there xs ys o)
      ∙ ap (λ (g : GraphValue). if waits g d.time c
      then turn_at d next (slice_set (xs ++ o ∷ ys) (length xs) c) told
      else decide (rules_on d) i.notes c
      (turn_at d next (remove (xs ++ o ∷ ys) (length xs)) told)) ground.graph
      ∙ ap (λ (ks : List OpenCase). if waits d.graph.now d.time c then turn_at d next ks told
      else decide (rules_on d) i.notes c
      (turn_at d next (remove (xs ++ o ∷ ys) (length xs)) told)) (set_there xs ys o c)
      ∙ ap (λ (ks : List OpenCase). if waits d.graph.now d.time c
      then turn_at d next (xs ++ c ∷ ys) told
      else decide (rules_on d) i.notes c (turn_at d next ks told)) (remove_there xs ys o)

  pub joined_turn : (xs ys : List OpenCase) (o c : OpenCase) (next : ℕ) (old new : Told)
      → takes_any d i.node xs ≡ false → takes_report d.graph.now d.time i.node o ≡ true
      → c ≡ case_joined i.node i.entry i.links.now o
      → HasTurned d (decided_or_left d i.notes c) old new
      → turn_at d next (xs ++ (left_of d c ++ ys)) new
      ≡ joined_by d i (turn_at d next (xs ++ o ∷ ys) old)
  joined_turn xs ys o c next old new none takes is h =
      decided_among d i.notes c xs ys next old new h
      ∙ ap (λ (k : OpenCase). if waits d.graph.now d.time k then turn_at d next (xs ++ k ∷ ys) old
      else decide (rules_on d) i.notes k (turn_at d next (xs ++ ys) old)) is
      ∙ sym (joined_there xs ys o next old none takes)

  -- it opens a case
  opens : (xs : List OpenCase) (next : ℕ) (told : Told) → takes_any d i.node xs ≡ false
      → joined_by d i (turn_at d next xs told)
      ≡ opens_case (rules_on d) i.notes i.entry i.node i.links.now (turn_at d next xs told)
  opens xs next told none =
      placed xs next told
      ∙ ap (λ (q : Option ℕ). by_place q (turn_at d next xs told))
      (place_none (takes_report d.graph.now d.time i.node) xs none)

  pub opened_turn : (xs : List OpenCase) (next : ℕ) (old new : Told)
      → takes_any d i.node xs ≡ false → next < 2 ^ 63
      → HasTurned d (decided_or_left d i.notes (case_opened next i.node d.time i.entry i.links.now))
      old new
      → turn_at d (next + 1)
      (xs ++ left_of d (case_opened next i.node d.time i.entry i.links.now)) new
      ≡ joined_by d i (turn_at d next xs old)
  opened_turn xs next old new none low h =
      let c = case_opened next i.node d.time i.entry i.links.now in
      settled_any d i.notes c xs (next + 1) old new ground h
      ∙ ap (λ (b : Bool). if b then settle (rules_on d) i.notes c (turn_at d (next + 1) xs old)
      else turn_at d next xs old) (sym (lt-ltb next (2 ^ 63) low))
      ∙ sym (opens xs next old none)

  pub unopened_turn : (xs : List OpenCase) (next : ℕ) (told : Told)
      → takes_any d i.node xs ≡ false → 2 ^ 63 ≤ next
      → turn_at d next xs told ≡ joined_by d i (turn_at d next xs told)
  unopened_turn xs next told none high =
      let c = case_opened next i.node d.time i.entry i.links.now in
      let full : nat_lt next (2 ^ 63) ≡ false = grind (arith, nat_tests) in
      ap (λ (b : Bool). if b then settle (rules_on d) i.notes c (turn_at d (next + 1) xs told)
      else turn_at d next xs told) (sym full)
      ∙ sym (opens xs next told none)
