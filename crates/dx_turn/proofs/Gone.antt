-- A turn went on: what the calls leave is what the step says.
use Rattle.std.proofs.Common.{◌≡◌, ℕ, ◌+◌, ◌<◌, Bool, true, false, List, [], ◌∷◌, ◌++◌}
use Rattle.std.proofs.Common.{length, refl, sym, ap, ◌∙◌, subst, inl, inr, get_or, take}
use Rattle.std.proofs.Common.{◌||◌, ◌^◌}
use Rattle.std.proofs.Common.{drop, append-nil}
use Rattle.std.proofs.Math.ListN.{set}
use Rattle.std.specs.List.{All, list_any}
use Rattle.std.proofs.lemmas.Bool.{false≢true}
use Rattle.fm_core.specs.Meaning.{OpenCase}
use Rattle.ev_graph.specs.Lawful.{GraphValue}
use Rattle.dx_explain.specs.Cases.{takes_report, case_joined, case_opened}
use Rattle.dx_case.specs.declared.case.Case.{Case}
use Rattle.dx_case.specs.Cases.{open_of}
use Rattle.dx_turn.specs.declared.ground.Ground.{Ground}
use Rattle.dx_turn.specs.declared.joining.Incoming.{Incoming}
use Rattle.dx_turn.specs.declared.told.Told.{Told}
use Rattle.dx_turn.specs.declared.tracked.Tracked.{Tracked}
use Rattle.dx_turn.specs.Grounds.{IsGround}
use Rattle.dx_turn.specs.Turning.{turn_at, HasTurned, decided_or_left, left_of}
use Rattle.dx_turn.specs.Tracking.{now_of, opens_of, opens_in, IsTrackedAt}
use Rattle.dx_turn.specs.Joining.{takes_any, IsFirstPlace, joined_by}
use Rattle.dx_turn.proofs.Places.{any_append}
use Rattle.dx_turn.proofs.Tracking.{now_cases, opens_append, opens_one, opens_none, split_at}
use Rattle.dx_turn.proofs.Tracking.{split_set}
use Rattle.dx_turn.proofs.Passing.{opens_more}
use Rattle.dx_turn.proofs.Joins.{joined_turn, opened_turn}

-- a case that takes a report is there
or_nothing : (b : Bool) → (b || false) ≡ true → b ≡ true
or_nothing true h = refl
or_nothing false h = h

pub record IsTaking (d : Ground) (node : ℕ) (t : Tracked) : Type 0 where
  pub case : Case
  pub now : now_of t ≡ case ∷ []
  pub takes : takes_report d.graph.now d.time node (open_of case) ≡ true

pub taking : (d : Ground) (node : ℕ) (t : Tracked) → takes_any d node (opens_of t) ≡ true
    → IsTaking d node t
taking d node t h =
    elim (now_cases t) [
      | inl none ↦ absurd (false≢true (sym (ap (takes_any d node) (opens_none t none)) ∙ h))
      | inr one ↦ record {
        case = one.0;
        now = one.1;
        takes = or_nothing (takes_report d.graph.now d.time node (open_of one.0))
            (sym (ap (takes_any d node) (opens_one t one.0 one.1)) ∙ h);
      }
    ]

-- the report joined the case at a place
pub joined_gone : (d : Ground) (i : Incoming) (ts : List Tracked) (at : ℕ) (e t : Tracked)
    (c : OpenCase) (next : ℕ) (old new : Told) → IsGround d
    → IsFirstPlace d i.node ts at
    → ((o : OpenCase) → opens_of (get_or ts at e) ≡ o ∷ []
    → c ≡ case_joined i.node i.entry i.links.now o)
    → opens_of t ≡ left_of d c → HasTurned d (decided_or_left d i.notes c) old new
    → turn_at d next (opens_in (set ts at t)) new
    ≡ joined_by d i (turn_at d next (opens_in ts) old)
joined_gone d i ts at e t c next old new ground place made left h =
    let xs = opens_in (take at ts) in
    let ys = opens_in (drop (at + 1) ts) in
    let one = taking d i.node (get_or ts at e) (place.takes e) in
    let o = open_of one.case in
    let there : opens_of (get_or ts at e) ≡ o ∷ [] = opens_one (get_or ts at e) one.case one.now in
    ap (λ ks. turn_at d next ks new) (split_set ts at t place.low
    ∙ ap (λ ks. xs ++ (ks ++ ys)) left)
    ∙ joined_turn d i ground xs ys o c next old new place.none_before one.takes (made o there) h
    ∙ ap (λ ks. joined_by d i (turn_at d next ks old))
    (sym (split_at ts at e place.low ∙ ap (λ ks. xs ++ (ks ++ ys)) there))

-- the report opened a case
pub opened_gone : (d : Ground) (i : Incoming) (ts : List Tracked) (t : Tracked) (c : OpenCase)
    (next : ℕ) (old new : Told) → IsGround d → takes_any d i.node (opens_in ts) ≡ false
    → next < 2 ^ 63 → c ≡ case_opened next i.node d.time i.entry i.links.now
    → opens_of t ≡ left_of d c → HasTurned d (decided_or_left d i.notes c) old new
    → turn_at d (next + 1) (opens_in (ts ++ t ∷ [])) new
    ≡ joined_by d i (turn_at d next (opens_in ts) old)
opened_gone d i ts t c next old new ground none low is left h =
    let k = case_opened next i.node d.time i.entry i.links.now in
    ap (λ ks. turn_at d (next + 1) ks new)
    (opens_append ts (t ∷ []) ∙ ap (λ ks. opens_in ts ++ ks) (append-nil (opens_of t) ∙ left
    ∙ ap (left_of d) is))
    ∙ opened_turn d i ground (opens_in ts) next old new none low
    (subst (λ (o : OpenCase). HasTurned d (decided_or_left d i.notes o) old new) is h)

-- one more case that the report does not join
pub place_more : (d : Ground) (node : ℕ) (ts : List Tracked) (at : ℕ) (t : Tracked) (b : Bool)
    → at < length ts → t ≡ get_or ts at t → All (IsTrackedAt d.graph.now d.time) ts
    → ((g : GraphValue) (time : ℕ) → IsTrackedAt g time t
    → b ≡ list_any (takes_report g time node) (opens_of t)) → b ≡ false
    → takes_any d node (opens_in (take at ts)) ≡ false
    → takes_any d node (opens_in (take (at + 1) ts)) ≡ false
place_more d node ts at t b low is all says off none =
    let here = subst (IsTrackedAt d.graph.now d.time) (sym is) (all at t low) in
    ap (takes_any d node) (opens_more ts at t low
    ∙ ap (λ (x : Tracked). opens_in (take at ts) ++ opens_of x) (sym is))
    ∙ any_append (takes_report d.graph.now d.time node) (opens_in (take at ts)) (opens_of t) none
    (sym (says d.graph.now d.time here) ∙ off)
