-- The looks of a command over a store, where it went on behind them or stopped at the store.
use Rattle.std.proofs.Common.{inl, inr, ℕ, List, ◌∷◌, refl, Result, Ok, Err}
use Rattle.fm_act.specs.Reconciled.{ActuatorState}
use Rattle.fm_answers.specs.StreamsAt.{SinkAt}
use Rattle.fm_answers.specs.declared.stops.Stop.{Stop}
use Rattle.fm_answers.specs.declared.stops.Stop.TheVariants.{Write, Disk, Damaged, Memory, Full}
use Rattle.fm_answers.specs.declared.stops.Stop.TheVariants.{Act}
use Rattle.fm_top.specs.Accepting.{OpeningStops}
use Rattle.fm_top.specs.Esc.{TextEnds}
use Rattle.fm_top.specs.Fmd.{ConcludingStops, SettlingEnds}
use Rattle.fm_top.specs.Limits.{WorkLimit}
use Rattle.fm_top.specs.Order.{AllPass, Goes, Look, World, at_store, world_of}
use Rattle.fm_top.specs.Outside.{Outside}

-- all looks pass, and a text was to be put
pub put_goes : (w : World) (order : List Look) (out out_now : SinkAt) (text : List ℕ)
    (ran : Result (Unit {0}) Stop) → AllPass w order → TextEnds out out_now text ran
    → Goes w order ran
put_goes w order out out_now text (Ok done) pass ends = pass
put_goes w order out out_now text (Err Write) pass ends = inl tt
put_goes w order out out_now text (Err Memory) pass ends = inl tt
put_goes w order out out_now text (Err _) pass ends = absurd ends

-- all looks pass, and actuators were to be settled
pub settled_goes : (w : World) (order : List Look) (paths : List (List ℕ)) (text : List ℕ)
    (acts acts_now : List ActuatorState) (out out_now : SinkAt) (ran : Result (Unit {0}) Stop)
    → AllPass w order → SettlingEnds paths text acts acts_now out out_now ran → Goes w order ran
settled_goes w order paths text acts acts_now out out_now (Ok done) pass ends = pass
settled_goes w order paths text acts acts_now out out_now (Err (Act index)) pass ends = inl tt
settled_goes w order paths text acts acts_now out out_now (Err Write) pass ends = inl tt
settled_goes w order paths text acts acts_now out out_now (Err Memory) pass ends = inl tt
settled_goes w order paths text acts acts_now out out_now (Err _) pass ends = absurd ends

module _ (before after : Outside) (more : List Look) where
  abbrev GoesOn : Stop → Type 0
  GoesOn stop = Goes (world_of before after) (at_store ∷ more) (Err stop)

  -- the store was not opened
  pub unopened_goes : (stop : Stop) → OpeningStops before.disks stop → GoesOn stop
  unopened_goes Disk why = inl tt
  unopened_goes Memory why = inl tt
  unopened_goes (Damaged disk place) why = inr (inl (inl (disk, place, refl, why)))
  unopened_goes _ why = absurd why

  -- the work on a store whose looks pass stopped
  pub worked_goes : (limit : WorkLimit) (stop : Stop)
      → AllPass (world_of before after) (at_store ∷ more)
      → ConcludingStops limit before.disks stop → GoesOn stop
  worked_goes limit Disk pass why = inl tt
  worked_goes limit Memory pass why = inl tt
  worked_goes limit (Full kind) pass why = inr (inr (pass, tt))
  worked_goes limit (Damaged disk place) pass why =
      inr (inl (inl (disk, place, refl, λ told tells. absurd (why told tells))))
  worked_goes limit _ pass why = absurd why
