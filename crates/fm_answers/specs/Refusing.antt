-- How one step of a run stops, by the cause: what it leaves of the text that it was to put, and of
-- the entry.
use Rattle.std.specs.Prelude.{◌≡◌, ◌⊎◌, ℕ, ◌≤◌, List, [], ◌∷◌, length, take, Some, None}
use Rattle.std.specs.Io.KnownBytes.{Appends}
use Rattle.fm_entry.specs.declared.entry.Entry.{Entry}
use Rattle.fm_outer.specs.Failures.{Rose}
use Rattle.fm_answers.specs.StreamsAt.{SinkAt}
use Rattle.fm_answers.specs.Running.{Taken}
use Rattle.fm_answers.specs.declared.stops.Stop.{Stop}
use Rattle.fm_answers.specs.declared.stops.Stop.TheVariants.{Write, Disk, Memory, Full}

-- a text was to be put: the sink failed and took a front of it, or memory was wanted before
abbrev pub PutCut : SinkAt → SinkAt → List ℕ → Stop → Type 0
PutCut out out_now text Write =
    Rose out.failures out_now.failures
    × ((m : ℕ) × (m ≤ length text) × Appends out.bytes out_now.bytes (take m text))
PutCut out out_now text Memory =
    Appends out.bytes out_now.bytes [] × (out_now.failures ≡ out.failures)
PutCut out out_now text _ = ⊥

-- an entry was to be taken, and was not
abbrev pub TakeStops : Taken → Entry → Stop → Type 0
TakeStops taken entry Disk = taken [] (Some (Disk, entry))
TakeStops taken entry (Full kind) = taken [] (Some (Full kind, entry))
TakeStops taken entry Memory = taken [] None
TakeStops taken entry _ = ⊥

-- a line with these entries was to be answered by this text
abbrev pub LineStops : Taken → (List ℕ → Type 0) → List ℕ → List Entry → Stop → Type 0
LineStops taken puts text entries Write =
    (m : ℕ) × (m ≤ length text) × puts (take m text) × taken entries None
LineStops taken puts text entries Memory = puts [] × (taken [] None ⊎ taken entries None)
LineStops taken puts text entries Disk =
    puts [] × ((entry : Entry) × (entries ≡ entry ∷ []) × taken [] (Some (Disk, entry)))
LineStops taken puts text entries (Full kind) =
    puts [] × ((entry : Entry) × (entries ≡ entry ∷ []) × taken [] (Some (Full kind, entry)))
LineStops taken puts text entries _ = ⊥
