-- What a read of a payload gives.
use Rattle.std.specs.Prelude.{◌≡◌, ◌↔◌, ℕ, ◌+◌, ◌≤◌, List, length, take, slice_get, Some}
use Rattle.std.specs.Prelude.{IsNone, IfSome}
use Rattle.std.specs.Option.{option_map}
use Rattle.std.specs.declared.option.Option.{Option}
use Rattle.fm_outer.specs.declared.disk.Disk.{Ghosts}
use Rattle.fm_journal.specs.Format.{end_of}
use Rattle.fm_journal.specs.JournalOf.{JournalOf}
use Rattle.fm_journal.specs.Keeps.{Keeps}
use Rattle.fm_journal.specs.Look.{HasRecord}

-- where the disk tells its bytes, a record of a payload of which P holds stands at the place,
-- before the gate at the end
abbrev pub StandsAt : {D : Type 0} → Ghosts D → JournalOf D → ℕ → (List ℕ → Type 0) → Type 0
StandsAt g journal place P = (bytes : List ℕ) → g.seen journal.disk ≡ Some bytes
    → HasRecord P (take (journal.end + 1) bytes) place

-- How many bytes the payload at a place has, none exactly at the end of the list. A buffer of
-- `room` bytes that is long enough has the payload in front.
pub record ReadsAt {D : Type 0} (g : Ghosts D) (journal : JournalOf D) (place room : ℕ)
    (buffer : List ℕ) (size : Option ℕ) : Type 0 where
  pub at_end : IsNone size ↔ place ≡ journal.end
  pub within : IfSome size (λ n. place + 5 + n ≤ journal.end)
  pub stands : IfSome size (λ n. StandsAt g journal place (λ payload. (length payload ≡ n)
      × (n ≤ room → take n buffer ≡ payload)))
  pub size_is : (payloads : List (List ℕ)) (k : ℕ) → Keeps g journal payloads
      → place ≡ end_of (take k payloads) → size ≡ option_map length (slice_get payloads k)
  pub payload_is : (payloads : List (List ℕ)) (k : ℕ) (payload : List ℕ)
      → Keeps g journal payloads → place ≡ end_of (take k payloads)
      → slice_get payloads k ≡ Some payload → length payload ≤ room
      → take (length payload) buffer ≡ payload
