-- How the record of writing calls is kept: the calls, and apart from them the bytes that they
-- wrote, end to end.
use Rattle.std.specs.Prelude.{◌≡◌, ℕ, ◌+◌, ◌≤◌, List, [], ◌∷◌, ◌++◌, Bool, if◌then◌else◌, nat_le}
use Rattle.std.specs.Prelude.{length, take, drop}
use Rattle.fm_outer.specs.declared.record.Call.{Call}
use Rattle.fm_outer.specs.declared.record.Call.TheVariants.{Write, Cut, Sync}
use Rattle.fm_outer.specs.Record.{Op, Wrote, CutTo, Synced, places, places_of}

-- the calls so far, and how many places there are
pub record Tape : Type 0 where
  pub ops : List Op
  pub size : ℕ

-- the record has room for the call
abbrev pub has_place : ℕ → Tape → Bool
has_place n tape = nat_le (places_of tape.ops + n) tape.size

-- the call on the record, where it has room
abbrev pub recorded : Op → Tape → Tape
recorded op tape = if has_place (places op) tape then record tape { ops = tape.ops ++ op ∷ [] }
    else tape

-- how many bytes the call wrote
abbrev pub bytes_in : Call → ℕ
bytes_in (Write at count done) = count
bytes_in (Cut len done) = 0
bytes_in (Sync done) = 0

-- how many bytes they wrote
abbrev pub all_bytes : List Call → ℕ
all_bytes [] = 0
all_bytes (call ∷ calls) = bytes_in call + all_bytes calls

-- the call, with the bytes that it wrote
abbrev pub op_of : Call → List ℕ → Op
op_of (Write at count done) bytes = Wrote at bytes done
op_of (Cut len done) bytes = CutTo len done
op_of (Sync done) bytes = Synced done

-- the calls, each with its bytes
abbrev pub ops_of : List Call → List ℕ → List Op
ops_of [] bytes = []
ops_of (call ∷ calls) bytes =
    op_of call (take (bytes_in call) bytes) ∷ ops_of calls (drop (bytes_in call) bytes)

-- the bytes are those of the calls, and there is room for all the places
pub record IsWhole (calls : List Call) (bytes : List ℕ) (size calls_room bytes_room : ℕ) : Type 0
  where
    pub whole : all_bytes calls ≡ length bytes
    pub fits : length calls + length bytes ≤ size
    pub calls_fit : size ≤ calls_room
    pub bytes_fit : size ≤ bytes_room
