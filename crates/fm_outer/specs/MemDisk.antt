-- What a disk in memory is seen as, and what its calls make of it.
use Rattle.std.specs.Prelude.{ℕ, ◌+◌, ◌≤◌, List, [], Bool, not, ◌&&◌, nat_le, length, take}
use Rattle.fm_outer.specs.FailPlan.{Plan, is_due, after_call, fresh_plan}
use Rattle.fm_outer.specs.Record.{Op, content_after, IsImage}
use Rattle.fm_outer.specs.Tape.{Tape, recorded, has_place}

-- what it had when it was made, the record of its writing calls, how many bytes it may have, and
-- which calls fail
pub record DiskState : Type 0 where
  pub base : List ℕ
  pub tape : Tape
  pub room : ℕ
  pub plan : Plan

-- a disk that is held by value has one name
abbrev pub disk_name : DiskState → ℕ
disk_name disk = 0

-- the bytes that a read gives
abbrev pub content : DiskState → List ℕ
content disk = content_after disk.tape.ops disk.base

-- what a crash now may leave
abbrev pub Images : DiskState → List ℕ → Type 0
Images disk c = IsImage disk.tape.ops disk.base c

-- what a crash since some of the writing calls might have left: an image after some of those that
-- follow
abbrev pub LeftSince : DiskState → ℕ → List ℕ → Type 0
LeftSince disk t c = (k : ℕ) × (t ≤ k) × (k ≤ length disk.tape.ops)
    × IsImage (take k disk.tape.ops) disk.base c

-- a disk on which no call was made
abbrev pub fresh_disk : List ℕ → ℕ → ℕ → List ℕ → DiskState
fresh_disk bytes room size fails =
    record {
      base = bytes;
      tape = record { ops = []; size = size };
      room = room;
      plan =
          fresh_plan fails;
    }

-- the next call is done, if it has so many places in the record
abbrev pub does : ℕ → DiskState → Bool
does n disk = has_place n disk.tape && not (is_due disk.plan)

-- a write of n bytes is done now: it is not due to fail, and has room and a place in the record
abbrev pub does_write : ℕ → ℕ → DiskState → Bool
does_write at n disk = does (1 + n) disk && nat_le (at + n) disk.room

-- after a call that writes nothing
abbrev pub asked : Bool → DiskState → DiskState
asked done disk = record disk { plan = after_call done disk.plan }

-- after a writing call, which is on the record where that has room
abbrev pub called : Op → Bool → DiskState → DiskState
called op done disk = record disk { tape = recorded op disk.tape; plan = after_call done disk.plan }
