-- The record of a disk's writing calls, what a read gives after them, and what a crash after them
-- may leave.
use Rattle.std.specs.Prelude.{◌≡◌, ℕ, ◌+◌, List, [], ◌∷◌, Bool, true, false, if◌then◌else◌, nat_le}
use Rattle.std.specs.Prelude.{length, take}
use Rattle.fm_outer.specs.Bytes.{written}
use Rattle.fm_outer.specs.Crash.{Torn, Shorter}

-- a writing call, and whether it was done
pub data Op : Type 0 where
  Wrote : (at : ℕ) (bytes : List ℕ) (done : Bool) → Op
  CutTo : (len : ℕ) (done : Bool) → Op
  Synced : (done : Bool) → Op

-- how many places of the record the call takes
abbrev pub places : Op → ℕ
places (Wrote at bytes done) = 1 + length bytes
places (CutTo len done) = 1
places (Synced done) = 1

-- how many places they take
abbrev pub places_of : List Op → ℕ
places_of [] = 0
places_of (op ∷ ops) = places op + places_of ops

-- these bytes laid over others, where the place is not past their end
abbrev pub laid : ℕ → List ℕ → List ℕ → List ℕ
laid at bytes xs = if nat_le at (length xs) then written at bytes xs else xs

-- what a read gives after the call
abbrev pub read_after : Op → List ℕ → List ℕ
read_after (Wrote at bytes done) xs = if done then laid at bytes xs else xs
read_after (CutTo len done) xs = if done then take len xs else xs
read_after (Synced done) xs = xs

-- what a read gives after the calls, the first of them first
abbrev pub content_after : List Op → List ℕ → List ℕ
content_after [] xs = xs
content_after (op ∷ ops) xs = content_after ops (read_after op xs)

-- What a crash after the call may leave, of what it might have left before, where xs was read then:
-- a write or a cut, done or not, may be on the disk in part; a sync that was done leaves what a
-- read gives.
abbrev pub Left : Op → List ℕ → (List ℕ → Type 0) → List ℕ → Type 0
Left (Wrote at bytes done) xs before c = (d : List ℕ) × before d × Torn at (length bytes) d c
Left (CutTo len done) xs before c = (d : List ℕ) × before d × Shorter len d c
Left (Synced true) xs before c = xs ≡ c
Left (Synced false) xs before c = before c

-- what a crash after the calls may leave
abbrev pub LeftAfter : List Op → List ℕ → (List ℕ → Type 0) → List ℕ → Type 0
LeftAfter [] xs before c = before c
LeftAfter (op ∷ ops) xs before c = LeftAfter ops (read_after op xs) (Left op xs before) c

-- what a crash after the calls may leave, where a crash before them leaves just these bytes
abbrev pub IsImage : List Op → List ℕ → List ℕ → Type 0
IsImage ops base c = LeftAfter ops base (λ d. base ≡ d) c
