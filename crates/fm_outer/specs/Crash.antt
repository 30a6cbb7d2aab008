-- What a crash may leave. Between two syncs each written range, and the part past the length at the
-- last sync, may hold any bytes; an image is no longer than the greatest length since then and no
-- shorter than the least; all other bytes stay. That is a chain of steps from what was synced, one
-- for each writing call.
use Rattle.std.specs.Prelude.{◌≡◌, ◌⊎◌, ℕ, ◌+◌, ◌≤◌, max, min, List, length, take, drop, Some}
use Rattle.std.specs.Option.{option_map}
use Rattle.std.specs.declared.option.Option.{Option}
use Rattle.fm_outer.specs.Bytes.{written}

-- from old to new by a write of n bytes at a place, done, in part or not at all: any bytes in the
-- range and past the old end, the same elsewhere
pub record Torn (at n : ℕ) (old new : List ℕ) : Type 0 where
  pub before : take at new ≡ take at old
  pub after : drop (at + n) new ≡ drop (at + n) old
  pub no_shorter : length old ≤ length new
  pub no_longer : length new ≤ max (length old) (at + n)

-- from old to new by a cut to n bytes, done, in part or not at all
pub record Shorter (n : ℕ) (old new : List ℕ) : Type 0 where
  pub front : take (length new) old ≡ new
  pub no_shorter : min n (length old) ≤ length new

-- each new image is an old image after such a step
abbrev pub StepsFrom : (List ℕ → List ℕ → Type 0) → (List ℕ → Type 0) → (List ℕ → Type 0) → Type 0
StepsFrom step old new = (c : List ℕ) → new c → (d : List ℕ) × old d × step d c

-- there is no new image
abbrev pub NoMore : (List ℕ → Type 0) → (List ℕ → Type 0) → Type 0
NoMore old new = (c : List ℕ) → new c → old c

-- a crash leaves what a read gives
abbrev pub OnlySeen : Option (List ℕ) → (List ℕ → Type 0) → Type 0
OnlySeen seen images = (c : List ℕ) → images c → seen ≡ Some c

-- Time goes on: a crash since t might have left what it might have left before, or what it may
-- leave now.
pub record Elapses (before now : ℕ) (past since : ℕ → List ℕ → Type 0) (images : List ℕ → Type 0)
    : Type 0 where
  pub later : before ≤ now
  pub nothing_else : (t : ℕ) (c : List ℕ) → t ≤ before → since t c → past t c ⊎ images c
  pub keeps : (t : ℕ) (c : List ℕ) → t ≤ before → past t c → since t c

-- the image is what was seen, torn by a write of n bytes at the place
abbrev pub TornFrom : Option (List ℕ) → ℕ → ℕ → List ℕ → Type 0
TornFrom seen at n c = (d : List ℕ) × (seen ≡ Some d) × Torn at n d c

-- the image is what was seen with the bytes behind the gate torn, or with the body there and the
-- gate torn
abbrev pub AddedFrom : Option (List ℕ) → ℕ → List ℕ → List ℕ → Type 0
AddedFrom seen end body c =
    TornFrom seen (end + 1) (length body) c
    ⊎ TornFrom (option_map (written (end + 1) body) seen) end 1 c
