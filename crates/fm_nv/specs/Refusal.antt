-- Which pairs a list refuses, and by which fault.
use Rattle.std.specs.Prelude.{ℕ, Bool, true, not, ◌&&◌, ◌||◌, if◌then◌else◌, nat_lt, nat_le}
use Rattle.std.specs.Prelude.{is_none, List, length, Option, Some, None}
use Rattle.std.specs.List.{list_all}
use Rattle.fm_nv.specs.Data.{Pairs, Data, boolean, unsigned, signed, text, nested, unsigneds, texts}
use Rattle.fm_nv.specs.Data.{lists, lists_count, count, depth, has, add}
use Rattle.fm_nv.specs.declared.fault.NvFault.{NvFault}
use Rattle.fm_nv.specs.declared.fault.NvFault.TheVariants.{BadName, Twice, TooDeep, TooMany}
use Rattle.fm_nv.specs.declared.fault.NvFault.TheVariants.{NoMemory}

-- no text of the value has over 65,536 bytes, and the value is no array of over 65,535 items; a
-- list in it keeps its own limits
abbrev pub is_within : Data → Bool
is_within (boolean b) = true
is_within (unsigned n) = true
is_within (signed z) = true
is_within (text t) = nat_le (length t) 65536
is_within (nested ps) = true
is_within (unsigneds ns) = nat_le (length ns) 65535
is_within (texts ts) = nat_le (length ts) 65535 && list_all (λ t. nat_le (length t) 65536) ts
is_within (lists ls) = nat_le (lists_count ls) 65535

-- the first fault of a pair that is to stand at the end of a list
unfoldable pub refusal : List ℕ → Data → Pairs → Option NvFault
refusal name d found =
    if not (nat_lt 0 (length name) && nat_le (length name) 255) then Some BadName
    else (if has name found then Some Twice
    else (if nat_lt 8 (depth (add name d found)) then Some TooDeep
    else (if nat_le 65535 (count found) || not (is_within d) then Some TooMany
    else None)))

-- the list with the pair, where nothing refuses it
abbrev pub pushed : List ℕ → Data → Pairs → Option Pairs
pushed name d found = if is_none (refusal name d found) then Some (add name d found) else None

-- only want of memory
abbrev pub IsWant : NvFault → Type 0
IsWant BadName = ⊥
IsWant Twice = ⊥
IsWant TooDeep = ⊥
IsWant TooMany = ⊥
IsWant NoMemory = Unit {0}
