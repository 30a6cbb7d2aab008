-- What is left of the bytes of a path when a name or an instance at their front has been read.
use Rattle.std.specs.Prelude.{ℕ, Bool, ◌&&◌, ◌==◌, ◌^◌, ◌+◌, ◌-◌, ◌*◌, nat_le, nat_lt, List, []}
use Rattle.std.specs.Prelude.{◌∷◌, length, true, false, if◌then◌else◌, Option, Some, None}
use Rattle.std.specs.Prelude.{option_and_then}
use Rattle.std.specs.List.{slice_split}
use Rattle.std.specs.Char.{is_ascii_digit, is_ascii_alphabetic}
use Rattle.fm_name.specs.Class.{is_piece_byte}
use Rattle.fm_name.specs.Path.{are_parts}

-- the first byte may stand in a piece
abbrev pub starts_piece : List ℕ → Bool
starts_piece [] = false
starts_piece (b ∷ bs) = is_piece_byte b

-- What is left after the rest of a name and its `=`, where `whole` bytes were left after the first
-- byte of the name, and a piece of it has begun or not.
abbrev pub name_rest : ℕ → Bool → List ℕ → Option (List ℕ)
name_rest whole begun [] = None
name_rest whole begun (b ∷ bs) =
    if is_piece_byte b then name_rest whole true bs
    else if begun
    then (if b == 61 then (if nat_le (whole - length bs) 32 then Some bs else None)
    else if b == 45 then name_rest whole false bs else None)
    else None

-- What is left after the rest of an instance, of which there are digits already or not, and these
-- mean the number.
abbrev pub instance_rest : Bool → ℕ → List ℕ → Option (List ℕ)
instance_rest begun number [] = if begun then Some [] else None
instance_rest begun number (b ∷ bs) =
    if is_ascii_digit b
    then (if begun && number == 0 then None
    else if nat_lt (number * 10 + (b - 48)) (2 ^ 32)
    then instance_rest true (number * 10 + (b - 48)) bs else None)
    else if begun then Some (b ∷ bs) else None

-- what is left after a part
abbrev pub part_rest : List ℕ → Option (List ℕ)
part_rest [] = None
part_rest (b ∷ bs) =
    if is_ascii_alphabetic b
    then option_and_then (instance_rest false 0) (name_rest (length bs) true bs) else None

-- whether nothing more stands there, or a slash and parts for which there is room
abbrev pub goes_on : ℕ → List ℕ → Bool
goes_on room [] = true
goes_on room (b ∷ bs) = b == 47 && are_parts room (slice_split (λ x. x == 47) bs)
