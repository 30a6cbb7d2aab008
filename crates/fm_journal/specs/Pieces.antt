-- The piece of a disk that was read last.
use Rattle.std.specs.Prelude.{◌≡◌, ℕ, List, length, take, Some}
use Rattle.std.specs.declared.option.Option.{Option}
use Rattle.fm_outer.specs.Bytes.{range}

-- the place of its first byte, and its bytes
pub record PieceOf : Type 0 where
  pub start : ℕ
  pub held : List ℕ

-- the first so many of these bytes
abbrev pub piece_of : ℕ → ℕ → List ℕ → PieceOf
piece_of start filled bytes = record { start = start; held = take filled bytes }

-- the bytes stand on the disk from the place on, where it tells them
abbrev pub IsPiece : Option (List ℕ) → PieceOf → Type 0
IsPiece seen piece = (bytes : List ℕ) → seen ≡ Some bytes
    → range piece.start (length piece.held) bytes ≡ piece.held
