-- What holds at each turn of reading a disk through.
use Rattle.std.proofs.Common.{◌≡◌, ℕ, ◌<◌, List, Some}
use Rattle.fm_outer.specs.Moments.{OnlyRead}
use Rattle.fm_outer.specs.declared.disk.Disk.{Ghosts}
use Rattle.fm_journal.specs.Look.{IsReached, IsBounded}
use Rattle.fm_journal.specs.Pieces.{PieceOf, IsPiece}

-- the disk was only read, and so many records stand before the place
pub record Walks {D : Type 0} (g : Ghosts D) (old new : D) (piece : PieceOf)
    (first size at count : ℕ) : Type 0 where
  pub still : OnlyRead g old new
  pub count_kept : g.failures new ≡ g.failures old
  pub read : IsPiece (g.seen old) piece
  pub reached : (bytes : List ℕ) → g.seen old ≡ Some bytes → IsReached bytes first at count
  pub inside : at < size
  pub bounded : IsBounded first count at
